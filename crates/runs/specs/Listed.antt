-- The program's text (01, module 10): what it writes over a run in which it serves each ask. It reads; at an ask it brings bytes of the input and
-- reports them; at a record it writes the row of what the views show; at anything else it writes the last line and stops. Over any such run the
-- text is that of the whole input's meaning. Assumes nothing.
use Rattle.std.specs.Prelude.{ℕ, ◌≤◌, List, ◌++◌, ◌≡◌, length}
use Rattle.std.proofs.Math.Option.{none}
use Rattle.growth.specs.declared.Policy.{Policy}
use Rattle.growth.specs.Chain.{largest}
use Rattle.meaning.specs.Input.{meaning}
use Rattle.meaning.specs.Due.{due}
use Rattle.write.specs.Listing.{listing}
use Rattle.window.specs.Fill.{most}
use Rattle.reader.specs.declared.state.Position.{Position}
use Rattle.reader.specs.Read.{Said, asks, gives, ends, refuses}
use Rattle.reader.specs.Calls.{report_of}
use Rattle.rows.specs.Rows.{row_in, last_text}
use Rattle.runs.specs.Run.{State, state, Made, reading, after_read, Brings}

-- "stops at anything but a record"; asks are served
abbrev pub Stops : Said → Type 0
Stops (asks p m o) = ⊥
Stops (gives l b) = ⊥
Stops ends = Unit {0}
Stops (refuses n vs) = Unit {0}

abbrev pub position : (line byte : ℕ) → Position
position line byte = record { line = line; byte = record { 0 = byte } }

-- the row that `put_record` writes in a state
abbrev pub row_at : (line byte : ℕ) → State → List ℕ
row_at line byte s = row_in s.reader (position line byte) s.window s.table

-- From a state on, the text that is written: nothing at an ask or a report, a row at each record, and the last line, with which it ends.
pub data Lists (X : List ℕ) : State → List ℕ → Type 0 where
  asked : (s : State) (p m o : ℕ) (text : List ℕ) → (reading s).said ≡ asks p m o → Lists X (after_read s) text → Lists X s text
  reported :
      (s : State) (n : ℕ) (w text : List ℕ) →
      (report_of n s.reader).refusal ≡ none →
      Brings X n s w →
      Lists X (state (report_of n s.reader).reader w s.table) text →
      Lists X s text
  listed :
      (s : State) (l b : ℕ) (text : List ℕ) →
      (reading s).said ≡ gives l b →
      Lists X (after_read s) text →
      Lists X s (row_at l b (after_read s) ++ text)
  stopped : (s : State) → Stops (reading s).said → Lists X s (last_text (reading s).said)

-- The statement: any input, any accepted setup, the program's own among them; any cutting into refills.
abbrev pub Listed : Type 0
Listed =
    (X : List ℕ) (capacity : ℕ) (policy : Policy) (start : State) → Made capacity policy start →
    (text : List ℕ) → Lists X start text →
    text ≡ listing (due (largest policy (length start.window) capacity) (length start.table) (meaning X))

-- It is not empty: for every input up to 2^62 bytes there is such a run.
pub record Writes (X : List ℕ) (start : State) : Type 0 where
  pub text : List ℕ
  pub is_listed : Lists X start text

abbrev pub Written : Type 0
Written =
    (X : List ℕ) → length X ≤ most →
    (capacity : ℕ) (policy : Policy) (start : State) → Made capacity policy start → Writes X start
