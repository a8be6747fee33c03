-- Demand 3: any input, any accepted setup, any cutting into refills: single reads give the whole input's records in order, with the same
-- head, lines, line number and byte offset, up to the first record that window or table cannot hold. That one is refused, none before it;
-- without one the end follows. A bad first line is refused instead. After a seek the records from there on follow. Assumes nothing.
use Rattle.std.specs.Prelude.{ℕ, zero, suc, ◌+◌, ◌≤◌, ◌<◌, cond, ◌||◌, List, [], ◌∷◌, ◌≡◌, length, get_or, drop, eqb}
use Rattle.std.proofs.Math.Option.{some}
use Rattle.set.specs.Read as set
use Rattle.growth.specs.declared.Policy.{Policy}
use Rattle.growth.specs.Chain.{largest}
use Rattle.meaning.specs.Input.{Rec, begins, records, records_from, meaning}
use Rattle.meaning.specs.Parts.{head_of, seq_lines, seq_of, id_of, desc_of}
use Rattle.meaning.specs.Due as meant
use Rattle.meaning.specs.Due.{due}
use Rattle.reader.specs.Read.{Said, asks, gives, ends, refuses}
use Rattle.reader.specs.Calls.{at, place_of}
use Rattle.view.specs.View.{head_in, id_in, desc_in, line_in, line_count}
use Rattle.view.specs.Full.{left, full_in, picked}
use Rattle.view.specs.Full as full
use Rattle.view.specs.Shows.{Shows}
use Rattle.view.specs.Current.{of_current, refused, are}
use Rattle.view.specs.Current as current
use Rattle.runs.specs.Run.{State, Made, reading, after_read, Event, read, collected, brought, sought, Run}
use Rattle.runs.specs.Run as run

-- where the reading began: at the front of the input, or at the place of the last seek
pub data Origin : Type 0 where
  front : Origin
  place : (line byte : ℕ) → Origin

unfoldable pub origin : List Event → Origin
origin [] = front
origin (read a ∷ h) = origin h
origin (collected short a ∷ h) = origin h
origin (brought n ∷ h) = origin h
origin (sought line byte ∷ h) = place line byte
origin (run.refused number ∷ h) = origin h

-- how many answers a set call stands for: each of its records is one; an ask is none, nor is a refusal of the state or of the set itself
abbrev pub counts : set.Said → ℕ → ℕ
counts (set.asks p m o) n = n
counts (set.holds k filled) n = k + n
counts set.ends n = suc n
counts (set.refuses number values) n = cond (eqb number 11 || eqb number 12) n (suc n)

-- how many answers were heard since then; an ask is none
unfoldable pub answers : List Event → ℕ
answers [] = 0
answers (read (asks p m o) ∷ h) = answers h
answers (read (gives l b) ∷ h) = suc (answers h)
answers (read ends ∷ h) = suc (answers h)
answers (read (refuses n vs) ∷ h) = suc (answers h)
answers (collected short a ∷ h) = counts a (answers h)
answers (brought n ∷ h) = answers h
answers (sought line byte ∷ h) = 0
answers (run.refused number ∷ h) = answers h

-- The answers due: those of the whole input; or, where a `>` stands at the place sought, those of the input from there on, with line and byte
-- counted on from those given; where none stands, or the input has ended, refusal 5.
unfoldable pub due_from : (X : List ℕ) (C T : ℕ) → Origin → List (meant.Said Rec)
due_from X C T front = due C T (meaning X)
due_from X C T (place l b) =
    cond (begins (drop b X)) (due C T (records (records_from l b (drop b X)))) (meant.refuses 5 [] ∷ [])

-- the k-th of them; the last repeats
unfoldable pub nth : ℕ → List (meant.Said Rec) → meant.Said Rec
nth k [] = meant.ends
nth k (a ∷ []) = a
nth zero (a ∷ b ∷ rest) = a
nth (suc k) (a ∷ b ∷ rest) = nth k (b ∷ rest)

-- A record is given: `position` is its line and byte, and the views show its head, id and description, as many lines as it has, each of
-- them by its number, and the joined sequence where the scratch has room for it or one line needs none.
pub record Gives (r : Rec) (s : State) : Type 0 where
  pub position : place_of s.reader ≡ at r.line r.byte
  pub head : Shows s.window (of_current s.reader s.window s.table head_in refused) (some (head_of r))
  pub id : Shows s.window (of_current s.reader s.window s.table id_in refused) (some (id_of (head_of r)))
  pub desc : Shows s.window (of_current s.reader s.window s.table desc_in refused) (desc_of (head_of r))
  pub lines : of_current s.reader s.window s.table (λ bytes start es. are (line_count es)) current.refuses ≡ are (length (seq_lines r))
  pub line :
      (i : ℕ) → i < length (seq_lines r) →
      Shows s.window (of_current s.reader s.window s.table (λ bytes start es. line_in bytes start es i) refused)
      (some (get_or (seq_lines r) i []))
  pub sequence :
      (scratch : List ℕ) → length (seq_of r) ≤ length scratch →
      let f = of_current s.reader s.window s.table (λ bytes start es. full_in bytes start es scratch) (λ n. left (full.refuses n []) scratch) in
      picked s.window f.scratch f.answer ≡ seq_of r

-- what is heard is what is due, and the state then shows it
abbrev pub Hears : Said → meant.Said Rec → State → Type 0
Hears (asks p m o) d s = Unit {0}
Hears (gives l b) (meant.gives r) s = (l ≡ r.line) × ((b ≡ r.byte) × Gives r s)
Hears (gives l b) meant.ends s = ⊥
Hears (gives l b) (meant.refuses n vs) s = ⊥
Hears ends (meant.gives r) s = ⊥
Hears ends meant.ends s = Unit {0}
Hears ends (meant.refuses n vs) s = ⊥
Hears (refuses n vs) (meant.gives r) s = ⊥
Hears (refuses n vs) meant.ends s = ⊥
Hears (refuses n vs) (meant.refuses m us) s = (n ≡ m) × (vs ≡ us)

-- The statement: in every run of a reader that setup made, a read answers an ask, or the answer that is due next.
abbrev pub Demand3 : Type 0
Demand3 =
    (X : List ℕ) (capacity : ℕ) (policy : Policy) (start : State) → Made capacity policy start →
    (h : List Event) (s : State) → Run X start h s →
    let C = largest policy (length start.window) capacity in
    let T = length start.table in
    Hears (reading s).said (nth (answers h) (due_from X C T (origin h))) (after_read s)
