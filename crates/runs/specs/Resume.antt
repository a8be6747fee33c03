-- Resuming after a power failure (demand 3: "After a seek to a reported position the same records follow from there"): a position that any reader
-- of the input reported, given to a new reader with any other setup, brings the same records from there on, up to what its own window and table
-- hold. Assumes nothing.
use Rattle.std.specs.Prelude.{ℕ, List, [], ◌∷◌, ◌++◌, ◌≡◌, length, drop}
use Rattle.std.proofs.Math.Option.{none}
use Rattle.growth.specs.declared.Policy.{Policy}
use Rattle.growth.specs.Chain.{largest}
use Rattle.meaning.specs.Input.{Rec, Meaning, records, refused, records_from, meaning}
use Rattle.meaning.specs.Due.{due}
use Rattle.reader.specs.Calls.{at, place_of, seek_of}
use Rattle.runs.specs.Run.{State, Made, reading, after_read, Event, Run}
use Rattle.runs.specs.Demand.{Origin, front, place, origin, answers, nth, Hears}

-- the records that a reading has before it: those of the whole input, or those from a place sought on
abbrev pub recs : Meaning → List Rec
recs (records rs) = rs
recs (refused l x) = []

abbrev pub records_of : (X : List ℕ) → Origin → List Rec
records_of X front = recs (meaning X)
records_of X (place l b) = records_from l b (drop b X)

-- A position that a reading reported: one of its records stands there, and behind are the same records as in that reading.
pub record Reported (X : List ℕ) (o : Origin) (l b : ℕ) : Type 0 where
  pub before : List Rec
  pub it : Rec
  pub behind : List Rec
  pub same : records_of X o ≡ before ++ it ∷ behind
  pub line_is : it.line ≡ l
  pub byte_is : it.byte ≡ b

-- The statement: every reader that setup makes accepts such a position; and a run of it that began there hears those very records, judged by its
-- own largest capacity and its own slots.
abbrev pub Resumes : Type 0
Resumes =
    (X : List ℕ) (capacity : ℕ) (policy : Policy) (start : State) → Made capacity policy start →
    (h : List Event) (s : State) → Run X start h s →
    (l b : ℕ) → place_of s.reader ≡ at l b →
    (p : Reported X (origin h) l b)
    × ((capacity₂ : ℕ) (policy₂ : Policy) (start₂ : State) → Made capacity₂ policy₂ start₂ →
    ((seek_of l b start₂.reader).refusal ≡ none)
    × ((h₂ : List Event) (s₂ : State) → Run X start₂ h₂ s₂ → origin h₂ ≡ place l b →
    let C₂ = largest policy₂ (length start₂.window) capacity₂ in
    let T₂ = length start₂.table in
    Hears (reading s₂).said (nth (answers h₂) (due C₂ T₂ (records (p.it ∷ p.behind)))) (after_read s₂)))
