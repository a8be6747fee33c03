-- What the refusals of a read leave (01's table): 2 comes once, then the end; 3 leaves the record at offset 0, 4 as many ends as there are slots;
-- 3, 4 and 5 last: each read repeats them and changes nothing. When each comes is demand 3. Assumes nothing.
use Rattle.std.specs.Prelude.{ℕ, List, ◌≡◌, length}
use Rattle.growth.specs.declared.Policy.{Policy}
use Rattle.reader.specs.Read.{Said, ends, refuses, does}
use Rattle.runs.specs.Run.{State, Made, reading, after_read, Event, Run}

-- every read says this and changes nothing
abbrev pub Lasts : Said → State → Type 0
Lasts a s = reading s ≡ does a s.reader s.window s.table

pub record Leaves (number : ℕ) (values : List ℕ) (s : State) : Type 0 where
  pub start : number ≡ 2 → Lasts ends s
  pub window : number ≡ 3 → s.reader.mark.start.0 ≡ 0
  pub table : number ≡ 4 → s.reader.mark.count ≡ length s.table
  pub lasting : (number ≡ 2 → ⊥) → Lasts (refuses number values) s

-- in every run of a made reader; the end lasts too
pub record Refusals : Type 0 where
  pub leaves :
      (X : List ℕ) (capacity : ℕ) (policy : Policy) (start : State) → Made capacity policy start →
      (h : List Event) (s : State) → Run X start h s →
      (number : ℕ) (values : List ℕ) → (reading s).said ≡ refuses number values → Leaves number values (after_read s)
  pub end_lasts :
      (X : List ℕ) (capacity : ℕ) (policy : Policy) (start : State) → Made capacity policy start →
      (h : List Event) (s : State) → Run X start h s →
      (reading s).said ≡ ends → Lasts ends (after_read s)
