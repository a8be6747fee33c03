-- The answers that single reads are due (demand 3's right side), under a largest reachable capacity C and a table of T slots: the
-- records in order up to the first that window or table cannot hold, which is refused in the words of 01's table; without one, the end.
-- The last answer repeats. Assumes nothing.
use Rattle.std.specs.Prelude.{ℕ, suc, ◌+◌, ◌-◌, Bool, cond, not, ◌&&◌, ◌||◌, List, [], ◌∷◌, length, take, eqb, ltb, leb}
use Rattle.std.proofs.Math.Option.{Option, none, some}
use Rattle.meaning.specs.Line.{lines}
use Rattle.meaning.specs.Input.{Rec, Meaning, records, refused}
use Rattle.meaning.specs.Parts.{size}

-- what a read says, asks apart: a record, the end, or a refusal by its number with its values
pub data Said (R : Type 0) : Type 0 where
  gives : R → Said R
  ends : Said R
  refuses : (number : ℕ) (values : List ℕ) → Said R

-- how many `\n`
unfoldable pub newlines : List ℕ → ℕ
newlines [] = 0
newlines (x ∷ xs) = let n = newlines xs in cond (eqb x 10) (suc n) n

-- 4: lines (head counted) above the table's slots T, and: L + 1 ≤ C, or over T `\n` among the record's first C - 1 bytes
unfoldable pub table_due : (C T : ℕ) → Rec → Bool
unfolding lines newlines
table_due C T r =
    ltb T (length (lines r.bytes)) && (leb (size r + 1) C || ltb T (newlines (take (C - 1) r.bytes)))

-- 3: L + 1 above the largest reachable capacity C, and 4 is not due
unfoldable pub window_due : (C T : ℕ) → Rec → Bool
unfolding table_due
window_due C T r = ltb C (size r + 1) && not (table_due C T r)

-- the refusal that a record meets, if any
unfoldable pub judged : (C T : ℕ) → Rec → Option ℕ
unfolding table_due window_due
judged C T r = cond (table_due C T r) (some 4) (cond (window_due C T r) (some 3) none)

-- the values of refusals 3 and 4: the record's line and byte
abbrev pub place : Rec → List ℕ
place r = r.line ∷ r.byte ∷ []

-- the records in order, to the first that is refused, or to the end
unfoldable pub due_by : {R : Type 0} → (judge : R → Option ℕ) (values : R → List ℕ) → List R → List (Said R)
due_by judge values [] = ends ∷ []
due_by judge values (r ∷ rs) =
    elim (judge r) [ none ↦ gives r ∷ due_by judge values rs | some number ↦ refuses number (values r) ∷ [] ]

unfoldable pub due : (C T : ℕ) → Meaning → List (Said Rec)
unfolding due_by judged
due C T (records rs) = due_by (judged C T) place rs
due C T (refused l x) = refuses 2 (l ∷ x ∷ []) ∷ ends ∷ []
