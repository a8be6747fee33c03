-- The answers due, in the one-pass form: a right mark meets the refusal that its record meets, so the answers are the same, mark by mark.
-- Assumes nothing.
use Prim.Native.Nat.{ℕ, zero, suc, ◌+◌, ◌-◌, ◌≤◌, ◌<◌}
use native.Mathlib.Omega.{arith}
use mathlib.Core.Bool.{Bool, true, false, cond, ◌&&◌, ◌||◌, not}
use mathlib.Core.List.{List, [], ◌∷◌, map}
use mathlib.Core.Option.{Option, none, some}
use mathlib.Core.Path.{◌≡◌, refl, sym, ap, ◌∙◌}
use lib.ListN.{length, get_or, take}
use lib.Dec.{ltb, leb, leb-suc-suc}
use borrow.Author.Tests.{ltb-true, leb-false, le-ltb}
use Rattle.meaning.specs.Input.{Rec}
use Rattle.meaning.specs.Parts.{size}
use Rattle.meaning.specs.Due.{Said, gives, ends, refuses, newlines, table_due, window_due, judged, place, due_by, due}
use Rattle.meaning.specs.OnePass.{Mark, Marked, good, bad, table_mark, judged_mark, place_mark, due_marks}
use Rattle.meaning.proofs.OnePass.{cut_out, seen}
use Rattle.meaning.proofs.Ends.{ends_at, ends_above, newlines-ends}
use Rattle.meaning.proofs.Marks.{All, AllOf, Right, right-size, right-count}

-- what is said of the records behind marks
abbrev pub said_of : List ℕ → Said Mark → Said Rec
said_of X (gives m) = gives (cut_out X m)
said_of X ends = ends
said_of X (refuses number values) = refuses number values

-- the clauses of `due_by`
pub due-gives : {R : Type 0} (judge : R → Option ℕ) (values : R → List ℕ) (r : R) (rs : List R) → judge r ≡ none
    → due_by judge values (r ∷ rs) ≡ gives r ∷ due_by judge values rs
unfolding due_by
due-gives judge values r rs e = rw (e, due_by)

pub due-refuses : {R : Type 0} (judge : R → Option ℕ) (values : R → List ℕ) (r : R) (rs : List R) (n : ℕ) → judge r ≡ some n
    → due_by judge values (r ∷ rs) ≡ refuses n (values r) ∷ []
unfolding due_by
due-refuses judge values r rs n e = rw (e, due_by)

-- a place below b + (C - 1), in the form of refusal 4's window
near : (e b C : ℕ) → b ≤ e → ltb e (b + (C - 1)) ≡ ltb (suc e) (b + C)
near e b zero h = le-ltb e (b + (0 - 1)) (omega arith) ∙ sym (le-ltb (suc e) (b + 0) (omega arith))
near e b (suc c) h =
    let i : b + (suc c - 1) ≡ b + c = omega arith in
    let j : b + suc c ≡ suc (b + c) = omega arith in
    rw (i, j) (sym (leb-suc-suc (suc e) (b + c)))

module _ (X : List ℕ) (C T : ℕ) where
  -- refusal 4 where the record has more lines than slots and does not fit the window
  crowded : (m : Mark) → Right X m → T < length m.ends → C ≤ m.len
      → ltb T (newlines (take (C - 1) (cut_out X m).bytes)) ≡ ltb (suc (get_or m.ends T 0)) (m.byte + C)
  crowded m r t c =
      let s : size (cut_out X m) ≡ m.len = right-size X m r in
      let k : T < length (ends_at m.byte (cut_out X m).bytes true) = rw r.ends_are at t in
      newlines-ends (cut_out X m).bytes true m.byte (C - 1) T (omega arith) k
      ∙ near (get_or (ends_at m.byte (cut_out X m).bytes true) T 0) m.byte C (ends_above (cut_out X m).bytes true m.byte T k)
      ∙ ap (λ (es : List ℕ). ltb (suc (get_or es T 0)) (m.byte + C)) (sym r.ends_are)

  table-mark : (m : Mark) → Right X m → table_due C T (cut_out X m) ≡ table_mark C T m
  unfolding table_due table_mark
  table-mark m r = rw (right-count X m r, right-size X m r) (go (ltb T (length m.ends)) refl (leb (m.len + 1) C) refl)
    where
      go : (t : Bool) → ltb T (length m.ends) ≡ t → (u : Bool) → leb (m.len + 1) C ≡ u
          → (t && (u || ltb T (newlines (take (C - 1) (cut_out X m).bytes)))) ≡ (t && (u || ltb (suc (get_or m.ends T 0)) (m.byte + C)))
      go false e u f = refl
      go true e true f = refl
      go true e false f = crowded m r (ltb-true T (length m.ends) e) (let g : C < m.len + 1 = leb-false (m.len + 1) C f in omega arith)

  judged-mark : (m : Mark) → Right X m → judged C T (cut_out X m) ≡ judged_mark C T m
  unfolding judged judged_mark window_due
  judged-mark m r = rw (table-mark m r, right-size X m r) (go (table_mark C T m) (ltb C (m.len + 1)))
    where
      go : (t u : Bool) → cond {A = Option ℕ} t (some 4) (cond (u && not t) (some 3) none) ≡ cond t (some 4) (cond u (some 3) none)
      go true u = refl
      go false true = refl
      go false false = refl

  by-marks : (ms : List Mark) → All (Right X) ms → due_by (judged C T) place (map (cut_out X) ms) ≡ map (said_of X) (due_by (judged_mark C T) place_mark ms)
  unfolding due_by
  by-marks [] rs = refl
  by-marks (m ∷ ms) rs = go (judged_mark C T m) refl (by-marks ms rs.1)
    where
      go : (o : Option ℕ) → judged_mark C T m ≡ o
          → due_by (judged C T) place (map (cut_out X) ms) ≡ map (said_of X) (due_by (judged_mark C T) place_mark ms)
          → due_by (judged C T) place (map (cut_out X) (m ∷ ms)) ≡ map (said_of X) (due_by (judged_mark C T) place_mark (m ∷ ms))
      go none e ih =
          due-gives (judged C T) place (cut_out X m) (map (cut_out X) ms) (judged-mark m rs.0 ∙ e)
          ∙ ap (λ (rest : List (Said Rec)). gives (cut_out X m) ∷ rest) ih
          ∙ sym (ap (map (said_of X)) (due-gives (judged_mark C T) place_mark m ms e))
      go (some n) e ih =
          due-refuses (judged C T) place (cut_out X m) (map (cut_out X) ms) n (judged-mark m rs.0 ∙ e)
          ∙ sym (ap (map (said_of X)) (due-refuses (judged_mark C T) place_mark m ms n e))

  -- the answers due to a reading of X, by its marks
  pub due-marks : (M : Marked) → AllOf (Right X) M → due C T (seen X M) ≡ map (said_of X) (due_marks C T M)
  unfolding due due_marks
  due-marks (good ms) rs = by-marks ms rs
  due-marks (bad l x) rs = refl
