-- Laws of heads and lines: a turn of the search for a space, the description behind that space, and that trimming makes nothing longer.
-- Assumes nothing.
use Prim.Native.Nat.{ℕ, suc, ◌+◌, ◌-◌, ◌≤◌, ◌<◌}
use native.Mathlib.Omega.{arith}
use mathlib.Core.Bool.{Bool, true, false, cond}
use mathlib.Core.List.{List, [], ◌∷◌}
use mathlib.Core.Option.{none, some}
use mathlib.Core.Path.{◌≡◌, refl, sym, subst}
use lib.ListN.{length, take, drop, length-drop}
use lib.Seq.{length-take-le}
use lib.Dec.{eqb, ltb}
use borrow.Author.Tests.{ltb-true, ltb-false}
use Rattle.std.specs.Prelude.{Option, Some, None, unwrap_or}
use Rattle.std.specs.List.{position, position_or_len}
use Rattle.std.proofs.lemmas.List.Recursion.{is_position_or_len}
use Rattle.meaning.specs.Line.{trim_cr}
use Rattle.meaning.specs.Parts.{ends_id, id_of, desc_of}
use Rattle.view.specs.View.{line_of}

-- a head's id is as long as the place of its first space is far
id-place : (h : List ℕ) → length (id_of h) ≡ position_or_len ends_id h
unfolding id_of
id-place = is_position_or_len (λ h. length (id_of h)) ends_id refl (λ x h. go x h (eqb x 32) refl)
  where
    go : (x : ℕ) (h : List ℕ) (t : Bool) → eqb x 32 ≡ t → length (id_of (x ∷ h)) ≡ cond (ends_id x) 0 (1 + length (id_of h))
    go x h true t = rw (t, id_of)
    go x h false t = rw (t, id_of) (omega arith)

pub id-within : (h : List ℕ) → length (id_of h) ≤ length h
unfolding id_of
id-within [] = omega arith
id-within (x ∷ h) = go (eqb x 32) refl (id-within h)
  where
    go : (t : Bool) → eqb x 32 ≡ t → length (id_of h) ≤ length h → length (id_of (x ∷ h)) ≤ length (x ∷ h)
    go true t ih = rw (t, id_of) (omega arith)
    go false t ih = rw (t, id_of) (omega arith)

-- what the place of the first space says: the id ends there, and without one it is the whole head
abbrev pub SpaceIs : (h : List ℕ) → Option ℕ → Type 0
SpaceIs h (Some n) = (n ≡ length (id_of h)) × (n < length h)
SpaceIs h None = length (id_of h) ≡ length h

pub space-is : (h : List ℕ) (r : Option ℕ) → r ≡ position ends_id h → SpaceIs h r
space-is h r e = subst (SpaceIs h) (sym e) (go (ltb (position_or_len ends_id h) (length h)) refl)
  where
    go : (t : Bool) → ltb (position_or_len ends_id h) (length h) ≡ t → SpaceIs h (position ends_id h)
    go true t = rw t (sym (id-place h), ltb-true (position_or_len ends_id h) (length h) t)
    go false t = rw t (omega (arith, id-place h, ltb-false (position_or_len ends_id h) (length h) t, id-within h))

pub id-length : (h : List ℕ) (r : Option ℕ) → r ≡ position ends_id h → unwrap_or r (length h) ≡ length (id_of h)
id-length h r e = go r (space-is h r e)
  where
    go : (r : Option ℕ) → SpaceIs h r → unwrap_or r (length h) ≡ length (id_of h)
    go (Some n) s = s.0
    go None s = sym s

-- an id as long as the head: no space, no description
pub desc-none : (h : List ℕ) → length (id_of h) ≡ length h → desc_of h ≡ none
unfolding id_of desc_of
desc-none [] e = refl
desc-none (x ∷ h) e = go (eqb x 32) refl (desc-none h) e
  where
    go : (t : Bool) → eqb x 32 ≡ t → (length (id_of h) ≡ length h → desc_of h ≡ none) → length (id_of (x ∷ h)) ≡ length (x ∷ h)
        → desc_of (x ∷ h) ≡ none
    go true t ih e = absurd (let u : ◌≡◌ {A = ℕ} 0 (suc (length h)) = rw (t, id_of) at e in omega arith)
    go false t ih e = rw (t, desc_of) (ih (let u : suc (length (id_of h)) ≡ suc (length h) = rw (t, id_of) at e in omega arith))

-- a shorter one: the description is what stands behind the space
pub desc-some : (h : List ℕ) → length (id_of h) < length h → desc_of h ≡ some (drop (suc (length (id_of h))) h)
unfolding id_of desc_of
desc-some [] k = absurd (omega arith)
desc-some (x ∷ h) k = go (eqb x 32) refl (desc-some h) k
  where
    go : (t : Bool) → eqb x 32 ≡ t → (length (id_of h) < length h → desc_of h ≡ some (drop (suc (length (id_of h))) h))
        → length (id_of (x ∷ h)) < length (x ∷ h) → desc_of (x ∷ h) ≡ some (drop (suc (length (id_of (x ∷ h)))) (x ∷ h))
    go true t ih k = rw (t, id_of)
    go false t ih k = rw (t, id_of) (ih (let u : suc (length (id_of h)) < suc (length h) = rw (t, id_of) at k in omega arith))

-- trimming makes nothing longer
pub trim-within : (l : List ℕ) → length (trim_cr l) ≤ length l
unfolding trim_cr
trim-within [] = omega arith
trim-within (x ∷ []) = go (eqb x 13) refl
  where
    go : (t : Bool) → eqb x 13 ≡ t → length (trim_cr (x ∷ [])) ≤ 1
    go true t = rw t (omega arith)
    go false t = rw t (omega arith)
trim-within (x ∷ y ∷ r) = let u = trim-within (y ∷ r) in omega (arith, u)

-- a line is at most as long as its place in the bytes
pub line-within : (w : List ℕ) (a e : ℕ) → e ≤ length w → length (line_of w a e) ≤ e - a
line-within w a e h =
    let k = trim-within (take (e - a) (drop a w)) in
    omega (arith, k, length-take-le (e - a) (drop a w) (omega (arith, length-drop a w)))
