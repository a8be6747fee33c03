-- Where the parts of a record stand in the bytes: the ends of its lines rise, and each line, id and description is found at its extent.
-- Assumes nothing.
use Prim.Native.Nat.{ℕ, zero, suc, ◌+◌, ◌-◌, ◌≤◌, ◌<◌}
use native.Mathlib.Omega.{arith}
use mathlib.Core.Bool.{Bool, true, false}
use mathlib.Core.List.{List, [], ◌∷◌}
use mathlib.Core.Path.{◌≡◌, refl, sym, ap, ◌∙◌}
use lib.ListN.{length, get_or, take, drop}
use lib.Seq.{take-nil, take-take, take-length, drop-drop}
use lib.Dec.{eqb}
use Rattle.meaning.specs.Line.{trim_cr}
use Rattle.meaning.specs.Parts.{id_of}
use Rattle.meaning.specs.OnePass.{lines_at}
use Rattle.meaning.proofs.Ends.{ends_at}
use Rattle.view.specs.Rising.{Rising}
use Rattle.view.specs.View.{line_of, last_of, between}
use Rattle.view.proofs.Heads.{id-within, line-within}
use Rattle.view.proofs.Cases.{between_in}

-- the ends of lines rise
pub ends-rise : (xs : List ℕ) (fresh : Bool) (lo i hi : ℕ) → lo < i → i + length xs ≤ hi → Rising lo (ends_at i xs fresh) hi
unfolding ends_at
ends-rise [] true lo i hi h k = tt
ends-rise [] false lo i hi h k = (h, (omega arith, tt))
ends-rise (x ∷ xs) fresh lo i hi h k =
    go (eqb x 10) refl
    (ends-rise xs true i (suc i) hi (omega arith) (omega arith))
    (ends-rise xs false lo (suc i) hi (omega arith) (omega arith))
  where
    go : (t : Bool) → eqb x 10 ≡ t → Rising i (ends_at (suc i) xs true) hi → Rising lo (ends_at (suc i) xs false) hi
        → Rising lo (ends_at i (x ∷ xs) fresh) hi
    go true t next on = rw (t, ends_at) (h, (omega arith, next))
    go false t next on = rw (t, ends_at) on

-- a line that has begun has an end
pub ends_some : (xs : List ℕ) (i : ℕ) → 0 < length (ends_at i xs false)
unfolding ends_at
ends_some [] i = omega arith
ends_some (x ∷ xs) i = go (eqb x 10) refl (ends_some xs (suc i))
  where
    go : (t : Bool) → eqb x 10 ≡ t → 0 < length (ends_at (suc i) xs false) → 0 < length (ends_at i (x ∷ xs) false)
    go true t on = rw (t, ends_at) (omega arith)
    go false t on = rw (t, ends_at) on

-- two ends one behind the other
pub rises-pair : (lo : ℕ) (ends : List ℕ) (hi i : ℕ) → Rising lo ends hi → suc i < length ends
    → (lo < get_or ends i 0) × ((get_or ends i 0 < get_or ends (suc i) 0) × (get_or ends (suc i) 0 ≤ hi))
rises-pair lo [] hi i r k = absurd (omega arith)
rises-pair lo (e ∷ []) hi i r k = absurd (omega arith)
rises-pair lo (e ∷ f ∷ es) hi zero r k = (r.0, (r.1.1.0, r.1.1.1.0))
rises-pair lo (e ∷ f ∷ es) hi (suc i) r k =
    let q = rises-pair e (f ∷ es) hi i r.1.1 (omega arith) in
    (omega (arith, r.0, q.0), q.1)

-- the first and the last
pub rises-last : (lo e : ℕ) (es : List ℕ) (hi : ℕ) → Rising lo (e ∷ es) hi → 0 < length es → (e < last_of e es) × (last_of e es ≤ hi)
rises-last lo e [] hi r k = absurd (omega arith)
rises-last lo e (f ∷ []) hi r k = (r.1.1.0, r.1.1.1.0)
rises-last lo e (f ∷ g ∷ es) hi r k =
    let q = rises-last e f (g ∷ es) hi r.1.1 (omega arith) in
    (omega (arith, r.1.1.0, q.0), q.1)

-- the line between two
pub lines-index : (X : List ℕ) (a : ℕ) (ends : List ℕ) (i : ℕ) → suc i < length ends
    → get_or (lines_at X a ends) (suc i) [] ≡ take (get_or ends (suc i) 0 - suc (get_or ends i 0)) (drop (suc (get_or ends i 0)) X)
unfolding lines_at
lines-index X a [] i k = absurd (omega arith)
lines-index X a (e ∷ []) i k = absurd (omega arith)
lines-index X a (e ∷ f ∷ es) zero k = refl
lines-index X a (e ∷ f ∷ es) (suc i) k = lines-index X (suc e) (f ∷ es) i (omega arith)

-- a front stays a front behind what is dropped
pub drop-take : (k n : ℕ) (l : List ℕ) → k ≤ n → drop k (take n l) ≡ take (n - k) (drop k l)
drop-take zero n l h = let z : n - 0 ≡ n = omega arith in rw z
drop-take (suc k) zero l h = absurd (omega arith)
drop-take (suc k) (suc n) [] h = sym (take-nil (suc n - suc k))
drop-take (suc k) (suc n) (x ∷ l) h =
    let z : suc n - suc k ≡ n - k = omega arith in
    rw z (drop-take k n l (omega arith))

-- trimming leaves a front, and so does the id
trim-front : (l : List ℕ) → take (length (trim_cr l)) l ≡ trim_cr l
unfolding trim_cr
trim-front [] = refl
trim-front (x ∷ []) = go (eqb x 13) refl
  where
    go : (t : Bool) → eqb x 13 ≡ t → take (length (trim_cr (x ∷ []))) (x ∷ []) ≡ trim_cr (x ∷ [])
    go true t = rw t
    go false t = rw t
trim-front (x ∷ y ∷ r) = ap (λ (l : List ℕ). x ∷ l) (trim-front (y ∷ r))

id-front : (h : List ℕ) → take (length (id_of h)) h ≡ id_of h
unfolding id_of
id-front [] = refl
id-front (x ∷ h) = go (eqb x 32) refl (id-front h)
  where
    go : (t : Bool) → eqb x 32 ≡ t → take (length (id_of h)) h ≡ id_of h → take (length (id_of (x ∷ h))) (x ∷ h) ≡ id_of (x ∷ h)
    go true t ih = rw (t, id_of)
    go false t ih = rw (t, id_of) (ap (λ (l : List ℕ). x ∷ l) ih)

module _ (X : List ℕ) (a e : ℕ) (h : a ≤ e) (k : e ≤ length X) where
  -- a front of the line is shown at its place
  front-shown : (n : ℕ) → n ≤ length (line_of X a e) → between X a (a + n) ≡ take n (line_of X a e)
  front-shown n m =
      let l = take (e - a) (drop a X) in
      let z : a + n - a ≡ n = omega arith in
      let w = line-within X a e k in
      between_in X a (a + n) (omega arith) (omega arith)
      ∙ ap (λ (q : ℕ). take q (drop a X)) z
      ∙ sym (take-take n (e - a) (drop a X) (omega arith))
      ∙ sym (take-take n (length (line_of X a e)) l m)
      ∙ ap (take n) (trim-front l)

  pub line-shown : between X a (a + length (line_of X a e)) ≡ line_of X a e
  line-shown = front-shown (length (line_of X a e)) (omega arith) ∙ take-length (line_of X a e)

  pub id-shown : between X a (a + length (id_of (line_of X a e))) ≡ id_of (line_of X a e)
  id-shown = front-shown (length (id_of (line_of X a e))) (id-within (line_of X a e)) ∙ id-front (line_of X a e)

  -- and so is what stands behind n bytes of it
  pub rest-shown : (n : ℕ) → n < length (line_of X a e)
      → between X (a + n + 1) (a + length (line_of X a e)) ≡ drop (suc n) (line_of X a e)
  rest-shown n m =
      let t = length (line_of X a e) in
      let w = line-within X a e k in
      let z : a + t - (a + n + 1) ≡ t - suc n = omega arith in
      let p : a + n + 1 ≡ a + suc n = omega arith in
      let whole : take t (drop a X) ≡ line_of X a e =
      sym (take-take t (e - a) (drop a X) w) ∙ trim-front (take (e - a) (drop a X)) in
      between_in X (a + n + 1) (a + t) (omega arith) (omega arith)
      ∙ (λ i. take (z i) (drop (p i) X))
      ∙ ap (take (t - suc n)) (sym (drop-drop (suc n) a X))
      ∙ sym (drop-take (suc n) t (drop a X) m)
      ∙ ap (drop (suc n)) whole
