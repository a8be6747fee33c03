-- The ends of the lines of some bytes: as many as there are lines, and the lines are cut out at them. Assumes nothing.
use Prim.Native.Nat.{ℕ, zero, suc, ◌+◌, ◌-◌, ◌≤◌, ◌<◌}
use native.Mathlib.Omega.{arith}
use native.Mathlib.Nat.{le_refl, le_of_suc-le-suc}
use mathlib.Core.Bool.{Bool, true, false, false≢true}
use mathlib.Core.List.{List, [], ◌∷◌, ◌++◌, append-nil}
use mathlib.Core.Path.{◌≡◌, refl, sym, ap, ◌∙◌}
use lib.ListN.{length, get_or, take, drop}
use lib.Dec.{eqb, ltb, leb-suc-suc}
use lib.Seq.{append_snoc}
use borrow.Author.Tests.{le-ltb, lt-ltb}
use Rattle.meaning.specs.Line.{lines, on_first}
use Rattle.meaning.specs.Due.{newlines}
use Rattle.meaning.specs.OnePass.{lines_at}
use Rattle.meaning.proofs.Lines.{lines-nil, lines-lf, lines-on}
use Rattle.meaning.proofs.OnePass.{At, at-cons, take_more}

-- an end in front, where a line ends
abbrev pub closing : (lf : Bool) (i : ℕ) → List ℕ → List ℕ
closing true i es = i ∷ es
closing false i es = es

-- The ends of the lines of xs, which starts at place i; `fresh`: at the front of a line, and not inside one.
unfoldable pub ends_at : (i : ℕ) → List ℕ → (fresh : Bool) → List ℕ
ends_at i [] true = []
ends_at i [] false = i ∷ []
ends_at i (x ∷ xs) fresh = closing (eqb x 10) i (ends_at (suc i) xs (eqb x 10))

-- bytes of a line before some lines that go on with it, unless a line begins here
abbrev add_front : (fresh : Bool) → List ℕ → List (List ℕ) → List (List ℕ)
add_front true q ls = ls
add_front false q [] = q ∷ []
add_front false q (l ∷ ls) = (q ++ l) ∷ ls

add-on : (fresh : Bool) (q : List ℕ) (x : ℕ) (ls : List (List ℕ)) → (fresh ≡ true → q ≡ []) → add_front false (q ++ (x ∷ [])) ls ≡ add_front fresh q (on_first x ls)
add-on true q x [] e = rw (e refl)
add-on true q x (l ∷ ls) e = rw (e refl)
add-on false q x [] e = refl
add-on false q x (l ∷ ls) e = ap (λ (k : List ℕ). k ∷ ls) (append_snoc q x l)

add-lf : (fresh : Bool) (q : List ℕ) (ls : List (List ℕ)) → (fresh ≡ true → q ≡ []) → q ∷ ls ≡ add_front fresh q ([] ∷ ls)
add-lf true q ls e = rw (e refl)
add-lf false q ls e = ap (λ (k : List ℕ). k ∷ ls) (sym (append-nil q))

module _ (X : List ℕ) where
  -- a line that begins here has no bytes yet
  none_yet : (fresh : Bool) (a i : ℕ) → (fresh ≡ true → a ≡ i) → fresh ≡ true → take (i - a) (drop a X) ≡ []
  none_yet fresh a i h f = let e : a ≡ i = h f in let z : i - a ≡ 0 = omega arith in rw z

  lines-ends : (xs : List ℕ) (fresh : Bool) (a i : ℕ) (R : List ℕ) → drop i X ≡ xs ++ R → a ≤ i → (fresh ≡ true → a ≡ i)
      → lines_at X a (ends_at i xs fresh) ≡ add_front fresh (take (i - a) (drop a X)) (lines xs)
  unfolding lines_at ends_at
  lines-ends [] true a i R e h f = rw lines-nil
  lines-ends [] false a i R e h f = rw lines-nil
  lines-ends (x ∷ xs) fresh a i R e h f =
      go (eqb x 10) refl
      (lines-ends xs true (suc i) (suc i) R u.next (le_refl (suc i)) (λ t. refl))
      (lines-ends xs false a (suc i) R u.next (omega arith) (λ t. absurd (false≢true t)))
    where
      u : At X i x (xs ++ R)
      u = at-cons X i x (xs ++ R) e

      q : List ℕ
      q = take (i - a) (drop a X)

      go : (t : Bool) → eqb x 10 ≡ t
          → lines_at X (suc i) (ends_at (suc i) xs true) ≡ lines xs
          → lines_at X a (ends_at (suc i) xs false) ≡ add_front false (take (suc i - a) (drop a X)) (lines xs)
          → lines_at X a (ends_at i (x ∷ xs) fresh) ≡ add_front fresh q (lines (x ∷ xs))
      go true t next on =
          rw (t, ends_at, lines-lf x xs t) (ap (λ (ls : List (List ℕ)). q ∷ ls) next ∙ add-lf fresh q (lines xs) (none_yet fresh a i f))
      go false t next on =
          rw (t, ends_at, lines-on x xs t)
          (on
          ∙ ap (λ (p : List ℕ). add_front false p (lines xs)) (take_more X a i x (xs ++ R) h u)
          ∙ add-on fresh q x (lines xs) (none_yet fresh a i f))

  -- at the front of a line, the lines are cut out at the ends
  pub lines_cut : (xs : List ℕ) (i : ℕ) (R : List ℕ) → drop i X ≡ xs ++ R → lines_at X i (ends_at i xs true) ≡ lines xs
  lines_cut xs i R e = lines-ends xs true i i R e (le_refl i) (λ t. refl)

pub length-lines_at : (X : List ℕ) (a : ℕ) (es : List ℕ) → length (lines_at X a es) ≡ length es
unfolding lines_at
length-lines_at X a [] = refl
length-lines_at X a (e ∷ es) = ap suc (length-lines_at X (suc e) es)

-- no end stands before the bytes
pub ends_above : (xs : List ℕ) (fresh : Bool) (i k : ℕ) → k < length (ends_at i xs fresh) → i ≤ get_or (ends_at i xs fresh) k 0
unfolding ends_at
ends_above [] true i k h = absurd (omega arith)
ends_above [] false i zero h = le_refl i
ends_above [] false i (suc k) h = absurd (omega arith)
ends_above (x ∷ xs) fresh i k h = go (eqb x 10) refl k h (λ j. ends_above xs true (suc i) j) (λ j. ends_above xs false (suc i) j)
  where
    go : (t : Bool) → eqb x 10 ≡ t → (k : ℕ) → k < length (ends_at i (x ∷ xs) fresh)
        → ((j : ℕ) → j < length (ends_at (suc i) xs true) → suc i ≤ get_or (ends_at (suc i) xs true) j 0)
        → ((j : ℕ) → j < length (ends_at (suc i) xs false) → suc i ≤ get_or (ends_at (suc i) xs false) j 0)
        → i ≤ get_or (ends_at i (x ∷ xs) fresh) k 0
    go true t zero h next on = rw (t, ends_at) (le_refl i)
    go true t (suc k) h next on = rw (t, ends_at) (let u = next k (le_of_suc-le-suc (rw (t, ends_at) at h)) in omega arith)
    go false t k h next on = rw (t, ends_at) (let u = on k (rw (t, ends_at) at h) in omega arith)

-- more than k `\n` among the first n bytes: end k stands there
pub newlines-ends : (xs : List ℕ) (fresh : Bool) (i n k : ℕ) → n ≤ length xs → k < length (ends_at i xs fresh)
    → ltb k (newlines (take n xs)) ≡ ltb (get_or (ends_at i xs fresh) k 0) (i + n)
unfolding newlines ends_at
newlines-ends xs fresh i zero k h g = le-ltb k 0 (omega arith) ∙ sym (le-ltb _ (i + 0) (let u = ends_above xs fresh i k g in omega arith))
newlines-ends [] fresh i (suc n) k h g = absurd (omega arith)
newlines-ends (x ∷ xs) fresh i (suc n) k h g =
    go (eqb x 10) refl k g (λ j. newlines-ends xs true (suc i) n j (omega arith)) (λ j. newlines-ends xs false (suc i) n j (omega arith))
  where
    z : suc i + n ≡ i + suc n
    z = omega arith

    go : (t : Bool) → eqb x 10 ≡ t → (k : ℕ) → k < length (ends_at i (x ∷ xs) fresh)
        → ((j : ℕ) → j < length (ends_at (suc i) xs true) → ltb j (newlines (take n xs)) ≡ ltb (get_or (ends_at (suc i) xs true) j 0) (suc i + n))
        → ((j : ℕ) → j < length (ends_at (suc i) xs false) → ltb j (newlines (take n xs)) ≡ ltb (get_or (ends_at (suc i) xs false) j 0) (suc i + n))
        → ltb k (newlines (take (suc n) (x ∷ xs))) ≡ ltb (get_or (ends_at i (x ∷ xs) fresh) k 0) (i + suc n)
    go true t zero h next on = rw (t, ends_at) (lt-ltb 0 (suc (newlines (take n xs))) (omega arith) ∙ sym (lt-ltb i (i + suc n) (omega arith)))
    go true t (suc k) h next on =
        rw (t, ends_at)
        (leb-suc-suc (suc k) (newlines (take n xs))
        ∙ next k (le_of_suc-le-suc (rw (t, ends_at) at h))
        ∙ ap (λ (m : ℕ). ltb (get_or (ends_at (suc i) xs true) k 0) m) z)
    go false t k h next on =
        rw (t, ends_at) (on k (rw (t, ends_at) at h) ∙ ap (λ (m : ℕ). ltb (get_or (ends_at (suc i) xs false) k 0) m) z)
