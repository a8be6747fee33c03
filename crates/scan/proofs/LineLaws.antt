-- Laws of lines in bytes: what is trimmed, what a turn of the search for a line's end does, and what its answer is. Assumes nothing.
use Prim.Native.Nat.{ℕ, zero, suc, ◌+◌, ◌-◌, ◌≤◌, ◌<◌, min}
use native.Mathlib.Numerals.{add-one}
use native.Mathlib.Decide.{dec_le}
use native.Mathlib.Omega.{arith}
use mathlib.Core.Bool.{Bool, true, false, false≢true}
use mathlib.Core.List.{List, [], ◌∷◌, ◌++◌}
use mathlib.Core.Path.{◌≡◌, refl, sym, ap, ◌∙◌}
use lib.ListN.{length, take, drop, get_or, drop_of_length-le, length-drop}
use lib.Seq.{drop-cons, get_or-drop, length-take-le}
use lib.Dec.{eqb}
use borrow.Author.Tests.{eq-eqb, ne_eqb, lt-ltb, le-ltb, eqb-true, eqb-false}
use Rattle.std.proofs.lemmas.List.{get_or-take, get_or_default}
use Rattle.std.proofs.lemmas.List.Folds.{list_any_at, Any-from_list_any}
use Rattle.std.specs.List.{Any, list_any}
use Rattle.meaning.specs.Line.{line, trim_cr}
use Rattle.scan.specs.Scan.{line_end}

-- an empty line stays
pub trim-empty : (l : List ℕ) → length l ≡ 0 → trim_cr l ≡ l
unfolding trim_cr
trim-empty [] e = refl
trim-empty (x ∷ l) e = absurd (omega arith)

-- a last `\r` goes
trim-last : (before : List ℕ) → trim_cr (before ++ 13 ∷ []) ≡ before
unfolding trim_cr
trim-last [] = refl
trim-last (x ∷ []) = refl
trim-last (x ∷ y ∷ r) = ap (λ (l : List ℕ). x ∷ l) (trim-last (y ∷ r))

pub trim-back : (l before : List ℕ) (x : ℕ) → l ≡ before ++ x ∷ [] → x ≡ 13 → trim_cr l ≡ before
trim-back l before x is e = rw (is, e) (trim-last before)

-- any other last byte stays
trim-other : (before : List ℕ) (x : ℕ) → (x ≡ 13 → ⊥) → trim_cr (before ++ x ∷ []) ≡ before ++ x ∷ []
unfolding trim_cr
trim-other [] x h = rw (ne_eqb x 13 h)
trim-other (y ∷ []) x h = ap (λ (l : List ℕ). y ∷ l) (trim-other [] x h)
trim-other (y ∷ z ∷ r) x h = ap (λ (l : List ℕ). y ∷ l) (trim-other (z ∷ r) x h)

pub trim-same : (l before : List ℕ) (x : ℕ) → l ≡ before ++ x ∷ [] → (x ≡ 13 → ⊥) → trim_cr l ≡ l
trim-same l before x is h = rw is (trim-other before x h)

pub ruleset trims = (trim-empty, trim-back, trim-same)

-- the last byte, and the first two of several
pub one : (s : List ℕ) (i : ℕ) → i + 1 ≡ length s → drop i s ≡ get_or s i 0 ∷ []
one s i h = drop-cons s i 0 (omega arith) ∙ ap (λ (l : List ℕ). get_or s i 0 ∷ l) (drop_of_length-le s {i = suc i} (omega arith))

pub two : (s : List ℕ) (i : ℕ) → i + 1 < length s → drop i s ≡ get_or s i 0 ∷ (get_or s (i + 1) 0 ∷ drop (suc (i + 1)) s)
two s i h = drop-cons s i 0 (omega arith) ∙ ap (λ (l : List ℕ). get_or s i 0 ∷ l) (rw (← add-one i) (drop-cons s (i + 1) 0 h))

abbrev is_newline : ℕ → Bool
is_newline x = eqb x 10

module _ (s : List ℕ) where
  -- behind the bytes the end is their length
  pub line-end-past : (i : ℕ) → length s ≤ i → line_end s i ≡ length s
  unfolding line_end
  line-end-past i h = rw (le-ltb i (length s) h)

  -- inside them it is behind the line
  line-end-in : (i : ℕ) → i ≤ length s → line_end s i ≡ i + length (line (drop i s))
  unfolding line_end line
  line-end-in i h = go (dec_le (length s) i)
    where
      go : Dec (length s ≤ i) → line_end s i ≡ i + length (line (drop i s))
      go (yes u) = line-end-past i u ∙ rw (drop_of_length-le s {i = i} u) (omega arith)
      go (no u) = rw (lt-ltb i (length s) (omega arith))

  -- a `\n` is the end
  pub line-end-found : (i : ℕ) → i < length s → get_or s i 0 ≡ 10 → line_end s i ≡ i
  unfolding line
  line-end-found i h e =
      line-end-in i (omega arith) ∙ rw (drop-cons s i 0 h, eq-eqb (get_or s i 0) 10 e) (omega arith)

  -- any other byte is passed
  pub line-end-next : (i : ℕ) → i < length s → (get_or s i 0 ≡ 10 → ⊥) → line_end s i ≡ line_end s (i + 1)
  unfolding line
  line-end-next i h e =
      let here : length (line (drop i s)) ≡ suc (length (line (drop (i + 1) s))) =
      rw (add-one, drop-cons s i 0 h, ne_eqb (get_or s i 0) 10 e) in
      omega (arith, line-end-in i (omega arith), line-end-in (i + 1) (omega arith))

  -- so are several of them
  pub line-end-passed :
      (k i j : ℕ) →
      j ≡ i + k →
      j ≤ length s →
      ((h : ℕ) → i ≤ h → h < j → get_or s h 0 ≡ 10 → ⊥) →
      line_end s i ≡ line_end s j
  line-end-passed zero i j e h none = ap (line_end s) (omega arith)
  line-end-passed (suc k) i j e h none =
      line-end-next i (omega arith) (none i (omega arith) (omega arith))
      ∙ line-end-passed k (i + 1) j (omega arith) h (λ n u v. none n (omega arith) v)

  -- what holds behind the bytes and at a `\n`, and at any other place if it holds at the next, holds everywhere
  pub along :
      (P : ℕ → Type 0) →
      ((i : ℕ) → length s ≤ i → P i) →
      ((i : ℕ) → i < length s → get_or s i 0 ≡ 10 → P i) →
      ((i : ℕ) → i < length s → (get_or s i 0 ≡ 10 → ⊥) → P (i + 1) → P i) →
      (i : ℕ) →
      P i
  along P past found next i = within (length s) i (omega arith)
    where
      within : (k i : ℕ) → length s ≤ k + i → P i
      within zero i h = past i (omega arith)
      within (suc k) i h = go (dec_le (length s) i) (eqb (get_or s i 0) 10) refl (within k (i + 1))
        where
          go : Dec (length s ≤ i) → (t : Bool) → eqb (get_or s i 0) 10 ≡ t → (length s ≤ k + (i + 1) → P (i + 1)) → P i
          go (yes u) t e ih = past i u
          go (no u) true e ih = found i (omega arith) (eqb-true (get_or s i 0) 10 e)
          go (no u) false e ih = next i (omega arith) (eqb-false (get_or s i 0) 10 e) (ih (omega arith))

  pub line-end-within : (i : ℕ) → line_end s i ≤ length s
  line-end-within =
      along (λ i. line_end s i ≤ length s)
      (λ i h. omega (arith, line-end-past i h))
      (λ i h e. omega (arith, line-end-found i h e))
      (λ i h e ih. omega (arith, line-end-next i h e))

  pub line-end-from : (i : ℕ) → i ≤ length s → i ≤ line_end s i
  line-end-from =
      along (λ i. i ≤ length s → i ≤ line_end s i)
      (λ i h k. omega (arith, line-end-past i h))
      (λ i h e k. omega (arith, line-end-found i h e))
      (λ i h e ih k. omega (arith, line-end-next i h e, ih (omega arith)))

  -- the end is at a place that it is not behind, if that place is within the bytes
  pub line-end-here : (i : ℕ) → line_end s i < i + 1 → line_end s i ≡ min i (length s)
  line-end-here i h = go (dec_le (length s) i)
    where
      go : Dec (length s ≤ i) → line_end s i ≡ min i (length s)
      go (yes u) = omega (arith, line-end-past i u)
      go (no u) = omega (arith, line-end-from i (omega arith))

  -- where the end is not that of the bytes, a `\n` stands
  pub line-end-at : (i : ℕ) → line_end s i < length s → get_or s (line_end s i) 0 ≡ 10
  line-end-at =
      along (λ i. line_end s i < length s → get_or s (line_end s i) 0 ≡ 10)
      (λ i h k. absurd (omega (arith, line-end-past i h)))
      (λ i h e k. rw (line-end-found i h e) e)
      (λ i h e ih k. rw (line-end-next i h e) (ih (omega (arith, line-end-next i h e))))

  -- no `\n` stands before it
  line-end-before : (k i : ℕ) → i ≤ k → get_or s k 0 ≡ 10 → line_end s i ≤ k
  line-end-before k i h e =
      along (λ i. i ≤ k → line_end s i ≤ k)
      (λ i h k. omega (arith, line-end-past i h))
      (λ i h e k. omega (arith, line-end-found i h e))
      (λ i h x ih j. omega (arith, line-end-next i h x, ih (later i x j)))
      i h
    where
      later : (i : ℕ) → (get_or s i 0 ≡ 10 → ⊥) → i ≤ k → i + 1 ≤ k
      later i x j = go (dec_le k i)
        where
          go : Dec (k ≤ i) → i + 1 ≤ k
          go (yes u) = let same : k ≡ i = omega arith in absurd (x (rw (← same) e))
          go (no u) = omega arith

  -- a block of the bytes from a place on, and whether a `\n` is among them
  module _ (i n : ℕ) (block : List ℕ) (is : block ≡ take n (drop i s)) (h : i + n ≤ length s) where
    size : length block ≡ n
    size = ap length is ∙ length-take-le n (drop i s) (omega (arith, length-drop i s))

    at_block : (k : ℕ) → k < n → get_or block k 0 ≡ get_or s (i + k) 0
    at_block k u = ap (λ (l : List ℕ). get_or l k 0) is ∙ get_or-take n (drop i s) k 0 u ∙ get_or-drop i s k 0

    pub line-end-behind : list_any is_newline block ≡ false → line_end s i ≡ line_end s (i + n)
    line-end-behind none =
        line-end-passed n i (i + n) refl h
        (λ k u v e.
        let j = k - i in
        let same : i + j ≡ k = omega arith in
        let newline : get_or block j 0 ≡ 10 = at_block j (omega arith) ∙ ap (λ (x : ℕ). get_or s x 0) same ∙ e in
        false≢true (sym none ∙ list_any_at is_newline block j 0 (omega (arith, size)) (eq-eqb (get_or block j 0) 10 newline)))

    pub line-end-inside : list_any is_newline block ≡ true → line_end s i < i + n
    line-end-inside some = go (Any-from_list_any is_newline block some)
      where
        go : Any (λ x. is_newline x ≡ true) block → line_end s i < i + n
        go (k, x, u, at, e) =
            let inside : k < n = omega (arith, size) in
            let newline : get_or s (i + k) 0 ≡ 10 = sym (at_block k inside) ∙ get_or_default block k 0 x u ∙ at ∙ eqb-true x 10 e in
            omega (arith, line-end-before (i + k) i (omega arith) newline)
