-- The record that one pass is in, in closed form: it has the bytes up to the first `\n` before a `>`, or to the end (`own`), and behind the ends so
-- far those of their lines. So refusals 4 and 3 of its mark are judged as specs/Standing.antt words them (`judged_at`). Assumes nothing.
use Prim.Native.Nat.{ℕ, suc, ◌+◌, ◌-◌, ◌≤◌, ◌<◌, max}
use native.Mathlib.Omega.{arith}
use mathlib.Core.Bool.{Bool, true, false, cond, ◌&&◌, ◌||◌}
use mathlib.Core.List.{List, [], ◌∷◌, ◌++◌, append_assoc}
use mathlib.Core.Path.{◌≡◌, refl, sym, ap, ◌∙◌}
use lib.ListN.{length, get_or, take, length-append}
use lib.Seq.{get_or-append-add}
use lib.Dec.{eqb, ltb, leb}
use borrow.Author.Tests.{ltb-true, leb-false, lt-ltb}
use Rattle.window.proofs.Laws.{same_test}
use Rattle.meaning.specs.Line.{lines, on_first}
use Rattle.meaning.specs.Due.{newlines}
use Rattle.meaning.specs.OnePass.{Mark, marks, table_mark}
use Rattle.meaning.proofs.Lines.{lines-nil, lines-lf, lines-on}
use Rattle.meaning.proofs.Ends.{closing, ends_at, ends_above, newlines-ends}
use Rattle.runs.specs.Standing.{own}
use Rattle.runs.proofs.SearchMarks.{pass-other, pass-mark, pass-line}

-- the clauses of `own` over two bytes
own_on : (x y : ℕ) (r : List ℕ) → (eqb x 10 && eqb y 62) ≡ false → own (x ∷ y ∷ r) ≡ x ∷ own (y ∷ r)
unfolding own
own_on x y r t = rw (t, own)

own-stop : (x y : ℕ) (r : List ℕ) → (eqb x 10 && eqb y 62) ≡ true → own (x ∷ y ∷ r) ≡ x ∷ []
unfolding own
own-stop x y r t = rw (t, own)

-- where a byte follows, no line has to be begun to be ended
ends-own : (i y : ℕ) (r : List ℕ) → ends_at i (own (y ∷ r)) true ≡ ends_at i (own (y ∷ r)) false
unfolding ends_at own
ends-own i y [] = refl
ends-own i y (z ∷ r) = go (eqb y 10 && eqb z 62)
  where
    go : (t : Bool) → ends_at i (cond t (y ∷ []) (y ∷ own (z ∷ r))) true ≡ ends_at i (cond t (y ∷ []) (y ∷ own (z ∷ r))) false
    go true = refl
    go false = refl

-- the mark of the record that a pass is in
abbrev pub own_mark : (l b p : ℕ) (E xs : List ℕ) → Mark
own_mark l b p E xs = record { line = l; byte = b; len = p + length (own xs) - b; ends = E ++ ends_at p (own xs) false }

pub record Owns (l b p : ℕ) (E xs : List ℕ) : Type 0 where
  pub behind : List Mark
  pub are : marks l b p E xs false ≡ own_mark l b p E xs ∷ behind

-- one byte that is passed, with the end that is recorded there or none
owns-past :
    (l b p x y : ℕ) (E F r : List ℕ) →
    own (x ∷ y ∷ r) ≡ x ∷ own (y ∷ r) →
    E ++ ends_at p (x ∷ own (y ∷ r)) false ≡ F ++ ends_at (suc p) (own (y ∷ r)) false →
    marks l b p E (x ∷ y ∷ r) false ≡ marks l b (suc p) F (y ∷ r) false →
    Owns l b (suc p) F (y ∷ r) →
    Owns l b p E (x ∷ y ∷ r)
owns-past l b p x y E F r same ends pass o =
    let size : suc p + length (own (y ∷ r)) ≡ p + length (own (x ∷ y ∷ r)) = omega (arith, ap length same) in
    record {
      behind = o.behind;
      are =
          pass
          ∙ o.are
          ∙ (λ i.
          record { line = l; byte = b; len = size i - b; ends = (sym ends ∙ ap (λ (ys : List ℕ). E ++ ends_at p ys false) (sym same)) i } ∷ o.behind);
    }

-- no byte, and the last byte
owns_none : (l b p : ℕ) (E : List ℕ) → Owns l b p E []
unfolding own ends_at marks
owns_none l b p E = let z : p + 0 ≡ p = omega arith in record { behind = []; are = rw z }

owns-one : (l b p x : ℕ) (E : List ℕ) → Owns l b p E (x ∷ [])
unfolding own ends_at marks
owns-one l b p x E = let z : p + 1 ≡ suc p = omega arith in record { behind = []; are = rw z (go (eqb x 10)) }
  where
    go : (t : Bool) → marks l b (suc p) E [] t ≡ record { line = l; byte = b; len = suc p - b; ends = E ++ closing t p (ends_at (suc p) [] t) } ∷ []
    go true = refl
    go false = refl

-- a `\n` before a `>`
owns-stop : (l b p x y : ℕ) (E r : List ℕ) → eqb x 10 ≡ true → eqb y 62 ≡ true → Owns l b p E (x ∷ y ∷ r)
unfolding ends_at
owns-stop l b p x y E r t u =
    let z : p + 1 ≡ suc p = omega arith in
    record {
      behind = marks (l + suc (length E)) (suc p) (suc (suc p)) [] r false;
      are = rw (own-stop x y r (rw (t, u)), t, z) (pass-mark l b p E x y r t u);
    }

pub owns : (xs : List ℕ) (l b p : ℕ) (E : List ℕ) → Owns l b p E xs
unfolding ends_at
owns [] l b p E = owns_none l b p E
owns (x ∷ []) l b p E = owns-one l b p x E
owns (x ∷ y ∷ r) l b p E = go (eqb x 10) refl (eqb y 62) refl (λ F. owns (y ∷ r) l b (suc p) F)
  where
    go : (t : Bool) → eqb x 10 ≡ t → (u : Bool) → eqb y 62 ≡ u → ((F : List ℕ) → Owns l b (suc p) F (y ∷ r)) → Owns l b p E (x ∷ y ∷ r)
    go true t true u on = owns-stop l b p x y E r t u
    go true t false u on =
        let F = E ++ (p ∷ []) in
        owns-past l b p x y E F r (own_on x y r (rw (t, u)))
        (rw (t, ends_at) (ap (λ (es : List ℕ). E ++ p ∷ es) (ends-own (suc p) y r) ∙ sym (append_assoc E (p ∷ []) (ends_at (suc p) (own (y ∷ r)) false))))
        (pass-line l b p E x y r t u) (on F)
    go false t u f on = owns-past l b p x y E E r (own_on x y r (rw t)) (rw (t, ends_at)) (pass-other l b p E x (y ∷ r) t) (on E)

-- as many ends as lines; behind ends so far at least one
abbrev counted : (fresh : Bool) (n : ℕ) → ℕ
counted true n = n
counted false n = max 1 n

length-first : (x : ℕ) (ls : List (List ℕ)) → length (on_first x ls) ≡ max 1 (length ls)
length-first x [] = refl
length-first x (l ∷ ls) = omega arith

ends-lines : (ys : List ℕ) (fresh : Bool) (i : ℕ) → length (ends_at i ys fresh) ≡ counted fresh (length (lines ys))
unfolding ends_at
ends-lines [] true i = rw lines-nil
ends-lines [] false i = rw lines-nil
ends-lines (x ∷ ys) fresh i = go (eqb x 10) refl fresh (ends-lines ys true (suc i)) (ends-lines ys false (suc i))
  where
    go :
        (t : Bool) → eqb x 10 ≡ t → (fresh : Bool) →
        length (ends_at (suc i) ys true) ≡ length (lines ys) →
        length (ends_at (suc i) ys false) ≡ max 1 (length (lines ys)) →
        length (ends_at i (x ∷ ys) fresh) ≡ counted fresh (length (lines (x ∷ ys)))
    go true t true next on = rw (t, ends_at, lines-lf x ys t) (ap suc next)
    go true t false next on = rw (t, ends_at, lines-lf x ys t) (omega arith)
    go false t true next on = rw (t, ends_at, lines-on x ys t) (on ∙ sym (length-first x (lines ys)))
    go false t false next on = rw (t, ends_at, lines-on x ys t) (omega (arith, length-first x (lines ys)))

-- two orders that say the same
same-order : (a b c d : ℕ) → (a < b → c < d) → (c < d → a < b) → ltb a b ≡ ltb c d
same-order a b c d f g =
    same_test (ltb a b) (ltb c d) (λ t. lt-ltb c d (f (ltb-true a b t))) (λ t. lt-ltb a b (g (ltb-true c d t)))

-- the length of a record in a window from `base` on
pub own-len : (base start from : ℕ) (xs : List ℕ) → base + from + length (own xs) - (base + start) ≡ from + length (own xs) - start
own-len base start from xs = omega arith

-- refusal 4 in the words of `judged_at`: more lines than slots, and a record that fits the window, or more `\n` than slots among its first C - 1 bytes
abbrev pub table_at : (C T start from : ℕ) (E xs : List ℕ) → Bool
table_at C T start from E xs =
    ltb T (length E + max 1 (length (lines (own xs))))
    && (leb (from + length (own xs) - start + 1) C || ltb T (length E + newlines (take (start + C - 1 - from) (own xs))))

-- A record in a window from `base` on, which starts at `start` and is searched from `from` on, with the ends E so far, no more than the slots.
module _ (C T l base start from : ℕ) (E xs : List ℕ) (few : length E ≤ T) (behind : start ≤ from) where
  abbrev b : ℕ
  b = base + start

  abbrev p : ℕ
  p = base + from

  abbrev fresh : List ℕ
  fresh = ends_at p (own xs) false

  own-count : length (E ++ fresh) ≡ length E + max 1 (length (lines (own xs)))
  own-count = length-append E fresh ∙ ap (λ (n : ℕ). length E + n) (ends-lines (own xs) false p)

  -- where the record does not fit the window, the end that finds no slot stands among the first C - 1 bytes exactly where they are crowded
  own-crowded :
      T < length (E ++ fresh) → C ≤ from + length (own xs) - start →
      ltb (suc (get_or (E ++ fresh) T 0)) (b + C) ≡ ltb T (length E + newlines (take (start + C - 1 - from) (own xs)))
  own-crowded more long =
      let k = T - length E in
      let n = start + C - 1 - from in
      let nl = newlines (take n (own xs)) in
      let e = get_or fresh k 0 in
      let sum : length E + k ≡ T = omega arith in
      let inside : k < length fresh = omega (arith, length-append E fresh) in
      let this : get_or (E ++ fresh) T 0 ≡ e = ap (λ (j : ℕ). get_or (E ++ fresh) j 0) (sym sum) ∙ get_or-append-add E fresh k 0 in
      let above : p ≤ e = ends_above (own xs) false p k inside in
      let near : ltb k nl ≡ ltb e (p + n) = newlines-ends (own xs) false p n k (omega arith) inside in
      ap (λ (j : ℕ). ltb (suc j) (b + C)) this
      ∙ same-order (suc e) (b + C) e (p + n) (λ h. omega arith) (λ h. omega arith)
      ∙ sym near
      ∙ same-order k nl T (length E + nl) (λ h. omega arith) (λ h. omega arith)

  pub own-table : table_mark C T (own_mark l b p E xs) ≡ table_at C T start from E xs
  unfolding table_mark
  own-table =
      rw (own-len base start from xs)
      (go (ltb T (length (E ++ fresh))) refl (leb (from + length (own xs) - start + 1) C) refl
      ∙ ap (λ (n : ℕ). ltb T n && (leb (from + length (own xs) - start + 1) C || ltb T (length E + newlines (take (start + C - 1 - from) (own xs))))) own-count)
    where
      go :
          (t : Bool) → ltb T (length (E ++ fresh)) ≡ t → (u : Bool) → leb (from + length (own xs) - start + 1) C ≡ u →
          (t && (u || ltb (suc (get_or (E ++ fresh) T 0)) (b + C))) ≡ (t && (u || ltb T (length E + newlines (take (start + C - 1 - from) (own xs)))))
      go false t u f = refl
      go true t true f = refl
      go true t false f =
          let long : C < from + length (own xs) - start + 1 = leb-false (from + length (own xs) - start + 1) C f in
          own-crowded (ltb-true T (length (E ++ fresh)) t) (omega arith)
