-- The lead of an input, met at the place where a lead over a window stops: what one pass finds from a place of the window on is what it finds from
-- where the blank lines end (01, "The window and its refills": "lines that are empty or exactly `\r` are skipped"). Assumes nothing.
use Prim.Native.Nat.{ℕ, suc, ◌+◌}
use native.Mathlib.Omega.{arith}
use mathlib.Core.Bool.{Bool, true, false, cond, false≢true, true≢false}
use mathlib.Core.List.{List, [], ◌∷◌, ◌++◌}
use mathlib.Core.Path.{◌≡◌, refl, sym, ap, ◌∙◌}
use lib.ListN.{drop}
use lib.Dec.{eqb}
use borrow.Author.Tests.{eqb-true}
use Rattle.meaning.specs.OnePass.{marks, Marked, good, bad, lead_marks}
use Rattle.meaning.proofs.OnePass.{at-cons}
use Rattle.scan.specs.declared.line.Blank.{Blank}
use Rattle.scan.specs.Search.{blank, lead_at}
use Rattle.scan.proofs.LeadLaws.{clause-one, clause-two}

-- at the first line that is not blank: its first byte is a `>`, or is refused
abbrev pub first_line : (l p : ℕ) → List ℕ → Marked
first_line l p [] = good []
first_line l p (x ∷ xs) = cond (eqb x 62) (good (marks l p (suc p) [] xs false)) (bad l x)

-- the clauses of one pass over a lead
module _ (l p x : ℕ) (xs : List ℕ) where
  pass-lf : eqb x 10 ≡ true → lead_marks l p (x ∷ xs) false ≡ lead_marks (suc l) (suc p) xs false
  unfolding lead_marks
  pass-lf t = rw (t, lead_marks)

  pass-cr : eqb x 10 ≡ false → eqb x 13 ≡ true → lead_marks l p (x ∷ xs) false ≡ lead_marks l (suc p) xs true
  unfolding lead_marks
  pass-cr t u = rw (t, lead_marks, u)

  pass-first : eqb x 10 ≡ false → eqb x 13 ≡ false → lead_marks l p (x ∷ xs) false ≡ first_line l p (x ∷ xs)
  unfolding lead_marks
  pass-first t u = go (eqb x 62) refl
    where
      go : (v : Bool) → eqb x 62 ≡ v → lead_marks l p (x ∷ xs) false ≡ first_line l p (x ∷ xs)
      go true v = rw (t, lead_marks, u, v)
      go false v = rw (t, lead_marks, u, v)

  -- behind a `\r`
  behind-lf : eqb x 10 ≡ true → lead_marks l p (x ∷ xs) true ≡ lead_marks (suc l) (suc p) xs false
  unfolding lead_marks
  behind-lf t = rw (t, lead_marks)

  behind-other : eqb x 10 ≡ false → lead_marks l p (x ∷ xs) true ≡ bad l 13
  unfolding lead_marks
  behind-other t = rw (t, lead_marks)

pass-end : (l p : ℕ) (cr : Bool) → lead_marks l p [] cr ≡ good []
unfolding lead_marks
pass-end l p true = refl
pass-end l p false = refl

-- a `\r` that no `\n` follows is the first byte of its line
lone-cr : (l p x : ℕ) (xs : List ℕ) → eqb x 13 ≡ true → first_line l p (x ∷ xs) ≡ bad l 13
lone-cr l p x xs t = rw (eqb-true x 13 t)

-- A window that holds the input from place a on, in which line L is the one at its lead's start; R is what follows the window. What one pass
-- found where a lead stopped at b.
pub record Meets (X : List ℕ) (a L : ℕ) (R : List ℕ) (M : Marked) (b : Blank) : Type 0 where
  pub goes-on : b.undecided ≡ true → M ≡ lead_marks (L + b.lines) (a + b.at) (drop (a + b.at) X) false
  pub is_over : b.undecided ≡ true → R ≡ [] → M ≡ good []
  pub is_first : b.undecided ≡ false → M ≡ first_line (L + b.lines) (a + b.at) (drop (a + b.at) X)

-- a lead that stops at once, over the bytes xs from place p on
module _ (X : List ℕ) (a L : ℕ) (R xs : List ℕ) (i n l p : ℕ) (h : p ≡ a + i) (k : l ≡ L + n) (e : drop p X ≡ xs) where
  same_place : (f : ℕ → ℕ → List ℕ → Marked) → f l p xs ≡ f (L + n) (a + i) (drop (a + i) X)
  same_place f = (λ j. f (k j) (h j) (sym e j)) ∙ ap (λ (q : ℕ). f (L + n) (a + i) (drop q X)) h

  stops-open : (R ≡ [] → lead_marks l p xs false ≡ good []) → Meets X a L R (lead_marks l p xs false) (blank i n true)
  stops-open over =
      record {
        goes-on = λ t. same_place (λ l p xs. lead_marks l p xs false);
        is_over = λ t. over;
        is_first = λ t. absurd (true≢false t);
      }

  stops_first : lead_marks l p xs false ≡ first_line l p xs → Meets X a L R (lead_marks l p xs false) (blank i n false)
  stops_first is =
      record {
        goes-on = λ t. absurd (false≢true t);
        is_over = λ t. absurd (false≢true t);
        is_first = λ t. is ∙ same_place first_line;
      }

-- What one pass finds from place i of the window on, behind n blank lines, is what it finds where the lead from there on stops.
module _ (X : List ℕ) (a L : ℕ) (R : List ℕ) where
  abbrev Here : (ys : List ℕ) (i n l p : ℕ) → Type 0
  Here ys i n l p = Meets X a L R (lead_marks l p (ys ++ R) false) (lead_at ys i n)

  pub lead-meets : (ys : List ℕ) (i n l p : ℕ) → p ≡ a + i → l ≡ L + n → drop p X ≡ ys ++ R → Here ys i n l p
  unfolding lead_at
  lead-meets [] i n l p h k e = stops-open X a L R R i n l p h k e (λ none. ap (λ (xs : List ℕ). lead_marks l p xs false) none ∙ pass-end l p false)
  lead-meets (x ∷ []) i n l p h k e = go (eqb x 10) refl (eqb x 13) refl
    where
      go : (t : Bool) → eqb x 10 ≡ t → (u : Bool) → eqb x 13 ≡ u → Here (x ∷ []) i n l p
      go true t u v =
          rw (clause-one, t, pass-lf l p x R t)
          (stops-open X a L R R (suc i) (suc n) (suc l) (suc p) (omega arith) (omega arith) (at-cons X p x R e).next
          (λ none. ap (λ (xs : List ℕ). lead_marks (suc l) (suc p) xs false) none ∙ pass-end (suc l) (suc p) false))
      go false t true v =
          rw (clause-one, t, v)
          (stops-open X a L R (x ∷ R) i n l p h k e
          (λ none. pass-cr l p x R t v ∙ ap (λ (xs : List ℕ). lead_marks l (suc p) xs true) none ∙ pass-end l (suc p) true))
      go false t false v = rw (clause-one, t, v) (stops_first X a L R (x ∷ R) i n l p h k e (pass-first l p x R t v))
  lead-meets (x ∷ y ∷ r) i n l p h k e =
      go (eqb x 10) refl (eqb x 13) refl (eqb y 10) refl
      (lead-meets (y ∷ r) (suc i) (suc n) (suc l) (suc p) (omega arith) (omega arith) next)
      (lead-meets r (suc (suc i)) (suc n) (suc l) (suc (suc p)) (omega arith) (omega arith) (at-cons X (suc p) y (r ++ R) next).next)
    where
      next : drop (suc p) X ≡ y ∷ (r ++ R)
      next = (at-cons X p x (y ∷ (r ++ R)) e).next

      go :
          (t : Bool) →
          eqb x 10 ≡ t →
          (u : Bool) →
          eqb x 13 ≡ u →
          (o : Bool) →
          eqb y 10 ≡ o →
          Here (y ∷ r) (suc i) (suc n) (suc l) (suc p) →
          Here r (suc (suc i)) (suc n) (suc l) (suc (suc p)) →
          Here (x ∷ y ∷ r) i n l p
      go true t u v o q lf crlf = rw (clause-two, t, pass-lf l p x (y ∷ (r ++ R)) t) lf
      go false t true v true q lf crlf =
          rw (clause-two, t, v, q, pass-cr l p x (y ∷ (r ++ R)) t v, behind-lf l (suc p) y (r ++ R) q) crlf
      go false t true v false q lf crlf =
          rw (clause-two, t, v, q)
          (stops_first X a L R (x ∷ y ∷ (r ++ R)) i n l p h k e
          (pass-cr l p x (y ∷ (r ++ R)) t v ∙ behind-other l (suc p) y (r ++ R) q ∙ sym (lone-cr l p x (y ∷ (r ++ R)) v)))
      go false t false v o q lf crlf =
          rw (clause-two, t, v) (stops_first X a L R (x ∷ y ∷ (r ++ R)) i n l p h k e (pass-first l p x (y ∷ (r ++ R)) t v))
