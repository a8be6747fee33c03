-- Where records stand in an input X: a `>` stands at a record's byte, its line is at least 1 and never exceeds its byte plus one, its bytes
-- are those of X from there on, and the records from its place on are itself and the rest. So a reader that is sent there finds them again.
-- Assumes nothing.
use Prim.Native.Nat.{ℕ, suc, ◌+◌, ◌≤◌, ◌<◌}
use native.Mathlib.Omega.{arith}
use mathlib.Core.Bool.{Bool, true, false, cond, ◌&&◌, false≢true}
use mathlib.Core.List.{List, [], ◌∷◌, ◌++◌}
use mathlib.Core.Path.{◌≡◌, refl, sym, ap, ◌∙◌, subst}
use lib.ListN.{length, get_or, take, drop}
use lib.Dec.{eqb}
use borrow.Author.Tests.{eqb-true}
use Rattle.meaning.specs.Line.{lines, on_first}
use Rattle.meaning.specs.Input.{Rec, Split, records_from, Meaning, records, refused, meaning}
use Rattle.meaning.specs.Parts.{size}
use Rattle.meaning.specs.OnePass.{Marked}
use Rattle.meaning.proofs.Bytes.{cut, put, after, recs-cut}
use Rattle.meaning.proofs.Lines.{lines-nil, lines-lf, lines-on}
use Rattle.meaning.proofs.OnePass.{At, at-cons, seen, marks-records, whole-meaning, Lead, nothing, refusal, start, whole-lead}

after-le : (x l : ℕ) → (l ≤ after x l) × (after x l ≤ suc l)
after-le x l = go (eqb x 10)
  where
    go : (t : Bool) → (l ≤ cond t (suc l) l) × (cond t (suc l) l ≤ suc l)
    go true = omega arith
    go false = omega arith

-- both parts of a test that holds
both_true : (t u : Bool) → (t && u) ≡ true → (t ≡ true) × (u ≡ true)
both_true true u e = (refl, e)
both_true false u e = absurd (false≢true e)

-- loose bytes are the first of those split
loose-front : (xs : List ℕ) (fresh : Bool) (l p : ℕ) → (cut l p xs fresh).loose ≡ take (length (cut l p xs fresh).loose) xs
unfolding cut
loose-front [] fresh l p = refl
loose-front (x ∷ xs) fresh l p = go (fresh && eqb x 62) (loose-front xs (eqb x 10) (after x l) (suc p))
  where
    R : Split
    R = cut (after x l) (suc p) xs (eqb x 10)

    go : (t : Bool) → R.loose ≡ take (length R.loose) xs → (put t l p x R).loose ≡ take (length (put t l p x R).loose) (x ∷ xs)
    go true e = refl
    go false e = ap (λ (q : List ℕ). x ∷ q) e

module _ (X : List ℕ) where
  pub record Stands (r : Rec) (rest : List Rec) : Type 0 where
    pub there : r.byte < length X
    pub mark : get_or X r.byte 0 ≡ 62
    pub line_least : 1 ≤ r.line
    pub line_most : r.line ≤ r.byte + 1
    pub bytes_are : r.bytes ≡ take (size r) (drop r.byte X)
    pub again : records_from r.line r.byte (drop r.byte X) ≡ r ∷ rest

  -- each record of a list stands in X before those behind it
  abbrev pub Stand : List Rec → Type 0
  Stand [] = Unit {0}
  Stand (r ∷ rs) = Stands r rs × Stand rs

  cut-stand : (xs : List ℕ) (fresh : Bool) (l p : ℕ) → drop p X ≡ xs → 1 ≤ l → l ≤ suc p → Stand (cut l p xs fresh).recs
  unfolding cut
  cut-stand [] fresh l p e h k = tt
  cut-stand (x ∷ xs) fresh l p e h k =
      go (fresh && eqb x 62) refl
      (cut-stand xs (eqb x 10) (after x l) (suc p) a.next (omega (arith, (after-le x l).0)) (omega (arith, (after-le x l).1)))
    where
      a : At X p x xs
      a = at-cons X p x xs e

      R : Split
      R = cut (after x l) (suc p) xs (eqb x 10)

      r : Rec
      r = record { line = l; byte = p; bytes = x ∷ R.loose }

      go : (t : Bool) → (fresh && eqb x 62) ≡ t → Stand R.recs → Stand (put t l p x R).recs
      go true t ih = (
        record {
          there = a.there;
          mark = a.is ∙ eqb-true x 62 (both_true fresh (eqb x 62) t).1;
          line_least = h;
          line_most = omega arith;
          bytes_are = ap (λ (q : List ℕ). x ∷ q) (loose-front xs (eqb x 10) (after x l) (suc p)) ∙ sym (ap (take (size r)) e);
          again =
              ap (records_from l p) e
              ∙ recs-cut l p (x ∷ xs)
              ∙ ap (λ (u : Bool). (put u l p x R).recs) (both_true fresh (eqb x 62) t).1;
        },
        ih,
      )
      go false t ih = ih

  abbrev pub StandOf : Meaning → Type 0
  StandOf (records rs) = Stand rs
  StandOf (refused l x) = Unit {0}

  -- from a `>` on, its line and byte being given within the bounds of refusal 5
  pub records-stand : (l b : ℕ) (xs : List ℕ) → drop b X ≡ xs → 1 ≤ l → l ≤ suc b → Stand (records_from l b xs)
  records-stand l b xs e h k = rw (recs-cut l b xs) (cut-stand xs true l b e h k)

  lead-stand : {M : Marked} → Lead X M → StandOf (seen X M)
  lead-stand nothing = tt
  lead-stand (refusal l x) = tt
  lead-stand (start l b xs e h k) = subst Stand (sym (marks-records X l b xs e)) (records-stand l b (62 ∷ xs) e h k)

  pub stand-at : (before : List Rec) (r : Rec) (behind : List Rec) → Stand (before ++ r ∷ behind) → Stands r behind
  stand-at [] r behind s = s.0
  stand-at (x ∷ before) r behind s = stand-at before r behind s.1

  -- every record of X stands in it
  pub stands : (before : List Rec) (r : Rec) (behind : List Rec) → meaning X ≡ records (before ++ r ∷ behind) → Stands r behind
  stands before r behind e = stand-at before r behind (subst StandOf (whole-meaning X ∙ e) (lead-stand (whole-lead X)))

-- no more lines than bytes
on-first-few : (x : ℕ) (ls : List (List ℕ)) (n : ℕ) → length ls ≤ n → length (on_first x ls) ≤ suc n
on-first-few x [] n h = omega arith
on-first-few x (l ∷ ls) n h = omega arith

pub lines_few : (xs : List ℕ) → length (lines xs) ≤ length xs
lines_few [] = rw lines-nil (omega arith)
lines_few (x ∷ xs) = go (eqb x 10) refl (lines_few xs)
  where
    go : (t : Bool) → eqb x 10 ≡ t → length (lines xs) ≤ length xs → length (lines (x ∷ xs)) ≤ length (x ∷ xs)
    go true t h = rw (lines-lf x xs t) (omega arith)
    go false t h = rw (lines-on x xs t) (on-first-few x (lines xs) (length xs) h)
