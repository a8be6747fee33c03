-- Records found byte by byte: a record starts at a `>` directly after a `\n`, and `fresh` says that the byte before was one. It is the
-- same split as that of the lines: a line's first byte stands at its front, every other byte goes to the line before it. Assumes nothing.
use Prim.Native.Nat.{ℕ, suc, ◌+◌}
use native.Mathlib.Omega.{arith}
use mathlib.Core.Bool.{Bool, true, false, cond, ◌&&◌}
use mathlib.Core.List.{List, [], ◌∷◌, ◌++◌}
use mathlib.Core.Path.{◌≡◌, refl, sym, ap, ◌∙◌}
use lib.ListN.{length}
use lib.Dec.{eqb}
use Rattle.meaning.specs.Line.{pieces, on_first}
use Rattle.meaning.specs.Input.{Split, split, records_from}

-- a byte before a split: at the front of a record that starts there, or of the loose bytes
abbrev pub put : (starts : Bool) (l b x : ℕ) → Split → Split
put true l b x rest = record { loose = []; recs = record { line = l; byte = b; bytes = x ∷ rest.loose } ∷ rest.recs }
put false l b x rest = record { loose = x ∷ rest.loose; recs = rest.recs }

-- the line that follows a byte
abbrev pub after : (x l : ℕ) → ℕ
after x l = cond (eqb x 10) (suc l) l

unfoldable pub cut : (l b : ℕ) → List ℕ → (fresh : Bool) → Split
cut l b [] fresh = record { loose = []; recs = [] }
cut l b (x ∷ xs) fresh = put (fresh && eqb x 62) l b x (cut (after x l) (suc b) xs (eqb x 10))

-- the split of pieces of which the first goes on with a line
onward : (l b : ℕ) → List (List ℕ) → Split
onward l b [] = record { loose = []; recs = [] }
onward l b (p ∷ ps) = record { loose = p ++ (split (suc l) (b + length p) ps).loose; recs = (split (suc l) (b + length p) ps).recs }

-- the split of pieces whose first may begin a record, or goes on
either : (fresh : Bool) (l b : ℕ) → List (List ℕ) → Split
either true l b ps = split l b ps
either false l b ps = onward l b ps

-- pieces whose first byte is x
one : (fresh : Bool) (l b x : ℕ) (p : List ℕ) (ps : List (List ℕ))
    → either fresh l b ((x ∷ p) ∷ ps) ≡ put (fresh && eqb x 62) l b x (record { loose = p ++ (split (suc l) (suc b + length p) ps).loose; recs = (split (suc l) (suc b + length p) ps).recs })
unfolding either onward split
one true l b x p ps = let e : b + suc (length p) ≡ suc b + length p = omega arith in rw e (go (eqb x 62))
  where
    R : Split
    R = split (suc l) (suc b + length p) ps

    go : (t : Bool) → cond t (record { loose = []; recs = record { line = l; byte = b; bytes = x ∷ (p ++ R.loose) } ∷ R.recs }) (record { loose = x ∷ (p ++ R.loose); recs = R.recs }) ≡ put t l b x (record { loose = p ++ R.loose; recs = R.recs })
    go true = refl
    go false = refl
one false l b x p ps = let e : b + suc (length p) ≡ suc b + length p = omega arith in rw e

-- pieces with x before the first: x goes on with the line that follows it
first : (fresh : Bool) (l b x : ℕ) (ps : List (List ℕ)) → put (fresh && eqb x 62) l b x (onward l (suc b) ps) ≡ either fresh l b (on_first x ps)
unfolding onward
first fresh l b x [] = sym (one fresh l b x [] [] ∙ unfold split in refl)
first fresh l b x (p ∷ ps) = sym (one fresh l b x p ps)

cut-pieces : (xs : List ℕ) (fresh : Bool) (l b : ℕ) → cut l b xs fresh ≡ either fresh l b (pieces xs)
unfolding cut pieces either onward split
cut-pieces [] true l b = refl
cut-pieces [] false l b = refl
cut-pieces (x ∷ xs) fresh l b = go (eqb x 10) refl (cut-pieces xs)
  where
    go : (t : Bool) → eqb x 10 ≡ t → ((f : Bool) (k c : ℕ) → cut k c xs f ≡ either f k c (pieces xs)) → cut l b (x ∷ xs) fresh ≡ either fresh l b (pieces (x ∷ xs))
    go true e ih =
        let z : suc b + 0 ≡ suc b = omega arith in
        rw (e, pieces) (ap (put (fresh && eqb x 62) l b x) (ih true (suc l) (suc b)) ∙ sym (rw z at (one fresh l b x [] (pieces xs))))
    go false e ih = rw (e, pieces) (ap (put (fresh && eqb x 62) l b x) (ih false l (suc b)) ∙ first fresh l b x (pieces xs))

-- the records of the lines are those found byte by byte
pub recs-cut : (l b : ℕ) (xs : List ℕ) → records_from l b xs ≡ (cut l b xs true).recs
unfolding records_from either
recs-cut l b xs = ap (λ (s : Split). s.recs) (sym (cut-pieces xs true l b))
