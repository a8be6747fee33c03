-- Clauses of `lines`, by the first byte. Assumes nothing.
use Prim.Native.Nat.{ℕ}
use mathlib.Core.Bool.{true, false}
use mathlib.Core.List.{List, [], ◌∷◌, map}
use mathlib.Core.Path.{◌≡◌, refl}
use lib.Dec.{eqb}
use Rattle.meaning.specs.Line.{pieces, line, lines, on_first}

pub lines-nil : lines [] ≡ []
unfolding lines
lines-nil = refl

pub lines-lf : (x : ℕ) (xs : List ℕ) → eqb x 10 ≡ true → lines (x ∷ xs) ≡ [] ∷ lines xs
unfolding lines
lines-lf x xs e = rw (e, pieces) (rw (e, line))

line_first : (x : ℕ) (ps : List (List ℕ)) → eqb x 10 ≡ false → map line (on_first x ps) ≡ on_first x (map line ps)
unfolding line
line_first x [] e = rw (e, line)
line_first x (p ∷ ps) e = rw (e, line)

pub lines-on : (x : ℕ) (xs : List ℕ) → eqb x 10 ≡ false → lines (x ∷ xs) ≡ on_first x (lines xs)
unfolding lines
lines-on x xs e = rw (e, pieces) (line_first x (pieces xs) e)
