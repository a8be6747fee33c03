-- Lines (01, "What a whole input means"): a line ends before a `\n` (byte 10) or at the input's end. One trailing `\r` (byte 13) is
-- trimmed from a line shown, never two. Assumes nothing.
use Rattle.std.specs.Prelude.{ℕ, cond, List, [], ◌∷◌, map, eqb}

-- a byte put before the first of some pieces
abbrev pub on_first : ℕ → List (List ℕ) → List (List ℕ)
on_first x [] = (x ∷ []) ∷ []
on_first x (p ∷ ps) = (x ∷ p) ∷ ps

-- the bytes cut behind each `\n`: their lines, each with the `\n` that ends it. A final `\n` adds no piece.
unfoldable pub pieces : List ℕ → List (List ℕ)
pieces [] = []
pieces (x ∷ xs) = let rest = pieces xs in cond (eqb x 10) ((x ∷ []) ∷ rest) (on_first x rest)

-- what stands before the first `\n`: a piece's line
unfoldable pub line : List ℕ → List ℕ
line [] = []
line (x ∷ xs) = let rest = line xs in cond (eqb x 10) [] (x ∷ rest)

unfoldable pub lines : List ℕ → List (List ℕ)
unfolding pieces line
lines xs = map line (pieces xs)

-- one trailing byte b goes, never two
unfoldable pub trim_last : (b : ℕ) → List ℕ → List ℕ
trim_last b [] = []
trim_last b (x ∷ []) = cond (eqb x b) [] (x ∷ [])
trim_last b (x ∷ y ∷ r) = x ∷ trim_last b (y ∷ r)

-- a line as it is shown
unfoldable pub trim_cr : List ℕ → List ℕ
unfolding trim_last
trim_cr xs = trim_last 13 xs
