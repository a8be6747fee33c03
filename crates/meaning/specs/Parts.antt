-- The parts of a record (01, "What a whole input means"): L, head, sequence lines, joined sequence, id and description. Assumes nothing.
use Rattle.std.specs.Prelude.{ℕ, Bool, cond, List, [], ◌∷◌, ◌++◌, map, length, get_or, drop, eqb}
use Rattle.std.proofs.Math.Option.{Option, none, some}
use Rattle.meaning.specs.Line.{lines, trim_cr}
use Rattle.meaning.specs.Input.{Rec}

-- L: the number of bytes, the last `\n` included if there is one
abbrev pub size : Rec → ℕ
size r = length r.bytes

-- the first line, without `>`
unfoldable pub head_of : Rec → List ℕ
unfolding lines trim_cr
head_of r = trim_cr (drop 1 (get_or (lines r.bytes) 0 []))

-- the others
unfoldable pub seq_lines : Rec → List (List ℕ)
unfolding lines trim_cr
seq_lines r = map trim_cr (drop 1 (lines r.bytes))

-- some lines one after the other
abbrev pub joined : List (List ℕ) → List ℕ
joined [] = []
joined (l ∷ ls) = l ++ joined ls

unfoldable pub seq_of : Rec → List ℕ
unfolding seq_lines
seq_of r = joined (seq_lines r)

-- the byte that ends an id: a space
abbrev pub ends_id : ℕ → Bool
ends_id x = eqb x 32

-- the head up to its first space
unfoldable pub id_of : List ℕ → List ℕ
id_of [] = []
id_of (x ∷ h) = let rest = id_of h in cond (ends_id x) [] (x ∷ rest)

-- all after that space, or none without a space
unfoldable pub desc_of : List ℕ → Option (List ℕ)
desc_of [] = none
desc_of (x ∷ h) = let rest = desc_of h in cond (ends_id x) (some h) rest
