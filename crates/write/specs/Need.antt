-- The lengths of texts by numbers: what a description adds, and how many lines there are. Assumes nothing.
use Rattle.std.specs.Prelude.{ℕ, ◌+◌, ◌-◌, ◌/◌, List, length}
use Rattle.std.proofs.Math.Option.{Option, none, some}

-- what a description adds to an id: its length and that of the space
abbrev pub desc_len : Option (List ℕ) → ℕ
desc_len (some desc) = length desc + 1
desc_len none = 0

-- how many lines of `wrap` bytes `n` bytes are: their number divided by the width, rounded up
abbrev pub line_count : (wrap n : ℕ) → ℕ
line_count wrap n = (n + (wrap - 1)) / wrap
