-- Where a line ends (01: "A line ends before a `\n` (byte 10) or at the input's end"), and what trimming hands back. Assumes nothing.
use Rattle.std.specs.Prelude.{ℕ, ◌+◌, cond, List, ◌≡◌, length, drop, ltb}
use Rattle.meaning.specs.Line.{line, trim_cr}

-- the place of the first `\n` at or behind `from`, or the end of the bytes where there is none
unfoldable pub line_end : List ℕ → (from : ℕ) → ℕ
unfolding line
line_end s from = cond (ltb from (length s)) (from + length (line (drop from s))) (length s)

-- the promises of `line_end` and of `trim_cr`
abbrev pub LineEnd : List ℕ → (from r : ℕ) → Type 0
LineEnd s from r = r ≡ line_end s from

abbrev pub TrimCr : List ℕ → (r : List ℕ) → Type 0
TrimCr s r = r ≡ trim_cr s
