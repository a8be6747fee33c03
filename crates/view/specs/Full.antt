-- The full sequence (01, module 5): the window's own part when the record has exactly one line, else the front of the caller's scratch,
-- holding the joined copy; the rest of it stays. Refusal 9 leaves the scratch unchanged. Assumes nothing.
use Rattle.std.specs.Prelude.{ℕ, suc, ◌+◌, cond, List, [], ◌∷◌, ◌++◌, map, ◌≡◌, length, drop, leb, Result, Ok, Err}
use Rattle.meaning.specs.Line.{trim_cr}
use Rattle.meaning.specs.Parts.{joined}
use Rattle.meaning.specs.OnePass.{lines_at}
use Rattle.view.specs.Rising.{rising}
use Rattle.view.specs.View.{line_of, between}
use Rattle.view.specs.declared.Full.{Full}
use Rattle.view.specs.declared.Full.TheVariants.{Window, Scratch}
use Rattle.view.specs.declared.error.FullError.{FullError}
use Rattle.view.specs.Refused.{number_of_full, values_of_full}

-- what the view says: a part of the window, so many bytes at the front of the scratch, or a refusal by its number with its values
pub data Whole : Type 0 where
  window : (from to : ℕ) → Whole
  front : (n : ℕ) → Whole
  refuses : (number : ℕ) (values : List ℕ) → Whole

abbrev pub says : Result Full FullError → Whole
says (Ok (Window extent)) = window extent.from extent.to
says (Ok (Scratch n)) = front n
says (Err error) = refuses (number_of_full error) (values_of_full error)

-- an answer and the scratch behind it
pub record Left : Type 0 where
  pub answer : Whole
  pub scratch : List ℕ

abbrev pub left : Whole → List ℕ → Left
left answer scratch = record { answer = answer; scratch = scratch }

-- a text at the front of the scratch, or refusal 9 with its length
unfoldable pub filled : (text scratch : List ℕ) → Left
filled text scratch =
    cond (leb (length text) (length scratch))
    (left (front (length text)) (text ++ drop (length text) scratch))
    (left (refuses 9 (length text ∷ [])) scratch)

-- the trimmed lines that end at the given ends, the first from a on, one after the other
abbrev pub joined_at : (w : List ℕ) (a : ℕ) (ends : List ℕ) → List ℕ
joined_at w a ends = joined (map trim_cr (lines_at w a ends))

-- the full sequence of the lines that end at the given ends, the first from a on: one line needs no scratch
unfoldable pub whole_at : (w : List ℕ) (a : ℕ) (ends scratch : List ℕ) → Left
unfolding filled
whole_at w a [] scratch = filled [] scratch
whole_at w a (e ∷ []) scratch = left (window a (a + length (line_of w a e))) scratch
whole_at w a (e ∷ f ∷ es) scratch = filled (joined_at w a (e ∷ f ∷ es)) scratch

-- refusal 11 without an end, or if not all ends are rising
unfoldable pub full_in : (w : List ℕ) (start : ℕ) (ends scratch : List ℕ) → Left
unfolding whole_at
full_in w start [] scratch = left (refuses 11 []) scratch
full_in w start (e ∷ es) scratch =
    cond (rising start (e ∷ es) (length w)) (whole_at w (suc e) es scratch) (left (refuses 11 []) scratch)

-- the part of window or scratch that it names, empty on a refusal
unfoldable pub picked : (w scratch : List ℕ) → Whole → List ℕ
unfolding between
picked w scratch (window from to) = between w from to
picked w scratch (front n) = between scratch 0 n
picked w scratch (refuses number values) = []

-- the promises
abbrev pub FullIn : (w : List ℕ) (start : ℕ) (ends scratch : List ℕ) → Result Full FullError → (exit : List ℕ) → Type 0
FullIn w start ends scratch r exit = left (says r) exit ≡ full_in w start ends scratch

abbrev pub Pick : Result Full FullError → (w scratch r : List ℕ) → Type 0
Pick full w scratch r = r ≡ picked w scratch (says full)
