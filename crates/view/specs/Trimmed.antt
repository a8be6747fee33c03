-- The trimmed lines that a record still has to give. Assumes nothing.
use Rattle.std.specs.Prelude.{ℕ, suc, List, map, true, false, ◌≡◌, length, Option, Some, None}
use Rattle.meaning.specs.Line.{trim_cr}
use Rattle.meaning.specs.OnePass.{lines_at}
use Rattle.view.specs.Rising.{rising}
use Rattle.view.specs.declared.trimmed.TrimmedLines.{TrimmedLines}

abbrev pub trimmed_at : (w : List ℕ) (a : ℕ) (ends : List ℕ) → List (List ℕ)
trimmed_at w a ends = map trim_cr (lines_at w a ends)

abbrev pub lines_left : TrimmedLines → List (List ℕ)
lines_left l = trimmed_at l.bytes.now (suc l.place) l.ends.now

-- all of a record's, where its ends rise
abbrev pub TrimmedLinesIs : (w : List ℕ) (start : ℕ) (ends : List ℕ) → Option TrimmedLines → Type 0
TrimmedLinesIs w start ends (Some l) =
    (rising start ends (length w) ≡ true) × (lines_left l ≡ trimmed_at w (suc start) ends)
TrimmedLinesIs w start ends None = rising start ends (length w) ≡ false
