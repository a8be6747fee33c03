-- A set of two records, `>a` with the line AC and `>b` without a line, in which the definitions of views and
-- positions are run: its first record is on line 5 at byte 100. Assumes nothing.
use Prim.Native.Nat.{ℕ}
use mathlib.Core.List.{List, [], ◌∷◌}
use mathlib.Core.Path.{◌≡◌, refl}
use lib.ListN.{length}
use Rattle.meaning.specs.Line.{trim_cr}
use Rattle.window.specs.Offset.{input_at}
use Rattle.reader.specs.Calls.{at, unknown}
use Rattle.view.specs.View.{part, refuses, head_in, line_in}
use Rattle.view.specs.Current.{refused}
use Rattle.set.specs.declared.state.Set.{Set}
use Rattle.set.specs.Set.{held, missing, record_of, of_record}
use Rattle.set.specs.Record.{place_held, placed}

abbrev two : Set
two = record { filled = 8; count = 2; line = 5; base = input_at 100 }

-- the bytes behind those filled are not looked at
abbrev bytes : List ℕ
bytes = 62 ∷ 97 ∷ 10 ∷ 65 ∷ 67 ∷ 10 ∷ 62 ∷ 98 ∷ 62 ∷ 99 ∷ []

abbrev marks : List ℕ
marks = 0 ∷ 2 ∷ 6 ∷ 3 ∷ []

abbrev ends : List ℕ
ends = 2 ∷ 5 ∷ 8 ∷ 99 ∷ []

records :
    (record_of two (length bytes) marks (length ends) 0 ≡ held 0 8 0 2)
    × ((record_of two (length bytes) marks (length ends) 1 ≡ held 6 8 2 3)
    × ((record_of two (length bytes) marks (length ends) 2 ≡ missing 7)
    × ((record_of two 7 marks (length ends) 2 ≡ missing 11) × (record_of two (length bytes) marks 2 1 ≡ missing 11))))
unfolding record_of
records = (refl, (refl, (refl, (refl, refl))))

heads :
    (of_record two bytes marks ends 0 head_in refused ≡ part 1 2)
    × (of_record two bytes marks ends 1 head_in refused ≡ part 7 8)
unfolding record_of head_in trim_cr
heads = (refl, refl)

lines :
    (of_record two bytes marks ends 0 (λ w start es. line_in w start es 0) refused ≡ part 3 5)
    × (of_record two bytes marks ends 1 (λ w start es. line_in w start es 0) refused ≡ refuses 8 [])
unfolding record_of line_in trim_cr
lines = (refl, refl)

-- two lines stand before the second record, and six bytes
positions :
    (place_held two (record_of two (length bytes) marks (length ends) 0) ≡ at 5 100)
    × ((place_held two (record_of two (length bytes) marks (length ends) 1) ≡ at 7 106)
    × (place_held two (record_of two (length bytes) marks (length ends) 2) ≡ unknown 7))
unfolding record_of placed
positions = (refl, (refl, refl))
