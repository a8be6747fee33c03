-- One sample as a run of specs/Run.antt, built step by step: what a run asks of a caller can be met, so what is said of all runs is said of
-- something. `>a` in a window of 3 with one slot: both bytes are brought, then none. Assumes nothing.
use Prim.Native.Nat.{ℕ}
use native.Mathlib.Omega.{arith}
use mathlib.Core.List.{List, [], ◌∷◌}
use mathlib.Core.Path.{refl}
use Rattle.growth.specs.declared.Policy.TheVariants.{StdPolicy}
use Rattle.meaning.specs.Ascii.{ascii}
use Rattle.reader.specs.Read.{asks, gives, ends, read_of}
use Rattle.reader.specs.Calls.{made, setup_of, report_of}
use Rattle.runs.specs.Run.{State, state, Made, after_read, Brings, read, brought, Run, begun, by_read, by_report}

abbrev pub input : List ℕ
unfolding ascii
input = ascii ">a"

abbrev pub start : State
start = state (made 3 StdPolicy 3 1) (0 ∷ 0 ∷ 0 ∷ []) (0 ∷ [])

pub is_made : Made 3 StdPolicy start
unfolding setup_of
is_made = refl

-- the window with both bytes, and a state behind a report of n
abbrev pub filled : List ℕ
filled = 62 ∷ 97 ∷ 0 ∷ []

abbrev pub told : State → (n : ℕ) → State
unfolding report_of
told s n = state (report_of n s.reader).reader filled s.table

-- the states: after the first ask, after the second, and at the end behind the record
abbrev pub asked : State
unfolding read_of
asked = after_read start

abbrev pub asked_again : State
unfolding read_of
asked_again = after_read (told asked 2)

abbrev pub ended : State
unfolding read_of
ended = after_read (after_read (told asked_again 0))

both : Brings input 2 asked filled
unfolding ascii read_of
both = record { same_length = refl; before = refl; brought = refl; in_input = omega arith; zero_at_end = λ z. absurd (omega arith) }

none_left : Brings input 0 asked_again filled
unfolding ascii read_of report_of
none_left = record { same_length = refl; before = refl; brought = refl; in_input = omega arith; zero_at_end = λ z. refl }

pub is_run : Run input start (read ends ∷ read (gives 1 0) ∷ brought 0 ∷ read (asks 2 1 2) ∷ brought 2 ∷ read (asks 0 3 0) ∷ []) ended
unfolding ascii read_of report_of
is_run =
    by_read _ _ (by_read _ _ (by_report 0 filled _ asked_again (by_read _ _ (by_report 2 filled _ asked (by_read _ _ begun) refl both)) refl none_left))
