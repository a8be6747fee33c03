-- 01's numbers of the refusals of the views (module 5: 11, 7, 8, 9), and what a refusal of a reader's current record is
-- as one of a view. Assumes nothing.
use Rattle.std.proofs.Common.{arith}
use Rattle.std.specs.Prelude.{ℕ, List, [], ◌∷◌, ◌≡◌, refl}
use Rattle.refusal.specs.Refusal.{InTable}
use Rattle.reader.specs.declared.error.RecordError.{RecordError}
use Rattle.reader.specs.declared.error.RecordError.TheVariants as r
use Rattle.view.specs.declared.error.ViewError.{ViewError}
use Rattle.view.specs.declared.error.ViewError.TheVariants as v
use Rattle.view.specs.declared.error.FullError.{FullError}
use Rattle.view.specs.declared.error.FullError.TheVariants as f

abbrev pub number_of_view : ViewError → ℕ
number_of_view v.NoRecord = 7
number_of_view v.NoLine = 8
number_of_view v.State = 11

abbrev pub number_of_full : FullError → ℕ
number_of_full f.NoRecord = 7
number_of_full (f.Room need) = 9
number_of_full f.State = 11

abbrev pub need_of_full : FullError → ℕ
need_of_full f.NoRecord = 0
need_of_full (f.Room need) = need
need_of_full f.State = 0

-- the values beside the number: the need of 9
abbrev pub values_of_full : FullError → List ℕ
values_of_full f.NoRecord = []
values_of_full (f.Room need) = need ∷ []
values_of_full f.State = []

abbrev pub as_view : RecordError → ViewError
as_view r.NoRecord = v.NoRecord
as_view r.State = v.State

abbrev pub as_full : RecordError → FullError
as_full r.NoRecord = f.NoRecord
as_full r.State = f.State

-- the promises of the conversions
abbrev pub AsView : RecordError → ViewError → Type 0
AsView e x = x ≡ as_view e

abbrev pub AsFull : RecordError → FullError → Type 0
AsFull e x = x ≡ as_full e

-- they are in the table, and 9 alone gives a need
pub view_in_table : (e : ViewError) → InTable (number_of_view e) 0
view_in_table v.NoRecord = (omega arith, omega arith, λ n. refl)
view_in_table v.NoLine = (omega arith, omega arith, λ n. refl)
view_in_table v.State = (omega arith, omega arith, λ n. refl)

pub full_in_table : (e : FullError) → InTable (number_of_full e) (need_of_full e)
full_in_table f.NoRecord = (omega arith, omega arith, λ n. refl)
full_in_table (f.Room need) = (omega arith, omega arith, λ n. absurd (n refl))
full_in_table f.State = (omega arith, omega arith, λ n. refl)
