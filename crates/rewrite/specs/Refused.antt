-- The refusals of a record's writers by their numbers and the need of 9 (01, "Refusal numbers"), and what a refusal of the current record, or
-- of a free writer, is as one of theirs. Assumes nothing.
use Rattle.std.specs.Prelude.{ℕ, List, [], ◌∷◌, get_or, ◌≡◌}
use Rattle.reader.specs.declared.error.RecordError.{RecordError}
use Rattle.reader.specs.declared.error.RecordError.TheVariants as current
use Rattle.write.specs.declared.error.WriteError.{WriteError}
use Rattle.write.specs.declared.error.WriteError.TheVariants as free
use Rattle.rewrite.specs.declared.error.RewriteError.{RewriteError}
use Rattle.rewrite.specs.declared.error.RewriteError.TheVariants.{NoRecord, Wrap, Room, State}

abbrev pub number_of : RewriteError → ℕ
number_of NoRecord = 7
number_of Wrap = 10
number_of (Room n) = 9
number_of State = 11

abbrev pub values_of : RewriteError → List ℕ
values_of NoRecord = []
values_of Wrap = []
values_of (Room n) = n ∷ []
values_of State = []

-- the need, or 0 where there is none
abbrev pub need_of : RewriteError → ℕ
need_of e = get_or (values_of e) 0 0

abbrev pub of_record : RecordError → RewriteError
of_record current.NoRecord = NoRecord
of_record current.State = State

abbrev pub of_write : WriteError → RewriteError
of_write free.Wrap = Wrap
of_write (free.Room n) = Room n

-- the promises
abbrev pub FromRecord : RecordError → RewriteError → Type 0
FromRecord e x = x ≡ of_record e

abbrev pub FromWrite : WriteError → RewriteError → Type 0
FromWrite e x = x ≡ of_write e
