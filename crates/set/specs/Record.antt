-- The promises of a set's record by its number and of its position (01, module 6, refusals 11, then 7). Assumes
-- nothing.
use Rattle.std.specs.Prelude.{ℕ, ◌+◌, Bool, cond, List, ◌≡◌, Result, Ok, Err}
use Rattle.reader.specs.Calls as calls
use Rattle.reader.specs.Calls.{misplaced, number_of_record}
use Rattle.reader.specs.declared.error.RecordError.{RecordError}
use Rattle.reader.specs.declared.state.Position.{Position}
use Rattle.set.specs.declared.state.Set.{Set}
use Rattle.set.specs.declared.record.Held.{Held}
use Rattle.set.specs.Set.{sound, Record, held, missing, record_of}

abbrev pub IsSound : Set → (bytes marks : ℕ) → Bool → Type 0
IsSound s bytes marks r = r ≡ sound s bytes marks

abbrev pub held_by : Result Held RecordError → Record
held_by (Ok h) = held h.start h.filled h.from h.to
held_by (Err e) = missing (number_of_record e)

abbrev pub RecordIs : Set → (bytes : ℕ) (marks : List ℕ) (ends i : ℕ) → Result Held RecordError → Type 0
RecordIs s bytes marks ends i r = held_by r ≡ record_of s bytes marks ends i

-- 11: line or byte outside 5's bounds
unfoldable pub placed : (line byte : ℕ) → calls.Place
unfolding misplaced
placed line byte = cond (misplaced line byte) (calls.unknown 11) (calls.at line byte)

-- each record begins as many lines behind the set's first as the records before it have ends
abbrev pub place_held : Set → Record → calls.Place
place_held s (held start filled from to) = placed (s.line + from) (s.base.0 + start)
place_held s (missing number) = calls.unknown number

abbrev pub placed_by : Result Position RecordError → calls.Place
placed_by (Ok p) = calls.at p.line p.byte.0
placed_by (Err e) = calls.unknown (number_of_record e)

abbrev pub PositionIs : Set → (bytes : ℕ) (marks : List ℕ) (ends i : ℕ) → Result Position RecordError → Type 0
PositionIs s bytes marks ends i p = placed_by p ≡ place_held s (record_of s bytes marks ends i)
