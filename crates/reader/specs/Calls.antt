-- The calls beside reads (01): setup and refusal 1, report and refusal 6, seek and refusal 5, position. Assumes
-- nothing.
use Rattle.std.specs.Prelude as prelude
use Rattle.std.specs.Prelude.{ℕ, ◌+◌, ◌-◌, Bool, false, cond, ◌&&◌, ◌||◌, ◌≡◌, eqb, ltb, Result, Ok, Err, Some, None, ⊤}
use Rattle.std.proofs.Math.Option.{Option, none, some}
use Rattle.growth.specs.declared.Policy.{Policy}
use Rattle.window.specs.Fill.{most, unfilled, reported, holds, emptied, asking}
use Rattle.window.specs.declared.fill.Fill.{Fill}
use Rattle.reader.specs.declared.state.Reader.{Reader}
use Rattle.reader.specs.declared.state.Phase.{Phase}
use Rattle.reader.specs.declared.state.Phase.TheVariants as phase
use Rattle.reader.specs.declared.state.Position.{Position}
use Rattle.reader.specs.declared.state.Reported.{Reported}
use Rattle.reader.specs.declared.state.Sought.{Sought}
use Rattle.reader.specs.declared.state.Current.{Current}
use Rattle.reader.specs.declared.error.SetupError.{SetupError}
use Rattle.reader.specs.declared.error.ReportError.{ReportError}
use Rattle.reader.specs.declared.error.ReportError.TheVariants as report
use Rattle.reader.specs.declared.error.SeekError.{SeekError}
use Rattle.reader.specs.declared.error.SeekError.TheVariants as seek
use Rattle.reader.specs.declared.error.StateError.{StateError}
use Rattle.reader.specs.declared.error.RecordError.{RecordError}
use Rattle.reader.specs.declared.error.RecordError.TheVariants as record_
use Rattle.reader.specs.State.{byte_of, with_fill, mark_at, sane, lent_as, is_current}

-- 1: capacity under 3 or above window, window too long, table empty
unfoldable pub setup_refused : (capacity window slots : ℕ) → Bool
setup_refused capacity window slots = ltb capacity 3 || ltb window capacity || ltb 2147483648 window || eqb slots 0

-- a new reader stands before the lead, on line 1
abbrev pub made : (capacity : ℕ) → Policy → (window slots : ℕ) → Reader
made capacity policy window slots =
    record { fill = unfilled capacity policy window; mark = mark_at 0 0 0 1; slots = slots; phase = phase.Lead }

unfoldable pub setup_of : (capacity : ℕ) → Policy → (window slots : ℕ) → Option Reader
unfolding setup_refused
setup_of capacity policy window slots =
    cond (setup_refused capacity window slots) none (some (made capacity policy window slots))

abbrev pub number_of_setup : SetupError → ℕ
number_of_setup x = 1

abbrev pub made_by : Result Reader SetupError → Option Reader
made_by (Ok r) = some r
made_by (Err x) = none

abbrev pub NewIs : (capacity : ℕ) → Policy → (window slots : ℕ) → Result Reader SetupError → Type 0
NewIs capacity policy window slots s = made_by s ≡ setup_of capacity policy window slots

-- what a call says and leaves: done, or refused by a number
pub record Left : Type 0 where
  pub refusal : Option ℕ
  pub reader : Reader

abbrev pub done : Reader → Left
done r = record { refusal = none; reader = r }

abbrev pub refused_by : (number : ℕ) → Reader → Left
refused_by number r = record { refusal = some number; reader = r }

-- an answer with its error's number, and the reader that is handed back
abbrev pub left_by : {E : Type 0} (number : E → ℕ) → Result ⊤ E → Reader → Left
left_by number (Ok u) r = done r
left_by number (Err x) r = refused_by (number x) r

-- a report: 11, then 6
abbrev pub took_over : Option Fill → Reader → Left
took_over none r = refused_by 6 r
took_over (some f) r = done (with_fill f r)

unfoldable pub report_of : (count : ℕ) → Reader → Left
unfolding sane reported
report_of count r = cond (sane r) (took_over (reported count r.fill) r) (refused_by 11 r)

abbrev pub number_of_report : ReportError → ℕ
number_of_report report.Count = 6
number_of_report report.State = 11

abbrev pub reported_by : Reported → Left
reported_by s = left_by number_of_report s.answer s.reader

abbrev pub ReportIs : (count : ℕ) → Reader → Reported → Type 0
ReportIs count r s = reported_by s ≡ report_of count r

-- 5: line 0, line above byte + 1, byte above 2^62
unfoldable pub misplaced : (line byte : ℕ) → Bool
misplaced line byte = eqb line 0 || ltb (byte + 1) line || ltb most byte

-- "Inside the filled window it keeps the bytes; otherwise it empties the window, forgets the end and asks from that
-- offset. Capacity stays. Seek cancels an ask and any lasting refusal."
abbrev pub sought_in : (line byte : ℕ) → Reader → Reader
sought_in line byte r =
    let at = byte - r.fill.base.0 in
    record { fill = asking false r.fill; mark = mark_at at at 0 line; slots = r.slots; phase = phase.Sought }

abbrev pub sought_out : (line byte : ℕ) → Reader → Reader
sought_out line byte r =
    record { fill = emptied byte r.fill; mark = mark_at 0 0 0 line; slots = r.slots; phase = phase.Sought }

unfoldable pub seek_of : (line byte : ℕ) → Reader → Left
unfolding sane misplaced
seek_of line byte r =
    cond (sane r)
    (cond (misplaced line byte) (refused_by 5 r)
    (done (cond (holds byte r.fill) (sought_in line byte r) (sought_out line byte r))))
    (refused_by 11 r)

abbrev pub number_of_seek : SeekError → ℕ
number_of_seek seek.Place = 5
number_of_seek seek.State = 11

abbrev pub sought_by : Sought → Left
sought_by s = left_by number_of_seek s.answer s.reader

abbrev pub SeekIs : Position → Reader → Sought → Type 0
SeekIs p r s = sought_by s ≡ seek_of p.line p.byte.0 r

-- `position` gives the current or refused record; after the end, the last record given; after a set, the next record;
-- none else. Refused with 11 in a state that 11 refuses.
pub data Place : Type 0 where
  at : (line byte : ℕ) → Place
  nowhere : Place
  unknown : (number : ℕ) → Place

abbrev pub shown_in : Phase → Reader → Place
shown_in phase.Lead r = nowhere
shown_in phase.Sought r = nowhere
shown_in phase.Searching r = nowhere
shown_in phase.Current r = at r.mark.line (byte_of r)
shown_in phase.Ended r = at r.mark.line (byte_of r)
shown_in phase.Over r = nowhere
shown_in phase.Window r = at r.mark.line (byte_of r)
shown_in phase.Table r = at r.mark.line (byte_of r)
shown_in phase.Astray r = nowhere
shown_in phase.Ahead r = at r.mark.line (byte_of r)

unfoldable pub place_of : Reader → Place
unfolding sane
place_of r = cond (sane r) (shown_in r.phase r) (unknown 11)

abbrev pub number_of_state : StateError → ℕ
number_of_state x = 11

abbrev pub place_by : Result (prelude.Option Position) StateError → Place
place_by (Ok (Some p)) = at p.line p.byte.0
place_by (Ok None) = nowhere
place_by (Err x) = unknown (number_of_state x)

abbrev pub PositionIs : Reader → Result (prelude.Option Position) StateError → Type 0
PositionIs r s = place_by s ≡ place_of r

-- What views and writers of the current record go by: its start, the filled bytes and the number of its ends; or
-- refusal 11, then 7.
pub data Held : Type 0 where
  held : (start filled count : ℕ) → Held
  missing : (number : ℕ) → Held

unfoldable pub current_of : (window ends : ℕ) → Reader → Held
unfolding sane lent_as
current_of window ends r =
    cond (sane r && lent_as r window ends)
    (cond (is_current r.phase) (held r.mark.start.0 r.fill.filled r.mark.count) (missing 7))
    (missing 11)

abbrev pub number_of_record : RecordError → ℕ
number_of_record record_.NoRecord = 7
number_of_record record_.State = 11

abbrev pub held_by : Result Current RecordError → Held
held_by (Ok c) = held c.start c.filled c.count
held_by (Err x) = missing (number_of_record x)

abbrev pub CurrentIs : (window ends : ℕ) → Reader → Result Current RecordError → Type 0
CurrentIs window ends r c = held_by c ≡ current_of window ends r
