-- What a record set goes by (01, module 6): "every record from the current place that is whole in the window ... and
-- meets no refusal", one at a time, and "the rest is read next". A look asks for nothing and moves nothing. Assumes
-- nothing.
use Rattle.std.specs.Prelude.{ℕ, suc, cond, ◌&&◌, List, ◌≡◌, length, set, eqb, leb, Result, Ok, Err}
use Rattle.scan.specs.Search.{searched}
use Rattle.scan.specs.declared.ends.Stop.{Stop}
use Rattle.scan.specs.declared.ends.Stop.TheVariants as stop
use Rattle.window.specs.Fill.{ready}
use Rattle.reader.specs.declared.state.Reader.{Reader}
use Rattle.reader.specs.declared.state.Phase.TheVariants as phase
use Rattle.reader.specs.declared.state.Look.{Look}
use Rattle.reader.specs.declared.state.Sight.{Sight}
use Rattle.reader.specs.declared.state.Sight.TheVariants as sight
use Rattle.reader.specs.declared.error.RecordError.{RecordError}
use Rattle.reader.specs.State.{byte_of, with_mark, in_phase, mark_at, sane, lent_as, is_current}
use Rattle.reader.specs.Read.{reached, searches, passed}
use Rattle.reader.specs.Calls.{number_of_record}

-- what is seen behind the current record: a whole record (line, byte); one that is not whole in the filled bytes, or
-- that a read would refuse; the end; or a refusal, 7 or 11
pub data Seen : Type 0 where
  whole : (line byte : ℕ) → Seen
  unfinished : Seen
  over : Seen
  denied : (number : ℕ) → Seen

abbrev pub seen_by : Result Sight RecordError → Seen
seen_by (Ok (sight.Whole p)) = whole p.line p.byte.0
seen_by (Ok sight.Unfinished) = unfinished
seen_by (Ok sight.Over) = over
seen_by (Err x) = denied (number_of_record x)

-- what a look sees and leaves
pub record Looked : Type 0 where
  pub seen : Seen
  pub reader : Reader
  pub table : List ℕ

abbrev pub sees : Seen → Reader → (e : List ℕ) → Looked
sees s r e = record { seen = s; reader = r; table = e }

abbrev pub looked : Look → (e : List ℕ) → Looked
looked n e = sees (seen_by n.sight) n.reader e

-- a whole record is current; any other is left to the next call, with the progress of its search
abbrev pub looked_at : Reader → (e : List ℕ) → Looked
looked_at r e = sees (whole r.mark.line (byte_of r)) (in_phase phase.Current r) e

abbrev pub left_ahead : Reader → (e : List ℕ) → Looked
left_ahead r e = sees unfinished (in_phase phase.Ahead r) e

-- the end closes the last record where its search stopped, if there is a slot for that end
unfoldable pub shut : Reader → (e : List ℕ) → Looked
shut r e =
    cond (leb r.slots r.mark.count)
    (left_ahead r e)
    (looked_at (reached r.fill.filled (suc r.mark.count) r) (set e r.mark.count r.mark.search.0))

-- by where the search stopped
abbrev pub looked_to : Stop → Reader → (e : List ℕ) → Looked
looked_to stop.Record r e = looked_at r e
looked_to stop.Full r e = left_ahead r e
looked_to stop.Filled r e = cond r.fill.told (shut r e) (left_ahead r e)

-- a record is searched in the filled bytes
unfoldable pub looks_on : Reader → (w e : List ℕ) → Looked
unfolding searched shut
looks_on r w e =
    let s = searches r w e in
    looked_to s.out.stop (reached s.out.at s.out.count r) s.ends

-- behind a current record: the end, after which none is named; else the next record, once the window is full or the
-- end was told
unfoldable pub looks_behind : Reader → (w e : List ℕ) → Looked
unfolding looks_on
looks_behind r w e =
    cond (r.fill.told && eqb r.mark.search.0 r.fill.filled)
    (sees over (in_phase phase.Over r) e)
    (cond (ready r.fill) (looks_on (passed r) w e) (left_ahead (passed r) e))

-- 11, then 7
unfoldable pub look_of : Reader → (w e : List ℕ) → Looked
unfolding sane lent_as looks_behind
look_of r w e =
    cond (sane r && lent_as r (length w) (length e))
    (cond (is_current r.phase) (looks_behind r w e) (sees (denied 7) r e))
    (sees (denied 11) r e)

-- the promise of `look`
abbrev pub LookIs : Reader → (w e : List ℕ) → Look → (e' : List ℕ) → Type 0
LookIs r w e n e' = looked n e' ≡ look_of r w e

-- the current record is to be found again, as if it had not been searched
unfoldable pub put_back_of : Reader → Reader
unfolding sane
put_back_of r =
    let start = r.mark.start.0 in
    cond (sane r && is_current r.phase) (in_phase phase.Ahead (with_mark (mark_at start start 0 r.mark.line) r)) r

-- the promise of `put_back`
abbrev pub PutBackIs : Reader → Reader → Type 0
PutBackIs r s = s ≡ put_back_of r
