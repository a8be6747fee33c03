-- What a read answers and leaves (01, "The window and its refills" and refusals 2 to 5 and 11). Assumes nothing.
use Rattle.std.specs.Prelude.{ℕ, suc, ◌+◌, ◌-◌, ◌≤◌, ◌<◌, max, min, Bool, true, false, cond, not, ◌&&◌, List, [], ◌∷◌, ◌≡◌, length, get_or, take, drop, set, eqb, ltb, leb}
use Rattle.std.proofs.Math.Option.{Option, none, some}
use Rattle.scan.specs.Move.{moved_ends}
use Rattle.scan.specs.Search.{Recorded, searched, lead_at}
use Rattle.scan.specs.declared.ends.Searched.{Searched}
use Rattle.scan.specs.declared.ends.Stop.{Stop}
use Rattle.scan.specs.declared.ends.Stop.TheVariants as stop
use Rattle.scan.specs.declared.line.Blank.{Blank}
use Rattle.window.specs.Fill.{asking, ready, slid, slid_window, widened_to, of_capacity}
use Rattle.reader.specs.declared.state.Reader.{Reader}
use Rattle.reader.specs.declared.state.Phase.{Phase}
use Rattle.reader.specs.declared.state.Phase.TheVariants as phase
use Rattle.reader.specs.declared.state.Answer.{Answer}
use Rattle.reader.specs.declared.state.Answer.TheVariants as answer
use Rattle.reader.specs.declared.state.Next.{Next}
use Rattle.reader.specs.State.{byte_of, with_fill, with_mark, in_phase, mark_at, sane, lent_as, ends_rise}

-- what is said: an ask (place, room, input offset), a record (line, byte), the end, or a refusal by its number with
-- its values
pub data Said : Type 0 where
  asks : (place room offset : ℕ) → Said
  gives : (line byte : ℕ) → Said
  ends : Said
  refuses : (number : ℕ) (values : List ℕ) → Said

abbrev pub said_by : Answer → Said
said_by (answer.Ask a) = asks a.place.0 a.room a.offset.0
said_by (answer.Record p) = gives p.line p.byte.0
said_by answer.End = ends
said_by (answer.Start l x) = refuses 2 (l ∷ x ∷ [])
said_by (answer.Window p) = refuses 3 (p.line ∷ p.byte.0 ∷ [])
said_by (answer.Table p) = refuses 4 (p.line ∷ p.byte.0 ∷ [])
said_by answer.Place = refuses 5 []
said_by answer.State = refuses 11 []

-- what a read says and leaves
pub record Did : Type 0 where
  pub said : Said
  pub reader : Reader
  pub window : List ℕ
  pub table : List ℕ

abbrev pub does : Said → Reader → (w e : List ℕ) → Did
does s r w e = record { said = s; reader = r; window = w; table = e }

abbrev pub did : Next → (w e : List ℕ) → Did
did n w e = does (said_by n.answer) n.reader w e

-- "Otherwise the call answers an ask: place (the filled length), room (capacity less filled, at least 1), input
-- offset."
abbrev pub ask_for : Reader → Said
ask_for r = asks r.fill.filled (r.fill.capacity - r.fill.filled) (r.fill.base.0 + r.fill.filled)

abbrev pub asked : Reader → (w e : List ℕ) → Did
asked r w e = does (ask_for r) (with_fill (asking true r.fill) r) w e

-- the values that name a record's place
abbrev pub placed : Reader → List ℕ
placed r = r.mark.line ∷ byte_of r ∷ []

-- a record is given; refusals 3 and 4
abbrev pub given : Reader → (w e : List ℕ) → Did
given r w e = does (gives r.mark.line (byte_of r)) (in_phase phase.Current r) w e

abbrev pub too_long : Reader → (w e : List ℕ) → Did
too_long r w e = does (refuses 3 (placed r)) (in_phase phase.Window r) w e

abbrev pub too_many : Reader → (w e : List ℕ) → Did
too_many r w e = does (refuses 4 (placed r)) (in_phase phase.Table r) w e

-- a search that came to `search` and recorded `count` ends
abbrev pub reached : (search count : ℕ) → Reader → Reader
reached search count r = with_mark (mark_at r.mark.start.0 search count r.mark.line) r

-- "Window full, record unfinished: if it starts at offset above 0, it is moved to 0; bytes behind the moved part
-- stay." Its ends move with it.
abbrev pub moved_to_front : Reader → Reader
moved_to_front r =
    with_fill (slid r.mark.start.0 r.fill)
    (with_mark (mark_at 0 (r.mark.search.0 - r.mark.start.0) r.mark.count r.mark.line) r)

-- "If it starts at 0, the policy names a larger capacity"; refusal 3 where it names none
abbrev pub grows : Option ℕ → Reader → (w e : List ℕ) → Did
grows none r w e = too_long r w e
grows (some c) r w e = asked (with_fill (of_capacity c r.fill) r) w e

unfoldable pub makes_room : Reader → (w e : List ℕ) → Did
unfolding slid slid_window moved_ends widened_to
makes_room r w e =
    cond (ltb 0 r.mark.start.0)
    (asked (moved_to_front r) (slid_window r.mark.start.0 r.fill w) (moved_ends r.mark.count r.mark.start.0 e))
    (grows (widened_to r.fill) r w e)

-- The end closes the last record: its last line ends where the search stopped, on a last `\n` or behind the last
-- byte. Search is put behind the record. Without a slot for that end, refusal 4.
unfoldable pub closed : (at : ℕ) → Reader → (w e : List ℕ) → Did
closed at r w e =
    cond (leb r.slots r.mark.count)
    (too_many (reached at r.mark.count r) w e)
    (given (reached r.fill.filled (suc r.mark.count) r) w (set e r.mark.count at))

-- what follows a search, by where it stopped
abbrev pub stopped : Stop → Reader → (w e : List ℕ) → Did
stopped stop.Record r w e = given r w e
stopped stop.Full r w e = too_many r w e
stopped stop.Filled r w e = cond r.fill.told (closed r.mark.search.0 r w e) (makes_room r w e)

-- A record is searched behind its `>`, from where the last search stopped, in the filled bytes.
abbrev pub searches : Reader → (w e : List ℕ) → Recorded
searches r w e =
    let from = min (max r.mark.search.0 (r.mark.start.0 + 1)) r.fill.filled in
    searched 62 r.slots (drop from (take r.fill.filled w)) from r.mark.count e

-- the promise of such a search
abbrev pub SearchIs : Reader → (w e : List ℕ) → Searched → (e' : List ℕ) → Type 0
SearchIs r w e s e' = record { out = s; ends = e' } ≡ searches r w e

-- what a search and the told end come to: the reader, where it stopped, and the ends
pub record Found : Type 0 where
  pub reader : Reader
  pub stop : Stop
  pub table : List ℕ

abbrev pub found : Reader × Stop → (e : List ℕ) → Found
found p e = record { reader = p.0; stop = p.1; table = e }

-- the told end closes a record that was searched to it; without a slot for its last end, the table is full
abbrev pub closed_to : Stop → Reader → (e : List ℕ) → Found
closed_to stop.Record r e = record { reader = r; stop = stop.Record; table = e }
closed_to stop.Full r e = record { reader = r; stop = stop.Full; table = e }
closed_to stop.Filled r e =
    cond r.fill.told
    (cond (leb r.slots r.mark.count)
    (record { reader = r; stop = stop.Full; table = e })
    (record {
      reader = reached r.fill.filled (suc r.mark.count) r;
      stop = stop.Record;
      table = set e r.mark.count r.mark.search.0;
    }))
    (record { reader = r; stop = stop.Filled; table = e })

unfoldable pub found_in : Reader → (w e : List ℕ) → Found
unfolding searched
found_in r w e = let s = searches r w e in closed_to s.out.stop (reached s.out.at s.out.count r) s.ends

-- Where the input has ended and nothing of a record is there, that is the end.
unfoldable pub hunted : Reader → (w e : List ℕ) → Did
unfolding searched closed makes_room
hunted r w e =
    let s = searches r w e in
    cond (r.fill.told && eqb r.mark.start.0 r.fill.filled)
    (does ends (in_phase phase.Over r) w e)
    (stopped s.out.stop (reached s.out.at s.out.count r) w s.ends)

-- a record that begins at a place of the window, on a line
abbrev pub begins_at : (start line : ℕ) → Reader → Reader
begins_at start line r = in_phase phase.Searching (with_mark (mark_at start start 0 line) r)

-- The lead, in a window that is full or at the told end: the blank lines from the start on are passed. "If nothing
-- else follows, there are no records"; "Window full of blank lead: all is dropped but an unfinished last `\r`, moved
-- to 0"; "The first other line must begin with `>`; otherwise refusal 2 with its true line number and its first
-- byte".
abbrev pub lead_dropped : Blank → Reader → Reader
lead_dropped b r = with_fill (slid b.at r.fill) (with_mark (mark_at 0 0 0 (r.mark.line + b.lines)) r)

-- what is known of a lead: it lies in the filled bytes, has no more lines than bytes, and where it is decided a byte
-- stands behind it
pub record LeadIn (b : Blank) (r : Reader) : Type 0 where
  pub at_start : r.mark.start.0 ≤ b.at
  pub at_filled : b.at ≤ r.fill.filled
  pub lines_few : b.lines ≤ b.at - r.mark.start.0
  pub decided : b.undecided ≡ false → b.at < r.fill.filled

abbrev pub lead_on : Blank → Reader → (w e : List ℕ) → Did
lead_on b r w e =
    cond r.fill.told
    (does ends (in_phase phase.Over r) w e)
    (asked (lead_dropped b r) (slid_window b.at r.fill w) e)

abbrev pub lead_found : Blank → Reader → (w e : List ℕ) → Did
lead_found b r w e =
    let first = get_or w b.at 0 in
    cond (eqb first 62)
    (hunted (begins_at b.at (r.mark.line + b.lines) r) w e)
    (does (refuses 2 ((r.mark.line + b.lines) ∷ first ∷ [])) (in_phase phase.Over r) w e)

unfoldable pub led_to : Blank → Reader → (w e : List ℕ) → Did
unfolding slid slid_window hunted
led_to b r w e = cond b.undecided (lead_on b r w e) (lead_found b r w e)

unfoldable pub led : Reader → (w e : List ℕ) → Did
unfolding lead_at led_to
led r w e = led_to (lead_at (drop r.mark.start.0 (take r.fill.filled w)) r.mark.start.0 0) r w e

-- after a seek: "no `>` there, or the end" is refusal 5, which lasts
unfoldable pub sought_at : Reader → (w e : List ℕ) → Did
unfolding hunted
sought_at r w e =
    cond (ltb r.mark.start.0 r.fill.filled && eqb (get_or w r.mark.start.0 0) 62)
    (hunted (begins_at r.mark.start.0 r.mark.line r) w e)
    (does (refuses 5 []) (in_phase phase.Astray r) w e)

-- A record is searched on; the search uses the ends recorded so far. Where a set ended before the record, it is shown
-- no longer, unless its ends are refused.
unfoldable pub searched_on : Reader → (w e : List ℕ) → Did
unfolding ends_rise hunted
searched_on r w e = cond (ends_rise r e) (hunted (in_phase phase.Searching r) w e) (does (refuses 11 []) r w e)

abbrev pub onward : Reader → (w e : List ℕ) → Did
onward r w e = cond (ready r.fill) (searched_on r w e) (asked (in_phase phase.Searching r) w e)

-- behind a current record the next one begins where the search stopped, on the line behind its lines
abbrev pub passed : Reader → Reader
passed r = begins_at r.mark.search.0 (r.mark.line + r.mark.count) r

-- "A record is searched only when the window is filled to its capacity or the end was told."
abbrev pub when_ready : (Reader → List ℕ → List ℕ → Did) → Reader → (w e : List ℕ) → Did
when_ready f r w e = cond (ready r.fill) (f r w e) (asked r w e)

unfoldable pub behind : Reader → (w e : List ℕ) → Did
unfolding hunted
behind r w e =
    cond (r.fill.told && eqb r.mark.search.0 r.fill.filled)
    (does ends (in_phase phase.Ended r) w e)
    (when_ready hunted (passed r) w e)

-- A read by the phase, no ask being open.
abbrev pub read_in : Phase → Reader → (w e : List ℕ) → Did
read_in phase.Lead r w e = when_ready led r w e
read_in phase.Sought r w e = when_ready sought_at r w e
read_in phase.Searching r w e = onward r w e
read_in phase.Current r w e = behind r w e
read_in phase.Ended r w e = does ends r w e
read_in phase.Over r w e = does ends r w e
read_in phase.Window r w e = does (refuses 3 (placed r)) r w e
read_in phase.Table r w e = does (refuses 4 (placed r)) r w e
read_in phase.Astray r w e = does (refuses 5 []) r w e
read_in phase.Ahead r w e = onward r w e

-- "A read call without a report repeats the same ask and changes nothing"; refusals 3 and 4 come before it.
abbrev pub lasts : Phase → Bool
lasts phase.Lead = false
lasts phase.Sought = false
lasts phase.Searching = false
lasts phase.Current = false
lasts phase.Ended = false
lasts phase.Over = false
lasts phase.Window = true
lasts phase.Table = true
lasts phase.Astray = false
lasts phase.Ahead = false

unfoldable pub read_of : Reader → (w e : List ℕ) → Did
unfolding sane lent_as led sought_at searched_on behind
read_of r w e =
    let repeats = not (lasts r.phase) && r.fill.asking in
    cond (sane r && lent_as r (length w) (length e))
    (cond repeats (does (ask_for r) r w e) (read_in r.phase r w e))
    (does (refuses 11 []) r w e)

-- the promise of `next`
abbrev pub NextIs : Reader → (w e : List ℕ) → Next → (w' e' : List ℕ) → Type 0
NextIs r w e n w' e' = did n w' e' ≡ read_of r w e
