-- The state of a reader, and refusal 11 (01, "Refusal numbers"). Assumes nothing.
use Rattle.std.specs.Prelude.{ℕ, ◌+◌, ◌-◌, ◌≤◌, Bool, true, false, not, ◌&&◌, ◌||◌, List, [], ◌∷◌, ◌≡◌, length, take, eqb, ltb, leb}
use Rattle.window.specs.Fill.{Sound, sound}
use Rattle.window.specs.Offset.{window_at, input_at}
use Rattle.window.specs.declared.fill.Fill.{Fill}
use Rattle.reader.specs.declared.state.Reader.{Reader}
use Rattle.reader.specs.declared.state.Mark.{Mark}
use Rattle.reader.specs.declared.state.Phase.{Phase}
use Rattle.reader.specs.declared.state.Phase.TheVariants as phase
use Rattle.reader.specs.declared.state.Position.{Position}

-- the byte of the record: the window's place of the input, and the record's in the window
abbrev pub byte_of : Reader → ℕ
byte_of r = r.fill.base.0 + r.mark.start.0

abbrev pub position_of : Reader → Position
position_of r = record { line = r.mark.line; byte = input_at (byte_of r) }

-- the reader with another fill, mark or phase
abbrev pub with_fill : Fill → Reader → Reader
with_fill f r = record { fill = f; mark = r.mark; slots = r.slots; phase = r.phase }

abbrev pub with_mark : Mark → Reader → Reader
with_mark m r = record { fill = r.fill; mark = m; slots = r.slots; phase = r.phase }

abbrev pub in_phase : Phase → Reader → Reader
in_phase p r = record { fill = r.fill; mark = r.mark; slots = r.slots; phase = p }

abbrev pub mark_at : (start search count line : ℕ) → Mark
mark_at start search count line =
    record { start = window_at start; search = window_at search; count = count; line = line }

abbrev pub is_current : Phase → Bool
is_current phase.Lead = false
is_current phase.Sought = false
is_current phase.Searching = false
is_current phase.Current = true
is_current phase.Ended = false
is_current phase.Over = false
is_current phase.Window = false
is_current phase.Table = false
is_current phase.Astray = false
is_current phase.Ahead = false

-- Refusal 11, but for the lent lengths and the ends: one fact for each phrase of the table.
pub record Sane (r : Reader) : Type 0 where
  pub capacity_least : 3 ≤ r.fill.capacity
  pub window_sound : Sound r.fill
  pub start_search : r.mark.start.0 ≤ r.mark.search.0
  pub search_filled : r.mark.search.0 ≤ r.fill.filled
  pub count_slots : r.mark.count ≤ r.slots
  pub count_search : r.mark.count ≤ r.mark.search.0 - r.mark.start.0
  pub current_has_end : is_current r.phase ≡ true → 1 ≤ r.mark.count
  pub line_least : 1 ≤ r.mark.line
  pub line_most : r.mark.line ≤ byte_of r + 1

-- the same as a test
unfoldable pub sane : Reader → Bool
unfolding sound
sane r =
    leb 3 r.fill.capacity
    && sound r.fill
    && leb r.mark.start.0 r.mark.search.0
    && leb r.mark.search.0 r.fill.filled
    && leb r.mark.count r.slots
    && leb r.mark.count (r.mark.search.0 - r.mark.start.0)
    && (not (is_current r.phase) || leb 1 r.mark.count)
    && leb 1 r.mark.line
    && leb r.mark.line (byte_of r + 1)

-- "a lent length differs from setup"
unfoldable pub lent_as : Reader → (window ends : ℕ) → Bool
lent_as r window ends = eqb r.fill.lent window && eqb r.slots ends

-- ends that rise between lo and hi: lo < e0 < e1 < .. ≤ hi
unfoldable pub rising : (lo : ℕ) → List ℕ → (hi : ℕ) → Bool
rising lo [] hi = true
rising lo (e ∷ es) hi = ltb lo e && leb e hi && rising e es hi

-- the recorded ends rise between start and filled
unfoldable pub ends_rise : Reader → (ends : List ℕ) → Bool
unfolding rising
ends_rise r ends = rising r.mark.start.0 (take r.mark.count ends) r.fill.filled

-- a reader that passes refusal 11, but for its ends, over the lent window and table
pub record Good (r : Reader) (w e : List ℕ) : Type 0 where
  pub is-sane : Sane r
  pub window_lent : r.fill.lent ≡ length w
  pub table_lent : r.slots ≡ length e
