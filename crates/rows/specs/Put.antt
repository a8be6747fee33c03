-- What a cursor asks and leaves: a text put into its output from its place on; and the test of the room for it. Assumes nothing.
use Rattle.std.specs.Prelude.{List, ℕ, ◌+◌, ◌≤◌, ◌<◌, ◌≡◌, length, Result, Ok, Err}
use Rattle.write.specs.Put.{Fits, Put}
use Rattle.rows.specs.declared.cursor.Cursor.{Cursor}
use Rattle.rows.specs.declared.room.Room.{Room}

-- there is room for the text
pub record Holds (text : List ℕ) (c : Cursor) : Type 0 where
  pub fits : Fits c.at text c.out.now

-- the text stands there, the place is behind it, and the output is the same slice
pub record PutOn (text : List ℕ) (old new : Cursor) : Type 0 where
  pub put : Put old.at text old.out.now new.at new.out.now
  pub same : new.out.ghost_name ≡ old.out.ghost_name

-- the test of the room: it passes, or refuses with the need
abbrev pub HasRoom : (need : ℕ) (out : List ℕ) (at : ℕ) → Result (Unit {0}) Room → Type 0
HasRoom need out at (Ok r) = at + need ≤ length out
HasRoom need out at (Err e) = (length out < at + need) × (e ≡ record { 0 = need })
