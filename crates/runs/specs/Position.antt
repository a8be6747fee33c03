-- `position` by what was called and heard (01, "The window and its refills"): it gives the current or refused record; after the end, the last
-- record given; after a set, the next record, none at the end; none before the first record, after a seek, after refusal 2 or a read's 5, and from an ask until a read answers otherwise.
-- A call that is refused doesn't end that. Assumes nothing.
use Rattle.std.specs.Prelude.{ℕ, Bool, cond, ◌&&◌, ◌||◌, ◌≡◌, length, eqb}
use mathlib.Core.List.{List, [], ◌∷◌}
use Rattle.growth.specs.Chain.{largest}
use Rattle.meaning.specs.Input.{Rec}
use Rattle.meaning.specs.Due as meant
use Rattle.growth.specs.declared.Policy.{Policy}
use Rattle.reader.specs.Read.{asks, gives, ends, refuses}
use Rattle.reader.specs.Calls.{Place, at, nowhere, place_of}
use Rattle.runs.specs.Run.{State, Made, Event, read, collected, brought, sought, refused, Run}
use Rattle.runs.specs.Demand.{origin, answers, due_from, nth}
use Rattle.set.specs.Read as set

-- the last record given since the last seek
unfoldable pub last_given : List Event → Place
last_given [] = nowhere
last_given (read (asks p m o) ∷ h) = last_given h
last_given (read (gives l b) ∷ h) = at l b
last_given (read ends ∷ h) = last_given h
last_given (read (refuses n vs) ∷ h) = last_given h
last_given (collected short (set.asks p m o) ∷ h) = last_given h
last_given (collected short (set.holds k filled) ∷ h) = nowhere
last_given (collected short set.ends ∷ h) = last_given h
last_given (collected short (set.refuses n vs) ∷ h) = last_given h
last_given (brought n ∷ h) = last_given h
last_given (sought l b ∷ h) = nowhere
last_given (refused n ∷ h) = last_given h

-- the record that a refusal names: 3 and 4 name one
abbrev pub named : (number : ℕ) → (values : List ℕ) → Place
named number [] = nowhere
named number (l ∷ []) = nowhere
named number (l ∷ b ∷ []) = cond (eqb number 3 || eqb number 4) (at l b) nowhere
named number (l ∷ b ∷ c ∷ vs) = nowhere

-- the record that is due next, given or refused
abbrev pub place_due : meant.Said Rec → Place
place_due (meant.gives r) = at r.line r.byte
place_due meant.ends = nowhere
place_due (meant.refuses n vs) = named n vs

module _ (X : List ℕ) (C T : ℕ) where
  abbrev pub next_record : List Event → Place
  next_record h = place_due (nth (answers h) (due_from X C T (origin h)))

  -- 12 by its tables names the next record; 12 by short bytes and 11 change nothing
  abbrev pub by_set : (short : Bool) (number : ℕ) (values : List ℕ) (next before : Place) → Place
  by_set short number values next before =
      cond (eqb number 11 || (eqb number 12 && short)) before (cond (eqb number 12) next (named number values))

  unfoldable pub position_after : List Event → Place
  unfolding last_given answers origin due_from nth
  position_after [] = nowhere
  position_after (read (asks p m o) ∷ h) = nowhere
  position_after (read (gives l b) ∷ h) = at l b
  position_after (read ends ∷ h) = last_given h
  position_after (read (refuses n vs) ∷ h) = named n vs
  position_after (collected short (set.asks p m o) ∷ h) = nowhere
  position_after (collected short (set.holds k filled) ∷ h) = next_record (collected short (set.holds k filled) ∷ h)
  position_after (collected short set.ends ∷ h) = last_given h
  position_after (collected short (set.refuses n vs) ∷ h) = by_set short n vs (next_record h) (position_after h)
  position_after (brought n ∷ h) = position_after h
  position_after (sought l b ∷ h) = nowhere
  position_after (refused n ∷ h) = position_after h

-- in every run of a made reader
abbrev pub Positions : Type 0
Positions =
    (X : List ℕ) (capacity : ℕ) (policy : Policy) (start : State) → Made capacity policy start →
    (h : List Event) (s : State) → Run X start h s →
    place_of s.reader ≡ position_after X (largest policy (length start.window) capacity) (length start.table) h
