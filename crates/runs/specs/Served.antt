-- Demand 3 is not empty: for every input up to 2^62 bytes, every accepted setup and every choice of admissible counts there is a run that ends with
-- the end or a refusal, and hears all that was due. Assumes nothing.
use Rattle.std.specs.Prelude.{ℕ, ◌≤◌, max, min, List, [], ◌∷◌, ◌≡◌, length, drop}
use Rattle.growth.specs.declared.Policy.{Policy}
use Rattle.growth.specs.Chain.{largest}
use Rattle.window.specs.Fill.{most}
use Rattle.reader.specs.Read.{asks, gives, ends, refuses}
use Rattle.runs.specs.Run.{State, Made, Event, read, collected, brought, sought, refused, Run}
use Rattle.runs.specs.Demand.{front, answers, due_from}

-- The count that a caller brings who wishes for some: at least 1, no more than the room and the bytes left; so 0 at the input's end only. Every
-- admissible count is brought by wishing for it.
abbrev pub count : (wish room left : ℕ) → ℕ
count wish room left = min (max wish 1) (min room left)

-- the room and the offset of the last ask
abbrev pub room_of : List Event → ℕ
room_of [] = 0
room_of (read (asks p m o) ∷ h) = m
room_of (read (gives l b) ∷ h) = 0
room_of (read ends ∷ h) = 0
room_of (read (refuses n vs) ∷ h) = 0
room_of (collected short a ∷ h) = 0
room_of (brought n ∷ h) = 0
room_of (sought l b ∷ h) = 0
room_of (refused n ∷ h) = 0

abbrev pub offset_of : List Event → ℕ
offset_of [] = 0
offset_of (read (asks p m o) ∷ h) = o
offset_of (read (gives l b) ∷ h) = 0
offset_of (read ends ∷ h) = 0
offset_of (read (refuses n vs) ∷ h) = 0
offset_of (collected short a ∷ h) = 0
offset_of (brought n ∷ h) = 0
offset_of (sought l b ∷ h) = 0
offset_of (refused n ∷ h) = 0

-- each ask was answered by the count that the caller's choice makes of what was called and heard so far; nothing was sought or refused
abbrev pub Follows : (X : List ℕ) (wish : List Event → ℕ) → List Event → Type 0
Follows X wish [] = Unit {0}
Follows X wish (read a ∷ h) = Follows X wish h
Follows X wish (collected short a ∷ h) = ⊥
Follows X wish (brought n ∷ h) = (n ≡ count (wish h) (room_of h) (length (drop (offset_of h) X))) × Follows X wish h
Follows X wish (sought l b ∷ h) = ⊥
Follows X wish (refused n ∷ h) = ⊥

-- the last that was heard is the end or a refusal
abbrev pub Closed : List Event → Type 0
Closed [] = ⊥
Closed (read (asks p m o) ∷ h) = ⊥
Closed (read (gives l b) ∷ h) = ⊥
Closed (read ends ∷ h) = Unit {0}
Closed (read (refuses n vs) ∷ h) = Unit {0}
Closed (collected short a ∷ h) = ⊥
Closed (brought n ∷ h) = ⊥
Closed (sought l b ∷ h) = ⊥
Closed (refused n ∷ h) = ⊥

-- such a run; by demand 3 its answers are those due, one by one
pub record Serves (X : List ℕ) (C T : ℕ) (wish : List Event → ℕ) (start : State) : Type 0 where
  pub history : List Event
  pub last : State
  pub is_run : Run X start history last
  pub follows : Follows X wish history
  pub all_heard : answers history ≡ length (due_from X C T front)
  pub closed : Closed history

abbrev pub Served : Type 0
Served =
    (X : List ℕ) → length X ≤ most →
    (capacity : ℕ) (policy : Policy) (start : State) → Made capacity policy start →
    (wish : List Event → ℕ) →
    Serves X (largest policy (length start.window) capacity) (length start.table) wish start
