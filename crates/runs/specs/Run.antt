-- Runs of a reader (01, "The window and its refills"): reads, reports that bring an input's bytes, and seeks, in any order. What each call
-- answers and leaves is what the contracts of `next`, `report` and `seek` say. Assumes nothing.
use Rattle.std.specs.Prelude.{ℕ, ◌+◌, ◌≤◌, Bool, List, [], ◌∷◌, ◌≡◌, length, take, drop, ltb}
use Rattle.std.proofs.Math.Option.{none, some}
use Rattle.growth.specs.declared.Policy.{Policy}
use Rattle.reader.specs.declared.state.Reader.{Reader}
use Rattle.reader.specs.Read.{Said, Did, read_of}
use Rattle.reader.specs.Calls.{setup_of, report_of, seek_of}
use Rattle.set.specs.declared.state.Set.{Set}
use Rattle.set.specs.Read as set
use Rattle.set.specs.Read.{Called, set_of}

-- a reader with its window and its table
pub record State : Type 0 where
  pub reader : Reader
  pub window : List ℕ
  pub table : List ℕ

abbrev pub state : Reader → (w e : List ℕ) → State
state r w e = record { reader = r; window = w; table = e }

-- a reader that setup made over its window and its table
abbrev pub Made : (capacity : ℕ) → Policy → State → Type 0
Made capacity policy s = setup_of capacity policy (length s.window) (length s.table) ≡ some s.reader

-- what a read says and leaves
abbrev pub reading : State → Did
reading s = read_of s.reader s.window s.table

abbrev pub after_read : State → State
after_read s = state (reading s).reader (reading s).window (reading s).table

-- the input offset that an ask names: that of the first byte which is not in the window
abbrev pub offset : State → ℕ
offset s = s.reader.fill.base.0 + s.reader.fill.filled

-- The caller brings n bytes of the input X from the asked offset on, to the place asked; w is the window then. Zero at the input's end
-- only. What stands behind those bytes is the caller's own affair.
pub record Brings (X : List ℕ) (n : ℕ) (s : State) (w : List ℕ) : Type 0 where
  pub same_length : length w ≡ length s.window
  pub before : take s.reader.fill.filled w ≡ take s.reader.fill.filled s.window
  pub brought : take n (drop s.reader.fill.filled w) ≡ take n (drop (offset s) X)
  pub in_input : n ≤ length (drop (offset s) X)
  pub zero_at_end : n ≡ 0 → drop (offset s) X ≡ []

-- what a set call says and leaves, over a set with its lent bytes and tables
abbrev pub setting : Set → (bytes marks ends : List ℕ) → State → Called
setting t bytes marks ends s = set_of t bytes marks ends s.reader s.window s.table

abbrev pub after_set : Set → (bytes marks ends : List ℕ) → State → State
after_set t bytes marks ends s =
    let c = setting t bytes marks ends s in
    state c.reader c.window c.table

-- what is called and heard: a read and its answer, a set call (whether its bytes were too short) and its answer, a report that is taken, a seek that is
-- accepted, a report or a seek that is refused
pub data Event : Type 0 where
  read : (heard : Said) → Event
  collected : (short : Bool) (heard : set.Said) → Event
  brought : (n : ℕ) → Event
  sought : (line byte : ℕ) → Event
  refused : (number : ℕ) → Event

-- All runs over the input X from a state on: what was called and heard, the latest first, and the state then.
pub data Run (X : List ℕ) (start : State) : List Event → State → Type 0 where
  begun : Run X start [] start
  by_read : (h : List Event) (s : State) → Run X start h s → Run X start (read (reading s).said ∷ h) (after_read s)
  by-set :
      (t : Set) (bytes marks ends : List ℕ) (h : List Event) (s : State) →
      Run X start h s →
      Run X start (collected (ltb (length bytes) (length s.window)) (setting t bytes marks ends s).said ∷ h) (after_set t bytes marks ends s)
  by_report :
      (n : ℕ) (w : List ℕ) (h : List Event) (s : State) →
      Run X start h s →
      (report_of n s.reader).refusal ≡ none →
      Brings X n s w →
      Run X start (brought n ∷ h) (state (report_of n s.reader).reader w s.table)
  by_seek :
      (line byte : ℕ) (h : List Event) (s : State) →
      Run X start h s →
      (seek_of line byte s.reader).refusal ≡ none →
      Run X start (sought line byte ∷ h) (state (seek_of line byte s.reader).reader s.window s.table)
  by_refused_report :
      (n number : ℕ) (h : List Event) (s : State) →
      Run X start h s →
      (report_of n s.reader).refusal ≡ some number →
      Run X start (refused number ∷ h) (state (report_of n s.reader).reader s.window s.table)
  by_refused_seek :
      (line byte number : ℕ) (h : List Event) (s : State) →
      Run X start h s →
      (seek_of line byte s.reader).refusal ≡ some number →
      Run X start (refused number ∷ h) (state (seek_of line byte s.reader).reader s.window s.table)
