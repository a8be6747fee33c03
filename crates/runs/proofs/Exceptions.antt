-- States that pass 11 and whose first answer is not judged as the bytes stand: why specs/Standing.antt asks `Plain` of a state, and that its input
-- ends where the end was told. Each is a state, an input and a run. Assumes nothing.
use Prim.Native.Nat.{ℕ, ◌+◌}
use native.Mathlib.Omega.{arith}
use mathlib.Core.Bool.{Bool, true, false}
use mathlib.Core.List.{List, [], ◌∷◌, ◌++◌}
use mathlib.Core.Path.{◌≡◌, refl, ap}
use lib.ListN.{length, take, drop}
use Rattle.growth.specs.declared.Policy.TheVariants.{StdPolicy}
use Rattle.growth.specs.Chain.{largest}
use Rattle.meaning.specs.Ascii.{ascii}
use Rattle.window.specs.declared.fill.Fill.{Fill}
use Rattle.window.specs.Offset.{input_at}
use Rattle.reader.specs.declared.state.Mark.{Mark}
use Rattle.reader.specs.declared.state.Phase.{Phase}
use Rattle.reader.specs.declared.state.Phase.TheVariants as phase
use Rattle.reader.specs.State.{sane, lent_as, ends_rise, mark_at}
use Rattle.reader.specs.Read.{Said, asks, gives, ends, refuses, read_of}
use Rattle.reader.specs.Calls.{report_of}
use Rattle.runs.specs.Run.{State, state, reading, Event, Run, begun, by_read, by_report}
use Rattle.runs.specs.Standing.{judged_at, standing_in, OnlyAsks}

-- what is due in a state, as it stands
abbrev pub stands_in : (X : List ℕ) → State → Said
stands_in X s =
    let r = s.reader in
    standing_in r.phase (largest r.fill.policy r.fill.lent r.fill.capacity) r (drop r.fill.base.0 X)

-- the window holds the bytes of X, as far as it is filled
abbrev pub Text : (X : List ℕ) → State → Type 0
Text X s =
    let f = s.reader.fill in
    drop f.base.0 X ≡ take f.filled s.window ++ drop (f.base.0 + f.filled) X

-- a state that passes 11, ends included, and a run over X in which nothing but asks was heard, up to an answer that is not what stands
pub record Misses (X : List ℕ) (start : State) (heard stands : Said) : Type 0 where
  pub passes : sane start.reader ≡ true
  pub lengths : lent_as start.reader (length start.window) (length start.table) ≡ true
  pub rising : ends_rise start.reader start.table ≡ true
  pub text : Text X start
  pub events : List Event
  pub last : State
  pub run : Run X start events last
  pub only_asks : OnlyAsks events
  pub says : (reading last).said ≡ heard
  pub judged : stands_in X start ≡ stands
  pub differ : heard ≡ stands → ⊥

-- tells answers apart
abbrev number_of : Said → ℕ
number_of (asks p m o) = 0
number_of (gives l b) = 0
number_of ends = 0
number_of (refuses n vs) = n

abbrev fill_of : (capacity filled lent : ℕ) (told asking : Bool) → Fill
fill_of capacity filled lent told asking =
    record { capacity = capacity; filled = filled; base = input_at 0; told = told; asking = asking; lent = lent; policy = StdPolicy }

abbrev state_of : Fill → Mark → Phase → (w e : List ℕ) → State
state_of f m p w e = state (record { fill = f; mark = m; slots = length e; phase = p }) w e

-- The end told while the window is full: a record that fills the window is given, and not refused with 3.
abbrev pub full_at_end : State
unfolding ascii
full_at_end = state_of (fill_of 3 3 3 true false) (mark_at 0 1 0 1) phase.Searching (ascii ">ab") (0 ∷ [])

pub full-at-end : Misses (ascii ">ab") full_at_end (gives 1 0) (refuses 3 (1 ∷ 0 ∷ []))
unfolding ascii full_at_end read_of ends_rise judged_at largest
full-at-end =
    record {
      passes = refl;
      lengths = refl;
      rising = refl;
      text = refl;
      events = [];
      last = full_at_end;
      run = begun;
      only_asks = tt;
      says = refl;
      judged = refl;
      differ = λ is. let z : ◌≡◌ {A = ℕ} 0 3 = ap number_of is in omega arith;
    }

-- A place sought behind a full window: it is refused with 5, though a `>` follows.
abbrev pub sought_behind : State
unfolding ascii
sought_behind = state_of (fill_of 3 3 6 false false) (mark_at 3 3 0 1) phase.Sought (ascii "abc...") (0 ∷ [])

pub sought-behind : Misses (ascii "abc>") sought_behind (refuses 5 []) (gives 1 3)
unfolding ascii sought_behind read_of ends_rise judged_at largest
sought-behind =
    record {
      passes = refl;
      lengths = refl;
      rising = refl;
      text = refl;
      events = [];
      last = sought_behind;
      run = begun;
      only_asks = tt;
      says = refl;
      judged = refl;
      differ = λ is. let z : ◌≡◌ {A = ℕ} 5 0 = ap number_of is in omega arith;
    }

-- An end at the place where the search goes on: it is recorded again, and after the ask the ends no longer rise.
abbrev pub end_at_search : State
unfolding ascii
end_at_search = state_of (fill_of 4 4 8 false false) (mark_at 0 2 1 1) phase.Searching (ascii ">a\nb....") (2 ∷ 0 ∷ 0 ∷ [])

pub end-at-search : Misses (ascii ">a\nb") end_at_search (refuses 11 []) (gives 1 0)
unfolding ascii end_at_search read_of report_of ends_rise judged_at largest
end-at-search =
    record {
      passes = refl;
      lengths = refl;
      rising = refl;
      text = refl;
      events = _;
      last = _;
      run =
          by_report 0 (ascii ">a\nb....") _ _ (by_read _ _ begun) refl
          (record { same_length = refl; before = refl; brought = refl; in_input = omega arith; zero_at_end = λ z. refl });
      only_asks = tt;
      says = refl;
      judged = refl;
      differ = λ is. let z : ◌≡◌ {A = ℕ} 11 0 = ap number_of is in omega arith;
    }

-- The end told while an ask is open, over an input that goes on: the end counts, wherever the bytes brought for the ask end.
abbrev pub told_open : State
unfolding ascii
told_open = state_of (fill_of 3 2 3 true true) (mark_at 0 1 0 1) phase.Searching (ascii ">a.") (0 ∷ 0 ∷ [])

pub told-open : Misses (ascii ">abc") told_open (gives 1 0) (refuses 3 (1 ∷ 0 ∷ []))
unfolding ascii told_open read_of report_of ends_rise judged_at largest
told-open =
    record {
      passes = refl;
      lengths = refl;
      rising = refl;
      text = refl;
      events = _;
      last = _;
      run =
          by_report 1 (ascii ">ab") _ _ (by_read _ _ begun) refl
          (record { same_length = refl; before = refl; brought = refl; in_input = omega arith; zero_at_end = λ z. absurd (omega arith) });
      only_asks = tt;
      says = refl;
      judged = refl;
      differ = λ is. let z : ◌≡◌ {A = ℕ} 0 3 = ap number_of is in omega arith;
    }
