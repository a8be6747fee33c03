-- The fill of a window (01, "The window and its refills"): what it holds, what is asked for, and what a report, a slide and a growth leave.
-- Assumes nothing.
use Rattle.std.specs.Prelude.{ℕ, ◌+◌, ◌-◌, ◌^◌, ◌≤◌, ◌<◌, min, Bool, true, false, cond, not, ◌&&◌, ◌||◌, List, ◌≡◌, eqb, ltb, leb}
use Rattle.std.specs.Prelude as rattle
use Rattle.std.proofs.Math.Option.{Option, none, some}
use Rattle.growth.specs.declared.Policy.{Policy}
use Rattle.growth.specs.Growth.{grown, says}
use Rattle.scan.specs.Move.{moved_down}
use Rattle.window.specs.declared.fill.Fill.{Fill}
use Rattle.window.specs.declared.fill.Ask.{Ask}
use Rattle.window.specs.Offset.{window_at, input_at}

-- the most bytes that an input has
abbrev pub most : ℕ
most = 2 ^ 62

-- Nothing is filled, nothing told, nothing asked.
abbrev pub unfilled : (capacity : ℕ) → Policy → (lent : ℕ) → Fill
unfilled capacity policy lent =
    record { capacity = capacity; filled = 0; base = input_at 0; told = false; asking = false; lent = lent; policy = policy }

-- The window's part of refusal 11, but for the length that is lent now: one fact for each phrase of the table.
pub record Sound (f : Fill) : Type 0 where
  pub filled_fits : f.filled ≤ f.capacity
  pub capacity_fits : f.capacity ≤ f.lent
  pub ask_has_room : f.asking ≡ true → f.filled < f.capacity
  pub input_fits : f.base.0 + f.filled ≤ most

-- the same as a test
unfoldable pub sound : Fill → Bool
sound f =
    leb f.filled f.capacity
    && leb f.capacity f.lent
    && (not f.asking || ltb f.filled f.capacity)
    && leb (f.base.0 + f.filled) most

-- "the window is filled to its capacity or the end was told"
abbrev pub ready : Fill → Bool
ready f = f.told || eqb f.filled f.capacity

-- an ask: place (the filled length), room (capacity less filled), input offset
abbrev pub ask_of : Fill → Ask
ask_of f =
    record {
      place = window_at f.filled;
      room = f.capacity - f.filled;
      offset = input_at (min (f.base.0 + f.filled) (2 ^ 64 - 1));
    }

-- an ask is open, or none is
abbrev pub asking : Bool → Fill → Fill
asking b f =
    record { capacity = f.capacity; filled = f.filled; base = f.base; told = f.told; asking = b; lent = f.lent; policy = f.policy }

-- n bytes more
abbrev pub took : (n : ℕ) → Fill → Fill
took n f =
    record { capacity = f.capacity; filled = f.filled + n; base = f.base; told = f.told; asking = false; lent = f.lent; policy = f.policy }

-- n bytes have room
abbrev pub HasRoom : (n : ℕ) → Fill → Type 0
HasRoom n f = f.filled + n ≤ f.capacity

-- the end is told
abbrev pub ended : Fill → Fill
ended f =
    record { capacity = f.capacity; filled = f.filled; base = f.base; told = true; asking = false; lent = f.lent; policy = f.policy }

-- 6: no ask open, count above the room, or input past 2^62
unfoldable pub unasked : (count : ℕ) → Fill → Bool
unasked count f = not f.asking || ltb (f.capacity - f.filled) count || ltb most (f.base.0 + f.filled + count)

-- a report: 0 means the end; none where it is refused
unfoldable pub reported : (count : ℕ) → Fill → Option Fill
unfolding unasked
reported count f = cond (unasked count f) none (some (cond (eqb count 0) (ended f) (took count f)))

-- the first n bytes dropped; outside its bounds a slide changes nothing
abbrev pub dropped : (n : ℕ) → Fill → Fill
dropped n f =
    record { capacity = f.capacity; filled = f.filled - n; base = input_at (f.base.0 + n); told = f.told; asking = f.asking; lent = f.lent; policy = f.policy }

abbrev pub slides : (n : ℕ) → Fill → Bool
slides n f = leb n f.filled && leb (f.base.0 + f.filled) most

unfoldable pub slid : (n : ℕ) → Fill → Fill
slid n f = cond (slides n f) (dropped n f) f

unfoldable pub slid_window : (n : ℕ) → Fill → List ℕ → List ℕ
unfolding moved_down
slid_window n f w = cond (slides n f) (moved_down n f.filled w) w

-- a larger capacity
abbrev pub of_capacity : (c : ℕ) → Fill → Fill
of_capacity c f =
    record { capacity = c; filled = f.filled; base = f.base; told = f.told; asking = f.asking; lent = f.lent; policy = f.policy }

-- "the policy names a larger capacity", or none
unfoldable pub widened_to : Fill → Option ℕ
unfolding grown
widened_to f = grown f.policy f.capacity f.lent

-- a place of the input that the window holds
abbrev pub holds : (at : ℕ) → Fill → Bool
holds at f = leb f.base.0 at && ltb at (f.base.0 + f.filled)

-- emptied, to be filled from a place of the input on; the end is forgotten
abbrev pub emptied : (at : ℕ) → Fill → Fill
emptied at f =
    record { capacity = f.capacity; filled = 0; base = input_at at; told = false; asking = false; lent = f.lent; policy = f.policy }

-- a fill of the capacity that a policy names, if it names one
abbrev pub wider : Option ℕ → Fill → Option Fill
wider none f = none
wider (some c) f = some (of_capacity c f)

-- the promises
abbrev pub New : ℕ → Policy → ℕ → (r : Fill) → Type 0
New capacity policy lent r = r ≡ unfilled capacity policy lent

abbrev pub IsSound : Fill → (r : Bool) → Type 0
IsSound f r = r ≡ sound f

abbrev pub IsReady : Fill → (r : Bool) → Type 0
IsReady f r = r ≡ ready f

abbrev pub AskFor : Fill → (r : Ask) → Type 0
AskFor f r = r ≡ ask_of f

abbrev pub Asking : Bool → Fill → (r : Fill) → Type 0
Asking b f r = r ≡ asking b f

abbrev pub Reports : (count : ℕ) → Fill → (r : rattle.Option Fill) → Type 0
Reports count f r = says r ≡ reported count f

abbrev pub Slide : (n : ℕ) → Fill → (w : List ℕ) (r : Fill) (exit : List ℕ) → Type 0
Slide n f w r exit = (r ≡ slid n f) × (exit ≡ slid_window n f w)

abbrev pub Grow : Fill → (r : rattle.Option Fill) → Type 0
Grow f r = says r ≡ wider (widened_to f) f

abbrev pub Holds : (at : ℕ) → Fill → (r : Bool) → Type 0
Holds at f r = r ≡ holds at f

abbrev pub EmptyAt : (at : ℕ) → Fill → (r : Fill) → Type 0
EmptyAt at f r = r ≡ emptied at f
