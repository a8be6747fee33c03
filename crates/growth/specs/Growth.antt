-- Growth (01): `StdPolicy` doubles below 8,388,608 and adds 8,388,608 from there; `DoubleUntil(n)` doubles below n, else adds n;
-- `DoubleUntilLimited` does that and refuses above its limit. Sums are exact; a size above the window's length, or not above the present
-- one, is no growth. Assumes nothing.
use Rattle.std.specs.Prelude.{ℕ, ◌+◌, cond, ◌&&◌, ◌≡◌, eqb, ltb, leb, Some, None}
use Rattle.std.specs.Prelude as rattle
use Rattle.std.proofs.Math.Option.{Option, none, some}
use Rattle.growth.specs.declared.Policy.{Policy}
use Rattle.growth.specs.declared.Policy.TheVariants.{StdPolicy, DoubleUntil, DoubleUntilLimited}

-- doubles below n, else adds n
unfoldable pub doubled : (n size : ℕ) → ℕ
doubled n size = cond (ltb size n) (size + size) (size + n)

-- the size that a policy names, if it names one
unfoldable pub named : Policy → (size : ℕ) → Option ℕ
unfolding doubled
named StdPolicy size = some (doubled 8388608 size)
named (DoubleUntil n) size = some (doubled n size)
named (DoubleUntilLimited n limit) size = cond (leb (doubled n size) limit) (some (doubled n size)) none

-- a size above the window's length, or not above the present one, is no growth
unfoldable pub taken : (size window : ℕ) → Option ℕ → Option ℕ
taken size window none = none
taken size window (some next) = cond (ltb size next && leb next window) (some next) none

unfoldable pub grown : Policy → (size window : ℕ) → Option ℕ
unfolding named taken
grown p size window = taken size window (named p size)

-- the policy of a kind: 0, 1 and 2 in 01's order, and none else
unfoldable pub policy_of : (kind n limit : ℕ) → Option Policy
policy_of kind n limit =
    cond (eqb kind 0) (some StdPolicy) (cond (eqb kind 1) (some (DoubleUntil n)) (cond (eqb kind 2) (some (DoubleUntilLimited n limit)) none))

-- what an answer of the code says: its value, or none
abbrev pub says : {A : Type 0} → rattle.Option A → Option A
says (Some a) = some a
says None = none

-- the promises of `grow_to` and of `of_kind`
abbrev pub GrowTo : Policy → (size window : ℕ) → rattle.Option ℕ → Type 0
GrowTo p size window r = says r ≡ grown p size window

abbrev pub OfKind : (kind n limit : ℕ) → rattle.Option Policy → Type 0
OfKind kind n limit r = says r ≡ policy_of kind n limit
