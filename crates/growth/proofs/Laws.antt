-- Laws of growth: what a growth is (other crates know growth by `grown-within` alone), and that a policy without a limit is one whose limit
-- is the window's length. Assumes nothing.
use Prim.Native.Nat.{ℕ, ◌≤◌, ◌<◌}
use mathlib.Core.Option.{some}
use mathlib.Core.Path.{◌≡◌}
use Rattle.std.proofs.Common.{arith}
use Rattle.std.proofs.lemmas.Bool.Decides.{nat_tests}
use Rattle.growth.specs.Growth.{named, taken, grown}
use Rattle.growth.specs.declared.Policy.{Policy}
use Rattle.growth.specs.declared.Policy.TheVariants.{StdPolicy, DoubleUntil, DoubleUntilLimited}

-- a growth rises and stays in the window
pub grown-within : (p : Policy) (c W d : ℕ) → grown p c W ≡ some d → (c < d) × (d ≤ W)
unfolding grown taken
grown-within p c W d e = grind (arith, nat_tests)

-- the window's length as the limit changes nothing: what is above it is no growth anyway
pub std-unlimited : (c W : ℕ) → grown StdPolicy c W ≡ grown (DoubleUntilLimited 8388608 W) c W
unfolding grown named taken
std-unlimited c W = grind (arith, nat_tests)

pub until-unlimited : (n c W : ℕ) → grown (DoubleUntil n) c W ≡ grown (DoubleUntilLimited n W) c W
unfolding grown named taken
until-unlimited n c W = grind (arith, nat_tests)
