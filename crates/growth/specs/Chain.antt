-- The chain of capacities from a present one, each the growth of the one before (01: "The largest reachable capacity is the last of this
-- chain"). Growth rises and stays in the window, so a chain in a window of W bytes has at most W steps: they bound the recursion.
-- Assumes nothing.
use Rattle.std.specs.Prelude.{ℕ, zero, suc, ◌<◌, List, [], ◌∷◌}
use Rattle.std.proofs.Math.Option.{none, some}
use Rattle.growth.specs.Growth.{grown}
use Rattle.growth.specs.declared.Policy.{Policy}

-- the capacities from c on, in at most `steps` steps
unfoldable pub chain_in : Policy → (window steps c : ℕ) → List ℕ
unfolding grown
chain_in p window zero c = c ∷ []
chain_in p window (suc steps) c = elim (grown p c window) [ none ↦ c ∷ [] | some d ↦ c ∷ chain_in p window steps d ]

unfoldable pub chain : Policy → (window c : ℕ) → List ℕ
unfolding chain_in
chain p window c = chain_in p window window c

-- the last of c and some capacities after it
abbrev pub last_of : ℕ → List ℕ → ℕ
last_of c [] = c
last_of c (d ∷ ds) = last_of d ds

-- the largest capacity that is reachable from c
unfoldable pub largest : Policy → (window c : ℕ) → ℕ
unfolding chain
largest p window c = last_of c (chain p window c)

-- c below the first of some capacities
abbrev pub Below : ℕ → List ℕ → Type 0
Below c [] = Unit {0}
Below c (d ∷ ds) = c < d

-- each capacity below the next one
abbrev pub Rising : List ℕ → Type 0
Rising [] = Unit {0}
Rising (c ∷ cs) = Below c cs × Rising cs
