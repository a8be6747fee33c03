-- The loop of `move_ends`: the ends before the present one are moved.
use Rattle.std.proofs.Common.{◌≡◌, ℕ, ◌-◌, ◌++◌}
use Rattle.std.specs.Prelude.{map, take, drop}
use Rattle.scan.proofs.moves.move_ends.Given as goal

abbrev pub invariant-loop-end : goal.invariant-loop-end
invariant-loop-end l = let ends = l.initial.end-items in l.end-items ≡ map (λ (e : ℕ). e - l.by) (take l.end-index ends) ++ drop l.end-index ends
