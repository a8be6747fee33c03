-- Laws of moving: what is left within the bounds. Assumes nothing.
use Prim.Native.Nat.{ℕ, ◌-◌, ◌≤◌}
use mathlib.Core.List.{List, ◌++◌, map}
use mathlib.Core.Path.{◌≡◌}
use lib.ListN.{length, take, drop}
use borrow.Author.Tests.{le-leb}
use Rattle.scan.specs.Move.{moved_down, moved_ends}

-- within the bounds the part stands at the front, and what was behind it there stays
pub moved-down-within :
    (from to : ℕ) (w : List ℕ) →
    from ≤ to →
    to ≤ length w →
    moved_down from to w ≡ take (to - from) (drop from w) ++ drop (to - from) w
unfolding moved_down
moved-down-within from to w h k = rw (le-leb from to h, le-leb to (length w) k)

-- the same of the ends
pub moved-ends-within :
    (count by : ℕ) (ends : List ℕ) →
    count ≤ length ends →
    moved_ends count by ends ≡ map (λ (e : ℕ). e - by) (take count ends) ++ drop count ends
unfolding moved_ends
moved-ends-within count by ends h = rw (le-leb count (length ends) h)
