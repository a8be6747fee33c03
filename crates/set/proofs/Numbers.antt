-- What is known where a set has a record of a number: its filled bytes lie in those that are lent, and its position is
-- that of its place in the input; and where it has none. Assumes nothing.
use Prim.Native.Nat.{ℕ, ◌≤◌}
use mathlib.Core.Bool.{true}
use mathlib.Core.List.{List}
use mathlib.Core.Path.{◌≡◌}
use lib.ListN.{length}
use borrow.Author.Tests.{le-ltb}
use native.Mathlib.Omega.{arith}
use Rattle.std.proofs.lemmas.Grind.{common_steps}
use Rattle.reader.specs.Calls.{misplaced, at}
use Rattle.reader.proofs.CallLaws.{Placed}
use Rattle.set.specs.declared.state.Set.{Set}
use Rattle.set.specs.Set.{held, missing, sound, record_of}
use Rattle.set.specs.Record.{placed}

pub filled-inside :
    (s : Set) (bytes : ℕ) (marks : List ℕ) (ends i start filled from to : ℕ) →
    record_of s bytes marks ends i ≡ held start filled from to → filled ≤ bytes
unfolding record_of sound
filled-inside s bytes marks ends i start filled from to e = grind (arith, common_steps)

pub placed_is : (line byte : ℕ) → Placed line byte → placed line byte ≡ at line byte
unfolding placed misplaced
placed_is line byte p = grind (arith, common_steps)

-- A number that is not below the set's count is refused with 7.
pub record-none :
    (s : Set) (bytes : ℕ) (marks : List ℕ) (ends i : ℕ) →
    sound s bytes (length marks) ≡ true → s.count ≤ i → record_of s bytes marks ends i ≡ missing 7
unfolding record_of
record-none s bytes marks ends i e h = rw (e, le-ltb i s.count h)
