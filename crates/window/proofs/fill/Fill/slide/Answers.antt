-- `slide` moves by `move_down` inside its bounds, and answers its own fill outside them. Assumes nothing.
use Rattle.std.proofs.Common.{arith}
use Rattle.std.proofs.lemmas.Bool.Decides.{nat_tests}
use Rattle.window.specs.Fill.{slid, slid_window}
use Rattle.window.proofs.fill.Fill.slide.Goals as goal

pub returns-then-self-n : goal.returns-then-self-n
unfolding slid slid_window
returns-then-self-n c = grind (arith, nat_tests)

pub returns : goal.returns
unfolding slid slid_window
returns c = grind (arith, nat_tests)
