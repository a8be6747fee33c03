-- Progress: while nothing but asks is heard, each report takes one of the chances of Waiting.antt, and without one left a read answers. Assumes
-- nothing.
use native.Mathlib.Omega.{arith}
use Rattle.runs.specs.Progress.{Progress}
use Rattle.runs.proofs.Waiting.{waits, told-answers, chances-most, no-chance}
use Rattle.runs.proofs.Reached.{runs_on, reached-made}

pub progress : Progress
progress X capacity policy start made h s r g t q o =
    let k = runs_on X _ _ start (reached-made X capacity policy start made) h s r in
    let after = waits X _ s k.tells g t q o in
    let most = chances-most X s in (
      omega (arith, after.fewer),
      λ all. told-answers X _ t after.tells (no-chance X t (omega (arith, after.fewer))),
    )
