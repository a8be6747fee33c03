-- `part`: inside and outside are the two cases of `between`. Assumes nothing.
use Rattle.std.proofs.Common.{refl}
use Rattle.view.proofs.Cases.{got}
use Rattle.view.proofs.parts.part.Goals as goal

pub returns : goal.returns
returns c = got c.args.bytes.now c.args.extent.from c.args.extent.to c.get.result c.unwrap_or.result _ c.get.ensures.lookup.0 c.unwrap_or.ensures refl
