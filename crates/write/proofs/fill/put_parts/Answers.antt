-- `put_parts` puts one part behind the other. Assumes nothing.
use Rattle.std.proofs.Common.{ap, arith}
use Rattle.write.specs.Put.{text_of}
use lib.ListN.{drop_of_length-le}
use Rattle.write.proofs.Putting.{rest-part, rest-none, rest-as}
use Rattle.write.proofs.fill.put_parts.Goals as goal

pub loop-part-preserved : goal.loop-part-preserved
loop-part-preserved c =
    rest-part c.args.parts.now c.loop-part.part-index _ c.loop-part-test.true (omega arith) c.loop-part.invariant c.copy.ensures

pub returns : goal.returns
returns c =
    let none = ap text_of (drop_of_length-le c.args.parts.now {i = c.loop-part.part-index} c.loop-part-test.false) in
    rest-none (omega arith) (rest-as none c.loop-part.invariant)
