-- With a head it is `write_head`, which finds room. Assumes nothing.
use Rattle.std.proofs.Common.{ap}
use Rattle.write.proofs.Putting.{put_as, fits-as}
use Rattle.rewrite.specs.Wrap.{head_part}
use Rattle.rewrite.proofs.Cases.{head-fits, head-put, put-nothing}
use Rattle.rewrite.proofs.lines.put_head.Goals as goal

pub unwrap-requires : goal.unwrap-requires
unwrap-requires c =
    head-fits c.in-Some.head.now c.args.out.now c.write_head.result (fits-as 0 c.args.out.now (ap head_part c.in-Some.is) c.requires) c.write_head.ensures

pub returns-in-Some : goal.returns-in-Some
returns-in-Some c =
    let is = ap head_part c.in-Some.is in
    put_as is (head-put c.in-Some.head.now c.args.out.now (fits-as 0 c.args.out.now is c.requires) c.unwrap.ensures c.write_head.ensures)

pub returns-in-None : goal.returns-in-None
returns-in-None c = put_as (ap head_part c.in-None.is) (put-nothing c.args.out.now)
