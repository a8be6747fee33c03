-- Lines wider than the bytes are long are one line. Assumes nothing.
use Rattle.std.proofs.Common.{arith, ◌-◌, ◌^◌, ◌∙◌}
use Rattle.rewrite.proofs.Records.{one_line}
use Rattle.rewrite.proofs.lines.write_in.Goals as goal

pub returns : goal.returns
returns c =
    let g = c.args.given in
    c.write_wrap_in.ensures ∙ one_line g.bytes.now g.start g.ends.now (2 ^ 64 - 1) c.args.out.now (omega (arith, c.ranges.given))
