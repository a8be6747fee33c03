-- Where the bytes are passed one by one, the place that is left is the line's end, or behind the bytes.
use Rattle.std.proofs.Common.{sym, ◌∙◌}
use Rattle.scan.proofs.LineLaws.{line-end-here}
use Rattle.scan.proofs.line.line_end.Goals as goal

pub returns : goal.returns
returns c =
    let left = c.pass-2.ensures in
    c.min.ensures
    ∙ sym (c.pass.ensures.same ∙ c.pass-near.ensures.same ∙ left.same ∙ line-end-here c.args.bytes.now c.pass-2.result left.near)
