-- `wrap_len` adds a `\n` for each line. Assumes nothing.
use Rattle.std.proofs.Common.{◌≡◌, arith}
use Rattle.std.proofs.lemmas.Grind.{common_steps}
use Rattle.write.specs.Need.{line_count}
use Rattle.rewrite.proofs.lines.wrap_len.Goals as goal

pub returns : goal.returns
returns c =
    let e : c.div_ceil.result ≡ line_count c.args.wrap c.args.n = grind (arith, common_steps) in
    omega (arith, c.max.ensures, c.saturating_add.ensures)
