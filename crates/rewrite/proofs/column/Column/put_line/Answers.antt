-- `put_line` goes from piece to piece. Assumes nothing.
use Rattle.std.proofs.Common.{arith, length, sym}
use borrow.Author.Tests.{eqb-true, eqb-false}
use Rattle.rewrite.proofs.Columns.{due-as, due-front, due-next, due-none}
use Rattle.rewrite.proofs.column.Column.put_line.Goals as goal

pub put_piece-requires : goal.put_piece-requires
put_piece-requires c =
    let split = c.split_at.ensures in
    let some = eqb-false (length c.loop-rest.rest.now) 0 (sym c.loop-rest-test.ensures) in
    record {
      some = omega (arith, split.front_len, c.loop-rest.invariant.goes.inside);
      short = omega (arith, split.front_len, c.loop-rest.invariant.goes.inside);
      goes = due-front _ _ (due-as split.by_index.0 c.loop-rest.invariant);
    }

pub loop-rest-preserved : goal.loop-rest-preserved
loop-rest-preserved c = due-next _ _ (due-as c.split_at.ensures.by_index.0 c.loop-rest.invariant) c.put_piece.ensures

pub returns : goal.returns
returns c = due-none c.loop-rest.invariant (eqb-true (length c.loop-rest.rest.now) 0 (sym c.loop-rest-test.ensures))
