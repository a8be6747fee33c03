-- By its length a text is refused, or put. Assumes nothing.
use Rattle.std.proofs.Common.{arith, rules, refl}
use Rattle.rows.proofs.Telling.{told_room, told-done}
use Rattle.rows.proofs.Cursors.{left_by}
use Rattle.rows.proofs.line.put_text.Goals as goal

pub returns-in_err-test_room : goal.returns-in_err-test_room
returns-in_err-test_room c =
    let a = c.args in
    told_room c.from_residual.result a.at a.text.now a.out.now refl (omega arith) c.in_err-test_room.ensures c.from_residual.ensures

pub returns : goal.returns
returns c = told-done refl c.in_ok-test_room.ensures (left_by c.put.ensures (search rules))
