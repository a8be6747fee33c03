-- By its length the text is refused, or its word, its number and a `\n` are put one behind the other. Assumes nothing.
use Rattle.std.proofs.Common.{arith, rules}
use Rattle.write.specs.Listing.{refused_text}
use Rattle.rows.proofs.Digits.{digits_short}
use Rattle.rows.proofs.Telling.{told_room, told-done, refused-length}
use Rattle.rows.proofs.Cursors.{has_room, begun, front, on, left_by}
use Rattle.rows.proofs.line.put_refused.Goals as goal

pub returns-in_err-test_room : goal.returns-in_err-test_room
returns-in_err-test_room c =
    let a = c.args in
    told_room c.from_residual.result a.at (refused_text a.number) a.out.now (refused-length a.number c.digits-need.ensures)
    (omega (arith, c.digits-need.ensures, digits_short a.number (omega arith)))
    c.in_err-test_room.ensures c.from_residual.ensures

pub put_number-requires : goal.put_number-requires
unfolding refused_text
put_number-requires c =
    let n = c.args.number in
    let all = begun (has_room (refused_text n) (refused-length n c.digits-need.ensures) c.in_ok-test_room.ensures) in
    front _ _ (on _ all c.put.ensures)

pub put-requires-2 : goal.put-requires-2
unfolding refused_text
put-requires-2 c =
    let n = c.args.number in
    let all = begun (has_room (refused_text n) (refused-length n c.digits-need.ensures) c.in_ok-test_room.ensures) in
    (on _ (on _ all c.put.ensures) c.put_number.ensures).room

pub returns : goal.returns
unfolding refused_text
returns c =
    let n = c.args.number in
    let all = begun (has_room (refused_text n) (refused-length n c.digits-need.ensures) c.in_ok-test_room.ensures) in
    told-done (refused-length n c.digits-need.ensures) c.in_ok-test_room.ensures
    (left_by ((on _ (on _ all c.put.ensures) c.put_number.ensures).put _ c.put-2.ensures) (search rules))
