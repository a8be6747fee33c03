-- By its length a row is refused, or its parts are put one behind the other. Assumes nothing.
use Rattle.std.proofs.Common.{◌≡◌, ℕ, ◌+◌, ◌≤◌, List, length, arith, rules}
use Rattle.write.specs.Listing.{decimal, row_of}
use Rattle.rows.proofs.Digits.{digits_short}
use Rattle.rows.proofs.Telling.{told_room, told-done, row-length}
use Rattle.rows.proofs.Cursors.{Begun, has_room, begun, front, on, left_by}
use Rattle.rows.specs.declared.cursor.Cursor.{Cursor}
use Rattle.rows.proofs.line.put_row.Goals as goal

-- the whole row is still to be put
whole : {a b d : ℕ} {c : Cursor} (line byte : ℕ) (id : List ℕ) (len : ℕ)
    → a ≡ length (decimal line) → b ≡ length (decimal byte) → d ≡ length (decimal len) → c.at + (a + b + length id + d + 4) ≤ length c.out.now
    → Begun (row_of line byte id len) c (row_of line byte id len) c
whole line byte id len e f g h = begun (has_room (row_of line byte id len) (row-length line byte id len e f g) h)

pub returns-in_err-test_room : goal.returns-in_err-test_room
returns-in_err-test_room c =
    let a = c.args in
    told_room c.from_residual.result a.at (row_of a.line a.byte a.id.now a.len) a.out.now
    (row-length a.line a.byte a.id.now a.len c.digits.ensures c.digits-2.ensures c.digits-3.ensures)
    (omega (arith, c.digits.ensures, c.digits-2.ensures, c.digits-3.ensures, digits_short))
    c.in_err-test_room.ensures c.from_residual.ensures

pub put_number-requires : goal.put_number-requires
unfolding row_of
put_number-requires c =
    let a = c.args in
    let all = whole a.line a.byte a.id.now a.len c.digits.ensures c.digits-2.ensures c.digits-3.ensures c.in_ok-test_room.ensures in
    front _ _ all

pub put-requires : goal.put-requires
unfolding row_of
put-requires c =
    let a = c.args in
    let all = whole a.line a.byte a.id.now a.len c.digits.ensures c.digits-2.ensures c.digits-3.ensures c.in_ok-test_room.ensures in
    front _ _ (on _ all c.put_number.ensures)

pub put_number-requires-2 : goal.put_number-requires-2
unfolding row_of
put_number-requires-2 c =
    let a = c.args in
    let all = whole a.line a.byte a.id.now a.len c.digits.ensures c.digits-2.ensures c.digits-3.ensures c.in_ok-test_room.ensures in
    front _ _ (on _ (on _ all c.put_number.ensures) c.put.ensures)

pub put-requires-2 : goal.put-requires-2
unfolding row_of
put-requires-2 c =
    let a = c.args in
    let all = whole a.line a.byte a.id.now a.len c.digits.ensures c.digits-2.ensures c.digits-3.ensures c.in_ok-test_room.ensures in
    front _ _ (on _ (on _ (on _ all c.put_number.ensures) c.put.ensures) c.put_number-2.ensures)

pub put-requires-3 : goal.put-requires-3
unfolding row_of
put-requires-3 c =
    let a = c.args in
    let all = whole a.line a.byte a.id.now a.len c.digits.ensures c.digits-2.ensures c.digits-3.ensures c.in_ok-test_room.ensures in
    front _ _ (on _ (on _ (on _ (on _ all c.put_number.ensures) c.put.ensures) c.put_number-2.ensures) c.put-2.ensures)

pub put-requires-4 : goal.put-requires-4
unfolding row_of
put-requires-4 c =
    let a = c.args in
    let all = whole a.line a.byte a.id.now a.len c.digits.ensures c.digits-2.ensures c.digits-3.ensures c.in_ok-test_room.ensures in
    front _ _ (on _ (on _ (on _ (on _ (on _ all c.put_number.ensures) c.put.ensures) c.put_number-2.ensures) c.put-2.ensures) c.put-3.ensures)

pub put_number-requires-3 : goal.put_number-requires-3
unfolding row_of
put_number-requires-3 c =
    let a = c.args in
    let all = whole a.line a.byte a.id.now a.len c.digits.ensures c.digits-2.ensures c.digits-3.ensures c.in_ok-test_room.ensures in
    front _ _ (on _ (on _ (on _ (on _ (on _ (on _ all c.put_number.ensures) c.put.ensures) c.put_number-2.ensures) c.put-2.ensures) c.put-3.ensures) c.put-4.ensures)

pub put-requires-5 : goal.put-requires-5
unfolding row_of
put-requires-5 c =
    let a = c.args in
    let all = whole a.line a.byte a.id.now a.len c.digits.ensures c.digits-2.ensures c.digits-3.ensures c.in_ok-test_room.ensures in
    (on _ (on _ (on _ (on _ (on _ (on _ (on _ all c.put_number.ensures) c.put.ensures) c.put_number-2.ensures) c.put-2.ensures) c.put-3.ensures) c.put-4.ensures) c.put_number-3.ensures).room

pub returns : goal.returns
unfolding row_of
returns c =
    let a = c.args in
    let long = row-length a.line a.byte a.id.now a.len c.digits.ensures c.digits-2.ensures c.digits-3.ensures in
    let all = begun (has_room (row_of a.line a.byte a.id.now a.len) long c.in_ok-test_room.ensures) in
    told-done long c.in_ok-test_room.ensures (left_by ((on _ (on _ (on _ (on _ (on _ (on _ (on _ all c.put_number.ensures) c.put.ensures) c.put_number-2.ensures) c.put-2.ensures) c.put-3.ensures) c.put-4.ensures) c.put_number-3.ensures).put _ c.put-5.ensures) (search rules))
