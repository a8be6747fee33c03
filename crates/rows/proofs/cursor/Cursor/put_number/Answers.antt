-- The library's digits are the number's, and end where there is room for them. Assumes nothing.
use Rattle.std.proofs.Common.{arith, ap, ◌+◌, refl, length}
use Rattle.rows.proofs.Cursors.{written}
use Rattle.rows.proofs.Digits.{decimal-is}
use Rattle.rows.proofs.cursor.Cursor.put_number.Goals as goal

pub write_digits-requires : goal.write_digits-requires
write_digits-requires c =
    let is = ap length (decimal-is c.args.n (omega arith)) in
    (omega (arith, c.digits.ensures), omega (arith, c.digits.ensures))

pub returns : goal.returns
returns c =
    let s = c.args.self.now in
    let end = ap (λ k. s.at + k) c.digits.ensures in
    let h = c.write_digits.ensures in
    record { put = record { place = end; holds = written c.args.n s.at _ _ s.out.now _ (omega arith) c.requires.fits end h.start h.written h.before }; same = refl }
