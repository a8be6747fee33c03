-- The copied part is pasted. Assumes nothing.
use Rattle.std.proofs.Common.{refl}
use Rattle.rows.proofs.Cursors.{copied}
use Rattle.rows.proofs.cursor.Cursor.put.Goals as goal

pub returns : goal.returns
returns c =
    let a = c.args in
    let s = a.self.now in
    record { put = record { place = refl; holds = copied s.at a.text.now s.out.now _ c.requires.fits c.copy_from_slice.ensures.after }; same = refl }
