-- A piece is put, and a `\n` behind one that fills its line. Assumes nothing.
use Rattle.std.proofs.Common.{arith, refl}
use Rattle.rewrite.proofs.Cases.{put-at}
use Rattle.rewrite.proofs.Columns.{piece-short, piece-ends, piece-full}
use Rattle.rewrite.proofs.column.Column.put_piece.Goals as goal

pub end_line-requires : goal.end_line-requires
end_line-requires c = piece-ends {c = c.args.self.now} c.args.piece.now c.requires c.if-self.true c.copy.ensures

pub returns-then-self : goal.returns-then-self
returns-then-self c =
    let s = c.args.self.now in
    piece-full c.args.piece.now c.requires c.if-self.true c.end_line.ensures
    (record { put = put-at s.at c.args.piece.now s.out.now c.copy.ensures; column = refl; wrap = refl; same = refl })

pub returns-else-self : goal.returns-else-self
returns-else-self c =
    let s = c.args.self.now in
    piece-short c.args.piece.now (omega (arith, c.requires.short, c.if-self.false))
    (record { put = put-at s.at c.args.piece.now s.out.now c.copy.ensures; column = refl; wrap = refl; same = refl })
