-- `put_lines` puts each line that `chunks` cuts, and a `\n` behind it. Assumes nothing.
use Rattle.std.proofs.Common.{◌∙◌, ap, arith, length}
use Rattle.std.specs.Slice.Iter.{chunks_rest}
use Rattle.write.specs.Text.{seq_text, wrap_seq_text}
use Rattle.write.proofs.Wrap.{wrap-none}
use Rattle.write.proofs.Putting.{rest-next, rest-none, rest-as, first_fits, lines-next}
use Rattle.write.proofs.ReadBack.{no_bytes}
use Rattle.write.proofs.fill.put_lines.Goals as goal

pub put_parts-behind-requires : goal.put_parts-behind-requires
put_parts-behind-requires c =
    let line = c.in-Some.line.now in
    let rest = chunks_rest c.next.new.self in
    let now = lines-next line rest c.requires.wide c.loop-line.invariant.width c.in-Some.ensures.steps.1 in
    first_fits c.loop-line.behind (seq_text line) (wrap_seq_text c.args.wrap rest) c.loop-line.out
    (omega (arith, c.requires.room, c.loop-line.invariant.rest.place, c.loop-line.auto.out, ap length now))

pub loop-line-preserved : goal.loop-line-preserved
loop-line-preserved c =
    let now = lines-next c.in-Some.line.now (chunks_rest c.next.new.self) c.requires.wide c.loop-line.invariant.width c.in-Some.ensures.steps.1 in
    record {
      can_next = omega arith;
      is_finite = tt;
      width = cc;
      rest =
          rest-next (wrap_seq_text c.args.wrap (chunks_rest c.next.new.self))
          (omega (arith, c.requires.room, c.loop-line.invariant.rest.place, c.loop-line.auto.out, ap length now))
          (rest-as now c.loop-line.invariant.rest) c.put_parts-behind.ensures;
    }

pub returns : goal.returns
returns c =
    let none = ap (wrap_seq_text c.args.wrap) (no_bytes (chunks_rest c.loop-line.line-iterator) c.in-None.ensures.steps.1.0) ∙ wrap-none c.args.wrap in
    let inv = c.loop-line.invariant.rest in
    rest-none (omega (arith, c.requires.room, inv.place, c.loop-line.auto.out)) (rest-as none inv)
