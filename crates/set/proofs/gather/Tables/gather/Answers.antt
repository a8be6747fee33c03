-- Each turn of the loop is one law of `gather_all`. Assumes nothing.
use Prim.Native.Nat.{◌<◌}
use native.Mathlib.Omega.{arith}
use Rattle.std.proofs.lemmas.Grind.{common_steps}
use borrow.Author.Rules.{rules}
use mathlib.Core.Bool.{Bool}
use mathlib.Core.Path.{sym, ap, ◌∙◌}
use Rattle.reader.specs.declared.state.Reader.{Reader}
use Rattle.set.specs.Read.{Gathered, gathered_in, put_if, back, pairs, gather_all}
use Rattle.set.proofs.Gathering.{pairs-put, all_stops, all_misfit, all_on}
use Rattle.set.proofs.gather.Tables.gather.Goals as goal

pub returns-in_default : goal.returns-in_default
returns-in_default c =
    let k = c.look-look in
    let l = c.loop-reader in
    let g = gathered_in l.reader l.table l.self in
    record {
      same_marks = l.invariant.1;
      same_ends = l.invariant.2;
      gathers = all_stops c.args.window.now g k.result k.new.ends k.ensures (search rules) ∙ l.invariant.0;
    }

pub returns-in_default-2-clause-gathers : goal.returns-in_default-2-clause-gathers
returns-in_default-2-clause-gathers c =
    let k = c.look-look in
    let l = c.loop-reader in
    let g = gathered_in l.reader l.table l.self in
    all_stops c.args.window.now g k.result k.new.ends k.ensures (search rules) ∙ l.invariant.0

pub returns-then-not-put-clause-gathers : goal.returns-then-not-put-clause-gathers
returns-then-not-put-clause-gathers c =
    let k = c.look-look in
    let l = c.loop-reader in
    let p = c.put.ensures in
    let g = gathered_in l.reader l.table l.self in
    let q = gathered_in k.result.reader k.new.ends l.self in
    let stays = p.put ∙ ap (λ (b : Bool). put_if b q) c.if-not-put.true in
    ap (λ (r : Reader). gathered_in r k.new.ends c.put.new.self) c.put_back.ensures
    ∙ ap back stays
    ∙ all_misfit c.args.window.now g k.result k.new.ends k.ensures (search rules) (sym p.fits ∙ c.if-not-put.true)
    ∙ l.invariant.0

pub loop-reader-smaller : goal.loop-reader-smaller
loop-reader-smaller c =
    let k = c.look-look in
    let p = c.put.ensures in
    let q = gathered_in k.result.reader k.new.ends c.loop-reader.self in
    let goes = p.put ∙ ap (λ (b : Bool). put_if b q) c.if-not-put.false in
    let room : q.count < pairs q.marks = grind (arith, common_steps) in
    let count = ap (λ (g : Gathered). g.count) goes in
    let marks = ap (λ (g : Gathered). pairs g.marks) goes ∙ pairs-put q in
    omega arith

pub loop-reader-preserved : goal.loop-reader-preserved
loop-reader-preserved c =
    let k = c.look-look in
    let l = c.loop-reader in
    let p = c.put.ensures in
    let w = c.args.window.now in
    let g = gathered_in l.reader l.table l.self in
    let q = gathered_in k.result.reader k.new.ends l.self in
    let goes = p.put ∙ ap (λ (b : Bool). put_if b q) c.if-not-put.false in (
      ap (gather_all w) goes
          ∙ all_on w g k.result k.new.ends k.ensures (search rules) (sym p.fits ∙ c.if-not-put.false)
          ∙ l.invariant.0,
      p.same_marks ∙ l.invariant.1,
      p.same_ends ∙ l.invariant.2,
    )
