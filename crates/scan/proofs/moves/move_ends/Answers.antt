-- A turn of the loop of `move_ends` moves one more end.
use Rattle.std.proofs.Common.{ℕ, ◌-◌, ◌<◌, sym, ap, ◌∙◌, length, slice_index_or, slice_set, arith}
use Rattle.std.specs.Prelude.{take}
use Rattle.std.proofs.lemmas.Grind.{get_or_default_zero}
use Rattle.std.proofs.lemmas.List.Edits.{map_over_more}
use Rattle.scan.proofs.moves.move_ends.Goals as goal

pub loop-end-preserved : goal.loop-end-preserved
loop-end-preserved c =
    let at = c.loop-end in
    let front = take c.args.count c.args.ends.now in
    let end = slice_index_or at.end-items at.end-index 0 in
    let in_range : at.end-index < length at.end-items = omega arith in
    ap (slice_set at.end-items at.end-index) c.saturating_sub.ensures
    ∙ map_over_more (λ (e : ℕ). e - c.args.by) front at.end-items at.end-index end c.loop-end-test.true at.invariant
    (sym (get_or_default_zero at.end-items at.end-index end in_range))
