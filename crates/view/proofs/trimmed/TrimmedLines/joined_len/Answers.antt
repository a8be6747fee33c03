-- `joined_len` is the sum of the lines' lengths, which fits since the lines lie in the bytes. Assumes nothing.
use Rattle.std.proofs.Common.{ap, arith, length, rules, sym, ◌∙◌}
use Rattle.std.proofs.lemmas.Iterator.Consumers.{fits_by_from_yields_list, sum_by_from_yields_List, YieldsList-from_first}
use Rattle.std.proofs.lemmas.Iterator.{YieldsList-from_map}
use Rattle.view.specs.Trimmed.{lines_left}
use Rattle.view.proofs.TrimmedLemmas.{left-fit, length-joined}
use Rattle.view.proofs.trimmed.TrimmedLines.joined_len.Goals as goal

pub sum-requires-clause-fits : goal.sum-requires-clause-fits
sum-requires-clause-fits c =
    let l = c.args.self in
    fits_by_from_yields_list length (lines_left l) _ _
    (YieldsList-from_map _ length (YieldsList-from_first (λ x. x.now) lines_left _ (ap lines_left c.map.ensures.source)) c.map.ensures.closure (λ x r q k. search rules))
    (omega (arith, length-joined (lines_left l), left-fit l.bytes.now l.place l.ends.now l.in_order, c.ranges.self))

pub returns : goal.returns
returns c =
    let l = c.args.self in
    sum_by_from_yields_List length (lines_left l) _ c.sum.result c.sum.ensures.ran
    (YieldsList-from_map _ length (YieldsList-from_first (λ x. x.now) lines_left _ (ap lines_left c.map.ensures.source)) c.map.ensures.closure (λ x r q k. search rules))
    ∙ sym (length-joined (lines_left l))
