-- `current_record`: the filled bytes and the ends that `current` names lie in what is lent. Assumes nothing.
use Rattle.view.proofs.Inside.{window-part, ends-part}
use Rattle.view.proofs.current.current_record.Goals as goal

pub slice_bounds-result-end : goal.slice_bounds-result-end
slice_bounds-result-end c =
    let a = c.args in
    window-part a.reader a.window.now a.ends.now c.current.ensures c.in_ok-start.was

pub slice_bounds-result-end-2 : goal.slice_bounds-result-end-2
slice_bounds-result-end-2 c =
    let a = c.args in
    ends-part a.reader a.window.now a.ends.now c.current.ensures c.in_ok-start.was
