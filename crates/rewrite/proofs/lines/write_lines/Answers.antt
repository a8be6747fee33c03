-- By the width or the length of head and lines the text is refused, or head and lines are put one behind the other. Assumes nothing.
use Rattle.std.proofs.Common.{◌<◌, ap, refl, sym, ◌∙◌, arith, rules}
use Rattle.write.proofs.Filling.{fill-refused, fill_done, wrap-refused, wrap-fill}
use Rattle.write.proofs.Putting.{second_fits, put_both}
use Rattle.write.specs.Put.{Fits}
use Rattle.write.specs.Text.{wrap_seq_iter_text}
use Rattle.view.specs.Trimmed.{lines_left}
use Rattle.rewrite.specs.Wrap.{lines_text, head_part, wrap_len}
use Rattle.rewrite.proofs.Columns.{left_by}
use Rattle.rewrite.proofs.Records.{text-long}
use Rattle.rewrite.proofs.lines.write_lines.Goals as goal

pub returns-then-wrap-eq0 : goal.returns-then-wrap-eq0
returns-then-wrap-eq0 c = wrap-refused c.args.wrap (lines_text c.args.head c.args.wrap (lines_left c.args.lines)) c.args.out.now c.if-wrap-eq0.true

pub returns-then-out-need : goal.returns-then-out-need
returns-then-out-need c =
    let a = c.args in
    let ls = lines_left a.lines in
    let wide : 0 < a.wrap = omega (arith, c.if-wrap-eq0.false) in
    fill-refused (lines_text a.head a.wrap ls) a.out.now (text-long (head_part a.head) a.wrap ls wide)
    (omega (arith, c.saturating_add-need.ensures, c.head_len.ensures, c.wrap_len.ensures, ap (wrap_len a.wrap) c.joined_len.ensures))
    c.if-out-need.true
    ∙ sym (wrap-fill a.wrap (lines_text a.head a.wrap ls) a.out.now wide)

pub put_lines-requires : goal.put_lines-requires
put_lines-requires c =
    let a = c.args in
    let ls = lines_left a.lines in
    let wide : 0 < a.wrap = omega (arith, c.if-wrap-eq0.false) in
    let fits : Fits 0 (lines_text a.head a.wrap ls) a.out.now =
    omega (arith, text-long (head_part a.head) a.wrap ls wide, c.saturating_add-need.ensures, c.head_len.ensures, c.wrap_len.ensures, ap (wrap_len a.wrap) c.joined_len.ensures, c.if-out-need.false) in
    record { wide = wide; fresh = refl; room = second_fits (wrap_seq_iter_text a.wrap ls) fits c.put_head-at.ensures }

pub returns : goal.returns
returns c =
    let a = c.args in
    let ls = lines_left a.lines in
    let wide : 0 < a.wrap = omega (arith, c.if-wrap-eq0.false) in
    let fits : Fits 0 (lines_text a.head a.wrap ls) a.out.now =
    omega (arith, text-long (head_part a.head) a.wrap ls wide, c.saturating_add-need.ensures, c.head_len.ensures, c.wrap_len.ensures, ap (wrap_len a.wrap) c.joined_len.ensures, c.if-out-need.false) in
    fill_done fits (put_both fits c.put_head-at.ensures (left_by c.put_lines.ensures (search rules)))
    ∙ sym (wrap-fill a.wrap (lines_text a.head a.wrap ls) a.out.now wide)
