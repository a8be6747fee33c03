-- `fill_lines` refuses a width 0; then, by the length of the parts and the lines, they are refused or put one behind the other. Assumes
-- nothing.
use Rattle.std.proofs.Common.{◌++◌, ◌<◌, sym, ◌∙◌, arith}
use lib.ListN.{length-append}
use Rattle.write.specs.Put.{Fits, text_of}
use Rattle.write.specs.Text.{wrap_seq_text}
use Rattle.write.proofs.Lengths.{wrap-length}
use Rattle.write.proofs.Putting.{second_fits, put_both}
use Rattle.write.proofs.Filling.{fill-refused, fill_done, wrap-refused, wrap-fill}
use Rattle.write.proofs.fill.fill_lines.Goals as goal

pub returns-then-wrap-eq0 : goal.returns-then-wrap-eq0
returns-then-wrap-eq0 c = let a = c.args in wrap-refused a.wrap _ a.out.now c.if-wrap-eq0.true

pub returns-then-out-need : goal.returns-then-out-need
returns-then-out-need c =
    let a = c.args in
    let parts = text_of a.parts.now in
    let lines = wrap_seq_text a.wrap a.seq.now in
    let wide : 0 < a.wrap = omega (arith, c.if-wrap-eq0.false) in
    fill-refused (parts ++ lines) a.out.now (length-append parts lines) (omega (arith, wrap-length a.wrap a.seq.now wide)) c.if-out-need.true
    ∙ sym (wrap-fill a.wrap (parts ++ lines) a.out.now wide)

pub put_lines-requires-clause-room : goal.put_lines-requires-clause-room
put_lines-requires-clause-room c =
    let a = c.args in
    let parts = text_of a.parts.now in
    let lines = wrap_seq_text a.wrap a.seq.now in
    let wide : 0 < a.wrap = omega (arith, c.if-wrap-eq0.false) in
    let fits : Fits 0 (parts ++ lines) a.out.now = omega (arith, length-append parts lines, wrap-length a.wrap a.seq.now wide) in
    second_fits lines fits c.put_parts-at.ensures

pub returns : goal.returns
returns c =
    let a = c.args in
    let parts = text_of a.parts.now in
    let lines = wrap_seq_text a.wrap a.seq.now in
    let wide : 0 < a.wrap = omega (arith, c.if-wrap-eq0.false) in
    let fits : Fits 0 (parts ++ lines) a.out.now = omega (arith, length-append parts lines, wrap-length a.wrap a.seq.now wide) in
    fill_done fits (put_both fits c.put_parts-at.ensures c.put_lines.ensures) ∙ sym (wrap-fill a.wrap (parts ++ lines) a.out.now wide)
