-- The length of each writer's text, which is the need of refusal 9. Assumes nothing.
use Prim.Native.Nat.{ℕ, ◌+◌, ◌-◌, ◌/◌, ◌<◌}
use native.Mathlib.Nat.{add-div_right, div-eq_of_lt}
use Rattle.std.proofs.Common.{arith}
use Rattle.std.proofs.lemmas.Grind.{common_steps}
use Rattle.std.proofs.lemmas.Bool.Decides.{nat_tests}
use mathlib.Core.Path.{◌≡◌, ap, ◌∙◌}
use mathlib.Core.Bool.{cond}
use mathlib.Core.List.{List, [], ◌∷◌}
use mathlib.Core.Option.{Option, none, some}
use lib.ListN.{length, take, drop, length-append, length-take, length-drop}
use Rattle.write.specs.Text.{head_text, id_desc_text, seq_text, wrap_seq_text, to_text, parts_text, wrap_text, ends_in, unchanged_text}
use Rattle.write.specs.Need.{desc_len, line_count}
use Rattle.write.proofs.Wrap.{wrap-none, wrap-line, by_lines}

pub head-length : (head : List ℕ) → length (head_text head) ≡ length head + 2
head-length head = omega (arith, length-append head (10 ∷ []))

pub id-desc-length : (id : List ℕ) (desc : Option (List ℕ)) → length (id_desc_text id desc) ≡ length id + desc_len desc + 2
id-desc-length id none = simp length-append (omega arith)
id-desc-length id (some desc) = simp length-append (omega arith)

pub seq-length : (seq : List ℕ) → length (seq_text seq) ≡ length seq + 1
seq-length seq = length-append seq (10 ∷ [])

pub lines_none : (wrap : ℕ) → 0 < wrap → line_count wrap 0 ≡ 0
lines_none wrap w = div-eq_of_lt (omega arith)

-- without a sum that could be too large
pub lines-some : (wrap n : ℕ) → 0 < wrap → 0 < n → line_count wrap n ≡ (n - 1) / wrap + 1
lines-some wrap n w h = grind (arith, add-div_right)

-- one line more than what is left behind the first has
lines_more : (wrap n : ℕ) → 0 < wrap → 0 < n → line_count wrap n ≡ line_count wrap (n - wrap) + 1
lines_more wrap n w h = grind (arith, add-div_right, div-eq_of_lt)

pub wrap-length : (wrap : ℕ) (seq : List ℕ) → 0 < wrap → length (wrap_seq_text wrap seq) ≡ length seq + line_count wrap (length seq)
wrap-length wrap seq w =
    by_lines (λ (s : List ℕ). length (wrap_seq_text wrap s) ≡ length s + line_count wrap (length s)) wrap w
    (rw (wrap-none wrap) (omega (arith, lines_none wrap w)))
    (λ s h e. let behind : length (drop wrap s) ≡ length s - wrap = length-drop wrap s in
    ap length (wrap-line wrap s w h)
    ∙ length-append (take wrap s) (10 ∷ wrap_seq_text wrap (drop wrap s))
    ∙ omega (arith, length-take wrap s, e, behind, ap (line_count wrap) behind, lines_more wrap (length s) w h))
    seq

pub to-length : (head seq : List ℕ) → length (to_text head seq) ≡ length head + length seq + 3
to-length head seq = simp length-append (omega arith)

pub parts-length : (id : List ℕ) (desc : Option (List ℕ)) (seq : List ℕ) → length (parts_text id desc seq) ≡ length id + desc_len desc + length seq + 3
parts-length id desc seq = omega (arith, length-append (id_desc_text id desc) (seq_text seq), id-desc-length id desc, seq-length seq)

pub wrap-text-length : (id : List ℕ) (desc : Option (List ℕ)) (seq : List ℕ) (wrap : ℕ) → 0 < wrap → length (wrap_text id desc seq wrap) ≡ length id + desc_len desc + 2 + (length seq + line_count wrap (length seq))
wrap-text-length id desc seq wrap w =
    omega (arith, length-append (id_desc_text id desc) (wrap_seq_text wrap seq), id-desc-length id desc, wrap-length wrap seq w)

-- write_unchanged: the copy, and 1 unless it ends in `\n`
pub unchanged-length : (copy : List ℕ) → length (unchanged_text copy) ≡ length copy + cond (ends_in 10 copy) 0 1
unfolding unchanged_text
unchanged-length copy = grind (arith, common_steps, nat_tests)
