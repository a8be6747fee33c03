-- A record that is written anew: the cases of refusal 11, the lengths of its text, and that a line wider than any sequence holds it whole.
-- Assumes nothing.
use Prim.Native.Nat.{ℕ, suc, ◌+◌, ◌<◌}
use native.Mathlib.Omega.{arith}
use mathlib.Core.Bool.{Bool, true, false, cond}
use mathlib.Core.List.{List, [], ◌∷◌, ◌++◌}
use mathlib.Core.Path.{◌≡◌, refl, sym, ap, ◌∙◌}
use lib.ListN.{length, length-append}
use Rattle.meaning.specs.Parts.{joined}
use Rattle.meaning.specs.OnePass.{lines_at}
use Rattle.view.specs.Trimmed.{trimmed_at}
use Rattle.view.specs.Rising.{rising}
use Rattle.view.specs.View.{line_of}
use Rattle.view.proofs.Rises.{first-inside, rising-next}
use Rattle.view.proofs.TrimmedLemmas.{left-fit}
use Rattle.write.specs.Output.{Left, filled, wrapped}
use Rattle.write.specs.Text.{head_text, wrap_seq_iter_text, record_text, record_wrap_text}
use Rattle.write.proofs.Filling.{wrap-fill}
use Rattle.write.proofs.Lengths.{head-length}
use Rattle.rewrite.specs.Rewrite.{refused, of_lines, written_in, wrapped_in}
use Rattle.rewrite.specs.Wrap.{wrap_len}
use Rattle.rewrite.proofs.Columns.{iter-length, iter-wide}

-- what a writer makes of the head and the lines
abbrev pub Written : Type 0
Written = (head : List ℕ) (ls : List (List ℕ)) → Left

module _ (w : List ℕ) (start : ℕ) where
  pub lines-fall : (ends out : List ℕ) (written : Written) → rising start ends (length w) ≡ false → of_lines w start ends out written ≡ refused 11 out
  unfolding of_lines
  lines-fall [] out written t = refl
  lines-fall (e ∷ es) out written t = rw t

  pub lines-empty : (ends out : List ℕ) (written : Written) → trimmed_at w (suc start) ends ≡ [] → of_lines w start ends out written ≡ refused 11 out
  unfolding of_lines lines_at
  lines-empty [] out written none = refl
  lines-empty (e ∷ es) out written none = cc

  pub lines-rise : (ends out : List ℕ) (written : Written) {head : List ℕ} {ls : List (List ℕ)} → rising start ends (length w) ≡ true
      → trimmed_at w (suc start) ends ≡ head ∷ ls → of_lines w start ends out written ≡ written head ls
  unfolding of_lines lines_at
  lines-rise [] out written t is = cc
  lines-rise (e ∷ es) out written t is = rw t cc

-- the need of head and lines of a width
pub text-long : (head : List ℕ) (wrap : ℕ) (ls : List (List ℕ)) → 0 < wrap → length (head ++ wrap_seq_iter_text wrap ls) ≡ length head + wrap_len wrap (length (joined ls))
text-long head wrap ls w = length-append head (wrap_seq_iter_text wrap ls) ∙ ap (λ (k : ℕ). length head + k) (iter-length wrap w ls)

-- the need of a record's `write_wrap`; that of its `write` is `to-length` of the free writers
pub record-wrap-length : (head : List ℕ) (ls : List (List ℕ)) (wrap : ℕ) → 0 < wrap
    → length (record_wrap_text head ls wrap) ≡ length head + 2 + wrap_len wrap (length (joined ls))
record-wrap-length head ls wrap w = omega (arith, text-long (head_text head) wrap ls w, head-length head)

-- a width above the length of the bytes makes one line
pub one_line : (w : List ℕ) (start : ℕ) (ends : List ℕ) (wrap : ℕ) (out : List ℕ) → length w < wrap → wrapped_in w start ends wrap out ≡ written_in w start ends out
unfolding written_in wrapped_in of_lines
one_line w start [] wrap out h = refl
one_line w start (e ∷ es) wrap out h = go (rising start (e ∷ es) (length w)) refl
  where
    head : List ℕ
    head = line_of w (suc start) e

    ls : List (List ℕ)
    ls = trimmed_at w (suc e) es

    go : (t : Bool) → rising start (e ∷ es) (length w) ≡ t
        → cond (rising start (e ∷ es) (length w)) (wrapped wrap (record_wrap_text head ls wrap) out) (refused 11 out)
        ≡ cond (rising start (e ∷ es) (length w)) (filled (record_text head ls) out) (refused 11 out)
    go true t =
        let i = first-inside start e es (length w) t in
        let fit = left-fit w e es (sym (rising-next start e es (length w) i.0 i.1) ∙ t) in
        rw t
        (wrap-fill wrap (record_wrap_text head ls wrap) out (omega arith)
        ∙ ap (λ (s : List ℕ). filled (head_text head ++ s) out) (iter-wide wrap (omega arith) ls (omega (arith, fit))))
    go false t = rw t
