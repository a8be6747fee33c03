-- `lead` goes from line to line. The loop's invariant: the lead from the present place is the lead asked for. Assumes nothing.
use Rattle.std.proofs.Common.{ℕ, List, ◌≡◌, ◌+◌, ◌-◌, ◌<◌, length, sym, ap, ◌∙◌, arith}
use Rattle.std.specs.Prelude.{take, drop}
use Rattle.std.specs.Cmp.Lexicographic.{same_text, other_text}
use Rattle.std.proofs.lemmas.List.{length-drop, drop-drop, drop_all}
use Rattle.std.proofs.lemmas.Slice.{between_to_end}
use Rattle.scan.specs.Search.{lead_at}
use Rattle.scan.proofs.LeadLaws.{lead-none, lead-empty, lead-cr, lead-other}
use Rattle.scan.proofs.line.lead.Goals.{then-starts_with, else-starts_with+then-starts_with-2}
use Rattle.scan.proofs.line.lead.Goals as goal

-- the bytes from a place on
rest : (s : List ℕ) (i : ℕ) → drop i s ≡ take (length s - i) (drop i s)
rest s i = sym (between_to_end s i (length s) (omega arith))

pub returns-else-starts_with-2 : goal.returns-else-starts_with-2
returns-else-starts_with-2 c =
    let s = c.args.bytes.now in
    let at = c.loop-at.at in
    let some : 0 < length (take (length s - at) (drop at s)) = omega (arith, ap length (rest s at), length-drop at s) in
    sym (c.loop-at.invariant.same
    ∙ ap (λ (l : List ℕ). lead_at l at c.loop-at.lines) (rest s at)
    ∙ lead-other _ at c.loop-at.lines c.eq.result some (other_text _ _ c.if-starts_with.ensures.value) (other_text _ _ c.if-starts_with-2.ensures.value)
    (λ t. same_text _ _ (sym t ∙ c.eq.ensures)) (λ t. other_text _ _ (sym t ∙ c.eq.ensures)))

pub loop-at-preserved : goal.loop-at-preserved
loop-at-preserved c =
    let s = c.args.bytes.now in
    let at = c.loop-at.at in
    let lines = c.loop-at.lines in
    record {
      apart =
          elim c.if-starts_with.branch [
            | then-starts_with w ↦ omega (arith, w.at-is)
            | else-starts_with+then-starts_with-2 w ↦ omega (arith, w.at-is)
          ];
      same =
          c.loop-at.invariant.same
          ∙ elim c.if-starts_with.branch [
            | then-starts_with w ↦ lead-empty (drop at s) at lines (same_text _ _ w.if-starts_with.ensures.value ∙ ap (take 1) (sym (rest s at)))
                ∙ ap (λ (l : List ℕ). lead_at l (at + 1) (lines + 1)) (drop-drop 1 at s)
                ∙ ap (λ (k : ℕ). lead_at (drop k s) k (lines + 1)) (sym w.at-is)
            | else-starts_with+then-starts_with-2 w ↦ lead-cr (drop at s) at lines (same_text _ _ w.if-starts_with-2.ensures.value ∙ ap (take 2) (sym (rest s at)))
                ∙ ap (λ (l : List ℕ). lead_at l (at + 2) (lines + 1)) (drop-drop 2 at s)
                ∙ ap (λ (k : ℕ). lead_at (drop k s) k (lines + 1)) (sym w.at-is)
          ];
    }

pub returns : goal.returns
returns c =
    let s = c.args.bytes.now in
    let at = c.loop-at.at in
    let lines = c.loop-at.lines in
    sym (c.loop-at.invariant.same
    ∙ ap (λ (l : List ℕ). lead_at l at lines) (drop_all at s c.loop-at-test.false)
    ∙ lead-none at lines)
