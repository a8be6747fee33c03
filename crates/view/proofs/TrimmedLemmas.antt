-- Laws of a record's trimmed lines: the first and those behind it, none, and that together they fit the bytes.
-- Assumes nothing.
use Rattle.std.proofs.Common.{ℕ, suc, ◌+◌, ◌-◌, ◌≤◌, List, [], ◌∷◌, ◌≡◌, length, true, refl, sym, ap, ◌∙◌, arith, add-one, length-append}
use Rattle.std.specs.Prelude.{Option, Some, None, IsSome}
use Rattle.std.specs.Borrow.{Bor}
use Rattle.std.specs.Iterator.{YieldsFirstRef}
use Rattle.std.specs.List.{sum_by}
use Rattle.std.proofs.lemmas.List.Sums.{sum_by-cons}
use Rattle.std.proofs.Math.ListN.{length-map}
use Rattle.meaning.specs.Line.{trim_cr}
use Rattle.meaning.specs.Parts.{joined}
use Rattle.meaning.proofs.Ends.{length-lines_at}
use Rattle.meaning.specs.OnePass.{lines_at}
use Rattle.view.specs.Rising.{rising}
use Rattle.view.specs.View.{line_of}
use Rattle.view.specs.Trimmed.{trimmed_at, lines_left}
use Rattle.view.specs.declared.trimmed.TrimmedLines.{TrimmedLines}
use Rattle.view.proofs.Heads.{line-within}
use Rattle.view.proofs.Rises.{first-inside, rising-next}

module _ (w : List ℕ) where
  -- the line up to the first end comes first
  pub first-left : (place e : ℕ) (ends es line : List ℕ) → ends ≡ e ∷ es → line ≡ line_of w (place + 1) e
      → trimmed_at w (suc place) ends ≡ line ∷ trimmed_at w (suc e) es
  unfolding lines_at
  first-left place e ends es line q l = rw (q, l, add-one)

  -- without an end there is none
  pub none-left : (place : ℕ) (ends : List ℕ) → length ends ≡ 0 → trimmed_at w place ends ≡ []
  unfolding lines_at
  none-left place [] q = refl
  none-left place (e ∷ es) q = absurd (omega arith)

  -- together they fit behind their place
  pub left-fit : (place : ℕ) (ends : List ℕ) → rising place ends (length w) ≡ true → length (joined (trimmed_at w (suc place) ends)) ≤ length w - place
  unfolding lines_at
  left-fit place [] t = omega arith
  left-fit place (e ∷ es) t =
      let i = first-inside place e es (length w) t in
      let more = left-fit e es (sym (rising-next place e es (length w) i.0 i.1) ∙ t) in
      omega (arith, more, i.0, i.1, line-within w (suc place) e i.1, length-append (line_of w (suc place) e) (joined (trimmed_at w (suc e) es)))

-- the length of lines together is the sum of theirs
pub length-joined : (ls : List (List ℕ)) → length (joined ls) ≡ sum_by length ls
length-joined [] = refl
length-joined (l ∷ ls) = length-append l (joined ls) ∙ ap (λ (n : ℕ). length l + n) (length-joined ls) ∙ sym (sum_by-cons length l ls)

-- lines that are left are given
pub gives-line : (r : Option (Bor (List ℕ))) (s t : TrimmedLines) → YieldsFirstRef lines_left s r t → (lines_left s ≡ [] → ⊥) → IsSome r
gives-line (Some line) s t h more = refl
gives-line None s t h more = absurd (more h.0)

-- behind the head there is one, where there are two ends
pub two-left : (w : List ℕ) (a : ℕ) (ends head : List ℕ) (rest : List (List ℕ)) → length ends ≡ 2 → trimmed_at w a ends ≡ head ∷ rest → rest ≡ [] → ⊥
two-left w a ends head rest k e none =
    omega (arith, ap length e, ap length none, length-map (lines_at w a ends) trim_cr, length-lines_at w a ends)
