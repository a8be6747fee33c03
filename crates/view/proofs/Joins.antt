-- Laws of the joined lines: one line more in the scratch, and the cases of the full sequence. Assumes nothing.
use Prim.Native.Nat.{ℕ, suc, ◌+◌, ◌-◌, ◌≤◌, ◌<◌}
use native.Mathlib.Numerals.{add-one}
use native.Mathlib.Nat.{zero-add}
use native.Mathlib.Omega.{arith}
use mathlib.Core.Bool.{true, false, false≢true}
use mathlib.Core.List.{List, [], ◌∷◌, ◌++◌}
use mathlib.Core.Path.{◌≡◌, refl, sym, ap, ◌∙◌}
use lib.ListN.{length, get_or, take, drop, length-append}
use lib.Seq.{take-length}
use borrow.Author.Tests.{le-leb, lt-leb}
use Rattle.meaning.specs.OnePass.{lines_at}
use Rattle.scan.specs.Move.{pasted}
use Rattle.scan.proofs.Paste.{pasted-none, length-pasted, pasted-behind, pasted-room}
use Rattle.meaning.specs.Parts.{joined}
use Rattle.view.specs.Trimmed.{trimmed_at}
use Rattle.view.specs.Rising.{rising}
use Rattle.view.specs.View.{line_of}
use Rattle.view.specs.Full.{window, front, refuses, left, filled, joined_at, whole_at, full_in}
use Rattle.view.proofs.Rises.{rising-rises}
use Rattle.view.proofs.Heads.{line-within}
use Rattle.view.proofs.Cases.{passed-on}
use Rattle.view.proofs.TrimmedLemmas.{gives-line, two-left}

-- one line pasted leaves those behind it to paste
pub paste-line : (at : ℕ) (line rest scratch exit : List ℕ) → at + length (line ++ rest) ≤ length scratch → exit ≡ pasted at line scratch
    → (at + length line + length rest ≤ length exit) × (pasted (at + length line) rest exit ≡ pasted at (line ++ rest) scratch)
paste-line at line rest scratch exit room made =
    let n = length-append line rest in
    let fits : at + length line + length rest ≤ length scratch = omega arith in (
      omega (arith, ap length made, length-pasted at line scratch (omega arith)),
      ap (pasted (at + length line) rest) made ∙ pasted-behind at line rest scratch fits,
    )

-- a text that does not fit, and one that does
pub filled-room : (text scratch : List ℕ) → length scratch < length text → filled text scratch ≡ left (refuses 9 (length text ∷ [])) scratch
unfolding filled
filled-room text scratch h = rw (lt-leb (length text) (length scratch) h)

pub filled-done : (text scratch : List ℕ) → length text ≤ length scratch → filled text scratch ≡ left (front (length text)) (pasted 0 text scratch)
unfolding filled
filled-done text scratch h =
    let z : 0 + length text ≡ length text = zero-add (length text) in
    let made : pasted 0 text scratch ≡ text ++ drop (length text) scratch =
    pasted-room 0 text scratch (omega arith) ∙ ap (λ (n : ℕ). text ++ drop n scratch) z in
    rw (le-leb (length text) (length scratch) h) (ap (left (front (length text))) (sym made))

module _ (w : List ℕ) (place : ℕ) (ends scratch : List ℕ) where
  -- one line is the window's own part
  pub whole-one : (l : List ℕ) → length ends ≡ 1 → l ≡ line_of w (place + 1) (get_or ends 0 0)
      → whole_at w (suc place) ends scratch ≡ left (window (place + 1) (place + 1 + length l)) scratch
  unfolding whole_at
  whole-one l k e = rw (e, add-one) (go ends k)
    where
      go : (es : List ℕ) → length es ≡ 1
          → whole_at w (suc place) es scratch ≡ left (window (suc place) (suc place + length (line_of w (suc place) (get_or es 0 0)))) scratch
      go [] k = absurd (omega arith)
      go (x ∷ []) k = refl
      go (x ∷ y ∷ es) k = absurd (omega arith)

  -- any other number of lines is joined
  pub whole-many : (length ends ≡ 1 → ⊥) → whole_at w (suc place) ends scratch ≡ filled (joined_at w (suc place) ends) scratch
  unfolding whole_at lines_at
  whole-many = go ends
    where
      go : (es : List ℕ) → (length es ≡ 1 → ⊥) → whole_at w (suc place) es scratch ≡ filled (joined_at w (suc place) es) scratch
      go [] k = refl
      go (x ∷ []) k = absurd (k refl)
      go (x ∷ y ∷ es) k = refl

-- the ends behind the first
abbrev pub Others : List ℕ → List ℕ
Others ends = take (length ends - 1) (drop 1 ends)

pub others-are : (x : ℕ) (ends : List ℕ) → Others (x ∷ ends) ≡ ends
others-are x ends = let e : length (x ∷ ends) - 1 ≡ length ends = omega arith in rw e (take-length ends)

module _ (w : List ℕ) (start : ℕ) where
  pub full-empty : (ends scratch : List ℕ) → trimmed_at w (suc start) ends ≡ [] → full_in w start ends scratch ≡ left (refuses 11 []) scratch
  unfolding full_in lines_at
  full-empty [] scratch k = refl
  full-empty (x ∷ ends) scratch k = absurd (cc)

  pub full-falls : (ends scratch : List ℕ) → rising start ends (length w) ≡ false
      → full_in w start ends scratch ≡ left (refuses 11 []) scratch
  unfolding full_in
  full-falls [] scratch t = absurd (false≢true (sym t))
  full-falls (x ∷ ends) scratch t = rw t

  pub full-some : (ends scratch : List ℕ) → 0 < length ends → rising start ends (length w) ≡ true
      → full_in w start ends scratch ≡ whole_at w (suc (get_or ends 0 0)) (Others ends) scratch
  unfolding full_in
  full-some [] scratch k t = absurd (omega arith)
  full-some (x ∷ ends) scratch k t = rw (t, others-are x ends)

  -- of one line behind the head its own part, of any other number the joined ones
  pub full-one : (ends scratch head line : List ℕ) (more rest : List (List ℕ)) → rising start ends (length w) ≡ true → length ends ≡ 2
      → trimmed_at w (suc start) ends ≡ head ∷ more → more ≡ line ∷ rest
      → (get_or ends 0 0 + 1 + length line ≤ length w)
      × (left (window (get_or ends 0 0 + 1) (get_or ends 0 0 + 1 + length line)) scratch ≡ full_in w start ends scratch)
  unfolding full_in lines_at
  full-one [] scratch head line more rest t k e f = absurd (omega arith)
  full-one (x ∷ []) scratch head line more rest t k e f = absurd (omega arith)
  full-one (x ∷ y ∷ []) scratch head line more rest t k e f =
      let l : line_of w (suc x) y ≡ line = cc in
      let r = (rising-rises start (x ∷ y ∷ []) (length w) t).1.1 in (
        omega (arith, ap length l, line-within w (suc x) y r.1.0, r.0, r.1.0),
        rw (t, ← l, add-one) refl,
      )
  full-one (x ∷ y ∷ z ∷ ends) scratch head line more rest t k e f = absurd (omega arith)

  pub full-many : (ends scratch head : List ℕ) (rest : List (List ℕ)) → rising start ends (length w) ≡ true → (length ends ≡ 2 → ⊥)
      → trimmed_at w (suc start) ends ≡ head ∷ rest → full_in w start ends scratch ≡ filled (joined rest) scratch
  unfolding full_in lines_at
  full-many [] scratch head rest t k e = absurd (cc)
  full-many (x ∷ ends) scratch head rest t k e =
      let r : trimmed_at w (suc x) ends ≡ rest = cc in
      rw t (whole-many w x ends scratch (λ n. k (omega arith)) ∙ ap (λ (ls : List (List ℕ)). filled (joined ls) scratch) r)

-- what the functions of the full sequence go by
pub ruleset joined_steps = (
  passed-on,
  full-falls,
  full-empty,
  full-one,
  full-many,
  filled-room,
  filled-done,
  pasted-none,
  gives-line,
  two-left,
)
