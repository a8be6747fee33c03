-- The promise of a set call is an equation with a definition, and what an answer says tells the answer: so it allows
-- one. Assumes nothing.
use Prim.Native.Nat.{ℕ}
use mathlib.Core.Bool.{cond}
use mathlib.Core.List.{List, [], ◌∷◌}
use mathlib.Core.Path.{◌≡◌, refl, sym, ap, ◌∙◌}
use lib.Dec.{eqb}
use Rattle.window.specs.Offset.{window_at, input_at}
use Rattle.reader.specs.declared.state.Position.{Position}
use Rattle.reader.specs.declared.state.Reader.{Reader}
use Rattle.set.specs.declared.state.Filled.{Filled}
use Rattle.set.specs.declared.state.Filled.TheVariants as filled
use Rattle.set.specs.declared.state.NextSet.{NextSet}
use Rattle.set.specs.declared.state.Set.{Set}
use Rattle.set.specs.Read.{Said, asks, holds, ends, refuses, Called, said_by, SetIs}

abbrev place_at : (line byte : ℕ) → Position
place_at line byte = record { line = line; byte = input_at byte }

-- the answer that says so
abbrev answer_back : Said → Filled
answer_back (asks place room offset) =
    filled.Ask (record { place = window_at place; room = room; offset = input_at offset })
answer_back (holds count n) = filled.Records count n
answer_back ends = filled.End
answer_back (refuses n []) = cond (eqb n 5) filled.Place (cond (eqb n 11) filled.State filled.Room)
answer_back (refuses n (a ∷ [])) = filled.State
answer_back (refuses n (a ∷ b ∷ v)) =
    cond (eqb n 2) (filled.Start a b) (cond (eqb n 3) (filled.Window (place_at a b)) (filled.Table (place_at a b)))

answer-is : (a : Filled) → answer_back (said_by a) ≡ a
answer-is (filled.Ask a) = refl
answer-is (filled.Records count n) = refl
answer-is filled.End = refl
answer-is (filled.Start l x) = refl
answer-is (filled.Window p) = refl
answer-is (filled.Table p) = refl
answer-is filled.Place = refl
answer-is filled.State = refl
answer-is filled.Room = refl

pub next-set-unique :
    (s : Set) (bytes marks es : List ℕ) (reader : Reader) (w e : List ℕ) (m n : NextSet)
    (w₁ w₂ e₁ e₂ b₁ b₂ m₁ m₂ s₁ s₂ : List ℕ) →
    SetIs s bytes marks es reader w e m w₁ e₁ b₁ m₁ s₁ →
    SetIs s bytes marks es reader w e n w₂ e₂ b₂ m₂ s₂ →
    (m ≡ n) × (w₁ ≡ w₂) × (e₁ ≡ e₂) × (b₁ ≡ b₂) × (m₁ ≡ m₂) × (s₁ ≡ s₂)
next-set-unique s bytes marks es reader w e m n w₁ w₂ e₁ e₂ b₁ b₂ m₁ m₂ s₁ s₂ p q =
    let same = p ∙ sym q in
    let said = sym (answer-is m.answer) ∙ ap (λ (c : Called). answer_back c.said) same ∙ answer-is n.answer in (
      λ i. record { reader = (same i).reader; set = (same i).set; answer = said i },
      ap (λ (c : Called). c.window) same,
      ap (λ (c : Called). c.table) same,
      ap (λ (c : Called). c.bytes) same,
      ap (λ (c : Called). c.marks) same,
      ap (λ (c : Called). c.ends) same,
    )
