-- The promises of `grow_to` and `of_kind` allow one answer: `says` tells the answers apart. Assumes nothing.
use Prim.Native.Nat.{ℕ}
use mathlib.Core.Path.{◌≡◌, refl, sym, ◌∙◌}
use Rattle.std.specs.Prelude.{Option, Some, None}
use Rattle.growth.specs.Growth.{says, GrowTo, OfKind}
use Rattle.growth.specs.declared.Policy.{Policy}

pub says-injective : {A : Type 0} (r s : Option A) → says r ≡ says s → r ≡ s
says-injective (Some a) (Some b) e = cc
says-injective (Some a) None e = cc
says-injective None (Some b) e = cc
says-injective None None e = refl

pub grow-to-unique :
    (p : Policy) (size window : ℕ) (r s : Option ℕ) →
    GrowTo p size window r →
    GrowTo p size window s →
    r ≡ s
grow-to-unique p size window r s e f = says-injective r s (e ∙ sym f)

pub of-kind-unique :
    (kind n limit : ℕ) (r s : Option Policy) →
    OfKind kind n limit r →
    OfKind kind n limit s →
    r ≡ s
of-kind-unique kind n limit r s e f = says-injective r s (e ∙ sym f)
