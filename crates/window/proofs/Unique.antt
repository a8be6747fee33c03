-- Each promise is an equation with a definition, so it allows one answer. Assumes nothing.
use Prim.Native.Nat.{ℕ}
use mathlib.Core.Bool.{Bool}
use mathlib.Core.List.{List}
use mathlib.Core.Path.{◌≡◌, sym, ◌∙◌}
use Rattle.std.specs.Prelude.{Option}
use Rattle.growth.specs.declared.Policy.{Policy}
use Rattle.growth.proofs.Unique.{says-injective}
use Rattle.window.specs.declared.offset.WindowOffset.{WindowOffset}
use Rattle.window.specs.declared.offset.InputOffset.{InputOffset}
use Rattle.window.specs.declared.fill.Fill.{Fill}
use Rattle.window.specs.declared.fill.Ask.{Ask}
use Rattle.window.specs.Offset.{ToInput, ToWindow}
use Rattle.window.specs.Fill.{
  New,
  IsSound,
  IsReady,
  AskFor,
  Asking,
  Reports,
  Slide,
  Grow,
  Holds,
  EmptyAt,
}

same-as : {A : Type 0} {x r s : A} → r ≡ x → s ≡ x → r ≡ s
same-as e f = e ∙ sym f

pub to-input-unique : (base : InputOffset) (at : WindowOffset) (r s : InputOffset) → ToInput base at r → ToInput base at s → r ≡ s
to-input-unique base at r s = same-as

pub to-window-unique : (base at : InputOffset) (r s : WindowOffset) → ToWindow base at r → ToWindow base at s → r ≡ s
to-window-unique base at r s = same-as

pub new-unique : (capacity : ℕ) (p : Policy) (lent : ℕ) (r s : Fill) → New capacity p lent r → New capacity p lent s → r ≡ s
new-unique capacity p lent r s = same-as

pub is-sound-unique : (f : Fill) (r s : Bool) → IsSound f r → IsSound f s → r ≡ s
is-sound-unique f r s = same-as

pub is-ready-unique : (f : Fill) (r s : Bool) → IsReady f r → IsReady f s → r ≡ s
is-ready-unique f r s = same-as

pub ask-unique : (f : Fill) (r s : Ask) → AskFor f r → AskFor f s → r ≡ s
ask-unique f r s = same-as

pub asking-unique : (b : Bool) (f r s : Fill) → Asking b f r → Asking b f s → r ≡ s
asking-unique b f r s = same-as

pub slide-unique :
    (n : ℕ) (f : Fill) (w : List ℕ) (r s : Fill) (x y : List ℕ) →
    Slide n f w r x →
    Slide n f w s y →
    (r ≡ s) × (x ≡ y)
slide-unique n f w r s x y a b = (same-as a.0 b.0, same-as a.1 b.1)

pub holds-unique : (at : ℕ) (f : Fill) (r s : Bool) → Holds at f r → Holds at f s → r ≡ s
holds-unique at f r s = same-as

pub empty-at-unique : (at : ℕ) (f r s : Fill) → EmptyAt at f r → EmptyAt at f s → r ≡ s
empty-at-unique at f r s = same-as

pub report-unique : (count : ℕ) (f : Fill) (r s : Option Fill) → Reports count f r → Reports count f s → r ≡ s
report-unique count f r s a b = says-injective r s (same-as a b)

pub grow-unique : (f : Fill) (r s : Option Fill) → Grow f r → Grow f s → r ≡ s
grow-unique f r s a b = says-injective r s (same-as a b)
