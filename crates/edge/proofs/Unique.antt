-- Any two answers that one promise of the edge allows are the same, with all that is lent: each promise is an equation with one value on its
-- right, and its left has every number and the output as they are. Assumes nothing.
use Prim.Native.Nat.{ℕ}
use mathlib.Core.Bool.{Bool}
use mathlib.Core.List.{List}
use mathlib.Core.Path.{◌≡◌, sym, ap, ◌∙◌}
use Rattle.edge.specs.Edge.{
  Grew,
  GrowIs,
  SetupIs,
  Told,
  tells,
  WriteHeadIs,
  WriteIdDescIs,
  WriteSeqIs,
  WriteWrapSeqIs,
  WriteToIs,
  WritePartsIs,
  WriteWrapIs,
  WriteWrapSeqIterIs,
  WriteUnchangedIs,
}

pub grow-to-unique :
    (kind n limit size window : ℕ) (grows grows' : Bool) (next next' : ℕ) →
    GrowIs kind n limit size window grows next →
    GrowIs kind n limit size window grows' next' →
    (grows ≡ grows') × (next ≡ next')
grow-to-unique kind n limit size window grows grows' next next' p q =
    let e : ◌≡◌ {A = Grew} (record { grows = grows; next = next }) (record { grows = grows'; next = next' }) = p ∙ sym q in
    (ap (λ (g : Grew). g.grows) e, ap (λ (g : Grew). g.next) e)

pub setup-check-unique :
    (capacity kind n limit window slots number number' : ℕ) →
    SetupIs capacity kind n limit window slots number →
    SetupIs capacity kind n limit window slots number' →
    number ≡ number'
setup-check-unique capacity kind n limit window slots number number' p q = p ∙ sym q

-- a writer's promise allows one number, one length and one output
abbrev pub Unique : (ℕ → ℕ → List ℕ → Type 0) → Type 0
Unique P =
    (number number' len len' : ℕ) (exit exit' : List ℕ) →
    P number len exit →
    P number' len' exit' →
    (number ≡ number') × (len ≡ len') × (exit ≡ exit')

pub tells-unique : (x : Told) → Unique (λ (number len : ℕ) (exit : List ℕ). tells number len exit ≡ x)
tells-unique x number number' len len' exit exit' p q =
    let e : tells number len exit ≡ tells number' len' exit' = p ∙ sym q in
    (ap (λ (t : Told). t.number) e, ap (λ (t : Told). t.len) e, ap (λ (t : Told). t.out) e)

pub head-unique : (head out : List ℕ) → Unique (WriteHeadIs head out)
head-unique head out = tells-unique _

pub id-desc-unique : (id : List ℕ) (with : Bool) (desc out : List ℕ) → Unique (WriteIdDescIs id with desc out)
id-desc-unique id with desc out = tells-unique _

pub seq-unique : (seq out : List ℕ) → Unique (WriteSeqIs seq out)
seq-unique seq out = tells-unique _

pub wrap-seq-unique : (seq : List ℕ) (wrap : ℕ) (out : List ℕ) → Unique (WriteWrapSeqIs seq wrap out)
wrap-seq-unique seq wrap out = tells-unique _

pub to-unique : (head seq out : List ℕ) → Unique (WriteToIs head seq out)
to-unique head seq out = tells-unique _

pub parts-unique : (id : List ℕ) (with : Bool) (desc seq out : List ℕ) → Unique (WritePartsIs id with desc seq out)
parts-unique id with desc seq out = tells-unique _

pub wrap-unique : (id : List ℕ) (with : Bool) (desc seq : List ℕ) (wrap : ℕ) (out : List ℕ) → Unique (WriteWrapIs id with desc seq wrap out)
wrap-unique id with desc seq wrap out = tells-unique _

pub wrap-seq-iter-unique : (bytes : List ℕ) (start : ℕ) (ends : List ℕ) (wrap : ℕ) (out : List ℕ) → Unique (WriteWrapSeqIterIs bytes start ends wrap out)
wrap-seq-iter-unique bytes start ends wrap out = tells-unique _

pub unchanged-unique : (bytes : List ℕ) (start : ℕ) (ends out : List ℕ) → Unique (WriteUnchangedIs bytes start ends out)
unchanged-unique bytes start ends out = tells-unique _
