-- Any two answers that one promise of a writer allows are the same, and so are the outputs: each promise is an equation with one value
-- on its right, and no two answers say the same. Assumes nothing.
use Prim.Native.Nat.{ℕ}
use mathlib.Core.Option.{Option}
use mathlib.Core.List.{List}
use mathlib.Core.Path.{◌≡◌, refl, sym, ap, ◌∙◌}
use Rattle.write.specs.Output.{
  Left,
  says,
  left,
  WriteHead,
  WriteIdDesc,
  WriteSeq,
  WriteWrapSeq,
  WriteTo,
  WriteParts,
  WriteWrap,
}
use Rattle.std.specs.Prelude.{Result, Ok, Err}
use Rattle.write.specs.declared.error.WriteError.{WriteError}
use Rattle.write.specs.declared.error.WriteError.TheVariants.{Wrap, Room}

-- a promise allows one answer and one output
abbrev pub Unique : (Result ℕ WriteError → List ℕ → Type 0) → Type 0
Unique P = (r r' : Result ℕ WriteError) (exit exit' : List ℕ) → P r exit → P r' exit' → (r ≡ r') × (exit ≡ exit')

says-one : (r r' : Result ℕ WriteError) → says r ≡ says r' → r ≡ r'
says-one (Ok m) (Ok n) e = cc
says-one (Ok m) (Err x) e = cc
says-one (Err x) (Ok n) e = cc
says-one (Err Wrap) (Err Wrap) e = refl
says-one (Err Wrap) (Err (Room n)) e = cc
says-one (Err (Room m)) (Err Wrap) e = cc
says-one (Err (Room m)) (Err (Room n)) e = cc

pub left_unique : (x : Left) → Unique (λ (r : Result ℕ WriteError) (exit : List ℕ). left r exit ≡ x)
left_unique x r r' exit exit' p q =
    let e : left r exit ≡ left r' exit' = p ∙ sym q in
    (says-one r r' (ap (λ (l : Left). l.answer) e), ap (λ (l : Left). l.out) e)

pub head-unique : (head out : List ℕ) → Unique (WriteHead head out)
head-unique head out = left_unique _

pub id-desc-unique : (id : List ℕ) (desc : Option (List ℕ)) (out : List ℕ) → Unique (WriteIdDesc id desc out)
id-desc-unique id desc out = left_unique _

pub seq-unique : (seq out : List ℕ) → Unique (WriteSeq seq out)
seq-unique seq out = left_unique _

pub wrap-seq-unique : (seq : List ℕ) (wrap : ℕ) (out : List ℕ) → Unique (WriteWrapSeq seq wrap out)
wrap-seq-unique seq wrap out = left_unique _

pub to-unique : (head seq out : List ℕ) → Unique (WriteTo head seq out)
to-unique head seq out = left_unique _

pub parts-unique : (id : List ℕ) (desc : Option (List ℕ)) (seq out : List ℕ) → Unique (WriteParts id desc seq out)
parts-unique id desc seq out = left_unique _

pub wrap-unique : (id : List ℕ) (desc : Option (List ℕ)) (seq : List ℕ) (wrap : ℕ) (out : List ℕ) → Unique (WriteWrap id desc seq wrap out)
wrap-unique id desc seq wrap out = left_unique _
