-- The promise of each leaf is an equation with a definition, so it allows one answer. Assumes nothing.
use Prim.Native.Nat.{ℕ}
use mathlib.Core.List.{List}
use mathlib.Core.Path.{◌≡◌, sym, ap, ◌∙◌}
use Rattle.scan.specs.Scan.{LineEnd, TrimCr}
use Rattle.scan.specs.Move.{MoveDown, MoveEnds, Copy}
use Rattle.scan.specs.Search.{Recorded, Search, Lead}
use Rattle.scan.specs.declared.ends.Searched.{Searched}
use Rattle.scan.specs.declared.line.Blank.{Blank}

same-as : {A : Type 0} {x r s : A} → r ≡ x → s ≡ x → r ≡ s
same-as e f = e ∙ sym f

pub trim-cr-unique : (line r s : List ℕ) → TrimCr line r → TrimCr line s → r ≡ s
trim-cr-unique line r s = same-as

pub line-end-unique : (bytes : List ℕ) (from r s : ℕ) → LineEnd bytes from r → LineEnd bytes from s → r ≡ s
line-end-unique bytes from r s = same-as

pub move-down-unique :
    (from to : ℕ) (window r s : List ℕ) →
    MoveDown from to window r →
    MoveDown from to window s →
    r ≡ s
move-down-unique from to window r s = same-as

pub move-ends-unique :
    (count by : ℕ) (ends r s : List ℕ) →
    MoveEnds count by ends r →
    MoveEnds count by ends s →
    r ≡ s
move-ends-unique count by ends r s = same-as

pub copy-unique :
    {A : Type 0} (at : ℕ) (src out r s : List A) →
    Copy at src out r →
    Copy at src out s →
    r ≡ s
copy-unique at src out r s = same-as

pub search-unique :
    (bytes : List ℕ) (from count limit mark : ℕ) (ends : List ℕ) (r s : Searched) (x y : List ℕ) →
    Search bytes from count limit mark ends r x →
    Search bytes from count limit mark ends s y →
    (r ≡ s) × (x ≡ y)
search-unique bytes from count limit mark ends r s x y e f =
    let same = same-as {A = Recorded} e f in
    (ap (λ (a : Recorded). a.out) same, ap (λ (a : Recorded). a.ends) same)

pub lead-unique : (bytes : List ℕ) (from : ℕ) (r s : Blank) → Lead bytes from r → Lead bytes from s → r ≡ s
lead-unique bytes from r s = same-as
