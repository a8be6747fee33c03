-- Any two answers that one promise allows are the same, and so are the outputs: each promise is an equation with one value on its right, and
-- no two answers say the same. Assumes nothing.
use Prim.Native.Nat.{ℕ}
use mathlib.Core.List.{List, [], ◌∷◌}
use mathlib.Core.Path.{◌≡◌, sym, ap, ◌∙◌}
use Rattle.reader.specs.declared.state.Reader.{Reader}
use Rattle.reader.specs.declared.state.Position.{Position}
use Rattle.reader.specs.declared.state.Answer.{Answer}
use Rattle.view.specs.declared.Full.{Full}
use Rattle.view.specs.declared.error.FullError.{FullError}
use Rattle.std.specs.Prelude.{Result, Ok, Err}
use Rattle.write.specs.Output.{Left}
use Rattle.rows.specs.Rows.{says, left, PutRow, PutLast, FullLen, PutRecord}
use Rattle.rows.specs.declared.room.Room.{Room}

-- a promise allows one answer and one output
abbrev pub Unique : (Result ℕ Room → List ℕ → Type 0) → Type 0
Unique P = (r r' : Result ℕ Room) (exit exit' : List ℕ) → P r exit → P r' exit' → (r ≡ r') × (exit ≡ exit')

says-one : (r r' : Result ℕ Room) → says r ≡ says r' → r ≡ r'
says-one (Ok m) (Ok n) e = cc
says-one (Ok m) (Err s) e = cc
says-one (Err r) (Ok n) e = cc
says-one (Err r) (Err s) e = ap (λ (n : ℕ). Err (record { 0 = n })) (let f : r.0 ∷ [] ≡ s.0 ∷ [] = cc in cc)

left_unique : (x : Left) → Unique (λ (r : Result ℕ Room) (exit : List ℕ). left r exit ≡ x)
left_unique x r r' exit exit' p q =
    let e : left r exit ≡ left r' exit' = p ∙ sym q in
    (says-one r r' (ap (λ (l : Left). l.answer) e), ap (λ (l : Left). l.out) e)

pub row-unique : (line byte : ℕ) (id : List ℕ) (len : ℕ) (out : List ℕ) (at : ℕ) → Unique (PutRow line byte id len out at)
row-unique line byte id len out at = left_unique _

pub last-unique : (a : Answer) (out : List ℕ) (at : ℕ) → Unique (PutLast a out at)
last-unique a out at = left_unique _

pub length-unique : (f : Result Full FullError) (n n' : ℕ) → FullLen f n → FullLen f n' → n ≡ n'
length-unique f n n' p q = p ∙ sym q

pub record-unique : (r : Reader) (p : Position) (w ends out : List ℕ) (at : ℕ) → Unique (PutRecord r p w ends out at)
record-unique r p w ends out at = left_unique _
