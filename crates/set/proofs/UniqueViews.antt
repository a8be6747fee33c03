-- Any two answers that one promise of a set's record allows are the same, and so are the scratch and the output.
-- Assumes nothing.
use Prim.Native.Nat.{ℕ}
use mathlib.Core.Bool.{Bool, cond}
use mathlib.Core.List.{List}
use mathlib.Core.Path.{◌≡◌, refl, sym, ap, ◌∙◌}
use lib.Dec.{eqb}
use Rattle.std.specs.Prelude.{Result, Ok, Err}
use Rattle.window.specs.Offset.{input_at}
use Rattle.reader.specs.Calls as calls
use Rattle.reader.specs.Calls.{number_of_record}
use Rattle.reader.specs.declared.error.RecordError.{RecordError}
use Rattle.reader.specs.declared.error.RecordError.TheVariants.{NoRecord, State}
use Rattle.reader.specs.declared.state.Position.{Position}
use Rattle.view.specs.Current.{placed}
use Rattle.view.specs.View.{Viewed}
use Rattle.view.specs.declared.Full.{Full}
use Rattle.view.specs.declared.Record as view
use Rattle.view.specs.declared.error.FullError.{FullError}
use Rattle.view.proofs.Unique.{one-view, one-full, one-count}
use Rattle.rewrite.proofs.Unique.{Unique, one_left}
use Rattle.set.specs.declared.state.Set.{Set}
use Rattle.set.specs.declared.record.Held.{Held}
use Rattle.set.specs.Set.{Record, held, missing}
use Rattle.set.specs.Record.{IsSound, held_by, RecordIs, placed_by, PositionIs}
use Rattle.set.specs.Views.{RecordAt, Head, Id, Desc, Seq, Line, LinesOf, FullSeq, Write, WriteWrap, WriteUnchanged}

-- the answer that says it
abbrev error_of : (number : ℕ) → RecordError
error_of number = cond (eqb number 7) NoRecord State

error-of : (e : RecordError) → error_of (number_of_record e) ≡ e
error-of NoRecord = refl
error-of State = refl

abbrev held_of : Record → Result Held RecordError
held_of (held start filled from to) = Ok (record { start = start; filled = filled; from = from; to = to })
held_of (missing number) = Err (error_of number)

held-of : (r : Result Held RecordError) → held_of (held_by r) ≡ r
held-of (Ok h) = refl
held-of (Err e) = ap Err (error-of e)

abbrev place_of : calls.Place → Result Position RecordError
place_of (calls.at line byte) = Ok (record { line = line; byte = input_at byte })
place_of calls.nowhere = Err State
place_of (calls.unknown number) = Err (error_of number)

place-of : (p : Result Position RecordError) → place_of (placed_by p) ≡ p
place-of (Ok p) = refl
place-of (Err e) = ap Err (error-of e)

pub is-sound-unique :
    (s : Set) (bytes marks : ℕ) (r r' : Bool) → IsSound s bytes marks r → IsSound s bytes marks r' → r ≡ r'
is-sound-unique s bytes marks r r' p q = p ∙ sym q

pub record-unique : (s : Set) (bytes : ℕ) (marks : List ℕ) (ends i : ℕ) (r r' : Result Held RecordError)
    → RecordIs s bytes marks ends i r → RecordIs s bytes marks ends i r' → r ≡ r'
record-unique s bytes marks ends i r r' p q = sym (held-of r) ∙ ap held_of (p ∙ sym q) ∙ held-of r'

pub position-unique : (s : Set) (bytes : ℕ) (marks : List ℕ) (ends i : ℕ) (r r' : Result Position RecordError)
    → PositionIs s bytes marks ends i r → PositionIs s bytes marks ends i r' → r ≡ r'
position-unique s bytes marks ends i r r' p q = sym (place-of r) ∙ ap place_of (p ∙ sym q) ∙ place-of r'

module _ (s : Set) (bytes marks ends : List ℕ) (i : ℕ) where
  -- one record, by its bytes, its start and its ends
  pub record-at-unique :
      (r r' : Result view.Record RecordError) →
      RecordAt s bytes marks ends i r → RecordAt s bytes marks ends i r' → placed r ≡ placed r'
  record-at-unique r r' p q = p ∙ sym q

  pub head-unique : (r r' : Viewed) → Head s bytes marks ends i r → Head s bytes marks ends i r' → r ≡ r'
  head-unique = one-view

  pub id-unique : (r r' : Viewed) → Id s bytes marks ends i r → Id s bytes marks ends i r' → r ≡ r'
  id-unique = one-view

  pub desc-unique : (r r' : Viewed) → Desc s bytes marks ends i r → Desc s bytes marks ends i r' → r ≡ r'
  desc-unique = one-view

  pub seq-unique : (r r' : Viewed) → Seq s bytes marks ends i r → Seq s bytes marks ends i r' → r ≡ r'
  seq-unique = one-view

  pub line-unique : (n : ℕ) (r r' : Viewed) → Line s bytes marks ends i n r → Line s bytes marks ends i n r' → r ≡ r'
  line-unique n = one-view

  pub lines-unique :
      (r r' : Result ℕ RecordError) → LinesOf s bytes marks ends i r → LinesOf s bytes marks ends i r' → r ≡ r'
  lines-unique = one-count

  pub full-unique : (scratch : List ℕ) (r r' : Result Full FullError) (exit exit' : List ℕ)
      → FullSeq s bytes marks ends i scratch r exit → FullSeq s bytes marks ends i scratch r' exit'
      → (r ≡ r') × (exit ≡ exit')
  full-unique scratch = one-full

  pub write-unique : (out : List ℕ) → Unique (Write s bytes marks ends i out)
  write-unique out = one_left _

  pub write-wrap-unique : (wrap : ℕ) (out : List ℕ) → Unique (WriteWrap s bytes marks ends i wrap out)
  write-wrap-unique wrap out = one_left _

  pub write-unchanged-unique : (out : List ℕ) → Unique (WriteUnchanged s bytes marks ends i out)
  write-unchanged-unique out = one_left _
