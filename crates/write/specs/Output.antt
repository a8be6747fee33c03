-- What a writer answers and leaves (01, module 3, refusals 9 and 10): the text at the front of the output and the rest as it was, or a
-- refusal and the output unchanged. Assumes nothing.
use Rattle.std.specs.Prelude.{ℕ, ◌-◌, ◌^◌, min, Bool, true, false, cond, List, [], ◌∷◌, ◌++◌, ◌≡◌, length, get_or, drop, eqb, leb}
use Rattle.std.specs.Prelude.{Result, Ok, Err, Some, None}
use Rattle.std.specs.Prelude as rattle
use Rattle.std.specs.Borrow.{Bor}
use Rattle.std.proofs.Math.Option.{Option, none, some}
use Rattle.write.specs.Text.{head_text, id_desc_text, seq_text, wrap_seq_text, to_text, parts_text, wrap_text}
use Rattle.write.specs.declared.error.WriteError.{WriteError}
use Rattle.write.specs.declared.error.WriteError.TheVariants.{Wrap, Room}

-- an answer: the length written, or a refusal by its number with its values
pub data Answer : Type 0 where
  wrote : (n : ℕ) → Answer
  refuses : (number : ℕ) (values : List ℕ) → Answer

-- an answer and the output behind it
pub record Left : Type 0 where
  pub answer : Answer
  pub out : List ℕ

-- a length, or 2^64 - 1 if it is more
abbrev pub cut : ℕ → ℕ
cut n = min n (2 ^ 64 - 1)

-- the need of refusal 9: the text's length, or 2^64 - 1 if it is more
unfoldable pub need : (text : List ℕ) → ℕ
need text = cut (length text)

-- the text at the front and the rest as it was, or refusal 9
unfoldable pub filled : (text out : List ℕ) → Left
unfolding need
filled text out =
    cond (leb (length text) (length out))
    (record { answer = wrote (length text); out = text ++ drop (length text) out })
    (record { answer = refuses 9 (need text ∷ []); out = out })

-- a width 0 is refused with 10 first
unfoldable pub wrapped : (wrap : ℕ) (text out : List ℕ) → Left
unfolding filled
wrapped wrap text out = cond (eqb wrap 0) (record { answer = refuses 10 []; out = out }) (filled text out)

-- a description that is there or not
abbrev pub described : Bool → List ℕ → Option (List ℕ)
described true desc = some desc
described false desc = none

-- the bytes that a description of the code points to, where it is there
abbrev pub bytes_of : rattle.Option (Bor (List ℕ)) → Option (List ℕ)
bytes_of (Some desc) = some desc.now
bytes_of None = none

-- the number of each refusal, and its values: the need of 9
abbrev pub number_of : WriteError → ℕ
number_of Wrap = 10
number_of (Room n) = 9

abbrev pub values_of : WriteError → List ℕ
values_of Wrap = []
values_of (Room n) = n ∷ []

-- its need, or 0 where it has none
abbrev pub need_of : WriteError → ℕ
need_of e = get_or (values_of e) 0 0

-- what each answer of the writers says
abbrev pub says : Result ℕ WriteError → Answer
says (Ok n) = wrote n
says (Err e) = refuses (number_of e) (values_of e)

abbrev pub left : Result ℕ WriteError → List ℕ → Left
left r exit = record { answer = says r; out = exit }

-- the promises of the writers
abbrev pub WriteHead : (head out : List ℕ) → Result ℕ WriteError → (exit : List ℕ) → Type 0
WriteHead head out r exit = left r exit ≡ filled (head_text head) out

abbrev pub WriteIdDesc : (id : List ℕ) (desc : Option (List ℕ)) (out : List ℕ) → Result ℕ WriteError → (exit : List ℕ) → Type 0
WriteIdDesc id desc out r exit = left r exit ≡ filled (id_desc_text id desc) out

abbrev pub WriteSeq : (seq out : List ℕ) → Result ℕ WriteError → (exit : List ℕ) → Type 0
WriteSeq seq out r exit = left r exit ≡ filled (seq_text seq) out

abbrev pub WriteWrapSeq : (seq : List ℕ) (wrap : ℕ) (out : List ℕ) → Result ℕ WriteError → (exit : List ℕ) → Type 0
WriteWrapSeq seq wrap out r exit = left r exit ≡ wrapped wrap (wrap_seq_text wrap seq) out

abbrev pub WriteTo : (head seq out : List ℕ) → Result ℕ WriteError → (exit : List ℕ) → Type 0
WriteTo head seq out r exit = left r exit ≡ filled (to_text head seq) out

abbrev pub WriteParts : (id : List ℕ) (desc : Option (List ℕ)) (seq out : List ℕ) → Result ℕ WriteError → (exit : List ℕ) → Type 0
WriteParts id desc seq out r exit = left r exit ≡ filled (parts_text id desc seq) out

abbrev pub WriteWrap : (id : List ℕ) (desc : Option (List ℕ)) (seq : List ℕ) (wrap : ℕ) (out : List ℕ) → Result ℕ WriteError → (exit : List ℕ) → Type 0
WriteWrap id desc seq wrap out r exit = left r exit ≡ wrapped wrap (wrap_text id desc seq wrap) out
