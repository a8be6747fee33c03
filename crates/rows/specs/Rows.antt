-- What the functions that write the program's text answer and leave (01, module 10, refusal 9): the text in the output from a place on and the
-- rest as it was, or the need and the output unchanged. The texts themselves are those of `write`, Listing.antt. Assumes nothing.
use Rattle.std.specs.Prelude.{ℕ, Result, Ok, Err, ◌+◌, ◌-◌, cond, List, [], ◌∷◌, ◌≡◌, length, get_or, leb}
use Rattle.scan.specs.Move.{pasted}
use Rattle.write.specs.Output.{wrote, refuses, Left, need}
use Rattle.write.specs.Output as output
use Rattle.write.specs.Listing.{row_of, end_text, refused_text}
use Rattle.reader.specs.declared.state.Reader.{Reader}
use Rattle.reader.specs.declared.state.Position.{Position}
use Rattle.reader.specs.declared.state.Answer.{Answer}
use Rattle.reader.specs.Read.{Said, asks, gives, said_by}
use Rattle.reader.specs.Read as reads
use Rattle.view.specs.View.{id_in, shown_in}
use Rattle.view.specs.Full.{Whole, window, front, full_in}
use Rattle.view.specs.Full as full
use Rattle.view.specs.Current.{of_current, refused}
use Rattle.view.specs.declared.Full.{Full}
use Rattle.view.specs.declared.error.FullError.{FullError}
use Rattle.rows.specs.declared.room.Room.{Room}

-- what each answer says: the place behind the text, or refusal 9 with the need
abbrev pub says : Result ℕ Room → output.Answer
says (Ok n) = wrote n
says (Err room) = refuses 9 (room.0 ∷ [])

abbrev pub left : Result ℕ Room → List ℕ → Left
left r exit = record { answer = says r; out = exit }

-- the text from a place on, or refusal 9
unfoldable pub filled_at : (at : ℕ) (text out : List ℕ) → Left
unfolding need
filled_at at text out =
    cond (leb (at + length text) (length out))
    (record { answer = wrote (at + length text); out = pasted at text out })
    (record { answer = refuses 9 (need text ∷ []); out = out })

-- the last line, by what a read says: none at an ask or a record
abbrev pub last_text : Said → List ℕ
last_text (asks place room offset) = []
last_text (gives line byte) = []
last_text reads.ends = end_text
last_text (reads.refuses number values) = refused_text number

-- The length of a full sequence, by what the view of it says. Refusal 9 gives it as the need; of another refusal it is 0.
abbrev pub length_of : Whole → ℕ
length_of (window from to) = to - from
length_of (front n) = n
length_of (full.refuses number values) = get_or values 0 0

-- that of a reader's current record: the need, where there is no scratch
abbrev pub length_in : Reader → (w ends : List ℕ) → ℕ
length_in r w ends =
    length_of (of_current r w ends (λ bytes start es. full_in bytes start es []) (λ number. full.left (full.refuses number []) [])).answer

-- the row of a reader's current record at a position
abbrev pub row_in : Reader → Position → (w ends : List ℕ) → List ℕ
row_in r p w ends = row_of p.line p.byte.0 (shown_in w (of_current r w ends id_in refused)) (length_in r w ends)

-- the promises
abbrev pub PutRow : (line byte : ℕ) (id : List ℕ) (len : ℕ) (out : List ℕ) (at : ℕ) → Result ℕ Room → (exit : List ℕ) → Type 0
PutRow line byte id len out at r exit = left r exit ≡ filled_at at (row_of line byte id len) out

abbrev pub PutLast : Answer → (out : List ℕ) (at : ℕ) → Result ℕ Room → (exit : List ℕ) → Type 0
PutLast a out at r exit = left r exit ≡ filled_at at (last_text (said_by a)) out

abbrev pub FullLen : Result Full FullError → (r : ℕ) → Type 0
FullLen f r = r ≡ length_of (full.says f)

abbrev pub PutRecord : Reader → Position → (w ends out : List ℕ) (at : ℕ) → Result ℕ Room → (exit : List ℕ) → Type 0
PutRecord reader p w ends out at r exit = left r exit ≡ filled_at at (row_in reader p w ends) out
