-- Sample runs (01, "The window and its refills"): a caller serves an input k bytes at a time, and what it hears is computed by the very
-- definitions that the contracts of `new`, `next`, `report`, `seek`, `position` and of the view of a head cite. One table, one statement.
-- Assumes nothing.
use Rattle.std.specs.Prelude.{ℕ, zero, suc, ◌+◌, min, List, [], ◌∷◌, map, ◌≡◌, refl, length, take, drop, replicate}
use Rattle.std.proofs.Math.Option.{Option, none, some}
use Rattle.growth.specs.declared.Policy.{Policy}
use Rattle.growth.specs.declared.Policy.TheVariants.{StdPolicy, DoubleUntilLimited}
use Rattle.meaning.specs.Ascii.{ascii}
use Rattle.meaning.specs.Line.{trim_cr}
use Rattle.scan.specs.Move.{pasted}
use Rattle.reader.specs.Read.{Said, asks, gives, ends, refuses, read_of}
use Rattle.reader.specs.Calls.{Place, at, nowhere, place_of, setup_of, report_of, seek_of, current_of}
use Rattle.view.specs.View.{Shown, part, head_in, between}
use Rattle.view.specs.View as view
use Rattle.view.specs.Current.{of_current, refused}
use Rattle.runs.specs.Run.{State, state, reading, after_read}

-- what `new` is given: the start capacity, the policy, and how long window and table are
pub record Setup : Type 0 where
  pub capacity : ℕ
  pub policy : Policy
  pub window : ℕ
  pub slots : ℕ

-- What the caller does: it reads until it hears an answer that is no ask, or seeks. Or it leaves the reader and sets up another one.
pub data Command : Type 0 where
  reads : Command
  seeks : (line byte : ℕ) → Command
  sets : Setup → Command

-- What it hears: an answer that is no ask, with `position` and the head's text then; a call that is refused, by its number; or nothing but
-- asks, as often as it cared to serve them.
pub data Heard : Type 0 where
  hears : Said → Place → (head : Option (List ℕ)) → Heard
  refusal : (number : ℕ) → Heard
  only_asks : Heard

-- the text of the current record's head
abbrev pub text_of : (w : List ℕ) → Shown → Option (List ℕ)
text_of w (part from to) = some (between w from to)
text_of w view.none = none
text_of w (view.refuses number values) = none

abbrev pub head_now : State → Option (List ℕ)
unfolding head_in current_of
head_now s = text_of s.window (of_current s.reader s.window s.table head_in refused)

-- An ask is served: at most k bytes of X from the asked offset on, at the place asked, and their count is reported; none left tells the end.
unfoldable pub served : (X : List ℕ) (k place room offset : ℕ) → State → State
unfolding report_of pasted
served X k place room offset s =
    let bytes = take (min k room) (drop offset X) in
    state (report_of (length bytes) s.reader).reader (pasted place bytes s.window) s.table

-- what came of it: what was heard, and the state then
pub record Outcome : Type 0 where
  pub heard : Heard
  pub then' : State

abbrev pub hears_in : Said → State → Outcome
unfolding place_of
hears_in a s = record { heard = hears a (place_of s.reader) (head_now s); then' = s }

-- reads until an answer that is no ask, in at most `turns` asks
unfoldable pub read_on : (turns : ℕ) (X : List ℕ) (k : ℕ) → State → Outcome
unfolding served read_of
read_on zero X k s = record { heard = only_asks; then' = s }
read_on (suc turns) X k s =
    let t = after_read s in
    elim (reading s).said [
      | asks p m o ↦ read_on turns X k (served X k p m o t)
      | gives l b ↦ hears_in (gives l b) t
      | ends ↦ hears_in ends t
      | refuses n vs ↦ hears_in (refuses n vs) t
    ]

-- a reader that was set up, over a window and a table of zeros
unfoldable pub new_over : Setup → Option State
unfolding setup_of
new_over u =
    elim (setup_of u.capacity u.policy u.window u.slots) [
      | none ↦ none
      | some r ↦ some (state r (replicate u.window 0) (replicate u.slots 0))
    ]

-- all that is heard; each read may ask as often as the input has bytes, and a few times more
unfoldable pub run : (X : List ℕ) (k : ℕ) → List Command → State → List Heard
unfolding read_on new_over seek_of
run X k [] s = []
run X k (reads ∷ cs) s = let o = read_on (length X + 9) X k s in o.heard ∷ run X k cs o.then'
run X k (seeks l b ∷ cs) s =
    let d = seek_of l b s.reader in
    let t = state d.reader s.window s.table in
    elim d.refusal [ none ↦ run X k cs t | some number ↦ refusal number ∷ run X k cs t ]
run X k (sets u ∷ cs) s = elim (new_over u) [ none ↦ refusal 1 ∷ run X k cs s | some t ↦ run X k cs t ]

-- what a caller does over an input, k bytes at a time, and what it hears
pub record Sample : Type 0 where
  pub input : List ℕ
  pub bytes : ℕ
  pub setup : Setup
  pub commands : List Command
  pub heard : List Heard

abbrev pub heard_in : Sample → List Heard
unfolding run new_over
heard_in c = elim (new_over c.setup) [ none ↦ refusal 1 ∷ [] | some s ↦ run c.input c.bytes c.commands s ]

-- a setup under `StdPolicy`
abbrev std : (capacity window slots : ℕ) → Setup
std capacity window slots = record { capacity = capacity; policy = StdPolicy; window = window; slots = slots }

abbrev sample : (input : List ℕ) (bytes : ℕ) → Setup → List Command → List Heard → Sample
sample input bytes setup commands heard = record { input = input; bytes = bytes; setup = setup; commands = commands; heard = heard }

-- a record that is given is where `position` says; refusals 3 and 4 name that place too
abbrev record' : (line byte : ℕ) (head : List ℕ) → Heard
record' line byte head = hears (gives line byte) (at line byte) (some head)

abbrev refuses' : (number line byte : ℕ) → Heard
refuses' number line byte = hears (refuses number (line ∷ byte ∷ [])) (at line byte) none

-- the end behind a record; the end, refusal 2 and a read's 5 without one
abbrev end_of : (line byte : ℕ) → Heard
end_of line byte = hears ends (at line byte) none

abbrev no_place : Said → Heard
no_place a = hears a nowhere none

-- a setup of another kind
abbrev limited : Setup
limited = record { capacity = 5; policy = DoubleUntilLimited 4 16; window = 30; slots = 3 }

-- a blank line and three records
abbrev three : List ℕ
unfolding ascii
three = ascii "\n>a b\nAC\n>c\nGT\nA\n>d"

-- its records and the end
abbrev all_three : List Heard
unfolding ascii
all_three = record' 2 1 (ascii "a b") ∷ record' 4 9 (ascii "c") ∷ record' 7 17 (ascii "d") ∷ end_of 7 17 ∷ []

abbrev pub table : List Sample
unfolding ascii
table =
    -- the same records, served one byte at a time, two at a time, and all at once; in windows that grow from 3, and in one that holds all
    sample three 1 (std 3 20 4) (reads ∷ reads ∷ reads ∷ reads ∷ []) all_three ∷
    sample three 2 (std 3 20 4) (reads ∷ reads ∷ reads ∷ reads ∷ []) all_three ∷
    sample three 100 (std 3 20 4) (reads ∷ reads ∷ reads ∷ reads ∷ []) all_three ∷
    sample three 100 (std 40 40 4) (reads ∷ reads ∷ reads ∷ reads ∷ []) all_three ∷
    -- an empty input: the end, with no record to name
    sample [] 1 (std 3 20 4) (reads ∷ reads ∷ []) (no_place ends ∷ no_place ends ∷ []) ∷
    -- refusal 1: a capacity of 2
    sample three 1 (std 2 20 4) (reads ∷ []) (refusal 1 ∷ []) ∷
    -- refusal 2 with the line and its first byte; then the end
    sample (ascii "\r\n\nX>") 1 (std 3 20 4) (reads ∷ reads ∷ reads ∷ [])
    (no_place (refuses 2 (3 ∷ 88 ∷ [])) ∷ no_place ends ∷ no_place ends ∷ []) ∷
    sample (ascii "\n\rX") 2 (std 3 20 4) (reads ∷ reads ∷ []) (no_place (refuses 2 (2 ∷ 13 ∷ [])) ∷ no_place ends ∷ []) ∷
    -- Refusal 3: in a window of 20 that grows 3, 6, 12 a second record of 11 bytes is read, and one of 12 is refused. It lasts.
    sample (ascii ">a\n>id\nACGTAC\n") 2 (std 3 20 4) (reads ∷ reads ∷ reads ∷ [])
    (record' 1 0 (ascii "a") ∷ record' 2 3 (ascii "id") ∷ end_of 2 3 ∷ []) ∷
    sample (ascii ">a\n>id\nACGTACG\n") 2 (std 3 20 4) (reads ∷ reads ∷ reads ∷ [])
    (record' 1 0 (ascii "a") ∷ refuses' 3 2 3 ∷ refuses' 3 2 3 ∷ []) ∷
    -- one of 11 behind a blank line too, which is not counted to it
    sample (ascii "\n>id\nACGTAC\n>") 2 (std 3 20 4) (reads ∷ reads ∷ reads ∷ [])
    (record' 2 1 (ascii "id") ∷ record' 4 12 [] ∷ end_of 4 12 ∷ []) ∷
    -- Refusal 4: three lines and two slots, of a record that the window holds. With three slots it is read.
    sample (ascii ">a\nA\nC\n>b") 1 (std 20 20 2) (reads ∷ reads ∷ []) (refuses' 4 1 0 ∷ refuses' 4 1 0 ∷ []) ∷
    sample (ascii ">a\nA\nC\n>b") 1 (std 20 20 3) (reads ∷ reads ∷ []) (record' 1 0 (ascii "a") ∷ record' 4 7 (ascii "b") ∷ []) ∷
    -- Refusal 4: three `\n` among the first five bytes and two slots, of a record that a window of six does not hold. With three slots it is 3.
    sample (ascii ">\n\n\nACGT") 2 (std 6 6 2) (reads ∷ reads ∷ []) (refuses' 4 1 0 ∷ refuses' 4 1 0 ∷ []) ∷
    sample (ascii ">\n\n\nACGT") 2 (std 6 6 3) (reads ∷ reads ∷ []) (refuses' 3 1 0 ∷ refuses' 3 1 0 ∷ []) ∷
    -- Refusal 5 of a seek: line 0, and a line above byte + 1. The current record stays, and the next one follows.
    sample three 1 (std 3 20 4) (reads ∷ seeks 0 0 ∷ seeks 3 1 ∷ reads ∷ [])
    (record' 2 1 (ascii "a b") ∷ refusal 5 ∷ refusal 5 ∷ record' 4 9 (ascii "c") ∷ []) ∷
    -- Refusal 5 of a read: no `>` at the place sought, or the end there. It lasts until a seek.
    sample three 1 (std 3 20 4) (seeks 2 2 ∷ reads ∷ reads ∷ seeks 2 50 ∷ reads ∷ seeks 4 9 ∷ reads ∷ [])
    (no_place (refuses 5 []) ∷ no_place (refuses 5 []) ∷ no_place (refuses 5 []) ∷ record' 4 9 (ascii "c") ∷ []) ∷
    -- A seek back to a position that was reported, to bytes that the window no longer holds and to bytes that it holds, from behind the end too:
    -- the records from there on follow again.
    sample three 2 (std 3 12 4) (reads ∷ reads ∷ reads ∷ seeks 2 1 ∷ reads ∷ reads ∷ [])
    (record' 2 1 (ascii "a b") ∷ record' 4 9 (ascii "c") ∷ record' 7 17 (ascii "d") ∷ record' 2 1 (ascii "a b") ∷ record' 4 9 (ascii "c") ∷ []) ∷
    sample three 100 (std 40 40 4) (reads ∷ reads ∷ reads ∷ reads ∷ seeks 4 9 ∷ reads ∷ reads ∷ reads ∷ [])
    (record' 2 1 (ascii "a b") ∷ record' 4 9 (ascii "c") ∷ record' 7 17 (ascii "d") ∷ end_of 7 17 ∷
    record' 4 9 (ascii "c") ∷ record' 7 17 (ascii "d") ∷ end_of 7 17 ∷ []) ∷
    -- a seek cancels refusal 3
    sample (ascii ">a\n>id\nACGTACG\n>b") 2 (std 3 20 4) (reads ∷ reads ∷ seeks 4 15 ∷ reads ∷ reads ∷ [])
    (record' 1 0 (ascii "a") ∷ refuses' 3 2 3 ∷ record' 4 15 (ascii "b") ∷ end_of 4 15 ∷ []) ∷
    -- A reader resumes where another one stopped: another capacity, policy, window and table, and the same records.
    sample three 1 (std 3 20 4) (reads ∷ reads ∷ sets limited ∷ seeks 4 9 ∷ reads ∷ reads ∷ reads ∷ [])
    (record' 2 1 (ascii "a b") ∷ record' 4 9 (ascii "c") ∷ record' 4 9 (ascii "c") ∷ record' 7 17 (ascii "d") ∷ end_of 7 17 ∷ []) ∷
    []

pub all_right : map heard_in table ≡ map (λ (c : Sample). c.heard) table
unfolding ascii between trim_cr hears_in head_now read_on new_over run
all_right = refl
