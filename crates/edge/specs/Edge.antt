-- The host edge (01, module 9): the answers of growth, setup and the writers as numbers. What is grown, set up and written is defined by the
-- crates below; here stands only how it is told to a C program. Assumes nothing.
use Rattle.std.specs.Prelude.{ℕ, Bool, true, false, List, Result, Ok, Err, ◌≡◌, get_or}
use Rattle.std.proofs.Math.Option.{Option, none, some}
use Rattle.growth.specs.Growth.{grown, policy_of}
use Rattle.growth.specs.declared.Policy.{Policy}
use Rattle.reader.specs.Calls.{setup_of}
use Rattle.reader.specs.declared.state.Reader.{Reader}
use Rattle.write.specs.Text.{head_text, id_desc_text, seq_text, wrap_seq_text, to_text, parts_text, wrap_text}
use Rattle.write.specs.Output.{Answer, wrote, refuses, Left, filled, wrapped, described}
use Rattle.rewrite.specs.Rewrite.{iterated_in, unchanged_in}

-- an unknown kind grows nothing
abbrev pub grown_by : Option Policy → (size window : ℕ) → Option ℕ
grown_by none size window = none
grown_by (some p) size window = grown p size window

-- whether there is a growth, and its size, or 0
pub record Grew : Type 0 where
  pub grows : Bool
  pub next : ℕ

abbrev pub grew : Option ℕ → Grew
grew none = record { grows = false; next = 0 }
grew (some n) = record { grows = true; next = n }

abbrev pub GrowIs : (kind n limit size window : ℕ) → (grows : Bool) → (next : ℕ) → Type 0
GrowIs kind n limit size window grows next = record { grows = grows; next = next } ≡ grew (grown_by (policy_of kind n limit) size window)

-- an unknown kind is refused with 1, and so is what a reader's setup refuses
abbrev pub setup_by : Option Policy → (capacity window slots : ℕ) → Option Reader
setup_by none capacity window slots = none
setup_by (some p) capacity window slots = setup_of capacity p window slots

abbrev pub setup_number : Option Reader → ℕ
setup_number none = 1
setup_number (some r) = 0

abbrev pub SetupIs : (capacity kind n limit window slots : ℕ) → (number : ℕ) → Type 0
SetupIs capacity kind n limit window slots number = number ≡ setup_number (setup_by (policy_of kind n limit) capacity window slots)

-- a writer's answer: 0 and the length written, or a refusal's number and its value, 0 if it has none
abbrev pub number_of : Answer → ℕ
number_of (wrote n) = 0
number_of (refuses number values) = number

abbrev pub first_of : List ℕ → ℕ
first_of values = get_or values 0 0

abbrev pub length_of : Answer → ℕ
length_of (wrote n) = n
length_of (refuses number values) = first_of values

-- a writer's answer as numbers, and the output behind it
pub record Told : Type 0 where
  pub number : ℕ
  pub len : ℕ
  pub out : List ℕ

abbrev pub tells : (number len : ℕ) → (exit : List ℕ) → Told
tells number len exit = record { number = number; len = len; out = exit }

abbrev pub told : Left → Told
told l = tells (number_of l.answer) (length_of l.answer) l.out

-- the same of an answer of the code, by the number and the need of its refusals; the output is not touched
abbrev pub told_by : {E : Type 0} → (number need : E → ℕ) → Result ℕ E → (exit : List ℕ) → Told
told_by number need (Ok n) exit = tells 0 n exit
told_by number need (Err e) exit = tells (number e) (need e) exit

abbrev pub ToldBy : {E : Type 0} → (number_of need_of : E → ℕ) → Result ℕ E → (number len : ℕ) → Type 0
ToldBy number_of need_of r number len = (exit : List ℕ) → tells number len exit ≡ told_by number_of need_of r exit

-- the promises of the writers
abbrev pub WriteHeadIs : (head out : List ℕ) → (number len : ℕ) → (exit : List ℕ) → Type 0
WriteHeadIs head out number len exit = tells number len exit ≡ told (filled (head_text head) out)

abbrev pub WriteIdDescIs : (id : List ℕ) → Bool → (desc out : List ℕ) → (number len : ℕ) → (exit : List ℕ) → Type 0
WriteIdDescIs id with desc out number len exit = tells number len exit ≡ told (filled (id_desc_text id (described with desc)) out)

abbrev pub WriteSeqIs : (seq out : List ℕ) → (number len : ℕ) → (exit : List ℕ) → Type 0
WriteSeqIs seq out number len exit = tells number len exit ≡ told (filled (seq_text seq) out)

abbrev pub WriteWrapSeqIs : (seq : List ℕ) (wrap : ℕ) (out : List ℕ) → (number len : ℕ) → (exit : List ℕ) → Type 0
WriteWrapSeqIs seq wrap out number len exit = tells number len exit ≡ told (wrapped wrap (wrap_seq_text wrap seq) out)

abbrev pub WriteToIs : (head seq out : List ℕ) → (number len : ℕ) → (exit : List ℕ) → Type 0
WriteToIs head seq out number len exit = tells number len exit ≡ told (filled (to_text head seq) out)

abbrev pub WritePartsIs : (id : List ℕ) → Bool → (desc seq out : List ℕ) → (number len : ℕ) → (exit : List ℕ) → Type 0
WritePartsIs id with desc seq out number len exit = tells number len exit ≡ told (filled (parts_text id (described with desc) seq) out)

abbrev pub WriteWrapIs : (id : List ℕ) → Bool → (desc seq : List ℕ) (wrap : ℕ) (out : List ℕ) → (number len : ℕ) → (exit : List ℕ) → Type 0
WriteWrapIs id with desc seq wrap out number len exit = tells number len exit ≡ told (wrapped wrap (wrap_text id (described with desc) seq wrap) out)

-- those of a record in bytes, whose refusals are more
abbrev pub WriteWrapSeqIterIs : (bytes : List ℕ) (start : ℕ) (ends : List ℕ) (wrap : ℕ) (out : List ℕ) → (number len : ℕ) → (exit : List ℕ) → Type 0
WriteWrapSeqIterIs bytes start ends wrap out number len exit = tells number len exit ≡ told (iterated_in bytes start ends wrap out)

abbrev pub WriteUnchangedIs : (bytes : List ℕ) (start : ℕ) (ends out : List ℕ) → (number len : ℕ) → (exit : List ℕ) → Type 0
WriteUnchangedIs bytes start ends out number len exit = tells number len exit ≡ told (unchanged_in bytes start ends out)
