-- Views of a reader's current record (01, module 5, refusals 11, 7, 8, 9 in this order): those of the filled bytes of the window, the
-- record's start and its recorded ends. Assumes nothing.
use Rattle.std.specs.Prelude.{ℕ, List, [], ◌≡◌, length, take, Result, Ok, Err}
use Rattle.reader.specs.declared.state.Reader.{Reader}
use Rattle.reader.specs.Calls.{Held, held, missing, current_of, number_of_record}
use Rattle.view.specs.View as view
use Rattle.view.specs.View.{Viewed, Shown, head_in, id_in, desc_in, seq_in, line_in, line_count}
use Rattle.view.specs.Full as full
use Rattle.view.specs.Full.{left, full_in}
use Rattle.view.specs.declared.Full.{Full}
use Rattle.view.specs.declared.Record.{Record}
use Rattle.view.specs.declared.error.FullError.{FullError}
use Rattle.reader.specs.declared.error.RecordError.{RecordError}

-- what is shown of filled bytes, start and recorded ends; without a record, what a refusal of that number is
abbrev pub of_held : {A : Type 0} → (w ends : List ℕ) → (List ℕ → ℕ → List ℕ → A) → (ℕ → A) → Held → A
of_held w ends shown refused (held start filled count) = shown (take filled w) start (take count ends)
of_held w ends shown refused (missing number) = refused number

-- the same of a reader's current record
abbrev pub of_current : {A : Type 0} → Reader → (w ends : List ℕ) → (List ℕ → ℕ → List ℕ → A) → (ℕ → A) → A
of_current r w ends shown refused = of_held w ends shown refused (current_of (length w) (length ends) r)

-- a view's refusal
abbrev pub refused : (number : ℕ) → Shown
refused number = view.refuses number []

-- a record in bytes, or a refusal by its number
pub data Placed : Type 0 where
  stands : (bytes : List ℕ) (start : ℕ) (ends : List ℕ) → Placed
  absent : (number : ℕ) → Placed

abbrev pub placed : Result Record RecordError → Placed
placed (Ok r) = stands r.bytes.now r.start r.ends.now
placed (Err error) = absent (number_of_record error)

-- the number of lines, or a refusal by its number
pub data Counted : Type 0 where
  are : (n : ℕ) → Counted
  refuses : (number : ℕ) → Counted

abbrev pub counts : Result ℕ RecordError → Counted
counts (Ok n) = are n
counts (Err error) = refuses (number_of_record error)

-- the promises
abbrev pub CurrentRecord : Reader → (w ends : List ℕ) → Result Record RecordError → Type 0
CurrentRecord r w ends c = placed c ≡ of_current r w ends stands absent

abbrev pub Head : Reader → (w ends : List ℕ) → Viewed → Type 0
Head r w ends v = view.says v ≡ of_current r w ends head_in refused

abbrev pub Id : Reader → (w ends : List ℕ) → Viewed → Type 0
Id r w ends v = view.says v ≡ of_current r w ends id_in refused

abbrev pub Desc : Reader → (w ends : List ℕ) → Viewed → Type 0
Desc r w ends v = view.says v ≡ of_current r w ends desc_in refused

abbrev pub Seq : Reader → (w ends : List ℕ) → Viewed → Type 0
Seq r w ends v = view.says v ≡ of_current r w ends seq_in refused

abbrev pub Line : Reader → (w ends : List ℕ) → (i : ℕ) → Viewed → Type 0
Line r w ends i v = view.says v ≡ of_current r w ends (λ bytes start es. line_in bytes start es i) refused

abbrev pub LinesOf : Reader → (w ends : List ℕ) → Result ℕ RecordError → Type 0
LinesOf r w ends n = counts n ≡ of_current r w ends (λ bytes start es. are (line_count es)) refuses

abbrev pub FullSeq : Reader → (w ends scratch : List ℕ) → Result Full FullError → (exit : List ℕ) → Type 0
FullSeq r w ends scratch f exit =
    left (full.says f) exit
    ≡ of_current r w ends (λ bytes start es. full_in bytes start es scratch) (λ number. left (full.refuses number []) scratch)
