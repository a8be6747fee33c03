-- Any two answers that one promise of a view allows are the same, and so is the scratch: each promise is an equation with one value on its
-- right, and what an answer says tells which answer it is. Assumes nothing.
use Prim.Native.Nat.{ℕ}
use mathlib.Core.Bool.{cond, false≢true}
use mathlib.Core.List.{List}
use mathlib.Core.Path.{◌≡◌, refl, sym, ap, ◌∙◌}
use lib.ListN.{length, get_or}
use lib.Dec.{eqb}
use Rattle.std.specs.Prelude.{Some, None, Result, Ok, Err}
use Rattle.std.specs.Prelude.{Option}
use Rattle.std.specs.Option.{option_map, option_copied}
use Rattle.std.specs.Borrow.{Bor}
use Rattle.std.specs.Iterator.{YieldsFirstRef}
use Rattle.reader.specs.declared.state.Reader.{Reader}
use Rattle.meaning.specs.Parts.{joined}
use Rattle.view.specs.declared.trimmed.TrimmedLines.{TrimmedLines}
use Rattle.view.specs.Trimmed.{TrimmedLinesIs, lines_left}
use Rattle.reader.specs.Calls.{number_of_record}
use Rattle.view.specs.Refused.{number_of_view, number_of_full, values_of_full}
use Rattle.view.specs.View as view
use Rattle.view.specs.View.{Viewed, HeadIn, IdIn, DescIn, SeqIn, LineIn, NumberOfLines, ShownIn}
use Rattle.view.specs.Full as full
use Rattle.view.specs.Full.{FullIn, Pick}
use Rattle.view.specs.Current as current
use Rattle.view.specs.Current.{CurrentRecord, placed, Head, Id, Desc, Seq, Line, LinesOf, FullSeq}
use Rattle.view.specs.declared.Record.{Record}
use Rattle.reader.specs.declared.error.RecordError.{RecordError}
use Rattle.reader.specs.declared.error.RecordError.TheVariants as n
use Rattle.view.specs.declared.error.ViewError.{ViewError}
use Rattle.view.specs.declared.error.ViewError.TheVariants as v
use Rattle.view.specs.declared.error.FullError.{FullError}
use Rattle.view.specs.declared.error.FullError.TheVariants as f
use Rattle.view.specs.declared.Full.{Full}
use Rattle.view.specs.declared.Full.TheVariants.{Window, Scratch}

-- the refusal of a number
abbrev view_error : (number : ℕ) → ViewError
view_error number = cond (eqb number 7) v.NoRecord (cond (eqb number 8) v.NoLine v.State)

view-error : (e : ViewError) → view_error (number_of_view e) ≡ e
view-error v.NoRecord = refl
view-error v.NoLine = refl
view-error v.State = refl

abbrev full_error : (number : ℕ) (values : List ℕ) → FullError
full_error number values = cond (eqb number 7) f.NoRecord (cond (eqb number 9) (f.Room (get_or values 0 0)) f.State)

full-error : (e : FullError) → full_error (number_of_full e) (values_of_full e) ≡ e
full-error f.NoRecord = refl
full-error (f.Room need) = refl
full-error f.State = refl

abbrev record_error : (number : ℕ) → RecordError
record_error number = cond (eqb number 7) n.NoRecord n.State

record-error : (e : RecordError) → record_error (number_of_record e) ≡ e
record-error n.NoRecord = refl
record-error n.State = refl

-- the answer that says it
abbrev view_of : view.Shown → Viewed
view_of (view.part from to) = Ok (Some record { from = from; to = to })
view_of view.none = Ok None
view_of (view.refuses number values) = Err (view_error number)

view-of : (r : Viewed) → view_of (view.says r) ≡ r
view-of (Ok (Some extent)) = refl
view-of (Ok None) = refl
view-of (Err e) = ap Err (view-error e)

abbrev full_of : full.Whole → Result Full FullError
full_of (full.window from to) = Ok (Window record { from = from; to = to })
full_of (full.front n) = Ok (Scratch n)
full_of (full.refuses number values) = Err (full_error number values)

full-of : (r : Result Full FullError) → full_of (full.says r) ≡ r
full-of (Ok (Window extent)) = refl
full-of (Ok (Scratch n)) = refl
full-of (Err e) = ap Err (full-error e)

abbrev count_of : current.Counted → Result ℕ RecordError
count_of (current.are k) = Ok k
count_of (current.refuses number) = Err (record_error number)

count-of : (r : Result ℕ RecordError) → count_of (current.counts r) ≡ r
count-of (Ok k) = refl
count-of (Err e) = ap Err (record-error e)

-- one answer, and one scratch, for what is said
pub one-view : {x : view.Shown} (r s : Viewed) → view.says r ≡ x → view.says s ≡ x → r ≡ s
one-view r s p q = sym (view-of r) ∙ ap view_of (p ∙ sym q) ∙ view-of s

pub one-full : {x : full.Left} (r s : Result Full FullError) (exit exit' : List ℕ)
    → full.left (full.says r) exit ≡ x → full.left (full.says s) exit' ≡ x → (r ≡ s) × (exit ≡ exit')
one-full r s exit exit' p q =
    let e = p ∙ sym q in
    (sym (full-of r) ∙ ap (λ (l : full.Left). full_of l.answer) e ∙ full-of s, ap (λ (l : full.Left). l.scratch) e)

pub one-count : {x : current.Counted} (r s : Result ℕ RecordError) → current.counts r ≡ x → current.counts s ≡ x → r ≡ s
one-count r s p q = sym (count-of r) ∙ ap count_of (p ∙ sym q) ∙ count-of s

pub head-unique : (w : List ℕ) (start : ℕ) (ends : List ℕ) (r s : Viewed) → HeadIn w start ends r → HeadIn w start ends s → r ≡ s
head-unique w start ends = one-view

pub id-unique : (w : List ℕ) (start : ℕ) (ends : List ℕ) (r s : Viewed) → IdIn w start ends r → IdIn w start ends s → r ≡ s
id-unique w start ends = one-view

pub desc-unique : (w : List ℕ) (start : ℕ) (ends : List ℕ) (r s : Viewed) → DescIn w start ends r → DescIn w start ends s → r ≡ s
desc-unique w start ends = one-view

pub seq-unique : (w : List ℕ) (start : ℕ) (ends : List ℕ) (r s : Viewed) → SeqIn w start ends r → SeqIn w start ends s → r ≡ s
seq-unique w start ends = one-view

pub line-unique : (w : List ℕ) (start : ℕ) (ends : List ℕ) (i : ℕ) (r s : Viewed) → LineIn w start ends i r → LineIn w start ends i s → r ≡ s
line-unique w start ends i = one-view

pub number-unique : (ends : List ℕ) (r s : ℕ) → NumberOfLines ends r → NumberOfLines ends s → r ≡ s
number-unique ends r s p q = p ∙ sym q

pub shown-unique : (view : Viewed) (w r s : List ℕ) → ShownIn view w r → ShownIn view w s → r ≡ s
shown-unique view w r s p q = p ∙ sym q

pub full-unique : (w : List ℕ) (start : ℕ) (ends scratch : List ℕ) (r s : Result Full FullError) (exit exit' : List ℕ)
    → FullIn w start ends scratch r exit → FullIn w start ends scratch s exit' → (r ≡ s) × (exit ≡ exit')
full-unique w start ends scratch = one-full

pub pick-unique : (full : Result Full FullError) (w scratch r s : List ℕ) → Pick full w scratch r → Pick full w scratch s → r ≡ s
pick-unique full w scratch r s p q = p ∙ sym q

-- the lines of a record are one by what they still give
pub trimmed-lines-unique : (w : List ℕ) (start : ℕ) (ends : List ℕ) (r s : Option TrimmedLines)
    → TrimmedLinesIs w start ends r → TrimmedLinesIs w start ends s → option_map lines_left r ≡ option_map lines_left s
trimmed-lines-unique w start ends (Some l) (Some m) p q = ap Some (p.1 ∙ sym q.1)
trimmed-lines-unique w start ends (Some l) None p q = absurd (false≢true (sym q ∙ p.0))
trimmed-lines-unique w start ends None (Some m) p q = absurd (false≢true (sym p ∙ q.0))
trimmed-lines-unique w start ends None None p q = refl

pub joined-len-unique : (l : TrimmedLines) (r s : ℕ) → r ≡ length (joined (lines_left l)) → s ≡ length (joined (lines_left l)) → r ≡ s
joined-len-unique l r s p q = p ∙ sym q

pub next-unique : (l m n : TrimmedLines) (r s : Option (Bor (List ℕ))) → YieldsFirstRef lines_left l r m → YieldsFirstRef lines_left l s n
    → (option_copied r ≡ option_copied s) × (lines_left m ≡ lines_left n)
next-unique l m n (Some x) (Some y) p q = (cc, cc)
next-unique l m n (Some x) None p q = absurd (cc)
next-unique l m n None (Some y) p q = absurd (cc)
next-unique l m n None None p q = (refl, p.1 ∙ sym q.1)

-- the same of a reader's current record, which is one by its bytes, its start and its ends
pub current-record-unique : (reader : Reader) (w ends : List ℕ) (r s : Result Record RecordError)
    → CurrentRecord reader w ends r → CurrentRecord reader w ends s → placed r ≡ placed s
current-record-unique reader w ends r s p q = p ∙ sym q

pub current-head-unique : (reader : Reader) (w ends : List ℕ) (r s : Viewed) → Head reader w ends r → Head reader w ends s → r ≡ s
current-head-unique reader w ends = one-view

pub current-id-unique : (reader : Reader) (w ends : List ℕ) (r s : Viewed) → Id reader w ends r → Id reader w ends s → r ≡ s
current-id-unique reader w ends = one-view

pub current-desc-unique : (reader : Reader) (w ends : List ℕ) (r s : Viewed) → Desc reader w ends r → Desc reader w ends s → r ≡ s
current-desc-unique reader w ends = one-view

pub current-seq-unique : (reader : Reader) (w ends : List ℕ) (r s : Viewed) → Seq reader w ends r → Seq reader w ends s → r ≡ s
current-seq-unique reader w ends = one-view

pub current-line-unique : (reader : Reader) (w ends : List ℕ) (i : ℕ) (r s : Viewed) → Line reader w ends i r → Line reader w ends i s → r ≡ s
current-line-unique reader w ends i = one-view

pub current-lines-unique : (reader : Reader) (w ends : List ℕ) (r s : Result ℕ RecordError) → LinesOf reader w ends r → LinesOf reader w ends s → r ≡ s
current-lines-unique reader w ends = one-count

pub current-full-unique : (reader : Reader) (w ends scratch : List ℕ) (r s : Result Full FullError) (exit exit' : List ℕ)
    → FullSeq reader w ends scratch r exit → FullSeq reader w ends scratch s exit' → (r ≡ s) × (exit ≡ exit')
current-full-unique reader w ends scratch = one-full
