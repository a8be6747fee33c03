-- Each promise is an equation with a definition, and what an answer says tells the answer: so it allows one. Assumes
-- nothing.
use Prim.Native.Nat.{ℕ}
use mathlib.Core.Bool.{cond}
use mathlib.Core.List.{List, [], ◌∷◌}
use mathlib.Core.Option.{Option, none, some}
use mathlib.Core.Path.{◌≡◌, refl, sym, ap, ◌∙◌}
use lib.Dec.{eqb}
use Rattle.growth.specs.declared.Policy.{Policy}
use Rattle.window.specs.Offset.{window_at, input_at}
use Rattle.reader.specs.declared.state.Reader.{Reader}
use Rattle.reader.specs.declared.state.Position.{Position}
use Rattle.reader.specs.declared.state.Reported.{Reported}
use Rattle.reader.specs.declared.state.Sought.{Sought}
use Rattle.reader.specs.declared.state.Current.{Current}
use Rattle.reader.specs.declared.state.Answer.{Answer}
use Rattle.reader.specs.declared.state.Answer.TheVariants as answer
use Rattle.reader.specs.declared.state.Next.{Next}
use Rattle.reader.specs.declared.state.Look.{Look}
use Rattle.reader.specs.declared.state.Sight.{Sight}
use Rattle.reader.specs.declared.state.Sight.TheVariants as sight
use Rattle.reader.specs.declared.error.SetupError.{SetupError}
use Rattle.reader.specs.declared.error.ReportError.{ReportError}
use Rattle.reader.specs.declared.error.ReportError.TheVariants as report
use Rattle.reader.specs.declared.error.SeekError.{SeekError}
use Rattle.reader.specs.declared.error.SeekError.TheVariants as seek
use Rattle.reader.specs.declared.error.StateError.{StateError}
use Rattle.reader.specs.declared.error.RecordError.{RecordError}
use Rattle.reader.specs.declared.error.RecordError.TheVariants as record_
use Rattle.std.specs.Prelude as prelude
use Rattle.std.specs.Prelude.{Result, Ok, Err, Some, None, ⊤}
use Rattle.reader.specs.Calls.{
  made_by,
  NewIs,
  Left,
  left_by,
  number_of_report,
  number_of_seek,
  reported_by,
  ReportIs,
  sought_by,
  SeekIs,
  Place,
  at,
  nowhere,
  unknown,
  place_by,
  PositionIs,
  Held,
  held,
  missing,
  held_by,
  CurrentIs,
}
use Rattle.reader.specs.Read.{Said, asks, gives, ends, refuses, said_by, Did, NextIs}
use Rattle.reader.specs.Look.{Seen, whole, unfinished, over, denied, seen_by, Looked, LookIs, PutBackIs}

-- An answer that can be read off what it says is known by that.
known_by : {A B : Type 0} (says : A → B) (back : B → A) → ((a : A) → back (says a) ≡ a) → {x : B} {r s : A} → says r ≡ x → says s ≡ x → r ≡ s
known_by says back is {x} {r} {s} e f = sym (is r) ∙ ap back (e ∙ sym f) ∙ is s

abbrev setup_back : Option Reader → Result Reader SetupError
setup_back (some r) = Ok r
setup_back none = Err (record {})

setup-is : (s : Result Reader SetupError) → setup_back (made_by s) ≡ s
setup-is (Ok r) = refl
setup-is (Err x) = refl

pub new-unique :
    (capacity : ℕ) (p : Policy) (window slots : ℕ) (r s : Result Reader SetupError) →
    NewIs capacity p window slots r →
    NewIs capacity p window slots s →
    r ≡ s
new-unique capacity p window slots r s = known_by (λ (a : Result Reader SetupError). made_by a) setup_back setup-is

abbrev reported_as : Option ℕ → Reader → Reported
reported_as none r = record { reader = r; answer = Ok tt }
reported_as (some n) r = record { reader = r; answer = Err (cond (eqb n 6) report.Count report.State) }

reported-is : (s : Reported) → reported_as (reported_by s).refusal (reported_by s).reader ≡ s
reported-is s = go s.answer
  where
    go : (a : Result ⊤ ReportError) → let l = left_by number_of_report a s.reader in reported_as l.refusal l.reader ≡ record { reader = s.reader; answer = a }
    go (Ok u) = refl
    go (Err report.Count) = refl
    go (Err report.State) = refl

pub report-unique : (count : ℕ) (reader : Reader) (r s : Reported) → ReportIs count reader r → ReportIs count reader s → r ≡ s
report-unique count reader r s = known_by (λ (a : Reported). reported_by a) (λ (l : Left). reported_as l.refusal l.reader) reported-is

abbrev sought_as : Option ℕ → Reader → Sought
sought_as none r = record { reader = r; answer = Ok tt }
sought_as (some n) r = record { reader = r; answer = Err (cond (eqb n 5) seek.Place seek.State) }

sought-is : (s : Sought) → sought_as (sought_by s).refusal (sought_by s).reader ≡ s
sought-is s = go s.answer
  where
    go : (a : Result ⊤ SeekError) → let l = left_by number_of_seek a s.reader in sought_as l.refusal l.reader ≡ record { reader = s.reader; answer = a }
    go (Ok u) = refl
    go (Err seek.Place) = refl
    go (Err seek.State) = refl

pub seek-unique : (p : Position) (reader : Reader) (r s : Sought) → SeekIs p reader r → SeekIs p reader s → r ≡ s
seek-unique p reader r s = known_by (λ (a : Sought). sought_by a) (λ (l : Left). sought_as l.refusal l.reader) sought-is

abbrev position_at : (line byte : ℕ) → Position
position_at line byte = record { line = line; byte = input_at byte }

abbrev where_back : Place → Result (prelude.Option Position) StateError
where_back (at line byte) = Ok (Some (position_at line byte))
where_back nowhere = Ok None
where_back (unknown n) = Err (record {})

where-is : (s : Result (prelude.Option Position) StateError) → where_back (place_by s) ≡ s
where-is (Ok (Some p)) = refl
where-is (Ok None) = refl
where-is (Err x) = refl

pub position-unique :
    (reader : Reader) (r s : Result (prelude.Option Position) StateError) →
    PositionIs reader r →
    PositionIs reader s →
    r ≡ s
position-unique reader r s = known_by (λ (a : Result (prelude.Option Position) StateError). place_by a) where_back where-is

-- the error that a number names
abbrev record_error : ℕ → RecordError
record_error n = cond (eqb n 7) record_.NoRecord record_.State

abbrev current_back : Held → Result Current RecordError
current_back (held start filled count) = Ok (record { start = start; filled = filled; count = count })
current_back (missing n) = Err (record_error n)

current-is : (s : Result Current RecordError) → current_back (held_by s) ≡ s
current-is (Ok c) = refl
current-is (Err record_.NoRecord) = refl
current-is (Err record_.State) = refl

pub current-unique :
    (window table : ℕ) (reader : Reader) (r s : Result Current RecordError) →
    CurrentIs window table reader r →
    CurrentIs window table reader s →
    r ≡ s
current-unique window table reader r s = known_by (λ (a : Result Current RecordError). held_by a) current_back current-is

abbrev answer_back : Said → Answer
answer_back (asks place room offset) = answer.Ask (record { place = window_at place; room = room; offset = input_at offset })
answer_back (gives line byte) = answer.Record (position_at line byte)
answer_back ends = answer.End
answer_back (refuses n []) = cond (eqb n 5) answer.Place answer.State
answer_back (refuses n (a ∷ [])) = answer.State
answer_back (refuses n (a ∷ b ∷ v)) =
    cond (eqb n 2) (answer.Start a b) (cond (eqb n 3) (answer.Window (position_at a b)) (answer.Table (position_at a b)))

answer-is : (s : Answer) → answer_back (said_by s) ≡ s
answer-is (answer.Ask a) = refl
answer-is (answer.Record p) = refl
answer-is answer.End = refl
answer-is (answer.Start l x) = refl
answer-is (answer.Window p) = refl
answer-is (answer.Table p) = refl
answer-is answer.Place = refl
answer-is answer.State = refl

pub next-unique :
    (reader : Reader) (w e : List ℕ) (r s : Next) (w₁ w₂ e₁ e₂ : List ℕ) →
    NextIs reader w e r w₁ e₁ →
    NextIs reader w e s w₂ e₂ →
    (r ≡ s) × (w₁ ≡ w₂) × (e₁ ≡ e₂)
next-unique reader w e r s w₁ w₂ e₁ e₂ p q =
    let said = known_by (λ (a : Answer). said_by a) answer_back answer-is (ap (λ (d : Did). d.said) p) (ap (λ (d : Did). d.said) q) in
    let same = p ∙ sym q in (
      λ i. record { reader = (same i).reader; answer = said i },
      ap (λ (d : Did). d.window) same,
      ap (λ (d : Did). d.table) same,
    )

abbrev sight_back : Seen → Result Sight RecordError
sight_back (whole line byte) = Ok (sight.Whole (position_at line byte))
sight_back unfinished = Ok sight.Unfinished
sight_back over = Ok sight.Over
sight_back (denied n) = Err (record_error n)

sight-is : (s : Result Sight RecordError) → sight_back (seen_by s) ≡ s
sight-is (Ok (sight.Whole p)) = refl
sight-is (Ok sight.Unfinished) = refl
sight-is (Ok sight.Over) = refl
sight-is (Err record_.NoRecord) = refl
sight-is (Err record_.State) = refl

pub look-unique :
    (reader : Reader) (w e : List ℕ) (r s : Look) (e₁ e₂ : List ℕ) →
    LookIs reader w e r e₁ →
    LookIs reader w e s e₂ →
    (r ≡ s) × (e₁ ≡ e₂)
look-unique reader w e r s e₁ e₂ p q =
    let seen = known_by (λ (a : Result Sight RecordError). seen_by a) sight_back sight-is (ap (λ (d : Looked). d.seen) p) (ap (λ (d : Looked). d.seen) q) in
    let same = p ∙ sym q in (
      λ i. record { reader = (same i).reader; sight = seen i },
      ap (λ (d : Looked). d.table) same,
    )

pub put-back-unique : (reader r s : Reader) → PutBackIs reader r → PutBackIs reader s → r ≡ s
put-back-unique reader r s p q = p ∙ sym q
