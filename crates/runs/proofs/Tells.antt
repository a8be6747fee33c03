-- What is still due to a reader, read off its numbers: the relation that every call keeps (`Tells`), and what a read does to it (`Goes`).
-- The answers due are in the one-pass form of `meaning`, whose arguments are the reader's own. Assumes nothing.
use Prim.Native.Nat.{ℕ, suc, ◌+◌, ◌-◌, ◌<◌}
use mathlib.Core.Bool.{Bool, true, false, cond}
use mathlib.Core.List.{List, [], ◌∷◌, ◌++◌, map}
use mathlib.Core.Option.{Option, none, some}
use mathlib.Core.Path.{◌≡◌}
use lib.ListN.{take, drop}
use lib.Dec.{eqb}
use Rattle.growth.specs.Chain.{largest}
use Rattle.meaning.specs.OnePass.{Mark, marks, lead_marks, judged_mark, place_mark, due_marks}
use Rattle.meaning.specs.Due.{due_by}
use Rattle.meaning.specs.Due as meant
use Rattle.reader.specs.declared.state.Reader.{Reader}
use Rattle.reader.specs.declared.state.Phase.{Phase}
use Rattle.reader.specs.declared.state.Phase.TheVariants as phase
use Rattle.reader.specs.State.{Good, byte_of}
use Rattle.window.specs.Fill.{ready}
use Rattle.reader.specs.Read.{Said, asks, gives, ends, refuses, Did, ask_for, placed, hunted, led, sought_at, behind}
use Rattle.reader.proofs.Kept.{is_searching, Behind, goes_on}

abbrev pub Dues : Type 0
Dues = List (meant.Said Mark)

-- the answers due for some records
abbrev pub judge : (C T : ℕ) → List Mark → Dues
judge C T ms = due_by (judged_mark C T) place_mark ms

-- behind the last byte nothing is due but the end
abbrev pub unless_over : List ℕ → Dues → Dues
unless_over [] d = meant.ends ∷ []
unless_over (x ∷ xs) d = d

-- In a record that starts at b on line l, searched from p on, with the ends E so far: the records of X from there on.
abbrev pub from_here : (X : List ℕ) (C T l b p : ℕ) (E : List ℕ) → Dues
from_here X C T l b p E = unless_over (drop b X) (judge C T (marks l b p E (drop p X) false))

-- at a place sought, by the bytes from there on: refusal 5 unless a `>` stands there
abbrev pub at_sought : (C T l b : ℕ) → List ℕ → Dues
at_sought C T l b [] = meant.refuses 5 [] ∷ []
at_sought C T l b (x ∷ xs) = cond (eqb x 62) (judge C T (marks l b (suc b) [] xs false)) (meant.refuses 5 [] ∷ [])

-- the ends recorded so far, as places of the input
abbrev pub ends_of : Reader → (e : List ℕ) → List ℕ
ends_of r e = map (λ (x : ℕ). r.fill.base.0 + x) (take r.mark.count e)

-- where a record is searched
abbrev pub due_searched : (X : List ℕ) (C : ℕ) → Reader → (e : List ℕ) → Dues
due_searched X C r e = from_here X C r.slots r.mark.line (byte_of r) (r.fill.base.0 + goes_on r.mark) (ends_of r e)

-- what is due to a reader by its phase
abbrev pub due_in : Phase → (X : List ℕ) (C : ℕ) → Reader → (e : List ℕ) → Dues
due_in phase.Lead X C r e = due_marks C r.slots (lead_marks r.mark.line (byte_of r) (drop (byte_of r) X) false)
due_in phase.Sought X C r e = at_sought C r.slots r.mark.line (byte_of r) (drop (byte_of r) X)
due_in phase.Searching X C r e = due_searched X C r e
due_in phase.Current X C r e =
    let b = r.fill.base.0 + r.mark.search.0 in
    from_here X C r.slots (r.mark.line + r.mark.count) b (suc b) []
due_in phase.Ended X C r e = meant.ends ∷ []
due_in phase.Over X C r e = meant.ends ∷ []
due_in phase.Window X C r e = meant.refuses 3 (placed r) ∷ []
due_in phase.Table X C r e = meant.refuses 4 (placed r) ∷ []
due_in phase.Astray X C r e = meant.refuses 5 [] ∷ []
due_in phase.Ahead X C r e = due_searched X C r e

abbrev pub due_to : (X : List ℕ) (C : ℕ) → Reader → (e : List ℕ) → Dues
due_to X C r e = due_in r.phase X C r e

abbrev pub is_sought : Phase → Bool
is_sought phase.Lead = false
is_sought phase.Sought = true
is_sought phase.Searching = false
is_sought phase.Current = false
is_sought phase.Ended = false
is_sought phase.Over = false
is_sought phase.Window = false
is_sought phase.Table = false
is_sought phase.Astray = false
is_sought phase.Ahead = false

-- the end was told: nothing of the input is left, there was room for more, and nothing is asked
pub record Told (X : List ℕ) (r : Reader) : Type 0 where
  pub is_all : drop (r.fill.base.0 + r.fill.filled) X ≡ []
  pub has_room : r.fill.filled < r.fill.capacity
  pub is_quiet : r.fill.asking ≡ false

-- The reader's window holds the input X where it says so, and C is the largest capacity that it can reach.
pub record Tells (X : List ℕ) (C : ℕ) (r : Reader) (w e : List ℕ) : Type 0 where
  pub is_good : Good r w e
  pub is_behind : is_searching r.phase ≡ true → Behind true r.mark e
  pub sought_inside : is_sought r.phase ≡ true → r.mark.start.0 < r.fill.capacity
  pub text : drop r.fill.base.0 X ≡ take r.fill.filled w ++ drop (r.fill.base.0 + r.fill.filled) X
  pub told : r.fill.told ≡ true → Told X r
  pub largest_is : largest r.fill.policy r.fill.lent r.fill.capacity ≡ C

-- the answers after the first: the last repeats
abbrev pub later : {A : Type 0} → List A → List A
later [] = []
later (a ∷ []) = a ∷ []
later (a ∷ b ∷ rest) = b ∷ rest

abbrev pub is_window : Phase → Bool
is_window phase.Lead = false
is_window phase.Sought = false
is_window phase.Searching = false
is_window phase.Current = false
is_window phase.Ended = false
is_window phase.Over = false
is_window phase.Window = true
is_window phase.Table = false
is_window phase.Astray = false
is_window phase.Ahead = false

abbrev pub is_table : Phase → Bool
is_table phase.Lead = false
is_table phase.Sought = false
is_table phase.Searching = false
is_table phase.Current = false
is_table phase.Ended = false
is_table phase.Over = false
is_table phase.Window = false
is_table phase.Table = true
is_table phase.Astray = false
is_table phase.Ahead = false

-- what refusals leave: 3 the record at offset 0, 4 as many ends as there are slots
pub record Rests (r : Reader) : Type 0 where
  pub at_front : is_window r.phase ≡ true → r.mark.start.0 ≡ 0
  pub all_slots : is_table r.phase ≡ true → r.mark.count ≡ r.slots

-- what a reader at rest says, each time
abbrev pub rest_says : Phase → Reader → Option Said
rest_says phase.Lead r = none
rest_says phase.Sought r = none
rest_says phase.Searching r = none
rest_says phase.Current r = none
rest_says phase.Ended r = some ends
rest_says phase.Over r = some ends
rest_says phase.Window r = some (refuses 3 (placed r))
rest_says phase.Table r = some (refuses 4 (placed r))
rest_says phase.Astray r = some (refuses 5 [])
rest_says phase.Ahead r = none

-- A record is given from a window that is full, or at the told end. After the end or a refusal a reader is at rest, its ask open or not as before: it
-- says the same again, but the end after refusal 2.
abbrev pub Settled : Said → (asking : Bool) → Reader → Type 0
Settled (asks p m o) asking r = Unit {0}
Settled (gives l b) asking r = ready r.fill ≡ true
Settled ends asking r = (rest_says r.phase r ≡ some ends) × (r.fill.asking ≡ asking)
Settled (refuses n vs) asking r = (rest_says r.phase r ≡ some (cond (eqb n 2) ends (refuses n vs))) × (r.fill.asking ≡ asking)

-- a record that is current: its mark's numbers are the reader's
pub record Holds (m : Mark) (r : Reader) (e : List ℕ) : Type 0 where
  pub is-current : r.phase ≡ phase.Current
  pub line_is : m.line ≡ r.mark.line
  pub byte_is : m.byte ≡ byte_of r
  pub len_is : m.len ≡ r.mark.search.0 - r.mark.start.0
  pub ends_are : m.ends ≡ ends_of r e

-- What a read did where d was due: it asked, and the same is due; or it said the first of d, and what is due then is the rest.
abbrev pub Says : Said → meant.Said Mark → Reader → (e : List ℕ) → Type 0
Says (asks p m o) a r e = ⊥
Says (gives l b) (meant.gives m) r e = (l ≡ m.line) × ((b ≡ m.byte) × Holds m r e)
Says (gives l b) meant.ends r e = ⊥
Says (gives l b) (meant.refuses n vs) r e = ⊥
Says ends (meant.gives m) r e = ⊥
Says ends meant.ends r e = Unit {0}
Says ends (meant.refuses n vs) r e = ⊥
Says (refuses n vs) (meant.gives m) r e = ⊥
Says (refuses n vs) meant.ends r e = ⊥
Says (refuses n vs) (meant.refuses k us) r e = (n ≡ k) × (vs ≡ us)

pub record Answers (s : Said) (d : Dues) (X : List ℕ) (C : ℕ) (r : Reader) (e : List ℕ) : Type 0 where
  pub first : meant.Said Mark
  pub rest : Dues
  pub due_is : d ≡ first ∷ rest
  pub says : Says s first r e
  pub then_due : due_to X C r e ≡ later d

abbrev pub Goes : Said → Dues → (X : List ℕ) (C : ℕ) → Reader → (e : List ℕ) → Type 0
Goes (asks p m o) d X C r e = (due_to X C r e ≡ d) × ((r.fill.asking ≡ true) × (asks p m o ≡ ask_for r))
Goes (gives l b) d X C r e = Answers (gives l b) d X C r e
Goes ends d X C r e = Answers ends d X C r e
Goes (refuses n vs) d X C r e = Answers (refuses n vs) d X C r e

-- the same window of the input, as far as it is filled, with the same end, and as many slots
pub record Same (r q : Reader) : Type 0 where
  pub reaches : q.fill.base.0 + q.fill.filled ≡ r.fill.base.0 + r.fill.filled
  pub end_told : q.fill.told ≡ r.fill.told
  pub slots_are : q.slots ≡ r.slots
  pub lent_is : q.fill.lent ≡ r.fill.lent

-- a read that goes on as it should, from a reader r to what it did
pub record Step (X : List ℕ) (C : ℕ) (r : Reader) (due : Dues) (d : Did) : Type 0 where
  pub goes : Goes d.said due X C d.reader d.table
  pub text : drop d.reader.fill.base.0 X ≡ take d.reader.fill.filled d.window ++ drop (d.reader.fill.base.0 + d.reader.fill.filled) X
  pub told : d.reader.fill.told ≡ true → Told X d.reader
  pub largest_is : largest d.reader.fill.policy d.reader.fill.lent d.reader.fill.capacity ≡ C
  pub sought_inside : is_sought d.reader.phase ≡ true → d.reader.mark.start.0 < d.reader.fill.capacity
  pub same : Same r d.reader
  pub rests : Rests r → Rests d.reader
  pub settled : Settled d.said r.fill.asking d.reader

-- A search that may go on, of a record that stands in the window: what follows is a step, whatever the phase was before.
abbrev pub Hunts : Type 0
Hunts =
    (X : List ℕ) (C : ℕ) (r : Reader) (w e : List ℕ) →
    Tells X C r w e →
    r.phase ≡ phase.Searching →
    ready r.fill ≡ true →
    Step X C r (due_in phase.Searching X C r e) (hunted r w e)

-- a lead in a window that is full, or at the told end
abbrev pub Leads : Type 0
Leads =
    (X : List ℕ) (C : ℕ) (r : Reader) (w e : List ℕ) →
    Tells X C r w e →
    r.phase ≡ phase.Lead →
    ready r.fill ≡ true →
    Step X C r (due_in phase.Lead X C r e) (led r w e)

-- a place sought, in a window that is full or at the told end
abbrev pub Soughts : Type 0
Soughts =
    (X : List ℕ) (C : ℕ) (r : Reader) (w e : List ℕ) →
    Tells X C r w e →
    r.phase ≡ phase.Sought →
    ready r.fill ≡ true →
    Step X C r (due_in phase.Sought X C r e) (sought_at r w e)

-- what comes behind a current record
abbrev pub Behinds : Type 0
Behinds =
    (X : List ℕ) (C : ℕ) (r : Reader) (w e : List ℕ) →
    Tells X C r w e →
    r.phase ≡ phase.Current →
    Step X C r (due_in phase.Current X C r e) (behind r w e)
