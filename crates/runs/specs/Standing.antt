-- Any other state that passes 11 (01, below the refusals): rules 2 to 5 "are judged from the recorded ends, the search place and the filled bytes
-- as they stand, and the later refills". F is the filled bytes and the later refills, from the front of the window on. Assumes nothing.
use Rattle.std.specs.Prelude.{ℕ, ◌+◌, ◌-◌, ◌<◌, max, Bool, true, false, cond, ◌&&◌, ◌||◌, List, [], ◌∷◌, ◌++◌, ◌≡◌, length, take, drop, eqb, ltb, leb}
use Rattle.growth.specs.Chain.{largest}
use Rattle.meaning.specs.Line.{lines}
use Rattle.meaning.specs.Input.{Rec, begins, meaning_from}
use Rattle.meaning.specs.Due as meant
use Rattle.meaning.specs.Due.{newlines, due}
use Rattle.reader.specs.declared.state.Reader.{Reader}
use Rattle.reader.specs.declared.state.Phase.{Phase}
use Rattle.reader.specs.declared.state.Phase.TheVariants as phase
use Rattle.reader.specs.State.{byte_of, sane, lent_as, rising}
use Rattle.reader.specs.Read.{Said, asks, gives, ends, refuses, placed}
use Rattle.runs.specs.Run.{State, reading, Event, read, collected, brought, sought, refused, Run}
use Rattle.set.specs.Read as set

-- the bytes of a record from its search place on: to the first `\n` before a `>`, or to the end
unfoldable pub own : List ℕ → List ℕ
own [] = []
own (x ∷ []) = x ∷ []
own (x ∷ y ∷ r) = let rest = own (y ∷ r) in cond (eqb x 10 && eqb y 62) (x ∷ []) (x ∷ rest)

-- A record on a line, of which `count` ends are recorded, that starts at `start` and is searched from `from` on: L and its lines follow, and
-- refusals 4 and 3 are judged as the table says. Where no byte of it exists, the end.
unfoldable pub judged_at : (C T line byte start from count : ℕ) → (F : List ℕ) → Said
unfolding own lines newlines
judged_at C T line byte start from count F =
    let rest = own (drop from F) in
    let L = from + length rest - start in
    let n = count + max 1 (length (lines rest)) in
    let crowd = count + newlines (take (start + C - 1 - from) rest) in
    cond (eqb (length (drop start F)) 0) ends
    (cond (ltb T n && (leb (L + 1) C || ltb T crowd)) (refuses 4 (line ∷ byte ∷ []))
    (cond (ltb C (L + 1)) (refuses 3 (line ∷ byte ∷ [])) (gives line byte)))

-- the first of the answers due to an input's meaning
abbrev pub first_of : List (meant.Said Rec) → Said
first_of [] = ends
first_of (meant.gives r ∷ d) = gives r.line r.byte
first_of (meant.ends ∷ d) = ends
first_of (meant.refuses n vs ∷ d) = refuses n vs

-- what is due to a reader by its phase
abbrev pub standing_in : Phase → (C : ℕ) → Reader → (F : List ℕ) → Said
standing_in phase.Lead C r F = first_of (due C r.slots (meaning_from r.mark.line (byte_of r) (drop r.mark.start.0 F)))
standing_in phase.Sought C r F =
    let start = r.mark.start.0 in
    cond (begins (drop start F)) (judged_at C r.slots r.mark.line (byte_of r) start (start + 1) 0 F) (refuses 5 [])
standing_in phase.Searching C r F =
    let start = r.mark.start.0 in
    judged_at C r.slots r.mark.line (byte_of r) start (max r.mark.search.0 (start + 1)) r.mark.count F
standing_in phase.Current C r F =
    let next = r.mark.search.0 in
    judged_at C r.slots (r.mark.line + r.mark.count) (r.fill.base.0 + next) next (next + 1) 0 F
standing_in phase.Ended C r F = ends
standing_in phase.Over C r F = ends
standing_in phase.Window C r F = refuses 3 (placed r)
standing_in phase.Table C r F = refuses 4 (placed r)
standing_in phase.Astray C r F = refuses 5 []
standing_in phase.Ahead C r F =
    let start = r.mark.start.0 in
    judged_at C r.slots r.mark.line (byte_of r) start (max r.mark.search.0 (start + 1)) r.mark.count F

-- the phases of a record that is not yet searched to its end
abbrev pub is_unfinished : Phase → Bool
is_unfinished phase.Lead = false
is_unfinished phase.Sought = false
is_unfinished phase.Searching = true
is_unfinished phase.Current = false
is_unfinished phase.Ended = false
is_unfinished phase.Over = false
is_unfinished phase.Window = false
is_unfinished phase.Table = false
is_unfinished phase.Astray = false
is_unfinished phase.Ahead = true

-- The states that are not covered: the end told while an ask is open or the window is full; a place sought behind a full window; a record that is
-- searched with an end at or behind the place where its search goes on. proofs/Exceptions.antt has a state that meets each.
pub record Plain (r : Reader) (e : List ℕ) : Type 0 where
  pub told_quiet : r.fill.told ≡ true → r.fill.asking ≡ false
  pub told_room : r.fill.told ≡ true → r.fill.filled < r.fill.capacity
  pub sought_inside : r.phase ≡ phase.Sought → r.mark.start.0 < r.fill.capacity
  pub ends_below :
      is_unfinished r.phase ≡ true →
      rising r.mark.start.0 (take r.mark.count e) (max r.mark.search.0 (r.mark.start.0 + 1) - 1) ≡ true

-- nothing but asks was heard, and nothing was sought
abbrev pub OnlyAsks : List Event → Type 0
OnlyAsks [] = Unit {0}
OnlyAsks (read (asks p m o) ∷ h) = OnlyAsks h
OnlyAsks (read (gives l b) ∷ h) = ⊥
OnlyAsks (read ends ∷ h) = ⊥
OnlyAsks (read (refuses n vs) ∷ h) = ⊥
OnlyAsks (collected short (set.asks p m o) ∷ h) = OnlyAsks h
OnlyAsks (collected short (set.holds k filled) ∷ h) = ⊥
OnlyAsks (collected short set.ends ∷ h) = ⊥
OnlyAsks (collected short (set.refuses n vs) ∷ h) = ⊥
OnlyAsks (brought n ∷ h) = OnlyAsks h
OnlyAsks (sought l b ∷ h) = ⊥
OnlyAsks (refused n ∷ h) = OnlyAsks h

-- an ask, or this answer
abbrev pub Asks : (heard due : Said) → Type 0
Asks (asks p m o) d = Unit {0}
Asks (gives l b) d = gives l b ≡ d
Asks ends d = ends ≡ d
Asks (refuses n vs) d = refuses n vs ≡ d

-- The statement: X is an input whose bytes stand in the window as far as it is filled, and which ends there if the end was told. The first
-- answer that is no ask is judged as they stand.
abbrev pub Standing : Type 0
Standing =
    (X : List ℕ) (start : State) →
    let r = start.reader in
    let C = largest r.fill.policy r.fill.lent r.fill.capacity in
    sane r ≡ true →
    lent_as r (length start.window) (length start.table) ≡ true →
    Plain r start.table →
    drop r.fill.base.0 X ≡ take r.fill.filled start.window ++ drop (r.fill.base.0 + r.fill.filled) X →
    (r.fill.told ≡ true → drop (r.fill.base.0 + r.fill.filled) X ≡ []) →
    (h : List Event) (s : State) → Run X start h s → OnlyAsks h →
    Asks (reading s).said (standing_in r.phase C r (drop r.fill.base.0 X))
