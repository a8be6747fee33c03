-- Sets in any run (01, module 6 and refusal 12): the records of a set are the next ones that single reads would give, at least one, in order, each with its
-- position, shown by the set's views and written by its writers, and no more could be: the record behind them does not fit the tables or is not whole in the
-- window; an ask, the end and refusals 2 to 5 are those of a read; 11 and 12 come exactly when the table says. That the rest is read next is demand 3,
-- whose runs have set calls too. Assumes nothing.
use Rattle.std.specs.Prelude.{ℕ, zero, suc, ◌+◌, ◌≤◌, ◌<◌, Bool, true, false, List, ◌⊎◌, ◌≡◌, length}
use Rattle.growth.specs.declared.Policy.{Policy}
use Rattle.growth.specs.Chain.{largest}
use Rattle.meaning.specs.Line.{lines}
use Rattle.meaning.specs.Input.{Rec}
use Rattle.meaning.specs.Parts.{size}
use Rattle.meaning.specs.Due as meant
use Rattle.reader.specs.Read.{Said, asks}
use Rattle.reader.specs.Calls.{at}
use Rattle.set.specs.declared.state.Set.{Set}
use Rattle.set.specs.Set.{sound, record_of}
use Rattle.set.specs.Record.{place_held}
use Rattle.set.specs.Shown.{ShowsAt, WritesAt}
use Rattle.set.specs.Read as set
use Rattle.set.specs.Read.{Called}
use Rattle.runs.specs.Run.{State, Made, reading, setting, Event, Run}
use Rattle.runs.specs.Demand.{origin, answers, due_from, nth}

-- record i of a set is this one
pub record GivesAt (r : Rec) (i : ℕ) (c : Called) : Type 0 where
  pub position : place_held c.set (record_of c.set (length c.bytes) c.marks (length c.ends) i) ≡ at r.line r.byte
  pub shows : ShowsAt c.set c.bytes c.marks c.ends i r
  pub writes : WritesAt c.set c.bytes c.marks c.ends i r

-- a record is due
abbrev pub IfRecord : meant.Said Rec → (Rec → Type 0) → Type 0
IfRecord (meant.gives r) P = P r
IfRecord meant.ends P = ⊥
IfRecord (meant.refuses n vs) P = ⊥

-- what holds of a record, if one is due
abbrev pub OrNone : meant.Said Rec → (Rec → Type 0) → Type 0
OrNone (meant.gives r) P = P r
OrNone meant.ends P = Unit {0}
OrNone (meant.refuses n vs) P = Unit {0}

-- how many lines a record has, if one is due
abbrev pub lines_due : meant.Said Rec → ℕ
lines_due (meant.gives r) = length (lines r.bytes)
lines_due meant.ends = 0
lines_due (meant.refuses n vs) = 0

-- how many the first k records have, that is, how many ends they need
abbrev pub lines_of : (next : ℕ → meant.Said Rec) → ℕ → ℕ
lines_of next zero = 0
lines_of next (suc k) = lines_of next k + lines_due (next k)

-- Why the record behind the last one is not in the set: no room for it in the table of marks, or in that of ends; or it is not whole in the window, whose
-- filled bytes end at `top` in the input, and the input may go on.
abbrev pub LeftOut : (count taken marks ends top : ℕ) (told : Bool) → Rec → Type 0
LeftOut count taken marks ends top told r =
    (marks < count + count + 2)
    ⊎ ((ends < taken + length (lines r.bytes))
    ⊎ ((told ≡ false) × (top ≤ r.byte + size r)))

-- it does not fit the set's tables: two marks for each record, and an end for each line
abbrev pub Misfits : (marks ends : ℕ) → Rec → Type 0
Misfits marks ends r = (marks < 2) ⊎ (ends < length (lines r.bytes))

-- neither 11 is due for the set nor 12 for its bytes: the call comes to a read
abbrev pub Taken : Set → (bytes marks window : ℕ) → Type 0
Taken t bytes marks window = (sound t bytes marks ≡ true) × (window ≤ bytes)

-- 11 for the set; then 12 for its bytes; then, if a record is due, 12 for its tables, or else the refusal that a read is due
abbrev pub Refused : (number : ℕ) (values : List ℕ) (next : meant.Said Rec) → Set → (bytes marks ends window : ℕ) → Type 0
Refused number values next t bytes marks ends window =
    ((number ≡ 11) × (sound t bytes marks ≡ false))
    ⊎ (((number ≡ 12) × ((sound t bytes marks ≡ true) × (bytes < window)))
    ⊎ (Taken t bytes marks window
    × (((number ≡ 12) × IfRecord next (Misfits marks ends))
    ⊎ (next ≡ meant.refuses number values))))

-- what a set call says, where a single read would say `one`, and the answers due from here on are `next`
abbrev pub HearsSet : set.Said → (one : Said) (next : ℕ → meant.Said Rec) → Set → (bytes marks ends window : ℕ) → Called → Type 0
HearsSet (set.asks p m o) one next t bytes marks ends window c = Taken t bytes marks window × (one ≡ asks p m o)
HearsSet (set.holds k filled) one next t bytes marks ends window c =
    Taken t bytes marks window
    × ((1 ≤ k)
    × (((i : ℕ) → i < k → IfRecord (next i) (λ (r : Rec). GivesAt r i c))
    × OrNone (next k) (LeftOut k (lines_of next k) marks ends (c.set.base.0 + filled) c.reader.fill.told)))
HearsSet set.ends one next t bytes marks ends window c = Taken t bytes marks window × (next 0 ≡ meant.ends)
HearsSet (set.refuses n vs) one next t bytes marks ends window c = Refused n vs (next 0) t bytes marks ends window

abbrev pub Sets : Type 0
Sets =
    (X : List ℕ) (capacity : ℕ) (policy : Policy) (start : State) → Made capacity policy start →
    (h : List Event) (s : State) → Run X start h s →
    (t : Set) (bytes marks ends : List ℕ) →
    let C = largest policy (length start.window) capacity in
    let T = length start.table in
    HearsSet (setting t bytes marks ends s).said (reading s).said (λ (i : ℕ). nth (i + answers h) (due_from X C T (origin h))) t (length bytes) (length marks) (length ends)
    (length s.window) (setting t bytes marks ends s)
