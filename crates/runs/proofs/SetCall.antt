-- One set call (01, module 6 and refusal 12): its records are the next ones due, in order, as many as have room and are whole; an ask, the end and refusals
-- 2 to 5 are those of a read; and a refusal of the state or of the set leaves what is due. Assumes nothing.
use Prim.Native.Nat.{ℕ, zero, suc, ◌+◌, ◌≤◌, ◌<◌}
use native.Mathlib.Omega.{arith}
use mathlib.Core.Bool.{Bool, true, false, cond, ◌&&◌, false≢true}
use mathlib.Core.List.{List, [], ◌∷◌}
use mathlib.Core.Logic.{◌⊎◌, inl, inr}
use mathlib.Core.Option.{Option, none, some, none-ne-some, some-injective}
use mathlib.Core.Path.{◌≡◌, refl, sym, ap, subst, ◌∙◌}
use lib.ListN.{length, take, drop}
use lib.Seq.{length-take-le, take_at}
use Rattle.scan.proofs.Paste.{pasted-room, length-pasted}
use lib.Dec.{eqb, ltb}
use borrow.Author.Tests.{leb-true, leb-false, ltb-false, eq-eqb}
use Rattle.meaning.specs.Due as meant
use Rattle.meaning.specs.Due.{due_by}
use Rattle.meaning.specs.OnePass.{Mark, Marked, good, bad, marks, lead_marks, table_mark, judged_mark, place_mark, due_marks}
use Rattle.meaning.proofs.Due.{due-gives, due-refuses}
use Rattle.window.specs.Fill.{ready}
use Rattle.window.specs.declared.fill.Fill.{Fill}
use Rattle.reader.specs.declared.state.Reader.{Reader}
use Rattle.reader.specs.declared.state.Phase.{Phase}
use Rattle.reader.specs.declared.state.Phase.TheVariants as phase
use Rattle.reader.specs.State.{byte_of, sane, lent_as, is_current}
use Rattle.reader.specs.Read.{Said, asks, gives, ends, refuses, Did, read_of}
use Rattle.reader.specs.Look.{put_back_of}
use Rattle.reader.proofs.Sanity.{sane-true}
use Rattle.reader.proofs.ReadLaws.{lent-true}
use Rattle.reader.proofs.Kept.{goes_on}
use Rattle.reader.proofs.LookLaws.{put-current}
use Rattle.set.specs.declared.state.Set.{Set}
use Rattle.set.specs.Set.{sound, ends_before}
use Rattle.set.specs.Read as set
use Rattle.set.specs.Read.{Gathered, Called, fits, put, gather, pairs, emptied, leaves, refused12, filled_with, collected_in, after_read, set_of}
use Rattle.runs.specs.Sets.{Taken}
use Rattle.runs.proofs.Tells.{Dues, judge, unless_over, from_here, ends_of, at_sought, due_in, due_to, later, is_window, is_table, Rests, Settled, Tells, Says, Goes, Step}
use Rattle.runs.proofs.Begun.{at_rest}
use Rattle.runs.proofs.Step.{steps, still-tells}
use Rattle.runs.proofs.Look.{put-back-tells}
use Rattle.runs.proofs.Back.{Fresh, read-backs, read-put-back, fresh-put-back}
use Rattle.runs.proofs.Beyond.{Beyond}
use Rattle.runs.proofs.SetTable.{Each}
use Rattle.runs.proofs.Gather.{closed-due, Given, given, records_then, AllBelow, marks-long, ends-long, Going, puts, All, gathers-all}

-- ---- a refusal that is due has a number of at most 5

abbrev Small : Dues → Type 0
Small [] = Unit {0}
Small (meant.gives m ∷ d) = Small d
Small (meant.ends ∷ d) = Small d
Small (meant.refuses n vs ∷ d) = (n ≤ 5) × Small d

small-judged : (C T : ℕ) (m : Mark) (n : ℕ) → judged_mark C T m ≡ some n → n ≤ 5
unfolding judged_mark
small-judged C T m n = go (table_mark C T m) (ltb C (m.len + 1))
  where
    go : (t u : Bool) → cond {A = Option ℕ} t (some 4) (cond u (some 3) none) ≡ some n → n ≤ 5
    go true u is = let z : 4 ≡ n = some-injective 4 n is in omega arith
    go false true is = let z : 3 ≡ n = some-injective 3 n is in omega arith
    go false false is = absurd (none-ne-some n is)

small-judge : (C T : ℕ) (ms : List Mark) → Small (judge C T ms)
unfolding due_by
small-judge C T [] = tt
small-judge C T (m ∷ ms) = go (judged_mark C T m) refl (small-judge C T ms)
  where
    go : (o : Option ℕ) → judged_mark C T m ≡ o → Small (judge C T ms) → Small (judge C T (m ∷ ms))
    go none o k = subst Small (sym (due-gives (judged_mark C T) place_mark m ms o)) k
    go (some n) o k = subst Small (sym (due-refuses (judged_mark C T) place_mark m ms n o)) (small-judged C T m n o, tt)

small-unless : (xs : List ℕ) (d : Dues) → Small d → Small (unless_over xs d)
small-unless [] d k = tt
small-unless (x ∷ xs) d k = k

small-marked : (C T : ℕ) (M : Marked) → Small (due_marks C T M)
unfolding due_marks
small-marked C T (good ms) = small-judge C T ms
small-marked C T (bad l x) = (omega arith, tt)

small-sought : (C T l b : ℕ) (xs : List ℕ) → Small (at_sought C T l b xs)
small-sought C T l b [] = (omega arith, tt)
small-sought C T l b (x ∷ xs) = go (eqb x 62)
  where
    go : (t : Bool) → Small (cond t (judge C T (marks l b (suc b) [] xs false)) (meant.refuses 5 [] ∷ []))
    go true = small-judge C T (marks l b (suc b) [] xs false)
    go false = (omega arith, tt)

small-here : (X : List ℕ) (C T l b p : ℕ) (E : List ℕ) → Small (from_here X C T l b p E)
small-here X C T l b p E = small-unless (drop b X) (judge C T (marks l b p E (drop p X) false)) (small-judge C T (marks l b p E (drop p X) false))

small-due : (p : Phase) (X : List ℕ) (C : ℕ) (r : Reader) (e : List ℕ) → Small (due_in p X C r e)
small-due phase.Lead X C r e = small-marked C r.slots (lead_marks r.mark.line (byte_of r) (drop (byte_of r) X) false)
small-due phase.Sought X C r e = small-sought C r.slots r.mark.line (byte_of r) (drop (byte_of r) X)
small-due phase.Searching X C r e = small-here X C r.slots r.mark.line (byte_of r) (r.fill.base.0 + goes_on r.mark) (ends_of r e)
small-due phase.Current X C r e =
    let b = r.fill.base.0 + r.mark.search.0 in
    small-here X C r.slots (r.mark.line + r.mark.count) b (suc b) []
small-due phase.Ended X C r e = tt
small-due phase.Over X C r e = tt
small-due phase.Window X C r e = (omega arith, tt)
small-due phase.Table X C r e = (omega arith, tt)
small-due phase.Astray X C r e = (omega arith, tt)
small-due phase.Ahead X C r e = small-here X C r.slots r.mark.line (byte_of r) (r.fill.base.0 + goes_on r.mark) (ends_of r e)

small-first : (n : ℕ) (vs : List ℕ) (a : meant.Said Mark) (rest : Dues) (r : Reader) (e : List ℕ) → Small (a ∷ rest) → Says (refuses n vs) a r e → n ≤ 5
small-first n vs (meant.gives m) rest r e k q = absurd q
small-first n vs meant.ends rest r e k q = absurd q
small-first n vs (meant.refuses m us) rest r e k q = omega (arith, k.0, q.0)

-- the parts of what a set call says
abbrev is_refusal : set.Said → Bool
is_refusal (set.asks p m o) = false
is_refusal (set.holds k filled) = false
is_refusal set.ends = false
is_refusal (set.refuses n vs) = true

abbrev is_asking : set.Said → Bool
is_asking (set.asks p m o) = true
is_asking (set.holds k filled) = false
is_asking set.ends = false
is_asking (set.refuses n vs) = false

-- an ask as a read's answer
abbrev as_of : set.Said → Said
as_of (set.asks p m o) = asks p m o
as_of (set.holds k filled) = ends
as_of set.ends = ends
as_of (set.refuses n vs) = ends

abbrev number_said : set.Said → ℕ
number_said (set.asks p m o) = 0
number_said (set.holds k filled) = 0
number_said set.ends = 0
number_said (set.refuses n vs) = n

abbrev values_said : set.Said → List ℕ
values_said (set.asks p m o) = []
values_said (set.holds k filled) = []
values_said set.ends = []
values_said (set.refuses n vs) = vs

-- ---- the kinds of a set call, in 01's order: 11; 12 by its bytes; what the read said; 12 by its tables; or a set

pub data Kind (s : Set) (B M E : List ℕ) (r : Reader) (w e : List ℕ) : Type 0 where
  of_state : sound s (length B) (length M) ≡ false → set_of s B M E r w e ≡ leaves s B M E (set.refuses 11 []) r w e s → Kind s B M E r w e
  of_bytes : sound s (length B) (length M) ≡ true → ltb (length B) (length w) ≡ true → set_of s B M E r w e ≡ refused12 s B M E r w e → Kind s B M E r w e
  asks_too : Taken s (length B) (length M) (length w) → (p m o : ℕ) → (read_of r w e).said ≡ asks p m o → set_of s B M E r w e ≡ after_read s B M E (asks p m o) (read_of r w e) → Kind s B M E r w e
  ends_too : Taken s (length B) (length M) (length w) → (read_of r w e).said ≡ ends → set_of s B M E r w e ≡ after_read s B M E ends (read_of r w e) → Kind s B M E r w e
  refuses_too : Taken s (length B) (length M) (length w) → (n : ℕ) (vs : List ℕ) → (read_of r w e).said ≡ refuses n vs → set_of s B M E r w e ≡ after_read s B M E (refuses n vs) (read_of r w e) → Kind s B M E r w e
  misfits :
      Taken s (length B) (length M) (length w) → (l b : ℕ) → (read_of r w e).said ≡ gives l b → (length M < 2) ⊎ (length E < (read_of r w e).reader.mark.count) →
      set_of s B M E r w e ≡ refused12 s B M E (put_back_of (read_of r w e).reader) (read_of r w e).window (read_of r w e).table → Kind s B M E r w e
  holding : Taken s (length B) (length M) (length w) → (l b : ℕ) → (read_of r w e).said ≡ gives l b → (g : Gathered) → set_of s B M E r w e ≡ filled_with s B M E (read_of r w e) g → Kind s B M E r w e

-- ---- what a set call does to what is due

-- the records of a set, by their marks: they were due first, and stand in its tables; what is due behind them is left out for a reason
pub record Holds (X : List ℕ) (C : ℕ) (k filled : ℕ) (D : Dues) (c : Called) : Type 0 where
  pub marks_are : List Mark
  pub used : ℕ
  pub as_many : length marks_are ≡ k
  pub some_record : 1 ≤ k
  pub due_is : D ≡ records_then marks_are (due_to X C c.reader c.table)
  pub each : Each c.set.base.0 c.set.line c.marks c.ends used 0 marks_are
  pub in_table : used ≤ length c.ends
  pub used_is : ends_before c.marks k ≡ used
  pub left_out : Beyond (length c.marks) (length c.ends) k used c.reader.fill (due_to X C c.reader c.table)
  pub count_is : c.set.count ≡ k
  pub marks_fit : k + k ≤ length c.marks
  pub below : AllBelow (c.set.base.0 + c.set.filled) marks_are
  pub same_place : c.reader.fill.base.0 ≡ c.set.base.0
  pub same_filled : c.reader.fill.filled ≡ c.set.filled
  pub filled_is : c.set.filled ≡ filled
  pub bytes_fit : c.set.filled ≤ length c.bytes
  pub bytes_are : take c.set.filled c.bytes ≡ take c.set.filled c.window

abbrev pub SetGoes : set.Said → Dues → (X : List ℕ) (C : ℕ) → Called → Type 0
SetGoes (set.asks p m o) D X C c = due_to X C c.reader c.table ≡ D
SetGoes (set.holds k filled) D X C c = Holds X C k filled D c
SetGoes set.ends D X C c = due_to X C c.reader c.table ≡ later D
SetGoes (set.refuses n vs) D X C c =
    (((n ≡ 11) ⊎ (n ≡ 12)) × (due_to X C c.reader c.table ≡ D)) ⊎ ((n ≤ 5) × (due_to X C c.reader c.table ≡ later D))

pub record Sets (X : List ℕ) (C : ℕ) (r : Reader) (D : Dues) (M E : List ℕ) (c : Called) : Type 0 where
  pub tells : Tells X C c.reader c.window c.table
  pub slots_are : c.reader.slots ≡ r.slots
  pub rests : Rests r → Rests c.reader
  pub fresh : Fresh X C c.reader c.table
  pub goes : SetGoes c.said D X C c
  pub marks_same : length c.marks ≡ length M
  pub ends_same : length c.ends ≡ length E

module _ (X : List ℕ) (C : ℕ) (r : Reader) (w e : List ℕ) (t : Tells X C r w e) (s : Set) (B M E : List ℕ) where
  abbrev D : Dues
  D = due_to X C r e

  abbrev d : Did
  d = read_of r w e

  abbrev c : Called
  c = set_of s B M E r w e

  step : Step X C r D d
  step = steps X C r w e t

  tells-then : Tells X C d.reader d.window d.table
  tells-then = still-tells X C r w e t

  -- the cases of the call
  tested : (sane r && lent_as r (length w) (length e) && sound s (length B) (length M)) ≡ sound s (length B) (length M)
  tested = rw (sane-true r t.is_good.is-sane, lent-true r w e t.is_good.window_lent t.is_good.table_lent)

  pub unsound : sound s (length B) (length M) ≡ false → c ≡ leaves s B M E (set.refuses 11 []) r w e s
  unfolding set_of
  unsound u = rw (tested ∙ u)

  pub short : sound s (length B) (length M) ≡ true → ltb (length B) (length w) ≡ true → c ≡ refused12 s B M E r w e
  unfolding set_of
  short u v = rw (tested ∙ u, v)

  pub reads : sound s (length B) (length M) ≡ true → ltb (length B) (length w) ≡ false → c ≡ after_read s B M E d.said d
  unfolding set_of
  reads u v = rw (tested ∙ u, v)

  -- the next record was found
  module _ (l b : ℕ) (is : d.said ≡ gives l b) where
    pub first : Given X C l b D d.reader d.table
    first =
        given X C l b D d.reader d.table (closed-due r.phase X C r e)
        (subst (λ (a : Said). Goes a D X C d.reader d.table) is step.goes)

    at-phase : d.reader.phase ≡ phase.Current
    at-phase = first.holds.is-current

    -- from a window that is full, or at the told end
    is-ready : ready d.reader.fill ≡ true
    is-ready = subst (λ (a : Said). Settled a r.fill.asking d.reader) is step.settled

    in-slots : d.reader.mark.count ≤ length d.table
    in-slots = omega (arith, tells-then.is_good.is-sane.count_slots, tells-then.is_good.table_lent)

    abbrev pub begun : Gathered
    begun = record { reader = d.reader; table = d.table; count = 0; used = 0; marks = M; ends = E }

    pairs-room : (ms : List ℕ) → pairs ms + pairs ms ≤ length ms
    pairs-room [] = omega arith
    pairs-room (x ∷ []) = omega arith
    pairs-room (x ∷ y ∷ ms) = omega (arith, pairs-room ms)

    pairs-all : (ms : List ℕ) → length ms < pairs ms + pairs ms + 2
    pairs-all [] = omega arith
    pairs-all (x ∷ []) = omega arith
    pairs-all (x ∷ y ∷ ms) = omega (arith, pairs-all ms)

    -- it and those behind it are put into the set
    module _ (room : ℕ) (left : pairs M ≡ suc room) (fit : fits begun ≡ true) where
      pub going : Going X C d.window d.reader.fill d.reader.slots d.reader.mark.line D room (put begun) (first.mark ∷ [])
      going =
          puts X C d.window d.reader.fill d.reader.slots d.reader.mark.line D room begun [] first.mark first.holds tells-then refl refl
          (let z : d.reader.mark.line ≡ d.reader.mark.line + 0 = omega arith in z) refl refl tt tt first.due_is
          (omega (arith, pairs-room M, left)) (omega (arith, pairs-all M, left)) (leb-true (0 + d.reader.mark.count) (length E) fit)

      all : All X C d.window d.reader.fill d.reader.slots d.reader.mark.line D (first.mark ∷ []) (put begun)
          (gather room d.window (put begun))
      all = gathers-all X C d.window d.reader.fill d.reader.slots d.reader.mark.line D room (put begun) (first.mark ∷ []) going

      -- in the same window
      pub same-fill : (gather room d.window (put begun)).reader.fill ≡ d.reader.fill
      same-fill = all.gathers.fill_is

  -- a refusal of a read is one of 2 to 5
  pub few : (n : ℕ) (vs : List ℕ) → d.said ≡ refuses n vs → n ≤ 5
  few n vs is =
      let q = subst (λ (a : Said). Goes a D X C d.reader d.table) is step.goes in
      small-first n vs q.first q.rest d.reader d.table (subst Small q.due_is (small-due r.phase X C r e)) q.says

  -- every call is of one of these kinds
  pub kind : Kind s B M E r w e
  kind = go (sound s (length B) (length M)) refl (ltb (length B) (length w)) refl
    where
      pairs-none : (ms : List ℕ) → pairs ms ≡ 0 → length ms < 2
      pairs-none [] is = omega arith
      pairs-none (x ∷ []) is = omega arith
      pairs-none (x ∷ y ∷ ms) is = absurd (omega arith)

      collects : Taken s (length B) (length M) (length w) → (l b : ℕ) → d.said ≡ gives l b → (room : ℕ) → pairs M ≡ room → c ≡ collected_in s B M E room d → Kind s B M E r w e
      collects taken l b q zero left is = misfits taken l b q (inl (pairs-none M left)) is
      collects taken l b q (suc room) left is = fitting (fits (begun l b q)) refl
        where
          fitting : (u : Bool) → fits (begun l b q) ≡ u → Kind s B M E r w e
          fitting true u = holding taken l b q (gather room d.window (put (begun l b q))) (is ∙ rw u refl)
          fitting false u = misfits taken l b q (inr (omega (arith, leb-false (0 + d.reader.mark.count) (length E) u))) (is ∙ rw u refl)

      by_said : Taken s (length B) (length M) (length w) → (a : Said) → d.said ≡ a → c ≡ after_read s B M E a d → Kind s B M E r w e
      by_said taken (asks p m o) q is = asks_too taken p m o q is
      by_said taken ends q is = ends_too taken q is
      by_said taken (refuses n vs) q is = refuses_too taken n vs q is
      by_said taken (gives l b) q is = collects taken l b q (pairs M) refl is

      go : (u : Bool) → sound s (length B) (length M) ≡ u → (v : Bool) → ltb (length B) (length w) ≡ v → Kind s B M E r w e
      go false u v x = of_state u (unsound u)
      go true u true x = of_bytes u x (short u x)
      go true u false x = by_said (u, ltb-false (length B) (length w) x) d.said refl (reads u x)

  -- a refusal that is neither of the state nor of the set is the read's own
  pub refused-read : (n : ℕ) (vs : List ℕ) → c.said ≡ set.refuses n vs → eqb n 11 ≡ false → eqb n 12 ≡ false → d.said ≡ refuses n vs
  refused-read n vs is other more = go kind
    where
      -- what the call says is not a refusal, or one of another number
      not-this : {A : Type 0} (x : Called) → c ≡ x → is_refusal x.said ≡ false → A
      not-this x q no' = absurd (false≢true (sym no' ∙ ap (λ (y : Called). is_refusal y.said) (sym q) ∙ ap is_refusal is))

      not-number : {A : Type 0} (m : ℕ) (x : Called) → c ≡ x → number_said x.said ≡ m → eqb n m ≡ false → A
      not-number m x q e no' =
          let z : n ≡ m = ap number_said (sym is) ∙ ap (λ (y : Called). number_said y.said) q ∙ e in
          absurd (false≢true (sym no' ∙ eq-eqb n m z))

      go : Kind s B M E r w e → d.said ≡ refuses n vs
      go (of_state u q) = not-number 11 _ q refl other
      go (of_bytes ok u q) = not-number 12 _ q refl more
      go (asks_too ok p m o u q) = not-this _ q refl
      go (ends_too ok u q) = not-this _ q refl
      go (refuses_too ok m us u q) =
          let same : set.refuses m us ≡ set.refuses n vs = ap (λ (x : Called). x.said) (sym q) ∙ is in
          u ∙ (λ i. refuses (number_said (same i)) (values_said (same i)))
      go (misfits ok l b u v q) = not-number 12 _ q refl more
      go (holding ok l b u g q) = not-this _ q refl

  -- an ask is the read's own
  pub asked-read : (p m o : ℕ) → c.said ≡ set.asks p m o → (d.said ≡ asks p m o) × (c ≡ leaves s B M E (set.asks p m o) d.reader d.window d.table (emptied s))
  asked-read p m o is = go kind
    where
      not-this : {A : Type 0} (x : Called) → c ≡ x → is_asking x.said ≡ false → A
      not-this x q no' = absurd (false≢true (sym no' ∙ ap (λ (y : Called). is_asking y.said) (sym q) ∙ ap is_asking is))

      go : Kind s B M E r w e → (d.said ≡ asks p m o) × (c ≡ leaves s B M E (set.asks p m o) d.reader d.window d.table (emptied s))
      go (of_state u q) = not-this _ q refl
      go (of_bytes ok u q) = not-this _ q refl
      go (asks_too ok p' m' o' u q) =
          let same : set.asks p' m' o' ≡ set.asks p m o = ap (λ (x : Called). x.said) (sym q) ∙ is in
          (u ∙ (λ i. as_of (same i)), q ∙ (λ i. leaves s B M E (same i) d.reader d.window d.table (emptied s)))
      go (ends_too ok u q) = not-this _ q refl
      go (refuses_too ok m us u q) = not-this _ q refl
      go (misfits ok l b u v q) = not-this _ q refl
      go (holding ok l b u g q) = not-this _ q refl

  -- what a set call does to what is due
  module _ (fresh : Fresh X C r e) where
    abbrev Does : Called → Type 0
    Does = Sets X C r D M E

    -- nothing changes
    stays : (a : set.Said) (q : Set) → SetGoes a D X C (leaves s B M E a r w e q) → Does (leaves s B M E a r w e q)
    stays a q goes = record { tells = t; slots_are = refl; rests = λ k. k; fresh = fresh; goes = goes; marks_same = refl; ends_same = refl }

    -- as a read, the set's slices untouched
    as_read : (a : set.Said) (q : Set) → SetGoes a D X C (leaves s B M E a d.reader d.window d.table q) → Does (leaves s B M E a d.reader d.window d.table q)
    as_read a q goes =
        record {
          tells = tells-then;
          slots_are = step.same.slots_are;
          rests = step.rests;
          fresh = (read-backs X C r w e t fresh).fresh;
          goes = goes;
          marks_same = refl;
          ends_same = refl;
        }

    module _ (l b : ℕ) (is : d.said ≡ gives l b) (enough : ltb (length B) (length w) ≡ false) where
      -- the filled bytes, which the set has room for
      abbrev copied : List ℕ
      copied = take d.reader.fill.filled d.window

      window-fits : d.reader.fill.filled ≤ length d.window
      window-fits =
          let v = tells-then.is_good.is-sane.window_sound in
          omega (arith, v.filled_fits, v.capacity_fits, tells-then.is_good.window_lent)

      copied-long : length copied ≡ d.reader.fill.filled
      copied-long = length-take-le d.reader.fill.filled d.window window-fits

      copied-fits : d.reader.fill.filled ≤ length B
      copied-fits =
          omega
          (arith, window-fits, ltb-false (length B) (length w) enough, tells-then.is_good.window_lent, t.is_good.window_lent, step.same.lent_is)

      -- it does not fit: the next read gives it
      refused : Does (refused12 s B M E (put_back_of d.reader) d.window d.table)
      refused =
          let same = put-current d.reader (sane-true d.reader tells-then.is_good.is-sane) (ap is_current (at-phase l b is)) in
          record {
            tells = put-back-tells X C d.reader d.window d.table tells-then (at-phase l b is);
            slots_are = ap (λ (o : Reader). o.slots) same ∙ step.same.slots_are;
            rests =
                λ k. at_rest (put_back_of d.reader) (ap (λ (o : Reader). is_window o.phase) same) (ap (λ (o : Reader). is_table o.phase) same);
            fresh = fresh-put-back X C d.reader d.window d.table tells-then (at-phase l b is);
            goes = inl (inr refl, read-put-back X C r w e t fresh l b is);
            marks_same = refl;
            ends_same = refl;
          }

      filled : (room : ℕ) (left : pairs M ≡ suc room) (fit : fits (begun l b is) ≡ true) → Does (filled_with s B M E d (gather room d.window (put (begun l b is))))
      filled room left fit =
          let k = all l b is room left fit in
          let g = k.gathers in
          let h = gather room d.window (put (begun l b is)) in
          record {
            tells = g.tells;
            slots_are = g.slots_are ∙ step.same.slots_are;
            rests = λ k. g.rests;
            fresh = g.fresh;
            goes =
                record {
                  marks_are = (first l b is).mark ∷ k.more;
                  used = _;
                  as_many = g.count_is;
                  some_record = omega (arith, g.count_is);
                  due_is = g.due_is;
                  each = g.each;
                  in_table = g.used_fits;
                  used_is = g.used_is;
                  left_out =
                      subst (λ (x : Fill). Beyond (length h.marks) (length h.ends) h.count h.used x (due_to X C h.reader h.table))
                      (sym g.fill_is) (k.left (is-ready l b is));
                  count_is = refl;
                  marks_fit = g.marks_fit;
                  below = g.below;
                  same_place = ap (λ (x : Fill). x.base.0) g.fill_is;
                  same_filled = ap (λ (x : Fill). x.filled) g.fill_is;
                  filled_is = refl;
                  bytes_fit = omega (arith, copied-fits, length-pasted 0 copied B (omega (arith, copied-fits, copied-long)));
                  bytes_are =
                      ap (take d.reader.fill.filled) (pasted-room 0 copied B (omega (arith, copied-fits, copied-long)))
                      ∙ take_at copied (drop (0 + length copied) B) d.reader.fill.filled copied-long;
                };
            marks_same = k.marks_same ∙ marks-long (begun l b is);
            ends_same = k.ends_same ∙ ends-long (begun l b is) (in-slots l b is) (leb-true (0 + d.reader.mark.count) (length E) fit);
          }

      collected : (room : ℕ) → pairs M ≡ room → Does (collected_in s B M E room d)
      collected zero left = refused
      collected (suc room) left = go (fits (begun l b is)) refl
        where
          go : (u : Bool) → fits (begun l b is) ≡ u → Does (cond u (filled_with s B M E d (gather room d.window (put (begun l b is)))) (refused12 s B M E (put_back_of d.reader) d.window d.table))
          go true u = filled room left u
          go false u = refused

    after-read : (a : Said) → d.said ≡ a → ltb (length B) (length w) ≡ false → Goes a D X C d.reader d.table → Does (after_read s B M E a d)
    after-read (asks p m o) is enough q = as_read (set.asks p m o) (emptied s) q.0
    after-read (gives l b) is enough q = collected l b is enough (pairs M) refl
    after-read ends is enough q = as_read set.ends (emptied s) q.then_due
    after-read (refuses n vs) is enough q =
        as_read (set.refuses n vs) _ (inr (few n vs is, q.then_due))

    pub sets : Does c
    sets = go (sound s (length B) (length M)) refl (ltb (length B) (length w)) refl
      where
        go : (u : Bool) → sound s (length B) (length M) ≡ u → (v : Bool) → ltb (length B) (length w) ≡ v → Does c
        go false u v x = subst Does (sym (unsound u)) (stays (set.refuses 11 []) s (inl (inl refl, refl)))
        go true u true x = subst Does (sym (short u x)) (stays (set.refuses 12 []) (emptied s) (inl (inr refl, refl)))
        go true u false x = subst Does (sym (reads u x)) (after-read d.said refl x step.goes)
