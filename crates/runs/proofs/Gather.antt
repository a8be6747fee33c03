-- A set's records are the next ones that are due (01, module 6): each record that is gathered was due next, stands in the set's tables with its start and
-- its ends, and what is due then is what is left; the record behind the last one has no room in the tables, or is not whole in the window. Assumes nothing.
use Prim.Native.Nat.{ℕ, zero, suc, ◌+◌, ◌-◌, ◌≤◌, ◌<◌}
use native.Mathlib.Omega.{arith}
use mathlib.Core.Bool.{Bool, true, false, cond, ◌&&◌, false≢true}
use mathlib.Core.List.{List, [], ◌∷◌, ◌++◌, map, append-nil, append_assoc}
use mathlib.Core.Logic.{◌⊎◌, inl, inr}
use mathlib.Core.Option.{Option, none, some}
use mathlib.Core.Path.{◌≡◌, refl, sym, ap, subst, ◌∙◌}
use native.Mathlib.Decide.{dec_le}
use lib.ListN.{length, take, drop, set, length-append, length-set}
use lib.Seq.{length-take-le}
use lib.Dec.{eqb}
use borrow.Author.Tests.{eqb-true, leb-true, leb-false}
use Rattle.meaning.specs.Due as meant
use Rattle.meaning.specs.Due.{due_by}
use Rattle.meaning.specs.OnePass.{Mark, Marked, good, bad, marks, lead_marks, judged_mark, place_mark, due_marks}
use Rattle.meaning.proofs.Due.{due-gives, due-refuses}
use Rattle.scan.proofs.Paste.{length-pasted}
use Rattle.scan.specs.Search.{Recorded}
use Rattle.scan.specs.declared.ends.Stop.{Stop}
use Rattle.scan.specs.declared.ends.Stop.TheVariants as stop
use Rattle.window.specs.Fill.{ready}
use Rattle.window.specs.declared.fill.Fill.{Fill}
use Rattle.reader.specs.declared.state.Reader.{Reader}
use Rattle.reader.specs.declared.state.Phase.{Phase}
use Rattle.reader.specs.declared.state.Phase.TheVariants as phase
use Rattle.reader.specs.State.{Good, byte_of, is_current}
use Rattle.reader.specs.Read.{gives, reached, searches, passed}
use Rattle.reader.specs.Look.{Seen, whole, unfinished, over, denied, Looked, looked_to, looks_behind, look_of, put_back_of}
use Rattle.reader.proofs.Sanity.{and-true, sane-true}
use Rattle.reader.proofs.ReadLaws.{lent-true}
use Rattle.reader.proofs.Kept.{is_searching, goes_on}
use Rattle.reader.proofs.LookLaws.{shut-full, shut-more, to-told, to-not, on-found, look-over, look-waits, look-goes, look-behind, put-current}
use Rattle.set.specs.Set.{ends_before}
use Rattle.set.specs.Read.{Gathered, gathered_by, fits, put, back, is_whole, gather}
use Rattle.set.proofs.Gathering.{gather-stops, gather-full, gather-misfit, gather-on}
use Rattle.runs.proofs.Tells.{Dues, judge, unless_over, at_sought, from_here, ends_of, due_searched, due_in, due_to, later, is_window, is_table, Rests, Tells, Holds, Says, Answers}
use Rattle.runs.proofs.Look.{Sees, is_unfinished, Looks, look-steps, put-back-tells, look-put-back}
use Rattle.runs.proofs.Begun.{at_rest}
use Rattle.runs.proofs.Back.{Fresh, fresh-other, fresh-look, fresh-put-back}
use Rattle.runs.proofs.SearchMarks.{ends-count}
use Rattle.runs.proofs.Beyond.{Cut, Beyond, if-as, if-more}
use Rattle.runs.proofs.SetTable.{Each, used-then, put-each}

-- ---- what is due ends with something other than a record

abbrev is_record : meant.Said Mark → Bool
is_record (meant.gives m) = true
is_record meant.ends = false
is_record (meant.refuses n vs) = false

abbrev pub Closed : Dues → Type 0
Closed [] = ⊥
Closed (a ∷ []) = is_record a ≡ false
Closed (a ∷ b ∷ d) = Closed (b ∷ d)

closed-more : (a : meant.Said Mark) (d : Dues) → Closed d → Closed (a ∷ d)
closed-more a [] k = absurd k
closed-more a (b ∷ d) k = k

closed-judge : (C T : ℕ) (ms : List Mark) → Closed (judge C T ms)
unfolding due_by
closed-judge C T [] = refl
closed-judge C T (m ∷ ms) = go (judged_mark C T m) refl (closed-judge C T ms)
  where
    go : (o : Option ℕ) → judged_mark C T m ≡ o → Closed (judge C T ms) → Closed (judge C T (m ∷ ms))
    go none o k = subst Closed (sym (due-gives (judged_mark C T) place_mark m ms o)) (closed-more (meant.gives m) (judge C T ms) k)
    go (some n) o k = subst Closed (sym (due-refuses (judged_mark C T) place_mark m ms n o)) refl

closed-unless : (xs : List ℕ) (d : Dues) → Closed d → Closed (unless_over xs d)
closed-unless [] d k = refl
closed-unless (x ∷ xs) d k = k

closed-marked : (C T : ℕ) (M : Marked) → Closed (due_marks C T M)
unfolding due_marks
closed-marked C T (good ms) = closed-judge C T ms
closed-marked C T (bad l x) = refl

closed-sought : (C T l b : ℕ) (xs : List ℕ) → Closed (at_sought C T l b xs)
closed-sought C T l b [] = refl
closed-sought C T l b (x ∷ xs) = go (eqb x 62)
  where
    go : (t : Bool) → Closed (cond t (judge C T (marks l b (suc b) [] xs false)) (meant.refuses 5 [] ∷ []))
    go true = closed-judge C T (marks l b (suc b) [] xs false)
    go false = refl

closed-here : (X : List ℕ) (C T l b p : ℕ) (E : List ℕ) → Closed (from_here X C T l b p E)
closed-here X C T l b p E = closed-unless (drop b X) (judge C T (marks l b p E (drop p X) false)) (closed-judge C T (marks l b p E (drop p X) false))

closed-searched : (X : List ℕ) (C : ℕ) (r : Reader) (e : List ℕ) → Closed (due_searched X C r e)
closed-searched X C r e =
    closed-here X C r.slots r.mark.line (byte_of r) (r.fill.base.0 + goes_on r.mark) (ends_of r e)

pub closed-due : (p : Phase) (X : List ℕ) (C : ℕ) (r : Reader) (e : List ℕ) → Closed (due_in p X C r e)
closed-due phase.Lead X C r e = closed-marked C r.slots (lead_marks r.mark.line (byte_of r) (drop (byte_of r) X) false)
closed-due phase.Sought X C r e = closed-sought C r.slots r.mark.line (byte_of r) (drop (byte_of r) X)
closed-due phase.Searching X C r e = closed-searched X C r e
closed-due phase.Current X C r e =
    let b = r.fill.base.0 + r.mark.search.0 in
    closed-here X C r.slots (r.mark.line + r.mark.count) b (suc b) []
closed-due phase.Ended X C r e = refl
closed-due phase.Over X C r e = refl
closed-due phase.Window X C r e = refl
closed-due phase.Table X C r e = refl
closed-due phase.Astray X C r e = refl
closed-due phase.Ahead X C r e = closed-searched X C r e

-- so behind a record something is due
pub later-record : (m : Mark) (rest : Dues) → Closed (meant.gives m ∷ rest) → later (meant.gives m ∷ rest) ≡ rest
later-record m [] k = absurd (false≢true (sym k))
later-record m (a ∷ rest) k = refl

-- ---- a record that a look sees whole

-- a look leaves the window as it is, and a whole record stands on the line behind the lines of the current one
record Next (r : Reader) (d : Looked) : Type 0 where
  fill_same : d.reader.fill ≡ r.fill
  slots_same : d.reader.slots ≡ r.slots
  next_line : is_whole d.seen ≡ true → d.reader.mark.line ≡ r.mark.line + r.mark.count
  not_refused : (is_window d.reader.phase ≡ false) × (is_table d.reader.phase ≡ false)

module _ (r : Reader) (w e : List ℕ) where
  abbrev s : Recorded
  s = searches (passed r) w e

  abbrev q : Reader
  q = reached s.out.at s.out.count (passed r)

  as-next : {d o : Looked} → d ≡ o → Next r o → Next r d
  as-next is k = subst (Next r) (sym is) k

  next-stop : (o : Stop) → Next r (looked_to o q s.ends)
  next-stop stop.Record = record { fill_same = refl; slots_same = refl; next_line = λ is. refl; not_refused = (refl, refl) }
  next-stop stop.Full = record { fill_same = refl; slots_same = refl; next_line = λ is. refl; not_refused = (refl, refl) }
  next-stop stop.Filled = go r.fill.told refl (dec_le r.slots s.out.count)
    where
      go : (u : Bool) → r.fill.told ≡ u → Dec (r.slots ≤ s.out.count) → Next r (looked_to stop.Filled q s.ends)
      go false u d = as-next (to-not q s.ends u) (record { fill_same = refl; slots_same = refl; next_line = λ is. refl; not_refused = (refl, refl) })
      go true u (yes d) =
          as-next (to-told q s.ends u ∙ shut-full q s.ends d) (record { fill_same = refl; slots_same = refl; next_line = λ is. refl; not_refused = (refl, refl) })
      go true u (no d) =
          as-next (to-told q s.ends u ∙ shut-more q s.ends (omega arith)) (record { fill_same = refl; slots_same = refl; next_line = λ is. refl; not_refused = (refl, refl) })

  next-behind : Next r (looks_behind r w e)
  next-behind = go (r.fill.told && eqb r.mark.search.0 r.fill.filled) refl (ready r.fill) refl
    where
      go : (u : Bool) → (r.fill.told && eqb r.mark.search.0 r.fill.filled) ≡ u → (v : Bool) → ready r.fill ≡ v → Next r (looks_behind r w e)
      go true u v p =
          let both = and-true r.fill.told (eqb r.mark.search.0 r.fill.filled) u in
          as-next (look-over r w e both.0 (eqb-true r.mark.search.0 r.fill.filled both.1))
          (record { fill_same = refl; slots_same = refl; next_line = λ is. absurd (false≢true is); not_refused = (refl, refl) })
      go false u false p = as-next (look-waits r w e u p) (record { fill_same = refl; slots_same = refl; next_line = λ is. refl; not_refused = (refl, refl) })
      go false u true p = as-next (look-goes r w e u p ∙ on-found (passed r) w e s refl) (next-stop s.out.stop)

  next-look : Good r w e → r.phase ≡ phase.Current → Next r (look_of r w e)
  next-look g is =
      as-next (look-behind r w e (sane-true r g.is-sane) (lent-true r w e g.window_lent g.table_lent) (ap is_current is)) next-behind

-- ---- an answer that gives a record

pub record Given (X : List ℕ) (C : ℕ) (l b : ℕ) (d : Dues) (r : Reader) (e : List ℕ) : Type 0 where
  pub mark : Mark
  pub due_is : d ≡ meant.gives mark ∷ due_to X C r e
  pub holds : Holds mark r e

pub given : (X : List ℕ) (C l b : ℕ) (d : Dues) (r : Reader) (e : List ℕ) → Closed d → Answers (gives l b) d X C r e → Given X C l b d r e
given X C l b d r e closed q = go q.first q.rest q.due_is q.says
  where
    go : (a : meant.Said Mark) (rest : Dues) → d ≡ a ∷ rest → Says (gives l b) a r e → Given X C l b d r e
    go (meant.gives m) rest is k =
        let later-is : due_to X C r e ≡ rest = q.then_due ∙ ap later is ∙ later-record m rest (subst Closed is closed) in
        record { mark = m; due_is = is ∙ ap (λ (x : Dues). meant.gives m ∷ x) (sym later-is); holds = k.1.1 }
    go meant.ends rest is k = absurd k
    go (meant.refuses n vs) rest is k = absurd k

-- ---- the records of a set

-- records, then what is due behind them
abbrev pub records_then : List Mark → Dues → Dues
records_then [] d = d
records_then (m ∷ ms) d = meant.gives m ∷ records_then ms d

pub closed-then : (ms : List Mark) (d : Dues) → Closed d → Closed (records_then ms d)
closed-then [] d c = c
closed-then (m ∷ ms) d c = closed-more (meant.gives m) (records_then ms d) (closed-then ms d c)

-- each record lies below a place of the input
abbrev pub AllBelow : (top : ℕ) → List Mark → Type 0
AllBelow top [] = Unit {0}
AllBelow top (m ∷ ms) = (m.byte + m.len ≤ top) × AllBelow top ms

below_more : (top : ℕ) (ms : List Mark) (m : Mark) → AllBelow top ms → m.byte + m.len ≤ top → AllBelow top (ms ++ (m ∷ []))
below_more top [] m k h = (h, tt)
below_more top (x ∷ ms) m k h = (k.0, below_more top ms m k.1 h)

then-more : (ms : List Mark) (m : Mark) (d : Dues) → records_then (ms ++ (m ∷ [])) d ≡ records_then ms (meant.gives m ∷ d)
then-more [] m d = refl
then-more (x ∷ ms) m d = ap (λ (l : Dues). meant.gives x ∷ l) (then-more ms m d)

-- the tables are as long as they were before a record was put
pub marks-long : (g : Gathered) → length (put g).marks ≡ length g.marks
marks-long g =
    let k = g.count in
    let start = g.reader.mark.start.0 in
    length-set (set g.marks (k + k) start) (k + k + 1) (g.used + g.reader.mark.count) ∙ length-set g.marks (k + k) start

pub ends-long : (g : Gathered) → g.reader.mark.count ≤ length g.table → g.used + g.reader.mark.count ≤ length g.ends
    → length (put g).ends ≡ length g.ends
ends-long g there fit =
    let n = g.reader.mark.count in
    length-pasted g.used (take n g.table) g.ends (omega (arith, length-take-le n g.table there))

module _ (X : List ℕ) (C : ℕ) (w : List ℕ) (f : Fill) (T line : ℕ) (D : Dues) where
  -- What is gathered: the marks ms of the set's records, which were due first, and the rest is due to the reader, in the same window.
  pub record Gathers (g : Gathered) (ms : List Mark) : Type 0 where
    pub tells : Tells X C g.reader w g.table
    pub fill_is : g.reader.fill ≡ f
    pub slots_are : g.reader.slots ≡ T
    pub count_is : length ms ≡ g.count
    pub used_is : ends_before g.marks g.count ≡ g.used
    pub used_fits : g.used ≤ length g.ends
    pub each : Each f.base.0 line g.marks g.ends g.used 0 ms
    pub below : AllBelow (f.base.0 + f.filled) ms
    pub marks_fit : g.count + g.count ≤ length g.marks
    pub due_is : D ≡ records_then ms (due_to X C g.reader g.table)
    pub rests : Rests g.reader
    pub fresh : Fresh X C g.reader g.table

  -- a reader on its way: its record is current, the last one put, and there is room for exactly so many more
  pub record Going (room : ℕ) (g : Gathered) (ms : List Mark) : Type 0 where
    pub gathers : Gathers g ms
    pub is-current : g.reader.phase ≡ phase.Current
    pub next_line : g.reader.mark.line + g.reader.mark.count ≡ line + g.used
    pub has_room : g.count + g.count + (room + room) ≤ length g.marks
    pub no_more : length g.marks < g.count + g.count + (room + room) + 2

  -- a record that was due next, and is current, is put into the set
  module _ (room : ℕ) (g : Gathered) (ms : List Mark) (m : Mark) (k : Holds m g.reader g.table)
      (t : Tells X C g.reader w g.table) (fill_is : g.reader.fill ≡ f) (slots_are : g.reader.slots ≡ T)
      (on_line : g.reader.mark.line ≡ line + g.used)
      (count_is : length ms ≡ g.count) (used_is : ends_before g.marks g.count ≡ g.used)
      (each : Each f.base.0 line g.marks g.ends g.used 0 ms) (below : AllBelow (f.base.0 + f.filled) ms)
      (due_is : D ≡ records_then ms (meant.gives m ∷ due_to X C g.reader g.table))
      (has_room : g.count + g.count + (suc room + suc room) ≤ length g.marks)
      (no_more : length g.marks < g.count + g.count + (suc room + suc room) + 2)
      (fit : g.used + g.reader.mark.count ≤ length g.ends) where
    abbrev n : ℕ
    n = g.reader.mark.count

    abbrev src : List ℕ
    src = take n g.table

    there : n ≤ length g.table
    there = omega (arith, t.is_good.is-sane.count_slots, t.is_good.table_lent)

    long : length src ≡ n
    long = length-take-le n g.table there

    some_end : 0 < n
    some_end = t.is_good.is-sane.current_has_end (ap is_current k.is-current)

    base-is : g.reader.fill.base.0 ≡ f.base.0
    base-is = ap (λ (x : Fill). x.base.0) fill_is

    pub puts : Going room (put g) (ms ++ (m ∷ []))
    puts =
        let free : g.count + g.count + 2 ≤ length g.marks = omega arith in
        let table = put-each f.base.0 line g.marks g.ends g.used g.count g.reader.mark.start.0 n src long fit free used_is ms m count_is each
        (k.byte_is ∙ ap (λ (b : ℕ). b + g.reader.mark.start.0) base-is)
        (k.line_is ∙ on_line)
        (k.ends_are ∙ ap (λ (b : ℕ). map (λ (x : ℕ). b + x) src) base-is)
        some_end in
        record {
          gathers =
              record {
                tells = t;
                fill_is = fill_is;
                slots_are = slots_are;
                count_is = length-append ms (m ∷ []) ∙ (let z : length ms + 1 ≡ suc g.count = omega arith in z);
                used_is = used-then f.base.0 line g.marks g.ends g.used g.count g.reader.mark.start.0 n src long fit free used_is;
                used_fits = omega (arith, ends-long g there fit);
                each = table;
                below =
                    below_more (f.base.0 + f.filled) ms m below
                    (omega
                    (arith, k.byte_is, k.len_is, base-is, ap (λ (x : Fill). x.filled) fill_is, t.is_good.is-sane.search_filled, t.is_good.is-sane.start_search));
                marks_fit = omega (arith, marks-long g);
                due_is = due_is ∙ sym (then-more ms m (due_to X C g.reader g.table));
                rests = at_rest g.reader (ap is_window k.is-current) (ap is_table k.is-current);
                fresh = fresh-other X C g.reader g.table (ap is_searching k.is-current);
              };
          is-current = k.is-current;
          next_line = omega arith;
          has_room = omega (arith, marks-long g);
          no_more = omega (arith, marks-long g);
        }

  -- what a look sees
  abbrev pub seen_in : Gathered → Looked
  seen_in g = look_of g.reader w g.table

  abbrev pub then' : Gathered → Gathered
  then' g = gathered_by (seen_in g).reader (seen_in g).table g

  -- a record's ends have no room, or it is not whole
  abbrev Past : Gathered → Mark → Type 0
  Past g m = (length g.ends < g.used + length m.ends) ⊎ Cut f m

  -- why no more is put, in a window that is full or at the told end
  abbrev pub Left : Gathered → Type 0
  Left g = ready f ≡ true → Beyond (length g.marks) (length g.ends) g.count g.used f (due_to X C g.reader g.table)

  -- by what a look sees
  module _ (room : ℕ) (g : Gathered) (ms : List Mark) (k : Going room g ms) where
    abbrev r : Reader
    r = g.reader

    pub step : Looks X C r w (due_to X C r g.table) (seen_in g)
    step = look-steps X C r w g.table k.gathers.tells k.is-current

    next : Next r (seen_in g)
    next = next-look r w g.table k.gathers.tells.is_good k.is-current

    -- the same is due, in another phase
    stays : (x : Reader) (e : List ℕ) → Tells X C x w e → x.fill ≡ r.fill → x.slots ≡ r.slots → due_to X C x e ≡ due_to X C r g.table
        → Rests x → Fresh X C x e → Gathers (gathered_by x e g) ms
    stays x e t fill slots same rests fresh =
        record {
          tells = t;
          fill_is = fill ∙ k.gathers.fill_is;
          slots_are = slots ∙ k.gathers.slots_are;
          count_is = k.gathers.count_is;
          used_is = k.gathers.used_is;
          used_fits = k.gathers.used_fits;
          each = k.gathers.each;
          below = k.gathers.below;
          marks_fit = k.gathers.marks_fit;
          due_is = k.gathers.due_is ∙ ap (records_then ms) (sym same);
          rests = rests;
          fresh = fresh;
        }

    -- nothing more is whole
    due-still : is_whole (seen_in g).seen ≡ false → due_to X C (seen_in g).reader (seen_in g).table ≡ due_to X C r g.table
    due-still no' = go (seen_in g).seen step.sees no'
      where
        go : (a : Seen) → Sees a (due_to X C r g.table) X C (seen_in g).reader (seen_in g).table → is_whole a ≡ false
            → due_to X C (seen_in g).reader (seen_in g).table ≡ due_to X C r g.table
        go (whole l b) u n' = absurd (false≢true (sym n'))
        go unfinished u n' = u.0
        go over u n' = u.1.0 ∙ sym u.0
        go (denied i) u n' = absurd u

    stops : is_whole (seen_in g).seen ≡ false → Gathers (then' g) ms
    stops no' =
        stays (seen_in g).reader (seen_in g).table step.tells next.fill_same next.slots_same (due-still no')
        (at_rest (seen_in g).reader next.not_refused.0 next.not_refused.1) (fresh-look X C r w g.table k.gathers.tells k.is-current)

    -- what is due then, if a record, is not whole in the window
    left_cut : (a : Seen) → (seen_in g).seen ≡ a → is_whole a ≡ false → Left (then' g)
    left_cut (whole l b) is no' full = absurd (false≢true (sym no'))
    left_cut unfinished is no' full =
        let same : r.fill ≡ f = k.gathers.fill_is in
        let cut = step.is_cut (ap is_unfinished is) (ap ready same ∙ full) in
        inr
        (if-as (Past g) (due-still (ap is_whole is))
        (if-more (Cut r.fill) (Past g) (λ m c. inr (subst (λ (x : Fill). Cut x m) same c)) (due_to X C r g.table) cut))
    left_cut over is no' full =
        inr (if-as (Past g) (subst (λ (a : Seen). Sees a (due_to X C r g.table) X C (seen_in g).reader (seen_in g).table) is step.sees).1.0 tt)
    left_cut (denied n) is no' full =
        absurd (subst (λ (a : Seen). Sees a (due_to X C r g.table) X C (seen_in g).reader (seen_in g).table) is step.sees)

    -- a whole record
    module _ (l b : ℕ) (is : (seen_in g).seen ≡ whole l b) where
      pub seen : Given X C l b (due_to X C r g.table) (seen_in g).reader (seen_in g).table
      seen =
          given X C l b (due_to X C r g.table) (seen_in g).reader (seen_in g).table (closed-due r.phase X C r g.table)
          (subst (λ (a : Seen). Sees a (due_to X C r g.table) X C (seen_in g).reader (seen_in g).table) is step.sees).0

      in-slots : (seen_in g).reader.mark.count ≤ length (seen_in g).table
      in-slots = omega (arith, step.tells.is_good.is-sane.count_slots, step.tells.is_good.table_lent)

      -- it has as many ends as the reader counted
      many : length seen.mark.ends ≡ (seen_in g).reader.mark.count
      many =
          ap length seen.holds.ends_are
          ∙ ends-count (seen_in g).reader.fill.base.0 (seen_in g).reader.mark.count (seen_in g).table in-slots

      -- it has no room in the table of marks, or its ends have none in theirs
      left-full : room ≡ 0 → Left (back (then' g))
      left-full none' full = inl (omega (arith, k.no_more))

      left-misfit : fits (then' g) ≡ false → Left (back (then' g))
      left-misfit misfit full =
          inr
          (if-as (Past g) (look-put-back X C r w g.table k.gathers.tells k.is-current l b is ∙ seen.due_is)
          (inl (omega (arith, many, leb-false (g.used + (seen_in g).reader.mark.count) (length g.ends) misfit))))

      backs : Gathers (back (then' g)) ms
      backs =
          let x = (seen_in g).reader in
          let e = (seen_in g).table in
          let at = seen.holds.is-current in
          let same = put-current x (sane-true x step.tells.is_good.is-sane) (ap is_current at) in
          stays (put_back_of x) e (put-back-tells X C x w e step.tells at)
          (ap (λ (o : Reader). o.fill) same ∙ next.fill_same) (ap (λ (o : Reader). o.slots) same ∙ next.slots_same)
          (look-put-back X C r w g.table k.gathers.tells k.is-current l b is)
          (at_rest (put_back_of x) (ap (λ (o : Reader). is_window o.phase) same) (ap (λ (o : Reader). is_table o.phase) same))
          (fresh-put-back X C x w e step.tells at)

      long-still : fits (then' g) ≡ true → length (put (then' g)).ends ≡ length g.ends
      long-still fit = ends-long (then' g) in-slots (leb-true (g.used + (seen_in g).reader.mark.count) (length g.ends) fit)

      pub more : (j : ℕ) → room ≡ suc j → fits (then' g) ≡ true → Going j (put (then' g)) (ms ++ (seen.mark ∷ []))
      more j left fit =
          puts j (then' g) ms seen.mark seen.holds step.tells (next.fill_same ∙ k.gathers.fill_is) (next.slots_same ∙ k.gathers.slots_are)
          (next.next_line (ap is_whole is) ∙ k.next_line) k.gathers.count_is k.gathers.used_is k.gathers.each k.gathers.below
          (k.gathers.due_is ∙ ap (records_then ms) seen.due_is)
          (subst (λ (i : ℕ). g.count + g.count + (i + i) ≤ length g.marks) left k.has_room)
          (subst (λ (i : ℕ). length g.marks < g.count + g.count + (i + i) + 2) left k.no_more)
          (leb-true (g.used + (seen_in g).reader.mark.count) (length g.ends) fit)

  -- what is gathered in all, from g on, in tables as long as they were
  pub record All (ms : List Mark) (g h : Gathered) : Type 0 where
    pub more : List Mark
    pub gathers : Gathers h (ms ++ more)
    pub left : Left h
    pub marks_same : length h.marks ≡ length g.marks
    pub ends_same : length h.ends ≡ length g.ends

  module _ (room : ℕ) (g : Gathered) (ms : List Mark) (k : Going room g ms) where
    -- no whole record is there
    none-whole : (a : Seen) → (seen_in g).seen ≡ a → is_whole a ≡ false → All ms g (gather room w g)
    none-whole a is no' =
        let same : is_whole (seen_in g).seen ≡ false = ap is_whole is ∙ no' in
        subst (All ms g) (sym (gather-stops w g (seen_in g).seen (seen_in g).reader (seen_in g).table refl room same))
        (record {
          more = [];
          gathers = subst (Gathers (then' g)) (sym (append-nil ms)) (stops room g ms k same);
          left = left_cut room g ms k a is no';
          marks_same = refl;
          ends_same = refl;
        })

    -- one is, for which there is no room
    none-fits : (l b : ℕ) → (seen_in g).seen ≡ whole l b → gather room w g ≡ back (then' g) → Left (back (then' g)) → All ms g (gather room w g)
    none-fits l b is at left =
        subst (All ms g) (sym at)
        (record {
          more = [];
          gathers = subst (Gathers (back (then' g))) (sym (append-nil ms)) (backs room g ms k l b is);
          left = left;
          marks_same = refl;
          ends_same = refl;
        })

  -- one is put, and those behind it
  one_more : (room : ℕ) (g : Gathered) (ms : List Mark) (k : Going (suc room) g ms) (l b : ℕ) (is : (seen_in g).seen ≡ whole l b) → fits (then' g) ≡ true
      → All (ms ++ ((seen (suc room) g ms k l b is).mark ∷ [])) (put (then' g)) (gather room w (put (then' g))) → All ms g (gather (suc room) w g)
  one_more room g ms k l b is fit rest =
      let m = (seen (suc room) g ms k l b is).mark in
      let less : suc room - 1 ≡ room = omega arith in
      subst (All ms g)
      (sym
      (gather-on w g (seen_in g).seen (seen_in g).reader (seen_in g).table refl (ap is_whole is) (suc room) (λ z. omega arith) fit
      ∙ ap (λ (i : ℕ). gather i w (put (then' g))) less))
      (record {
        more = m ∷ rest.more;
        gathers = subst (Gathers (gather room w (put (then' g)))) (append_assoc ms (m ∷ []) rest.more) rest.gathers;
        left = rest.left;
        marks_same = rest.marks_same ∙ marks-long (then' g);
        ends_same = rest.ends_same ∙ long-still (suc room) g ms k l b is fit;
      })

  pub gathers-all : (room : ℕ) (g : Gathered) (ms : List Mark) → Going room g ms → All ms g (gather room w g)
  gathers-all zero g ms k = go (seen_in g).seen refl
    where
      go : (a : Seen) → (seen_in g).seen ≡ a → All ms g (gather zero w g)
      go (whole l b) is =
          none-fits zero g ms k l b is (gather-full w g (seen_in g).seen (seen_in g).reader (seen_in g).table refl (ap is_whole is))
          (left-full zero g ms k l b is refl)
      go unfinished is = none-whole zero g ms k unfinished is refl
      go over is = none-whole zero g ms k over is refl
      go (denied n) is = none-whole zero g ms k (denied n) is refl
  gathers-all (suc room) g ms k = go (seen_in g).seen refl (fits (then' g)) refl (λ h ns j. gathers-all room h ns j)
    where
      go :
          (a : Seen) → (seen_in g).seen ≡ a → (t : Bool) → fits (then' g) ≡ t → ((h : Gathered) (ns : List Mark) → Going room h ns → All ns h (gather room w h)) →
          All ms g (gather (suc room) w g)
      go (whole l b) is true fit on =
          let m = (seen (suc room) g ms k l b is).mark in
          one_more room g ms k l b is fit (on (put (then' g)) (ms ++ (m ∷ [])) (more (suc room) g ms k l b is room refl fit))
      go (whole l b) is false fit on =
          none-fits (suc room) g ms k l b is (gather-misfit w g (seen_in g).seen (seen_in g).reader (seen_in g).table refl (ap is_whole is) (suc room) fit)
          (left-misfit (suc room) g ms k l b is fit)
      go unfinished is t fit on = none-whole (suc room) g ms k unfinished is refl
      go over is t fit on = none-whole (suc room) g ms k over is refl
      go (denied n) is t fit on = none-whole (suc room) g ms k (denied n) is refl
