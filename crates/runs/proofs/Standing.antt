-- Any other state that passes 11: the first answer that is no ask is judged from the ends, the search place and the filled bytes as they stand, and
-- the later refills (`standing`). What is due does not change by asks and reports, so it is what was due at first, and that is read off the bytes.
-- Assumes nothing.
use Prim.Native.Nat.{ℕ, suc, ◌+◌, ◌-◌, ◌≤◌, ◌<◌}
use native.Mathlib.Omega.{arith}
use mathlib.Core.Bool.{Bool, true, false, cond, ◌&&◌, false≢true}
use mathlib.Core.List.{List, [], ◌∷◌, ◌++◌, map}
use mathlib.Core.Path.{◌≡◌, refl, sym, ap, subst, ◌∙◌}
use lib.ListN.{length, take, drop}
use lib.Seq.{drop-drop, length-take-le}
use lib.Dec.{eqb, ltb, leb, eqb-suc-zero}
use borrow.Author.Tests.{eqb-true, ltb-true, leb-true}
use Rattle.growth.specs.Chain.{largest}
use Rattle.meaning.specs.Input.{Meaning, begins, meaning_from}
use Rattle.meaning.specs.Due as meant
use Rattle.meaning.specs.Due.{due}
use Rattle.meaning.specs.OnePass.{Mark, marks, lead_marks, table_mark, judged_mark, place_mark, due_marks}
use Rattle.meaning.proofs.OnePass.{at-cons, lead-meaning, lead_is}
use Rattle.meaning.proofs.Marks.{lead-right}
use Rattle.meaning.proofs.Due.{said_of, due-gives, due-refuses, due-marks}
use Rattle.scan.proofs.SearchLaws.{Rises, rises-lower, rises-count}
use Rattle.reader.specs.declared.state.Reader.{Reader}
use Rattle.reader.specs.declared.state.Phase.{Phase}
use Rattle.reader.specs.declared.state.Phase.TheVariants as phase
use Rattle.reader.specs.State.{Sane, Good, byte_of, lent_as, rising}
use Rattle.reader.specs.Read.{Said, asks, gives, ends, refuses}
use Rattle.reader.proofs.Sanity.{and-true, true-sane}
use Rattle.reader.proofs.Kept.{is_searching, Behind, goes_on}
use Rattle.runs.specs.Run.{State, reading}
use Rattle.runs.specs.Standing.{is_unfinished, own, judged_at, first_of, standing_in, Plain, Asks, Standing}
use Rattle.runs.proofs.Tells.{Dues, judge, unless_over, from_here, at_sought, ends_of, due_in, due_to, is_sought, Tells, Says, Answers, Goes}
use Rattle.runs.proofs.SearchMarks.{ends-count}
use Rattle.runs.proofs.Waiting.{waits}
use Rattle.runs.proofs.Step.{steps}
use Rattle.runs.proofs.Own.{own_mark, owns, own-len, table_at, own-table}

-- what a read says where an answer is due, and where answers are due
abbrev said_for : meant.Said Mark → Said
said_for (meant.gives m) = gives m.line m.byte
said_for meant.ends = ends
said_for (meant.refuses n vs) = refuses n vs

abbrev first_said : Dues → Said
first_said [] = ends
first_said (a ∷ d) = said_for a

first-of : (X : List ℕ) (d : Dues) → first_of (map (said_of X) d) ≡ first_said d
first-of X [] = refl
first-of X (meant.gives m ∷ d) = refl
first-of X (meant.ends ∷ d) = refl
first-of X (meant.refuses n vs ∷ d) = refl

-- refusals 4 and 3 by their tests, or the record
abbrev judged_by : (table window : Bool) (l b : ℕ) → Said
judged_by table window l b = cond table (refuses 4 (l ∷ b ∷ [])) (cond window (refuses 3 (l ∷ b ∷ [])) (gives l b))

first-judged : (C T : ℕ) (m : Mark) (ms : List Mark) → first_said (judge C T (m ∷ ms)) ≡ judged_by (table_mark C T m) (ltb C (m.len + 1)) m.line m.byte
unfolding judged_mark
first-judged C T m ms = go (table_mark C T m) refl (ltb C (m.len + 1)) refl
  where
    go : (t : Bool) → table_mark C T m ≡ t → (u : Bool) → ltb C (m.len + 1) ≡ u → first_said (judge C T (m ∷ ms)) ≡ judged_by t u m.line m.byte
    go true t u f = ap first_said (due-refuses (judged_mark C T) place_mark m ms 4 (rw t))
    go false t true f = ap first_said (due-refuses (judged_mark C T) place_mark m ms 3 (rw (t, f)))
    go false t false f = ap first_said (due-gives (judged_mark C T) place_mark m ms (rw (t, f)))

-- A record of X, in a window from `base` on, with the ends E so far, no more than the slots: what is due first is `judged_at` of the bytes there.
module _ (X : List ℕ) (C T l base start from : ℕ) (E : List ℕ) (few : length E ≤ T) (behind : start ≤ from) where
  abbrev F : List ℕ
  F = drop base X

  judged-none : drop (base + start) X ≡ [] → judged_at C T l (base + start) start from (length E) F ≡ ends
  unfolding judged_at
  judged-none none' = rw (drop-drop start base X ∙ none')

  judged-some : (x : ℕ) (xs : List ℕ) → drop (base + start) X ≡ x ∷ xs
      → judged_at C T l (base + start) start from (length E) F
      ≡ judged_by (table_at C T start from E (drop from F)) (ltb C (from + length (own (drop from F)) - start + 1)) l (base + start)
  unfolding judged_at
  judged-some x xs some' = rw (drop-drop start base X ∙ some', eqb-suc-zero (length xs))

  first_marks : first_said (judge C T (marks l (base + start) (base + from) E (drop (base + from) X) false))
      ≡ judged_by (table_at C T start from E (drop from F)) (ltb C (from + length (own (drop from F)) - start + 1)) l (base + start)
  first_marks =
      let xs = drop from F in
      let o = owns xs l (base + start) (base + from) E in
      ap (λ (ys : List ℕ). first_said (judge C T (marks l (base + start) (base + from) E ys false))) (sym (drop-drop from base X))
      ∙ ap (λ (ms : List Mark). first_said (judge C T ms)) o.are
      ∙ first-judged C T (own_mark l (base + start) (base + from) E xs) o.behind
      ∙ (λ i.
      judged_by (own-table C T l base start from E xs few behind i) (ltb C (own-len base start from xs i + 1)) l (base + start))

  first-here : first_said (from_here X C T l (base + start) (base + from) E) ≡ judged_at C T l (base + start) start from (length E) F
  first-here = go (drop (base + start) X) refl
    where
      go : (ys : List ℕ) → drop (base + start) X ≡ ys
          → first_said (unless_over ys (judge C T (marks l (base + start) (base + from) E (drop (base + from) X) false)))
          ≡ judged_at C T l (base + start) start from (length E) F
      go [] is = sym (judged-none is)
      go (x ∷ xs) is = first_marks ∙ sym (judged-some x xs is)

-- what is due first in each phase
module _ (X : List ℕ) (C : ℕ) (r : Reader) (e : List ℕ) (s : Sane r) (lent : r.slots ≡ length e) where
  abbrev base : ℕ
  base = r.fill.base.0

  abbrev start : ℕ
  start = r.mark.start.0

  -- the lead, by the input's meaning from there on
  first-lead : first_said (due_in phase.Lead X C r e) ≡ standing_in phase.Lead C r (drop base X)
  first-lead =
      let l = r.mark.line in
      let b = byte_of r in
      let M = lead_marks l b (drop b X) false in
      sym (first-of X (due_marks C r.slots M))
      ∙ ap first_of (sym (due-marks X C r.slots M (lead-right X (lead_is X (drop b X) l b false refl s.line_least (omega (arith, s.line_most))))))
      ∙ ap (λ (m : Meaning). first_of (due C r.slots m)) (lead-meaning X l b (drop b X) refl)
      ∙ ap (λ (xs : List ℕ). first_of (due C r.slots (meaning_from l b xs))) (sym (drop-drop start base X))

  -- a place sought: a `>` stands there, or not
  abbrev sought_here : (mark : Bool) → Said
  sought_here mark = cond mark (judged_at C r.slots r.mark.line (base + start) start (start + 1) 0 (drop base X)) (refuses 5 [])

  first-sought : first_said (due_in phase.Sought X C r e) ≡ standing_in phase.Sought C r (drop base X)
  first-sought = go (drop (base + start) X) refl ∙ ap (λ (xs : List ℕ). sought_here (begins xs)) (sym (drop-drop start base X))
    where
      mark : (x : ℕ) (xs : List ℕ) → drop (base + start) X ≡ x ∷ xs → (t : Bool)
          → first_said (cond t (judge C r.slots (marks r.mark.line (base + start) (suc (base + start)) [] xs false)) (meant.refuses 5 [] ∷ []))
          ≡ sought_here t
      mark x xs is true =
          let next : suc (base + start) ≡ base + (start + 1) = omega arith in
          let bytes : xs ≡ drop (base + (start + 1)) X = sym (at-cons X (base + start) x xs is).next ∙ ap (λ (k : ℕ). drop k X) next in
          (λ i. first_said (judge C r.slots (marks r.mark.line (base + start) (next i) [] (bytes i) false)))
          ∙ first_marks X C r.slots r.mark.line base start (start + 1) [] (omega arith) (omega arith)
          ∙ sym (judged-some X C r.slots r.mark.line base start (start + 1) [] (omega arith) (omega arith) x xs is)
      mark x xs is false = refl

      go : (ys : List ℕ) → drop (base + start) X ≡ ys
          → first_said (at_sought C r.slots r.mark.line (base + start) ys) ≡ sought_here (begins ys)
      go [] is = refl
      go (x ∷ xs) is = mark x xs is (eqb x 62)

  -- a record that is searched, with its ends so far
  first-searching : first_said (due_in phase.Searching X C r e) ≡ standing_in phase.Searching C r (drop base X)
  first-searching =
      let n : length (ends_of r e) ≡ r.mark.count = ends-count base r.mark.count e (omega (arith, s.count_slots, lent)) in
      first-here X C r.slots r.mark.line base start (goes_on r.mark) (ends_of r e) (omega (arith, s.count_slots)) (omega arith)
      ∙ ap (λ (k : ℕ). judged_at C r.slots r.mark.line (base + start) start (goes_on r.mark) k (drop base X)) n

  -- behind a current record, where its search stopped
  first-current : first_said (due_in phase.Current X C r e) ≡ standing_in phase.Current C r (drop base X)
  first-current =
      let l = r.mark.line + r.mark.count in
      let at = r.mark.search.0 in
      let next : suc (base + at) ≡ base + (at + 1) = omega arith in
      ap (λ (k : ℕ). first_said (from_here X C r.slots l (base + at) k [])) next
      ∙ first-here X C r.slots l base at (at + 1) [] (omega arith) (omega arith)

  first-due : (p : Phase) → first_said (due_in p X C r e) ≡ standing_in p C r (drop base X)
  first-due phase.Lead = first-lead
  first-due phase.Sought = first-sought
  first-due phase.Searching = first-searching
  first-due phase.Current = first-current
  first-due phase.Ended = refl
  first-due phase.Over = refl
  first-due phase.Window = refl
  first-due phase.Table = refl
  first-due phase.Astray = refl
  first-due phase.Ahead = first-searching

-- ends that pass the test rise, below any higher place
rising-rises : (lo : ℕ) (es : List ℕ) (hi top : ℕ) → lo < top → hi < top → rising lo es hi ≡ true → Rises (suc lo) es top
unfolding rising Rises
rising-rises lo [] hi top h k t = h
rising-rises lo (x ∷ es) hi top h k t =
    let both = and-true (ltb lo x && leb x hi) (rising x es hi) t in
    let inside = and-true (ltb lo x) (leb x hi) both.0 in
    let above : lo < x = ltb-true lo x inside.0 in
    let below : x ≤ hi = leb-true x hi inside.1 in
    (above, rising-rises x es hi top (omega arith) k both.1)

-- the relation holds where the state passes 11 and is not one of the exceptions
module _ (X : List ℕ) (start : State) (good : Good start.reader start.window start.table) (plain : Plain start.reader start.table) where
  abbrev r : Reader
  r = start.reader

  abbrev e : List ℕ
  e = start.table

  abbrev C : ℕ
  C = largest r.fill.policy r.fill.lent r.fill.capacity

  start-behind : is_unfinished r.phase ≡ true → Behind true r.mark e
  start-behind is =
      let from = r.mark.start.0 in
      let rises : Rises (suc from) (take r.mark.count e) (goes_on r.mark) =
      rising-rises from (take r.mark.count e) (goes_on r.mark - 1) (goes_on r.mark) (omega arith) (omega arith) (plain.ends_below is) in
      let n : length (take r.mark.count e) ≡ r.mark.count =
      length-take-le r.mark.count e (omega (arith, good.is-sane.count_slots, good.table_lent)) in
      record {
        count_behind = omega (arith, rises-count (suc from) (take r.mark.count e) (goes_on r.mark) rises);
        ends_behind = λ own. rises-lower (from + 1) (suc from) (take r.mark.count e) (goes_on r.mark) (omega arith) rises;
      }

  start-tells :
      drop r.fill.base.0 X ≡ take r.fill.filled start.window ++ drop (r.fill.base.0 + r.fill.filled) X →
      (r.fill.told ≡ true → drop (r.fill.base.0 + r.fill.filled) X ≡ []) →
      Tells X C r start.window e
  start-tells text told =
      record {
        is_good = good;
        is_behind = λ is. start-behind (sym (unfinished-is r.phase) ∙ is);
        sought_inside = λ is. plain.sought_inside (sought-is r.phase is);
        text = text;
        told = λ is. record { is_all = told is; has_room = plain.told_room is; is_quiet = plain.told_quiet is };
        largest_is = refl;
      }
    where
      unfinished-is : (p : Phase) → is_searching p ≡ is_unfinished p
      unfinished-is phase.Lead = refl
      unfinished-is phase.Sought = refl
      unfinished-is phase.Searching = refl
      unfinished-is phase.Current = refl
      unfinished-is phase.Ended = refl
      unfinished-is phase.Over = refl
      unfinished-is phase.Window = refl
      unfinished-is phase.Table = refl
      unfinished-is phase.Astray = refl
      unfinished-is phase.Ahead = refl

      sought-is : (p : Phase) → is_sought p ≡ true → p ≡ phase.Sought
      sought-is phase.Lead t = absurd (false≢true t)
      sought-is phase.Sought t = refl
      sought-is phase.Searching t = absurd (false≢true t)
      sought-is phase.Current t = absurd (false≢true t)
      sought-is phase.Ended t = absurd (false≢true t)
      sought-is phase.Over t = absurd (false≢true t)
      sought-is phase.Window t = absurd (false≢true t)
      sought-is phase.Table t = absurd (false≢true t)
      sought-is phase.Astray t = absurd (false≢true t)
      sought-is phase.Ahead t = absurd (false≢true t)

-- a read says the first of what is due
says-for : (s : Said) (a : meant.Said Mark) (r : Reader) (e : List ℕ) → Says s a r e → s ≡ said_for a
says-for (asks p m o) a r e says = absurd says
says-for (gives l b) (meant.gives m) r e says = λ i. gives (says.0 i) (says.1.0 i)
says-for (gives l b) meant.ends r e says = absurd says
says-for (gives l b) (meant.refuses n vs) r e says = absurd says
says-for ends (meant.gives m) r e says = absurd says
says-for ends meant.ends r e says = refl
says-for ends (meant.refuses n vs) r e says = absurd says
says-for (refuses n vs) (meant.gives m) r e says = absurd says
says-for (refuses n vs) meant.ends r e says = absurd says
says-for (refuses n vs) (meant.refuses k us) r e says = λ i. refuses (says.0 i) (says.1 i)

answers-first : (a : Said) (d : Dues) (X : List ℕ) (C : ℕ) (r : Reader) (e : List ℕ) → Answers a d X C r e → a ≡ first_said d
answers-first a d X C r e q = says-for a q.first r e q.says ∙ sym (ap first_said q.due_is)

goes_first : (a : Said) (d : Dues) (X : List ℕ) (C : ℕ) (r : Reader) (e : List ℕ) → Goes a d X C r e → Asks a (first_said d)
goes_first (asks p m o) d X C r e q = tt
goes_first (gives l b) d X C r e q = answers-first (gives l b) d X C r e q
goes_first ends d X C r e q = answers-first ends d X C r e q
goes_first (refuses n vs) d X C r e q = answers-first (refuses n vs) d X C r e q

pub standing : Standing
unfolding lent_as
standing X start sane' lent plain text told h s run only =
    let r = start.reader in
    let lengths = and-true (eqb r.fill.lent (length start.window)) (eqb r.slots (length start.table)) lent in
    let good : Good r start.window start.table =
    record {
      is-sane = true-sane r sane';
      window_lent = eqb-true r.fill.lent (length start.window) lengths.0;
      table_lent = eqb-true r.slots (length start.table) lengths.1;
    } in
    let c = C X start good plain in
    let k = waits X c start (start-tells X start good plain text told) h s run only in
    subst (Asks (reading s).said) (ap first_said k.due_is ∙ first-due X c r start.table good.is-sane good.table_lent r.phase)
    (goes_first (reading s).said (due_to X c s.reader s.table) X c (reading s).reader (reading s).table
    (steps X c s.reader s.window s.table k.tells).goes)
