-- Sets in any run, proved: each record of a set is the one due at its number, and stands in the set's bytes and tables, and the one behind the last has no
-- place there; 11 and 12 come exactly when the table says, the rest is a read's. Assumes nothing.
use Prim.Native.Nat.{ℕ, zero, suc, ◌+◌, ◌-◌, ◌≤◌, ◌<◌}
use native.Mathlib.Omega.{arith}
use mathlib.Core.Bool.{true}
use mathlib.Core.List.{List, [], ◌∷◌, ◌++◌, map}
use mathlib.Core.Logic.{◌⊎◌, inl, inr}
use mathlib.Core.Path.{◌≡◌, refl, sym, ap, subst, ◌∙◌}
use lib.ListN.{length, take, drop, length-map, length-drop}
use lib.Seq.{length-take-le}
use borrow.Author.Tests.{ltb-true, lt-ltb, le-leb}
use Rattle.growth.specs.Chain.{largest}
use Rattle.meaning.specs.Line.{lines}
use Rattle.meaning.specs.Input.{Rec}
use Rattle.meaning.specs.Due as meant
use Rattle.meaning.specs.OnePass.{Mark}
use Rattle.meaning.proofs.OnePass.{cut_out}
use Rattle.meaning.proofs.Ends.{ends_at}
use Rattle.meaning.proofs.Marks.{right-size, right-count}
use Rattle.meaning.proofs.Due.{said_of}
use Rattle.reader.specs.declared.state.Reader.{Reader}
use Rattle.reader.specs.Read.{Said, gives, ends, refuses}
use Rattle.reader.proofs.CallLaws.{Placed}
use Rattle.view.proofs.Meaning.{Stands}
use Rattle.set.specs.declared.state.Set.{Set}
use Rattle.set.specs.Set.{sound, record_of, held, start_of, ends_before, ends_to}
use Rattle.set.specs.Read as set
use Rattle.set.specs.Read.{Called, Gathered, filled_with}
use Rattle.set.proofs.Shown.{shows-at, writes_at, placed-there}
use Rattle.runs.specs.Run.{State, setting, Event, reading, after_read}
use Rattle.runs.specs.Demand.{origin, answers, due_from, nth, Hears}
use Rattle.runs.specs.Sets.{GivesAt, IfRecord, OrNone, lines_due, lines_of, LeftOut, Misfits, HearsSet, Sets}
use Rattle.runs.proofs.Tells.{Dues, due_to, Tells}
use Rattle.runs.proofs.Fine.{Fine, AllFine, after}
use Rattle.runs.proofs.Gather.{Closed, closed-due, closed-then, later-record, records_then, AllBelow}
use Rattle.runs.proofs.Beyond.{Cut, Beyond}
use Rattle.runs.proofs.SetTable.{At, Each}
use Rattle.runs.proofs.SetCall as call
use Rattle.runs.proofs.SetCall.{Holds, Kind, of_state, of_bytes, asks_too, ends_too, refuses_too, misfits, holding, kind, sets}
use Rattle.runs.proofs.SearchMarks.{ends-count}
use Rattle.runs.proofs.Step.{still-tells}
use Rattle.runs.proofs.Stood.{stands}
use Rattle.runs.proofs.Reached.{Reached, after-add, after_first, map-later, after-records, fine-records, runs_on, reached-made}
use Rattle.runs.proofs.Demand.{nth_after, next-is, hears}

-- ---- a record of a set by its number

-- the mark of record i, and what is due from it on
record Number (X : List ℕ) (base line : ℕ) (marks ends : List ℕ) (used top i : ℕ) (d : List (meant.Said Rec)) : Type 0 where
  mark : Mark
  rest : List (meant.Said Rec)
  due_is : d ≡ meant.gives (cut_out X mark) ∷ rest
  stands_at : At base line marks ends used i mark
  is_fine : Fine X mark
  is_below : mark.byte + mark.len ≤ top

module _ (X : List ℕ) (base line : ℕ) (marks ends : List ℕ) (used top : ℕ) where
  number :
      (ms : List Mark) (d : Dues) (i j : ℕ) → i < length ms → Closed d → Each base line marks ends used j ms → AllBelow top ms → AllFine X (records_then ms d) →
      Number X base line marks ends used top (i + j) (after i (map (said_of X) (records_then ms d)))
  unfolding after
  number [] d i j h c e b f = absurd (omega arith)
  number (m ∷ ms) d zero j h c e b f =
      let z : j ≡ 0 + j = omega arith in
      record {
        mark = m;
        rest = map (said_of X) (records_then ms d);
        due_is = refl;
        stands_at = subst (λ (n : ℕ). At base line marks ends used n m) z e.0;
        is_fine = f.0;
        is_below = b.0;
      }
  number (m ∷ ms) d (suc i) j h c e b f =
      let z : i + suc j ≡ suc i + j = omega arith in
      let rest-is : after (suc i) (map (said_of X) (records_then (m ∷ ms) d)) ≡ after i (map (said_of X) (records_then ms d)) =
      after_first i (map (said_of X) (records_then (m ∷ ms) d))
      ∙ ap (after i) (sym (map-later (said_of X) (records_then (m ∷ ms) d)) ∙ ap (map (said_of X)) (later-record m (records_then ms d) (closed-then (m ∷ ms) d c))) in
      subst (λ (n : ℕ). Number X base line marks ends used top n (after (suc i) (map (said_of X) (records_then (m ∷ ms) d)))) z
      (subst (Number X base line marks ends used top (i + suc j)) (sym rest-is) (number ms d i (suc j) (omega arith) c e.1 b.1 f.1))

-- ---- it stands in the set

module _ (X : List ℕ) (C k filled : ℕ) (D : Dues) (c : Called) (t : Tells X C c.reader c.window c.table) (o : Holds X C k filled D c)
    (i : ℕ) (inside : i < k) (m : Mark) (a : At c.set.base.0 c.set.line c.marks c.ends o.used i m) (f : Fine X m)
    (below : m.byte + m.len ≤ c.set.base.0 + c.set.filled) where
  abbrev from : ℕ
  from = ends_before c.marks i

  abbrev to : ℕ
  to = ends_to c.marks i

  abbrev es : List ℕ
  es = take (to - from) (drop from c.ends)

  abbrev F : List ℕ
  F = take c.set.filled c.bytes

  held-is : record_of c.set (length c.bytes) c.marks (length c.ends) i ≡ held (start_of c.marks i) c.set.filled from to
  unfolding record_of sound
  held-is =
      rw (
        le-leb c.set.filled (length c.bytes) o.bytes_fit,
        le-leb (c.set.count + c.set.count) (length c.marks) (omega (arith, o.count_is, o.marks_fit)),
        lt-ltb i c.set.count (omega (arith, o.count_is, inside)),
        lt-ltb from to a.some_end,
        le-leb to (length c.ends) (omega (arith, a.in_table, o.in_table)),
      )
      refl

  many : length m.ends ≡ to - from
  many =
      ap length a.ends_are
      ∙ length-map es (λ (x : ℕ). c.set.base.0 + x)
      ∙ length-take-le (to - from) (drop from c.ends) (omega (arith, length-drop from c.ends, a.in_table, o.in_table, a.some_end))

  some_byte : 1 ≤ m.len
  unfolding ends_at
  some_byte = go m.len refl
    where
      go : (n : ℕ) → m.len ≡ n → 1 ≤ m.len
      go (suc n) is = omega arith
      go zero is =
          let none-there : m.ends ≡ [] = f.is_right.ends_are ∙ ap (λ (n : ℕ). ends_at m.byte (take n (drop m.byte X)) true) is in
          let z : length m.ends ≡ 0 = ap length none-there in
          absurd (omega (arith, many, a.some_end))

  is-standing : Stands F (start_of c.marks i) (cut_out X m) es
  is-standing =
      let base = c.set.base.0 in
      let same : c.reader.fill.base.0 ≡ base = o.same_place in
      let as-filled : c.reader.fill.filled ≡ c.set.filled = o.same_filled in
      let text : drop base X ≡ F ++ drop (c.reader.fill.base.0 + c.reader.fill.filled) X =
      ap (λ (n : ℕ). drop n X) (sym same)
      ∙ t.text
      ∙ ap (λ (l : List ℕ). l ++ drop (c.reader.fill.base.0 + c.reader.fill.filled) X) (ap (λ (n : ℕ). take n c.window) as-filled ∙ sym o.bytes_are) in
      stands X base F (drop (c.reader.fill.base.0 + c.reader.fill.filled) X) text m f (start_of c.marks i) es a.byte_is a.ends_are some_byte
      (omega (arith, a.byte_is, below, length-take-le c.set.filled c.bytes o.bytes_fit))

  is-placed : Placed m.line m.byte
  is-placed =
      let v = t.is_good.is-sane.window_sound in
      record {
        line_least = λ z. omega (arith, f.line_least);
        line_most = f.line_most;
        byte_most = omega (arith, below, o.same_place, o.same_filled, v.input_fits);
      }

  gives_at : GivesAt (cut_out X m) i c
  gives_at =
      let start = start_of c.marks i in
      record {
        position =
            placed-there c.set c.bytes c.marks c.ends i start c.set.filled from to held-is (cut_out X m) (sym a.line_is) (sym a.byte_is)
            is-placed;
        shows = shows-at c.set c.bytes c.marks c.ends i start c.set.filled from to held-is (cut_out X m) is-standing;
        writes = writes_at c.set c.bytes c.marks c.ends i start c.set.filled from to held-is (cut_out X m) is-standing;
      }

-- ---- what is heard

module _ (X : List ℕ) (C T : ℕ) (h : List Event) (s : State) (k : Reached X C T h s) (t : Set) (B M E : List ℕ) where
  abbrev r : Reader
  r = s.reader

  abbrev D : Dues
  D = due_to X C r s.table

  abbrev c : Called
  c = setting t B M E s

  abbrev next : ℕ → meant.Said Rec
  next i = nth (i + answers h) (due_from X C T (origin h))

  does : call.Sets X C r D M E c
  does = sets X C r s.window s.table k.tells t B M E k.fresh

  -- what a set holds
  module _ (n filled : ℕ) (o : Holds X C n filled D c) where
    abbrev base : ℕ
    base = c.set.base.0

    abbrev rest : Dues
    rest = due_to X C c.reader c.table

    all-fine : AllFine X (records_then o.marks_are rest)
    all-fine = subst (AllFine X) o.due_is k.fine

    closed : Closed rest
    closed = closed-due c.reader.phase X C c.reader c.table

    -- what is due, in the meaning's words
    abbrev said : List (meant.Said Rec)
    said = map (said_of X) (records_then o.marks_are rest)

    -- behind the first i records
    due-behind : (i : ℕ) (a : meant.Said Rec) (d : List (meant.Said Rec)) → after i said ≡ a ∷ d → next i ≡ a
    due-behind i a d is =
        nth_after (i + answers h) (due_from X C T (origin h)) a d
        (after-add i (answers h) (due_from X C T (origin h)) ∙ ap (after i) (sym k.due_is ∙ ap (map (said_of X)) o.due_is) ∙ is)

    -- record i of the set
    module _ (i : ℕ) (h' : i < n) where
      abbrev NumberOf : ℕ → Type 0
      NumberOf j = Number X base c.set.line c.marks c.ends o.used (base + c.set.filled) j (after i said)

      found : NumberOf i
      found =
          let z : i + 0 ≡ i = omega arith in
          subst NumberOf z
          (number X base c.set.line c.marks c.ends o.used (base + c.set.filled) o.marks_are rest i 0 (omega (arith, o.as_many, h')) closed
          o.each o.below all-fine)

      next-found : next i ≡ meant.gives (cut_out X found.mark)
      next-found = due-behind i (meant.gives (cut_out X found.mark)) found.rest found.due_is

      holds-record : IfRecord (next i) (λ (q : Rec). GivesAt q i c)
      holds-record =
          subst (λ (a : meant.Said Rec). IfRecord a (λ (q : Rec). GivesAt q i c)) (sym next-found)
          (gives_at X C n filled D c does.tells o i h' found.mark found.stands_at found.is_fine found.is_below)

      -- its lines are as many as its ends in the table
      lines-found : lines_due (next i) ≡ ends_to c.marks i - ends_before c.marks i
      lines-found =
          ap lines_due next-found
          ∙ right-count X found.mark found.is_fine.is_right
          ∙ many X C n filled D c does.tells o i h' found.mark found.stands_at found.is_fine found.is_below

    lines-used : (i : ℕ) → i ≤ n → lines_of next i ≡ ends_before c.marks i
    lines-used zero h' = refl
    lines-used (suc i) h' =
        let to : ends_before c.marks (suc i) ≡ ends_to c.marks i = refl in
        omega (arith, lines-used i (omega arith), lines-found i (omega arith), (found i (omega arith)).stands_at.some_end, to)

    -- the record behind the last one is left out
    abbrev Out : Rec → Type 0
    Out = LeftOut n (lines_of next n) (length M) (length E) (base + filled) c.reader.fill.told

    mark-out : (m : Mark) → Fine X m
        → (length c.marks < n + n + 2) ⊎ ((length c.ends < o.used + length m.ends) ⊎ Cut c.reader.fill m) → Out (cut_out X m)
    mark-out m f (inl u) = inl (omega (arith, does.marks_same))
    mark-out m f (inr (inl u)) =
        inr (inl (omega (arith, does.ends_same, right-count X m f.is_right, lines-used n (omega arith), o.used_is)))
    mark-out m f (inr (inr (u, v))) =
        inr (inr (u, omega (arith, right-size X m f.is_right, o.same_place, o.same_filled, o.filled_is)))

    left_out : OrNone (next n) Out
    left_out = go rest refl (fine-records X o.marks_are rest all-fine) o.left_out
      where
        said-next : (a : meant.Said Mark) (d : Dues) → rest ≡ a ∷ d → next n ≡ said_of X a
        said-next a d is =
            due-behind n (said_of X a) (map (said_of X) d)
            (ap (λ (j : ℕ). after j said) (sym o.as_many)
            ∙ after-records X o.marks_are rest closed
            ∙ ap (map (said_of X)) is)

        by : (a : meant.Said Mark) (d : Dues) → rest ≡ a ∷ d → OrNone (said_of X a) Out → OrNone (next n) Out
        by a d is q = subst (λ (x : meant.Said Rec). OrNone x Out) (sym (said-next a d is)) q

        go : (d : Dues) → rest ≡ d → AllFine X d → Beyond (length c.marks) (length c.ends) n o.used c.reader.fill d → OrNone (next n) Out
        go [] is f u = absurd (subst Closed is closed)
        go (meant.gives m ∷ d) is f u = by (meant.gives m) d is (mark-out m f.0 u)
        go (meant.ends ∷ d) is f u = by meant.ends d is tt
        go (meant.refuses i vs ∷ d) is f u = by (meant.refuses i vs) d is tt

  -- what the read says is due first
  read-heard : (a : Said) → (reading s).said ≡ a → Hears a (next 0) (after_read s)
  read-heard a is =
      let z : answers h ≡ 0 + answers h = omega arith in
      subst (λ (q : Said). Hears q (next 0) (after_read s)) is
      (subst (λ (n : ℕ). Hears (reading s).said (nth n (due_from X C T (origin h))) (after_read s)) z (hears X C T h s k))

  ended : (a : meant.Said Rec) → Hears ends a (after_read s) → a ≡ meant.ends
  ended (meant.gives q) no' = absurd no'
  ended meant.ends is = refl
  ended (meant.refuses n vs) no' = absurd no'

  denied : (n : ℕ) (vs : List ℕ) (a : meant.Said Rec) → Hears (refuses n vs) a (after_read s) → a ≡ meant.refuses n vs
  denied n vs (meant.gives q) no' = absurd no'
  denied n vs meant.ends no' = absurd no'
  denied n vs (meant.refuses m us) is = λ i. meant.refuses (sym is.0 i) (sym is.1 i)

  -- the next record does not fit
  not-fitting : (l b : ℕ) → (reading s).said ≡ gives l b → (length M < 2) ⊎ (length E < (reading s).reader.mark.count) → IfRecord (next 0) (Misfits (length M) (length E))
  not-fitting l b is v =
      let g = call.first X C r s.window s.table k.tells t B M E l b is in
      let m = g.mark in
      let z : answers h ≡ 0 + answers h = omega arith in
      let due-first : next 0 ≡ meant.gives (cut_out X m) =
      ap (λ (n : ℕ). nth n (due_from X C T (origin h))) (sym z) ∙ next-is X C T h s k (meant.gives m) _ g.due_is in
      let f : Fine X m = (subst (AllFine X) g.due_is k.fine).0 in
      let after' = still-tells X C r s.window s.table k.tells in
      let many : length (lines (cut_out X m).bytes) ≡ (reading s).reader.mark.count =
      right-count X m f.is_right
      ∙ ap length g.holds.ends_are
      ∙ ends-count (reading s).reader.fill.base.0 (reading s).reader.mark.count (reading s).table
      (omega (arith, after'.is_good.is-sane.count_slots, after'.is_good.table_lent)) in
      subst (λ (a : meant.Said Rec). IfRecord a (Misfits (length M) (length E))) (sym due-first) (by-table many v)
    where
      by-table : {n : ℕ} → n ≡ (reading s).reader.mark.count → (length M < 2) ⊎ (length E < (reading s).reader.mark.count) → (length M < 2) ⊎ (length E < n)
      by-table is (inl u) = inl u
      by-table is (inr u) = inr (omega (arith, is, u))

  abbrev Heard : set.Said → Type 0
  Heard a = HearsSet a (reading s).said next t (length B) (length M) (length E) (length s.window) c

  hears-set : HearsSet c.said (reading s).said next t (length B) (length M) (length E) (length s.window) c
  hears-set = go (kind X C r s.window s.table k.tells t B M E)
    where
      by : (x : Called) → c ≡ x → Heard x.said → Heard c.said
      by x is q = subst (λ (y : Called). Heard y.said) (sym is) q

      go : Kind t B M E r s.window s.table → Heard c.said
      go (of_state u q) = by _ q (inl (refl, u))
      go (of_bytes ok u q) = by _ q (inr (inl (refl, (ok, ltb-true (length B) (length s.window) u))))
      go (asks_too ok p m o u q) = by _ q (ok, u)
      go (ends_too ok u q) = by _ q (ok, ended (next 0) (read-heard ends u))
      go (refuses_too ok n vs u q) = by _ q (inr (inr (ok, inr (denied n vs (next 0) (read-heard (refuses n vs) u)))))
      go (misfits ok l b u v q) = by _ q (inr (inr (ok, inl (refl, not-fitting l b u v))))
      go (holding ok l b u g q) = by _ q (held-heard g q)
        where
          held-heard : (g : Gathered) → c ≡ filled_with t B M E (reading s) g → Heard (filled_with t B M E (reading s) g).said
          held-heard g q =
              let o = subst (λ (a : set.Said). call.SetGoes a D X C c) (ap (λ (x : Called). x.said) q) does.goes in
              (ok, (o.some_record, (holds-record g.count _ o, left_out g.count _ o)))

pub any-sets : Sets
any-sets X capacity policy start made h s r t B M E =
    let C = largest policy (length start.window) capacity in
    let T = length start.table in
    hears-set X C T h s (runs_on X C T start (reached-made X capacity policy start made) h s r) t B M E
