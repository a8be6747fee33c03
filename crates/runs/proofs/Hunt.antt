-- A search that may go on is a step of demand 3: it asks, and the same is due, or what it answers is due first, and then the rest. The search
-- agrees with the one pass over the input (SearchMarks.antt); here each way to stop is judged by the numbers of the record found.
-- Assumes nothing.
use Prim.Native.Nat.{ℕ, suc, ◌+◌, ◌-◌, ◌≤◌, ◌<◌, min, max}
use native.Mathlib.Decide.{dec_le}
use native.Mathlib.Nat.{min-eq_left}
use native.Mathlib.Numerals.{add-one}
use native.Mathlib.Omega.{arith}
use mathlib.Core.Bool.{Bool, true, false, cond, ◌||◌, false≢true}
use mathlib.Core.List.{List, [], ◌∷◌, ◌++◌, map}
use mathlib.Core.Logic.{inl, inr}
use mathlib.Core.Option.{Option, none, some}
use mathlib.Core.Path.{◌≡◌, refl, sym, ap, subst, ◌∙◌}
use lib.ListN.{length, get_or, take, drop, set, length-drop, length-append}
use lib.Seq.{drop-cons}
use lib.Dec.{eqb, ltb, leb}
use borrow.Author.Tests.{lt-ltb, le-ltb, le-leb, lt-leb, ltb-true, ne_eqb}
use Rattle.growth.specs.Chain.{largest}
use Rattle.growth.proofs.Chain.{largest-stop, largest_step, largest-above}
use Rattle.meaning.specs.Due as meant
use Rattle.meaning.specs.Due.{due_by}
use Rattle.meaning.specs.OnePass.{Mark, marks, table_mark, judged_mark, place_mark}
use Rattle.meaning.proofs.Due.{due-gives, due-refuses}
use Rattle.scan.specs.Move.{moved_down, moved_ends}
use Rattle.scan.specs.Search.{Recorded, stop_at}
use Rattle.scan.specs.declared.ends.Stop.{Stop}
use Rattle.scan.specs.declared.ends.Stop.TheVariants as stop
use Rattle.scan.proofs.SearchLaws.{Rises, Found, Stopped, AtFull, search-past}
use Rattle.window.specs.Fill.{asking, ready, dropped, of_capacity, widened_to, wider}
use Rattle.window.specs.declared.fill.Fill.{Fill}
use Rattle.window.proofs.Laws.{sound-slid, sound-slid-window}
use Rattle.reader.specs.declared.state.Reader.{Reader}
use Rattle.reader.specs.declared.state.Mark as reader
use Rattle.reader.specs.declared.state.Phase.{Phase}
use Rattle.reader.specs.declared.state.Phase.TheVariants as phase
use Rattle.reader.specs.State.{byte_of, with_fill, with_mark, in_phase, mark_at}
use Rattle.reader.specs.Read.{Said, gives, ends, refuses, does, asked, placed, too_many, given, reached, makes_room, closed, stopped, searches, hunted}
use Rattle.reader.proofs.ReadLaws.{closed-full, closed-more, room-moves, room-wider, room-none, hunt-over, hunt-goes, filled-told, filled-not, neither}
use Rattle.reader.proofs.RiseLaws.{moved-taken}
use Rattle.reader.proofs.Kept.{is_searching, goes_on, filled-bytes, finds, stops, found-behind}
use Rattle.runs.proofs.Tells.{Dues, judge, unless_over, from_here, ends_of, due_searched, due_in, due_to, is_sought, is_window, is_table, Told, Tells, later, Rests, rest_says, Says, Answers, Step, Hunts}
use Rattle.runs.proofs.Begun.{text-from, text-slid, at_rest, ready-full, step-as, window-fits, step-rests}
use Rattle.runs.proofs.SearchMarks.{first, first-late, late-least, SeesBy, found_at, sees, closes, ends_in, ends_more, ends-count}

-- the refusal that a record meets, by its numbers
module _ (C T : ℕ) (m : Mark) where
  judged-none : length m.ends ≤ T → m.len + 1 ≤ C → judged_mark C T m ≡ none
  unfolding judged_mark table_mark
  judged-none h k = rw (le-ltb T (length m.ends) h, le-ltb C (m.len + 1) k)

  -- refusal 4 of a record that fits the window, and of one that has an end too many in it
  judged-whole : T < length m.ends → m.len + 1 ≤ C → judged_mark C T m ≡ some 4
  unfolding judged_mark table_mark
  judged-whole h k = rw (lt-ltb T (length m.ends) h, le-leb (m.len + 1) C k)

  judged-part : T < length m.ends → suc (get_or m.ends T 0) < m.byte + C → judged_mark C T m ≡ some 4
  unfolding judged_mark table_mark
  judged-part h k = rw (lt-ltb T (length m.ends) h, lt-ltb (suc (get_or m.ends T 0)) (m.byte + C) k) (go (leb (m.len + 1) C))
    where
      go : (t : Bool) → cond {A = Option ℕ} (t || true) (some 4) (cond (ltb C (m.len + 1)) (some 3) none) ≡ some 4
      go true = refl
      go false = refl

  judged-window : (T < length m.ends → m.byte + C ≤ suc (get_or m.ends T 0)) → C < m.len + 1 → judged_mark C T m ≡ some 3
  unfolding judged_mark table_mark
  judged-window h k = go (ltb T (length m.ends)) refl
    where
      go : (t : Bool) → ltb T (length m.ends) ≡ t → judged_mark C T m ≡ some 3
      go true t =
          rw (t, lt-leb (m.len + 1) C k, le-ltb (suc (get_or m.ends T 0)) (m.byte + C) (h (ltb-true T (length m.ends) t)), lt-ltb C (m.len + 1) k)
      go false t = rw (t, lt-ltb C (m.len + 1) k)

-- behind a first answer the others follow
later-judged : (C T : ℕ) (a : meant.Said Mark) (ms : List Mark) → later (a ∷ judge C T ms) ≡ judge C T ms
unfolding due_by
later-judged C T a [] = refl
later-judged C T a (m ∷ ms) = go (judged_mark C T m) refl
  where
    go : (o : Option ℕ) → judged_mark C T m ≡ o → later (a ∷ judge C T (m ∷ ms)) ≡ judge C T (m ∷ ms)
    go none t = rw (due-gives (judged_mark C T) place_mark m ms t)
    go (some n) t = rw (due-refuses (judged_mark C T) place_mark m ms n t)

-- behind the last byte, and before it
pub none_left : (X : List ℕ) (C T l b p : ℕ) (E : List ℕ) → drop b X ≡ [] → from_here X C T l b p E ≡ meant.ends ∷ []
none_left X C T l b p E is = ap (λ (xs : List ℕ). unless_over xs (judge C T (marks l b p E (drop p X) false))) is

some_left : (X : List ℕ) (C T l b p : ℕ) (E : List ℕ) (x : ℕ) (xs : List ℕ) → drop b X ≡ x ∷ xs → from_here X C T l b p E ≡ judge C T (marks l b p E (drop p X) false)
some_left X C T l b p E x xs is = ap (λ (ys : List ℕ). unless_over ys (judge C T (marks l b p E (drop p X) false))) is

-- ends that were moved with their record are the same places of the input
ends-moved : (base by lo : ℕ) (es : List ℕ) (hi : ℕ) → by ≤ lo → Rises lo es hi → map (λ (x : ℕ). base + by + x) (map (λ (x : ℕ). x - by) es) ≡ map (λ (x : ℕ). base + x) es
unfolding Rises
ends-moved base by lo [] hi h r = refl
ends-moved base by lo (x ∷ es) hi h (k, r) =
    let same : base + by + (x - by) ≡ base + x = omega arith in
    λ i. same i ∷ ends-moved base by (suc x) es hi (omega arith) r i

-- the largest capacity where the window grows, and where it does not
grown-largest : (f : Fill) (c : ℕ) → widened_to f ≡ some c → largest f.policy f.lent c ≡ largest f.policy f.lent f.capacity
unfolding widened_to
grown-largest f c is = sym (largest_step f.policy f.lent f.capacity c is)

full-largest : (f : Fill) → widened_to f ≡ none → largest f.policy f.lent f.capacity ≡ f.capacity
unfolding widened_to
full-largest f is = largest-stop f.policy f.lent f.capacity is

-- what was due first was said
answers : {s : Said} {d : Dues} {X : List ℕ} {C : ℕ} {q : Reader} {e : List ℕ} (a : meant.Said Mark) (rest : Dues) → d ≡ a ∷ rest → Says s a q e
    → due_to X C q e ≡ later (a ∷ rest) → Answers s d X C q e
answers a rest is k l = record { first = a; rest = rest; due_is = is; says = k; then_due = l ∙ ap later (sym is) }

module _ (X : List ℕ) (C : ℕ) (r : Reader) (w e : List ℕ) (t : Tells X C r w e) where
  abbrev base : ℕ
  base = r.fill.base.0

  abbrev start : ℕ
  start = r.mark.start.0

  abbrev top : ℕ
  top = r.fill.filled

  bytes : length (take top w) ≡ top
  bytes = filled-bytes r w e t.is_good

  long : top ≤ length w
  long = window-fits X C r w e t

  -- the filled bytes from a place on, and the input behind them
  ahead : (i : ℕ) → i ≤ top → drop (base + i) X ≡ drop i (take top w) ++ drop (base + top) X
  ahead = text-from X w base top t.text long

  standing : (i : ℕ) → i < top → drop (base + i) X ≡ get_or (take top w) i 0 ∷ (drop (suc i) (take top w) ++ drop (base + top) X)
  standing i h = ahead i (omega arith) ∙ ap (λ (ys : List ℕ). ys ++ drop (base + top) X) (drop-cons (take top w) i 0 (omega (arith, bytes)))

  fits : top ≤ C
  fits = omega (arith, t.is_good.is-sane.window_sound.filled_fits, largest-above r.fill.policy r.fill.lent r.fill.capacity, t.largest_is)

  -- the records that one pass finds from a place of the window on
  abbrev seen_at : (i n : ℕ) → List ℕ → List Mark
  seen_at i n e' = found_at X base top r.mark.line (byte_of r) i n e'

  abbrev SeesAs : Stop → List Mark → Recorded → Type 0
  SeesAs o ms s = SeesBy X base top r.mark.line (byte_of r) o ms s

  -- the end, where nothing of a record is there
  over : top ≡ start → r.fill.told ≡ true → Step X C r (due_in phase.Searching X C r e) (does ends (in_phase phase.Over r) w e)
  over is u =
      let all : drop (base + start) X ≡ [] = ap (λ (k : ℕ). drop (base + k) X) (sym is) ∙ (t.told u).is_all in
      step-rests X C r w e t ends r.mark phase.Over e _ refl (at_rest (in_phase phase.Over r) refl refl) (refl, refl)
      (answers meant.ends [] (none_left X C r.slots r.mark.line (byte_of r) (base + goes_on r.mark) (ends_of r e) all) tt refl)

  -- an ask, where the end was not told: the same is due
  asks-on :
      {due : Dues} (f : Fill) (m : reader.Mark) (w' e' : List ℕ) →
      r.phase ≡ phase.Searching →
      r.fill.told ≡ false →
      f.told ≡ false →
      f.base.0 + f.filled ≡ base + top →
      drop f.base.0 X ≡ take f.filled w' ++ drop (f.base.0 + f.filled) X →
      largest f.policy f.lent f.capacity ≡ C →
      f.lent ≡ r.fill.lent →
      due_in phase.Searching X C (with_fill f (with_mark m r)) e' ≡ due →
      Step X C r due (asked (with_fill f (with_mark m r)) w' e')
  asks-on f m w' e' is open' still reach text most lent same =
      record {
        goes = (ap (λ (p : Phase). due_in p X C (with_fill (asking true f) (with_mark m r)) e') is ∙ same, (refl, refl));
        text = text;
        told = λ u. absurd (false≢true (sym still ∙ u));
        largest_is = most;
        sought_inside = λ u. absurd (false≢true (sym (ap is_sought is) ∙ u));
        same = record { reaches = reach; end_told = still ∙ sym open'; slots_are = refl; lent_is = lent };
        rests = λ k. at_rest (asked (with_fill f (with_mark m r)) w' e').reader (ap is_window is) (ap is_table is);
        settled = tt;
      }

  -- The record is moved to the front, with its ends: in the input they stand where they stood.
  moves :
      {due : Dues} (at count : ℕ) (e' : List ℕ) (hi : ℕ) →
      r.phase ≡ phase.Searching →
      r.fill.told ≡ false →
      0 < start →
      start ≤ at →
      at ≤ top →
      count ≤ length e' →
      Rises (start + 1) (take count e') hi →
      due_in phase.Searching X C (reached at count r) e' ≡ due →
      Step X C r due (makes_room (reached at count r) w e')
  moves at count e' hi is open' pos low high table h same =
      let v = t.is_good.is-sane.window_sound in
      let inside : start ≤ top = omega arith in
      let reach : base + start + (top - start) ≡ base + top = omega arith in
      let mark = mark_at 0 (at - start) count r.mark.line in
      let moved = moved_ends count start e' in
      let byte : base + start + 0 ≡ base + start = omega arith in
      let place : base + start + max (at - start) (0 + 1) ≡ base + max at (start + 1) = omega arith in
      let table_is : map (λ (x : ℕ). base + start + x) (take count moved) ≡ ends_in base count e' =
      ap (map (λ (x : ℕ). base + start + x)) (moved-taken count start e' table)
      ∙ ends-moved base start (start + 1) (take count e') hi (omega arith) h in
      step-as refl
      (room-moves (reached at count r) w e' pos
      ∙ (λ i. asked (with_fill (sound-slid r.fill v start inside i) (with_mark mark r)) (sound-slid-window r.fill v start w inside i) moved))
      (asks-on (dropped start r.fill) mark (moved_down start top w) moved is open' open' reach
      (text-slid X w base top t.text long start inside)
      t.largest_is refl
      ((λ i. from_here X C r.slots r.mark.line (byte i) (place i) (table_is i)) ∙ same))

  -- What follows a search that answered s, where one pass finds the records ms from the same place on: what is due is judged by them.
  module _
      (due : Dues) (ms : List Mark) (s : Recorded)
      (due_is : due ≡ judge C r.slots ms)
      (f : Found (take top w) (min (goes_on r.mark) top) r.mark.count r.slots e s.out s.ends)
    where
      abbrev q : Reader
      q = reached s.out.at s.out.count r

      slots : r.slots ≡ length s.ends
      slots = t.is_good.table_lent ∙ sym f.same_length

      -- a record is due first, and is given
      gives-first :
          (m : Mark) (rest : List Mark) (search count : ℕ) (e' : List ℕ) →
          ready r.fill ≡ true →
          ms ≡ m ∷ rest →
          judged_mark C r.slots m ≡ none →
          m.line ≡ r.mark.line →
          m.byte ≡ byte_of r →
          m.len ≡ search - start →
          m.ends ≡ ends_in base count e' →
          due_in phase.Current X C (reached search count r) e' ≡ judge C r.slots rest →
          Step X C r due (given (reached search count r) w e')
      gives-first m rest search count e' full are judged line byte len es then' =
          step-rests X C r w e t (gives r.mark.line (byte_of r)) (mark_at start search count r.mark.line) phase.Current e' due refl
          (at_rest (in_phase phase.Current (reached search count r)) refl refl) full
          (answers (meant.gives m) (judge C r.slots rest)
          (due_is ∙ ap (judge C r.slots) are ∙ due-gives (judged_mark C r.slots) place_mark m rest judged)
          (sym line, (sym byte, record { is-current = refl; line_is = line; byte_is = byte; len_is = len; ends_are = es }))
          (then' ∙ sym (later-judged C r.slots (meant.gives m) rest)))

      -- its refusal is due, and is said
      refuses-first :
          (n : ℕ) (p : Phase) (m : Mark) (rest : List Mark) →
          is_sought p ≡ false →
          ms ≡ m ∷ rest →
          judged_mark C r.slots m ≡ some n →
          m.line ≡ r.mark.line →
          m.byte ≡ byte_of r →
          Rests (in_phase p q) →
          (eqb n 2 ≡ false) →
          rest_says p (in_phase p q) ≡ some (refuses n (placed r)) →
          due_to X C (in_phase p q) s.ends ≡ meant.refuses n (placed r) ∷ [] →
          Step X C r due (does (refuses n (placed r)) (in_phase p q) w s.ends)
      refuses-first n p m rest no' are judged line byte leaves other says then' =
          let place : placed r ≡ place_mark m = λ i. sym line i ∷ sym byte i ∷ [] in
          step-rests X C r w e t (refuses n (placed r)) q.mark p s.ends due no' leaves
          (says ∙ ap (λ (u : Bool). some (cond u ends (refuses n (placed r)))) (sym other), refl)
          (answers (meant.refuses n (place_mark m)) []
          (due_is ∙ ap (judge C r.slots) are ∙ due-refuses (judged_mark C r.slots) place_mark m rest n judged)
          (refl, place)
          (then' ∙ ap (λ (vs : List ℕ). meant.refuses n vs ∷ []) place))

      -- what is due is due still, where one pass goes on
      pub still-due : start < top → ms ≡ seen_at s.out.at s.out.count s.ends → due_searched X C q s.ends ≡ due
      still-due inside are =
          let place : goes_on q.mark ≡ s.out.at = omega (arith, f.apart) in
          some_left X C r.slots r.mark.line (byte_of r) (base + goes_on q.mark) (ends_of q s.ends) _ _ (standing start inside)
          ∙ ap (λ (i : ℕ). judge C r.slots (seen_at i s.out.count s.ends)) place
          ∙ ap (judge C r.slots) (sym are)
          ∙ sym due_is

      -- at a mark
      at_mark :
          ready r.fill ≡ true →
          SeesAs stop.Record ms s →
          s.out.at < top →
          Step X C r due (given q w s.ends)
      at_mark full k inside =
          let n = s.out.count in
          let len : base + s.out.at - byte_of r + 1 ≤ C = omega (arith, fits) in
          let few : length (ends_in base n s.ends) ≤ r.slots = omega (arith, ends-count base n s.ends (omega (arith, f.limited, slots)), f.limited) in
          let m : Mark = record { line = r.mark.line; byte = byte_of r; len = base + s.out.at - byte_of r; ends = ends_in base n s.ends } in
          gives-first m _ s.out.at n s.ends full k.are (judged-none C r.slots m few len) refl refl (omega arith) refl
          (some_left X C r.slots (r.mark.line + n) (base + s.out.at) (suc (base + s.out.at)) [] 62 _ k.stands)

      -- at an end without a slot
      at-full :
          SeesAs stop.Full ms s →
          AtFull (take top w) r.slots s.out →
          Step X C r due (too_many q w s.ends)
      at-full k a =
          let none' = a.no_slot in
          let end : get_or k.head.ends r.slots 0 ≡ base + s.out.at = ap (λ (n : ℕ). get_or k.head.ends n 0) (sym none') ∙ k.this in
          let more : r.slots < length k.head.ends = omega (arith, k.more) in
          let byte = k.byte_is in
          let near : suc (get_or k.head.ends r.slots 0) < k.head.byte + C = omega (arith, end, byte, a.behind, bytes, fits) in
          refuses-first 4 phase.Table k.head k.tail refl k.are (judged-part C r.slots k.head more near) k.line_is byte
          (record { at_front = λ z. absurd (false≢true z); all_slots = λ z. none' }) refl refl refl

      -- at the end of the filled bytes, where the input has ended: the record ends there
      module _ (full : ready r.fill ≡ true) (k : SeesAs stop.Filled ms s) (inside : start < top) (told : Told X r) where
        abbrev final : Mark
        final =
            record {
              line = r.mark.line;
              byte = byte_of r;
              len = base + top - byte_of r;
              ends = ends_in base s.out.count s.ends ++ ((base + s.out.at) ∷ []);
            }

        finals : ms ≡ final ∷ []
        finals =
            k.all
            ∙ ap (λ (xs : List ℕ). marks r.mark.line (byte_of r) (base + top) (ends_in base s.out.count s.ends) xs k.held) told.is_all
            ∙ closes r.mark.line (byte_of r) base s.out.at top (ends_in base s.out.count s.ends) k.held k.near

        final-count : length final.ends ≡ s.out.count + 1
        final-count =
            length-append (ends_in base s.out.count s.ends) ((base + s.out.at) ∷ [])
            ∙ ap (λ (n : ℕ). n + 1) (ends-count base s.out.count s.ends (omega (arith, f.limited, slots)))

        final-fits : final.len + 1 ≤ C
        final-fits = omega (arith, told.has_room, largest-above r.fill.policy r.fill.lent r.fill.capacity, t.largest_is)

        at-end : Step X C r due (closed s.out.at q w s.ends)
        unfolding due_by
        at-end = go (dec_le r.slots s.out.count)
          where
            go : Dec (r.slots ≤ s.out.count) → Step X C r due (closed s.out.at q w s.ends)
            go (yes u) =
                step-as refl (closed-full q w s.ends s.out.at u)
                (refuses-first 4 phase.Table final [] refl finals (judged-whole C r.slots final (omega (arith, final-count)) final-fits) refl refl
                (record { at_front = λ z. absurd (false≢true z); all_slots = λ z. omega (arith, f.limited) }) refl refl refl)
            go (no u) =
                step-as refl (closed-more q w s.ends s.out.at (omega arith))
                (gives-first final [] top (s.out.count + 1) (set s.ends s.out.count s.out.at) full finals
                (judged-none C r.slots final (omega (arith, final-count)) final-fits) refl refl (omega arith)
                (sym (ends_more base s.out.count s.ends s.out.at (omega (arith, slots)))
                ∙ ap (λ (n : ℕ). ends_in base n (set s.ends s.out.count s.out.at)) (sym (add-one s.out.count)))
                (none_left X C r.slots (r.mark.line + (s.out.count + 1)) (base + top) (suc (base + top)) [] told.is_all))

      -- at the end of the filled bytes, where the window is full
      module _ (k : SeesAs stop.Filled ms s) (inside : start < top) (is : r.phase ≡ phase.Searching) (open' : r.fill.told ≡ false) where
        wider-asks : start ≤ 0 → (c : ℕ) → widened_to r.fill ≡ some c → Step X C r due (makes_room q w s.ends)
        wider-asks z c p =
            step-as refl (room-wider q w s.ends z (of_capacity c r.fill) (sym (ap (λ (o : Option ℕ). wider o r.fill) p)))
            (asks-on (of_capacity c r.fill) q.mark w s.ends is open' open' refl t.text (grown-largest r.fill c p ∙ t.largest_is) refl (still-due inside k.are))

        too-long : start ≤ 0 → top ≡ r.fill.capacity → widened_to r.fill ≡ none → Step X C r due (makes_room q w s.ends)
        too-long z full p =
            let E = ends_in base s.out.count s.ends in
            let largest-top : C ≡ top = sym t.largest_is ∙ full-largest r.fill p ∙ sym full in
            let g = first (drop (base + top) X) k.held r.mark.line (byte_of r) (base + top) (base + s.out.at) E (omega (arith, k.near)) in
            let few : length E ≤ r.slots = omega (arith, ends-count base s.out.count s.ends (omega (arith, f.limited, slots)), f.limited) in
            let late : r.slots < length g.head.ends → g.head.byte + C ≤ suc (get_or g.head.ends r.slots 0) =
            λ u. omega (arith, first-late r.mark.line (byte_of r) (base + top) (base + s.out.at) E _ g r.slots few u, g.byte_is, late-least k.held, k.near) in
            let long : C < g.head.len + 1 = omega (arith, g.len_least) in
            step-as refl (room-none q w s.ends z (sym (ap (λ (o : Option ℕ). wider o r.fill) p)))
            (refuses-first 3 phase.Window g.head g.tail refl (k.all ∙ g.are) (judged-window C r.slots g.head late long) g.line_is g.byte_is
            (record { at_front = λ u. omega arith; all_slots = λ u. absurd (false≢true u) }) refl refl refl)

        at-full-window : top ≡ r.fill.capacity → (hi : ℕ) → Rises (start + 1) (take s.out.count s.ends) hi → Step X C r due (makes_room q w s.ends)
        at-full-window full hi rise = go (dec_le start 0) (widened_to r.fill) refl
          where
            go : Dec (start ≤ 0) → (o : Option ℕ) → widened_to r.fill ≡ o → Step X C r due (makes_room q w s.ends)
            go (no z) o p =
                moves s.out.at s.out.count s.ends hi is open' (omega arith) (omega (arith, f.apart)) (omega (arith, f.within, bytes))
                (omega (arith, f.limited, slots)) rise (still-due inside k.are)
            go (yes z) (some c) p = wider-asks z c p
            go (yes z) none p = too-long z full p

      -- by where the search stopped
      steps :
          start < top →
          r.phase ≡ phase.Searching →
          ready r.fill ≡ true →
          (hi : ℕ) →
          Rises (start + 1) (take s.out.count s.ends) hi →
          (o : Stop) →
          SeesAs o ms s →
          Stopped (take top w) r.mark.count r.slots 62 s.out s.ends o →
          Step X C r due (stopped o q w s.ends)
      steps inside is full hi rise stop.Record k a = at_mark full k (omega (arith, a.inside, bytes))
      steps inside is full hi rise stop.Full k a = at-full k a
      steps inside is full hi rise stop.Filled k a = go r.fill.told refl
        where
          go : (u : Bool) → r.fill.told ≡ u → Step X C r due (stopped stop.Filled q w s.ends)
          go true u = step-as refl (filled-told q w s.ends u) (at-end full k inside (t.told u))
          go false u = step-as refl (filled-not q w s.ends u) (at-full-window k inside is u (ready-full r.fill full u) hi rise)

  -- what one pass finds where a record that stands in the window is searched, and what is due by it
  pub sees-found : start < top → SeesAs (searches r w e).out.stop (seen_at (goes_on r.mark) r.mark.count e) (searches r w e)
  sees-found inside =
      let g = t.is_good in
      let s = searches r w e in
      let from = min (goes_on r.mark) top in
      let b = g.is-sane.search_filled in
      let from_is : from ≡ goes_on r.mark = min-eq_left (omega arith) in
      subst (λ (i : ℕ). SeesAs s.out.stop (seen_at i r.mark.count e) s) from_is
      (sees X base top r.mark.line (byte_of r) r.slots (drop from (take top w)) from r.mark.count e (ahead from (omega arith))
      (omega (arith, length-drop from (take top w), bytes)) (omega (arith, g.is-sane.count_slots, g.table_lent)))

  pub inside-due : start < top → due_searched X C r e ≡ judge C r.slots (seen_at (goes_on r.mark) r.mark.count e)
  inside-due inside = some_left X C r.slots r.mark.line (byte_of r) (base + goes_on r.mark) (ends_of r e) _ _ (standing start inside)

  -- it is searched
  inside-hunts : r.phase ≡ phase.Searching → ready r.fill ≡ true → start < top → Step X C r (due_in phase.Searching X C r e) (hunted r w e)
  inside-hunts is full inside =
      let g = t.is_good in
      let h = t.is_behind (ap is_searching is) in
      let s = searches r w e in
      step-as refl (hunt-goes r w e (neither r.fill.told (eqb start top) (inr (ne_eqb start top (λ z. omega arith)))) s refl)
      (steps _ _ s (inside-due inside) (finds r w e g h)
      inside is full _ ((found-behind r w e g h).ends_behind refl) s.out.stop (sees-found inside) (stops r w e g h))

  -- nothing of the record is there yet
  pub outside-found : top ≡ start → stop_at top r.mark.count stop.Filled e ≡ searches r w e
  outside-found z =
      let a = t.is_good.is-sane.start_search in
      let b = t.is_good.is-sane.search_filled in
      let from = min (goes_on r.mark) top in
      let from_is : from ≡ top = omega arith in
      ap (λ (i : ℕ). stop_at i r.mark.count stop.Filled e) (sym from_is)
      ∙ sym (search-past 62 r.slots (take top w) from r.mark.count e (omega (arith, bytes)))

  pub outside-due : top ≡ start → due_searched X C (reached top r.mark.count r) e ≡ due_searched X C r e
  outside-due z =
      let a = t.is_good.is-sane.start_search in
      let b = t.is_good.is-sane.search_filled in
      let place : goes_on (reached top r.mark.count r).mark ≡ goes_on r.mark = omega arith in
      ap (λ (p : ℕ). from_here X C r.slots r.mark.line (byte_of r) (base + p) (ends_of r e)) place

  -- and the window is full: it is moved to the front
  outside-moves : r.phase ≡ phase.Searching → ready r.fill ≡ true → top ≡ start → r.fill.told ≡ false → Step X C r (due_in phase.Searching X C r e) (hunted r w e)
  outside-moves is full z open' =
      let g = t.is_good in
      let a = g.is-sane.start_search in
      let b = g.is-sane.search_filled in
      step-as refl
      (hunt-goes r w e (neither r.fill.told (eqb start top) (inl open')) (stop_at top r.mark.count stop.Filled e) (outside-found z)
      ∙ filled-not (reached top r.mark.count r) w e open')
      (moves top r.mark.count e _ is open' (omega (arith, ready-full r.fill full open', g.is-sane.capacity_least)) (omega arith) (omega arith)
      (omega (arith, g.is-sane.count_slots, g.table_lent)) ((t.is_behind (ap is_searching is)).ends_behind refl)
      (outside-due z))

pub hunts : Hunts
hunts X C r w e t is full = go (dec_le r.fill.filled r.mark.start.0) r.fill.told refl
  where
    go : Dec (r.fill.filled ≤ r.mark.start.0) → (u : Bool) → r.fill.told ≡ u → Step X C r (due_in phase.Searching X C r e) (hunted r w e)
    go (no z) u p = inside-hunts X C r w e t is full (omega arith)
    go (yes z) true p =
        let same : r.fill.filled ≡ r.mark.start.0 = omega (arith, t.is_good.is-sane.start_search, t.is_good.is-sane.search_filled) in
        step-as refl (hunt-over r w e p (sym same)) (over X C r w e t same p)
    go (yes z) false p =
        outside-moves X C r w e t is full (omega (arith, t.is_good.is-sane.start_search, t.is_good.is-sane.search_filled)) p
