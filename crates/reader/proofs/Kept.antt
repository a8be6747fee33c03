-- What setup makes and calls leave passes refusal 11: an invariant that setup gives and that reads, reports and seeks
-- keep, whatever their arguments. A record's ends rise behind its `>`, and none stands where a search goes on.
-- Assumes nothing.
use Prim.Native.Nat.{ℕ, ◌+◌, ◌-◌, ◌≤◌, ◌<◌, max, min}
use native.Mathlib.Decide.{dec_le}
use native.Mathlib.Nat.{le_refl, le_trans, le_of_eq, min-eq_left}
use native.Mathlib.Numerals.{add-one}
use native.Mathlib.Omega.{arith}
use mathlib.Core.Bool.{Bool, true, false, not, ◌&&◌, ◌||◌, false≢true}
use mathlib.Core.List.{List, [], ◌∷◌, ◌++◌, map}
use mathlib.Core.Option.{Option, none, some}
use mathlib.Core.Path.{◌≡◌, refl, sym, ap, subst, ◌∙◌}
use lib.ListN.{length, get_or, take, drop, set, length-set}
use lib.Seq.{length-take-le, take-suc-set}
use lib.Dec.{eqb, ltb}
use borrow.Author.Tests.{not-true, eqb-true, eqb-false, ltb-true}
use Rattle.std.proofs.lemmas.Bool.Decides.{nat_tests}
use Rattle.scan.specs.Move.{moved_ends}
use Rattle.scan.specs.Search.{Recorded, Lead, lead_at}
use Rattle.scan.specs.declared.ends.Stop.{Stop}
use Rattle.scan.specs.declared.ends.Stop.TheVariants as stop
use Rattle.scan.specs.declared.line.Blank.{Blank}
use Rattle.scan.proofs.SearchLaws.{Found, Rises, rises-lower, rises-append, search-found, search-stopped, Stopped}
use Rattle.scan.proofs.LeadLaws.{lead-led}
use Rattle.window.specs.Fill.{Sound, asking, ready, slid, slid_window, dropped, of_capacity, widened_to, wider}
use Rattle.window.specs.declared.fill.Fill.{Fill}
use Rattle.window.proofs.Laws.{widened-within, sound-asking, sound-slid, sound-slid-window, sound-widened}
use Rattle.reader.specs.declared.state.Reader.{Reader}
use Rattle.reader.specs.declared.state.Mark.{Mark}
use Rattle.reader.specs.declared.state.Phase.{Phase}
use Rattle.reader.specs.declared.state.Phase.TheVariants as phase
use Rattle.reader.specs.State.{Sane, Good, sane, lent_as, is_current, with_fill, with_mark, in_phase, mark_at, ends_rise}
use Rattle.reader.specs.Read.{Said, asks, gives, ends, refuses, Did, asked, reached, makes_room, closed, stopped, searches, hunted, begins_at, passed, when_ready, behind, sought_at, searched_on, onward, led, led_to, lead_dropped, lasts, read_in, read_of}
use Rattle.reader.proofs.RiseLaws.{rises-higher, rises-moved, rises-none, rises-rising, length-moved-down, length-moved-ends, moved-taken}
use Rattle.reader.proofs.Sanity.{and-true, sane-true}
use Rattle.reader.proofs.ReadLaws.{closed-full, closed-more, room-moves, room-wider, room-none, hunt-over, hunt-goes, hunt-good, phase-good, searching-good, filled-told, filled-not, begins-good, waits, is-ready, behind-ended, behind-next, sought-mark, sought-astray, onward-waits, onward-goes, on-rising, on-falling, rise-test, led-by, led_on, led-mark, led-refused, lead-over, lead-asks, lead-in, lead-begins, passed-good, lent-true, read-repeats, read_goes}

abbrev pub is_searching : Phase → Bool
is_searching phase.Lead = false
is_searching phase.Sought = false
is_searching phase.Searching = true
is_searching phase.Current = false
is_searching phase.Ended = false
is_searching phase.Over = false
is_searching phase.Window = false
is_searching phase.Table = false
is_searching phase.Astray = false
is_searching phase.Ahead = true

-- the ends of a record's lines rise strictly behind its `>`, each below hi
abbrev pub EndsBelow : (hi : ℕ) → Mark → (e : List ℕ) → Type 0
EndsBelow hi m e = Rises (m.start.0 + 1) (take m.count e) hi

-- where the search of a record goes on: behind its `>`
abbrev pub goes_on : Mark → ℕ
goes_on m = max m.search.0 (m.start.0 + 1)

-- A record that is still searched has no end where its search goes on. `own` says that the table holds what calls
-- left there; else only the number of the ends is known.
pub record Behind (own : Bool) (m : Mark) (e : List ℕ) : Type 0 where
  pub count_behind : m.start.0 + 1 + m.count ≤ goes_on m
  pub ends_behind : own ≡ true → EndsBelow (goes_on m) m e

-- What setup gives and every call keeps. An end stands at the search's place only where the end of the input closed
-- the record.
pub record Kept (own : Bool) (r : Reader) (w e : List ℕ) : Type 0 where
  pub is_good : Good r w e
  pub ends-rise : own ≡ true → EndsBelow (r.mark.search.0 + 1) r.mark e
  pub is_behind : is_searching r.phase ≡ true → Behind own r.mark e

-- a window that is not ready has room
unready : (f : Fill) → Sound f → ready f ≡ false → f.filled < f.capacity
unready f s t = let h = s.filled_fits in grind (arith, nat_tests)

-- a place that is not the end of the filled bytes where that is the end of the input
pub not-over : (told : Bool) (at filled : ℕ) → told ≡ true → (told && eqb at filled) ≡ false → at ≤ filled → at < filled
not-over told at filled is t h = grind (arith, nat_tests)

-- a said refusal 11
abbrev pub is_state : Said → Bool
is_state (asks p m o) = false
is_state (gives l b) = false
is_state ends = false
is_state (refuses n vs) = eqb n 11

-- what a read says and leaves, if it keeps the invariant
pub record Keeps (own : Bool) (d : Did) : Type 0 where
  pub is_kept : Kept own d.reader d.window d.table
  pub not_state : own ≡ true → is_state d.said ≡ false

pub as-done : {own : Bool} {d o : Did} → d ≡ o → Keeps own o → Keeps own d
as-done {own} {d} {o} is k = subst (λ (x : Did). Keeps own x) (sym is) k

module _ (r : Reader) (w e : List ℕ) where
  -- the filled bytes
  pub filled-bytes : Good r w e → length (take r.fill.filled w) ≡ r.fill.filled
  filled-bytes g =
      let v = g.is-sane.window_sound in
      length-take-le r.fill.filled w (omega (arith, v.filled_fits, v.capacity_fits, g.window_lent))

  -- the first n bytes are dropped, and the mark stands at the front
  good-slid :
      Good r w e →
      (n search count line : ℕ) (e' : List ℕ) →
      n ≤ r.fill.filled →
      search ≤ r.fill.filled - n →
      count ≤ r.slots →
      count ≤ search →
      (is_current r.phase ≡ true → 1 ≤ count) →
      1 ≤ line →
      line ≤ r.fill.base.0 + n + 1 →
      length e' ≡ length e →
      Good (with_fill (dropped n r.fill) (with_mark (mark_at 0 search count line) r)) (slid_window n r.fill w) e'
  good-slid g n search count line e' inside a b c d l h same =
      let m = g.is-sane in
      let v = m.window_sound in
      let fits = v.filled_fits in
      let input = v.input_fits in
      let lengths : length (slid_window n r.fill w) ≡ length w =
      ap length (sound-slid-window r.fill v n w inside)
      ∙ length-moved-down n r.fill.filled w inside (omega (arith, v.capacity_fits, g.window_lent)) in
      record {
        is-sane =
            record {
              capacity_least = m.capacity_least;
              window_sound =
                  record {
                    filled_fits = omega arith;
                    capacity_fits = v.capacity_fits;
                    ask_has_room = λ q. let k = v.ask_has_room q in omega arith;
                    input_fits = omega arith;
                  };
              start_search = omega arith;
              search_filled = a;
              count_slots = b;
              count_search = omega arith;
              current_has_end = d;
              line_least = l;
              line_most = omega arith;
            };
        window_lent = g.window_lent ∙ sym lengths;
        table_lent = g.table_lent ∙ sym same;
      }

module _ {own : Bool} (r : Reader) (w e : List ℕ) where
  -- nothing is recorded yet
  pub begun-behind : r.mark.count ≡ 0 → Behind own r.mark e
  unfolding Rises
  begun-behind z = record { count_behind = omega arith; ends_behind = λ o. rw z (omega arith) }

  pub kept-begun : Good r w e → r.mark.count ≡ 0 → Kept own r w e
  unfolding Rises
  kept-begun g z =
      record {
        is_good = g;
        ends-rise = λ o. rw z (omega (arith, g.is-sane.start_search));
        is_behind = λ s. begun-behind z;
      }

  -- a record that is searched
  pub kept-searched : Good r w e → Behind own r.mark e → Kept own r w e
  kept-searched g h =
      let a = g.is-sane.start_search in
      record {
        is_good = g;
        ends-rise = λ o. rises-higher (r.mark.start.0 + 1) (take r.mark.count e) (goes_on r.mark) (r.mark.search.0 + 1) (omega arith) (h.ends_behind o);
        is_behind = λ s. h;
      }

  -- the same in another phase
  pub kept-phase : Kept own r w e → (p : Phase) → is_searching p ≡ false → (is_current p ≡ true → 1 ≤ r.mark.count) → Kept own (in_phase p r) w e
  kept-phase k p no' has =
      record {
        is_good = phase-good r w e k.is_good p has;
        ends-rise = k.ends-rise;
        is_behind = λ s. absurd (false≢true (sym no' ∙ s));
      }

  -- another fill that holds what was searched
  kept-fill :
      Kept own r w e →
      (f : Fill) →
      Sound f →
      r.fill.capacity ≤ f.capacity →
      f.filled ≡ r.fill.filled →
      f.base ≡ r.fill.base →
      f.lent ≡ r.fill.lent →
      Kept own (with_fill f r) w e
  kept-fill k f v more same_filled same_base same-lent =
      let g = k.is_good in
      let m = g.is-sane in
      record {
        is_good =
            record {
              is-sane =
                  record {
                    capacity_least = let h = m.capacity_least in omega arith;
                    window_sound = v;
                    start_search = m.start_search;
                    search_filled = rw same_filled m.search_filled;
                    count_slots = m.count_slots;
                    count_search = m.count_search;
                    current_has_end = m.current_has_end;
                    line_least = m.line_least;
                    line_most = rw same_base m.line_most;
                  };
              window_lent = same-lent ∙ g.window_lent;
              table_lent = g.table_lent;
            };
        ends-rise = k.ends-rise;
        is_behind = k.is_behind;
      }

  -- an ask, where there is room
  pub keeps-asked : Kept own r w e → r.fill.filled < r.fill.capacity → Keeps own (asked r w e)
  keeps-asked k room =
      record {
        is_kept =
            kept-fill k (asking true r.fill) (sound-asking r.fill k.is_good.is-sane.window_sound room)
            (le_refl r.fill.capacity) refl refl refl;
        not_state = λ o. refl;
      }

  -- a read that waits for a full window or the end
  pub keeps-ready : (f : Reader → List ℕ → List ℕ → Did) → Kept own r w e → (ready r.fill ≡ true → Keeps own (f r w e)) → Keeps own (when_ready f r w e)
  keeps-ready f k then' = go (ready r.fill) refl
    where
      go : (t : Bool) → ready r.fill ≡ t → Keeps own (when_ready f r w e)
      go true t = as-done (is-ready f r w e t) (then' t)
      go false t = as-done (waits f r w e t) (keeps-asked k (unready r.fill k.is_good.is-sane.window_sound t))

-- an ask behind a slide has room
keeps-slid :
    {own : Bool} (r : Reader) (w e : List ℕ) →
    Sane r →
    (n : ℕ) (m : Mark) →
    0 < n →
    n ≤ r.fill.filled →
    Kept own (with_fill (dropped n r.fill) (with_mark m r)) w e →
    Keeps own (asked (with_fill (slid n r.fill) (with_mark m r)) w e)
keeps-slid {own} r w e s n m h inside k =
    let v = s.window_sound in
    let fits = v.filled_fits in
    subst (λ (f : Fill). Keeps own (asked (with_fill f (with_mark m r)) w e)) (sym (sound-slid r.fill v n inside))
    (keeps-asked (with_fill (dropped n r.fill) (with_mark m r)) w e k (omega arith))

module _ {own : Bool} (r : Reader) (w e : List ℕ) (g : Good r w e) (h : Behind own r.mark e) where
  here : Kept own r w e
  here = kept-searched r w e g h

  -- the record moved to the front, with its ends
  keeps-moved : 0 < r.mark.start.0 → Keeps own (makes_room r w e)
  keeps-moved pos =
      let m = g.is-sane in
      let start = r.mark.start.0 in
      let a = m.start_search in
      let b = m.search_filled in
      let c = m.count_search in
      let table : r.mark.count ≤ length e = omega (arith, m.count_slots, g.table_lent) in
      let moved = moved_ends r.mark.count start e in
      let mark = mark_at 0 (r.mark.search.0 - start) r.mark.count r.mark.line in
      let rise : own ≡ true → Rises (0 + 1) (take r.mark.count moved) (max (r.mark.search.0 - start) (0 + 1)) =
      λ o.
      rw (moved-taken r.mark.count start e table)
      (rises-higher (0 + 1) (map (λ (x : ℕ). x - start) (take r.mark.count e)) (goes_on r.mark - start) (max (r.mark.search.0 - start) (0 + 1)) (omega arith)
      (rises-lower (0 + 1) (start + 1 - start) (map (λ (x : ℕ). x - start) (take r.mark.count e)) (goes_on r.mark - start) (omega arith)
      (rises-moved start (start + 1) (take r.mark.count e) (goes_on r.mark) (omega arith) (h.ends_behind o)))) in
      let counted = h.count_behind in
      as-done (room-moves r w e pos)
      (keeps-slid r (slid_window start r.fill w) moved m start mark pos (omega arith)
      (kept-searched (with_fill (dropped start r.fill) (with_mark mark r)) (slid_window start r.fill w) moved
      (good-slid r w e g start (r.mark.search.0 - start) r.mark.count r.mark.line moved (omega arith) (omega arith) m.count_slots c
      m.current_has_end m.line_least m.line_most (length-moved-ends r.mark.count start e table))
      (record { count_behind = omega arith; ends_behind = rise })))

  -- a window that is full: the record moves, the window grows, or it is refused
  keeps-room : Keeps own (makes_room r w e)
  keeps-room = go (dec_le r.mark.start.0 0)
    where
      grows : r.mark.start.0 ≤ 0 → (o : Option ℕ) → widened_to r.fill ≡ o → Keeps own (makes_room r w e)
      grows z none q =
          as-done (room-none r w e z (sym (ap (λ (o : Option ℕ). wider o r.fill) q)))
          (record { is_kept = kept-phase r w e here phase.Window refl (λ c. absurd (false≢true c)); not_state = λ o. refl })
      grows z (some c) q =
          let v = g.is-sane.window_sound in
          let fits = v.filled_fits in
          let more = (widened-within r.fill c q).0 in
          as-done (room-wider r w e z (of_capacity c r.fill) (sym (ap (λ (o : Option ℕ). wider o r.fill) q)))
          (keeps-asked (with_fill (of_capacity c r.fill) r) w e
          (kept-fill r w e here (of_capacity c r.fill) (sound-widened r.fill v c q) (omega arith) refl refl refl)
          (omega arith))

      go : Dec (r.mark.start.0 ≤ 0) → Keeps own (makes_room r w e)
      go (yes z) = grows z (widened_to r.fill) refl
      go (no z) = keeps-moved (omega arith)

  -- the end closes a record behind whose `>` the search stopped
  pub kept-closed :
      r.mark.start.0 < r.mark.search.0 →
      r.mark.count < r.slots →
      Kept own (in_phase phase.Current (reached r.fill.filled (r.mark.count + 1) r)) w (set e r.mark.count r.mark.search.0)
  unfolding Rises
  kept-closed behind' slot =
      let m = g.is-sane in
      let b = m.search_filled in
      let table : r.mark.count < length e = omega (arith, g.table_lent) in
      let counted = h.count_behind in
      let last : Rises (goes_on r.mark) (r.mark.search.0 ∷ []) (r.fill.filled + 1) = (omega arith, omega arith) in
      let stored : take (r.mark.count + 1) (set e r.mark.count r.mark.search.0) ≡ take r.mark.count e ++ (r.mark.search.0 ∷ []) =
      rw (add-one r.mark.count) (take-suc-set e r.mark.count r.mark.search.0 table) in
      record {
        is_good =
            record {
              is-sane =
                  record {
                    capacity_least = m.capacity_least;
                    window_sound = m.window_sound;
                    start_search = omega arith;
                    search_filled = le_refl r.fill.filled;
                    count_slots = omega arith;
                    count_search = omega arith;
                    current_has_end = λ c. omega arith;
                    line_least = m.line_least;
                    line_most = m.line_most;
                  };
              window_lent = g.window_lent;
              table_lent = g.table_lent ∙ sym (length-set e r.mark.count r.mark.search.0);
            };
        ends-rise =
            λ o.
            subst (λ (es : List ℕ). Rises (r.mark.start.0 + 1) es (r.fill.filled + 1)) (sym stored)
            (rises-append (r.mark.start.0 + 1) (take r.mark.count e) (goes_on r.mark) (r.mark.search.0 ∷ []) (r.fill.filled + 1) (h.ends_behind o) last);
        is_behind = λ s. absurd (false≢true s);
      }

  keeps-closed : r.mark.start.0 < r.mark.search.0 → Keeps own (closed r.mark.search.0 r w e)
  keeps-closed behind' = go (dec_le r.slots r.mark.count)
    where
      go : Dec (r.slots ≤ r.mark.count) → Keeps own (closed r.mark.search.0 r w e)
      go (yes u) =
          as-done (closed-full r w e r.mark.search.0 u)
          (record { is_kept = kept-phase r w e here phase.Table refl (λ c. absurd (false≢true c)); not_state = λ o. refl })
      go (no u) =
          as-done (closed-more r w e r.mark.search.0 (omega arith))
          (record { is_kept = kept-closed behind' (omega arith); not_state = λ o. refl })

  -- where a search stopped
  keeps-stopped :
      (s : Stop) →
      (s ≡ stop.Record → 1 ≤ r.mark.count) →
      (r.fill.told ≡ true → r.mark.start.0 < r.mark.search.0) →
      Keeps own (stopped s r w e)
  keeps-stopped stop.Record has behind' = record { is_kept = kept-phase r w e here phase.Current refl (λ c. has refl); not_state = λ o. refl }
  keeps-stopped stop.Full has behind' =
      record { is_kept = kept-phase r w e here phase.Table refl (λ c. absurd (false≢true c)); not_state = λ o. refl }
  keeps-stopped stop.Filled has behind' = go r.fill.told refl
    where
      go : (t : Bool) → r.fill.told ≡ t → Keeps own (stopped stop.Filled r w e)
      go true t = as-done (filled-told r w e t) (keeps-closed (behind' t))
      go false t = as-done (filled-not r w e t) keeps-room

-- a search keeps the ends rising
module _ {own : Bool} (r : Reader) (w e : List ℕ) (g : Good r w e) (h : Behind own r.mark e) where
  -- where the search begins, and what it found
  abbrev from : ℕ
  from = min (goes_on r.mark) r.fill.filled

  abbrev found : Recorded
  found = searches r w e

  bytes : length (take r.fill.filled w) ≡ r.fill.filled
  bytes = filled-bytes r w e g

  pub finds : Found (take r.fill.filled w) from r.mark.count r.slots e found.out found.ends
  finds =
      search-found (take r.fill.filled w) 62 r.slots from r.mark.count e found.out found.ends (omega (arith, bytes))
      g.is-sane.count_slots (le_of_eq g.table_lent) refl

  pub stops : Stopped (take r.fill.filled w) r.mark.count r.slots 62 found.out found.ends found.out.stop
  stops =
      search-stopped (take r.fill.filled w) 62 r.slots from r.mark.count e found.out found.ends (omega (arith, bytes))
      g.is-sane.count_slots (le_of_eq g.table_lent) refl

  found-rises : EndsBelow (goes_on r.mark) r.mark e → EndsBelow (max found.out.at (r.mark.start.0 + 1)) (reached found.out.at found.out.count r).mark found.ends
  found-rises rise =
      subst (λ (es : List ℕ). Rises (r.mark.start.0 + 1) es (max found.out.at (r.mark.start.0 + 1))) (sym finds.recorded)
      (rises-append (r.mark.start.0 + 1) (take r.mark.count e) (goes_on r.mark) finds.fresh (max found.out.at (r.mark.start.0 + 1)) rise
      (go (dec_le (goes_on r.mark) r.fill.filled)))
    where
      apart' : from + length finds.fresh ≤ found.out.at
      apart' = finds.apart

      within' : found.out.at ≤ r.fill.filled
      within' = omega (arith, finds.within, bytes)

      go : Dec (goes_on r.mark ≤ r.fill.filled) → Rises (goes_on r.mark) finds.fresh (max found.out.at (r.mark.start.0 + 1))
      go (yes u) =
          rises-higher (goes_on r.mark) finds.fresh found.out.at (max found.out.at (r.mark.start.0 + 1)) (omega arith)
          (subst (λ (n : ℕ). Rises n finds.fresh found.out.at) (min-eq_left u) finds.rising)
      go (no u) =
          rises-none (goes_on r.mark) finds.fresh (max found.out.at (r.mark.start.0 + 1))
          (omega (arith, apart', within', g.is-sane.search_filled)) (omega (arith, apart', within', g.is-sane.search_filled))

  pub found-behind : Behind own (reached found.out.at found.out.count r).mark found.ends
  found-behind =
      record {
        count_behind = omega (arith, h.count_behind, finds.counted, finds.apart, finds.within, bytes, g.is-sane.search_filled);
        ends_behind = λ o. found-rises (h.ends_behind o);
      }

  -- a record that was found has an end, and a search that began behind its `>` stopped there
  pub found-has-end : found.out.stop ≡ stop.Record → 1 ≤ found.out.count
  found-has-end is =
      let marked = subst (Stopped (take r.fill.filled w) r.mark.count r.slots 62 found.out found.ends) is stops in
      omega (arith, marked.new)

  pub found_inside : r.mark.start.0 < r.fill.filled → r.mark.start.0 < found.out.at
  found_inside inside = omega (arith, finds.apart)

  keeps-hunted : Keeps own (hunted r w e)
  keeps-hunted = go (r.fill.told && eqb r.mark.start.0 r.fill.filled) refl
    where
      go : (t : Bool) → (r.fill.told && eqb r.mark.start.0 r.fill.filled) ≡ t → Keeps own (hunted r w e)
      go true t =
          let both = and-true r.fill.told (eqb r.mark.start.0 r.fill.filled) t in
          as-done (hunt-over r w e both.0 (eqb-true r.mark.start.0 r.fill.filled both.1))
          (record { is_kept = kept-phase r w e (kept-searched r w e g h) phase.Over refl (λ c. absurd (false≢true c)); not_state = λ o. refl })
      go false t =
          as-done (hunt-goes r w e t found refl)
          (keeps-stopped (reached found.out.at found.out.count r) w found.ends
          (hunt-good r w e g found.out found.ends refl) found-behind found.out.stop found-has-end
          (λ told.
          found_inside
          (not-over r.fill.told r.mark.start.0 r.fill.filled told t (le_trans g.is-sane.start_search g.is-sane.search_filled))))

-- a record that begins in the filled bytes
pub keeps-begun : {own : Bool} (r : Reader) (w e : List ℕ) → Good r w e → r.mark.count ≡ 0 → Keeps own (hunted r w e)
keeps-begun r w e g z = keeps-hunted r w e g (begun-behind r w e z)

module _ {own : Bool} (r : Reader) (w e : List ℕ) (k : Kept own r w e) where
  g : Good r w e
  g = k.is_good

  -- the same reader in a phase that is at rest
  rests : (p : Phase) → is_searching p ≡ false → is_current p ≡ false → Kept own (in_phase p r) w e
  rests p a b = kept-phase r w e k p a (λ c. absurd (false≢true (sym b ∙ c)))

  -- the lead in a full window: what is dropped of it is more than nothing
  keeps-dropped :
      (b : Blank) →
      Lead (take r.fill.filled w) r.mark.start.0 b →
      is_current r.phase ≡ false →
      b.undecided ≡ true →
      r.fill.filled ≡ r.fill.capacity →
      Keeps own (asked (lead_dropped b r) (slid_window b.at r.fill w) e)
  keeps-dropped b is quiet t full =
      let m = g.is-sane in
      let bytes = filled-bytes r w e g in
      let i = lead-in r w e g b is in
      let low = i.at_start in
      let high = i.at_filled in
      let few = i.lines_few in
      let l = m.line_least in
      let n = m.line_most in
      let last = (lead-led (take r.fill.filled w) r.mark.start.0 b is).at_last t in
      let mark = mark_at 0 0 0 (r.mark.line + b.lines) in
      keeps-slid r (slid_window b.at r.fill w) e m b.at mark (omega (arith, m.capacity_least)) high
      (kept-begun (with_fill (dropped b.at r.fill) (with_mark mark r)) (slid_window b.at r.fill w) e
      (good-slid r w e g b.at 0 0 (r.mark.line + b.lines) e high (omega arith) (omega arith) (omega arith)
      (λ c. absurd (false≢true (sym quiet ∙ c))) (omega arith) (omega arith) refl)
      refl)

  keeps-led : is_current r.phase ≡ false → ready r.fill ≡ true → Keeps own (led r w e)
  keeps-led quiet full = as-done (led-by r w e b refl) (go b.undecided refl r.fill.told refl (eqb (get_or w b.at 0) 62) refl)
    where
      b : Blank
      b = lead_at (drop r.mark.start.0 (take r.fill.filled w)) r.mark.start.0 0

      go :
          (t : Bool) →
          b.undecided ≡ t →
          (u : Bool) →
          r.fill.told ≡ u →
          (v : Bool) →
          eqb (get_or w b.at 0) 62 ≡ v →
          Keeps own (led_to b r w e)
      go true t true u v x =
          as-done (led_on r w e b t ∙ lead-over r w e b u) (record { is_kept = rests phase.Over refl refl; not_state = λ o. refl })
      go true t false u v x =
          let is-full : eqb r.fill.filled r.fill.capacity ≡ true =
          sym (ap (λ (o : Bool). o || eqb r.fill.filled r.fill.capacity) u) ∙ full in
          as-done (led_on r w e b t ∙ lead-asks r w e b u)
          (keeps-dropped b refl quiet t (eqb-true r.fill.filled r.fill.capacity is-full))
      go false t u told true x =
          as-done (led-mark r w e b t (eqb-true (get_or w b.at 0) 62 x))
          (keeps-begun (begins_at b.at (r.mark.line + b.lines) r) w e (lead-begins r w e g b (lead-in r w e g b refl)) refl)
      go false t u told false x =
          as-done (led-refused r w e b t (eqb-false (get_or w b.at 0) 62 x)) (record { is_kept = rests phase.Over refl refl; not_state = λ o. refl })

  keeps-sought : Keeps own (sought_at r w e)
  keeps-sought = go (ltb r.mark.start.0 r.fill.filled && eqb (get_or w r.mark.start.0 0) 62) refl
    where
      go : (t : Bool) → (ltb r.mark.start.0 r.fill.filled && eqb (get_or w r.mark.start.0 0) 62) ≡ t → Keeps own (sought_at r w e)
      go true t =
          let both = and-true (ltb r.mark.start.0 r.fill.filled) (eqb (get_or w r.mark.start.0 0) 62) t in
          let m = g.is-sane in
          as-done (sought-mark r w e (ltb-true r.mark.start.0 r.fill.filled both.0) (eqb-true (get_or w r.mark.start.0 0) 62 both.1))
          (keeps-begun (begins_at r.mark.start.0 r.mark.line r) w e
          (begins-good r w e g r.mark.start.0 r.mark.line (le_trans m.start_search m.search_filled) m.line_least m.line_most)
          refl)
      go false t = as-done (sought-astray r w e t) (record { is_kept = rests phase.Astray refl refl; not_state = λ o. refl })

  keeps-behind : Keeps own (behind r w e)
  keeps-behind = go (r.fill.told && eqb r.mark.search.0 r.fill.filled) refl
    where
      next : Good (passed r) w e
      next = passed-good r w e g

      go : (t : Bool) → (r.fill.told && eqb r.mark.search.0 r.fill.filled) ≡ t → Keeps own (behind r w e)
      go true t =
          let both = and-true r.fill.told (eqb r.mark.search.0 r.fill.filled) t in
          as-done (behind-ended r w e both.0 (eqb-true r.mark.search.0 r.fill.filled both.1))
          (record { is_kept = rests phase.Ended refl refl; not_state = λ o. refl })
      go false t =
          as-done (behind-next r w e t)
          (keeps-ready (passed r) w e hunted (kept-begun (passed r) w e next refl) (λ full. keeps-begun (passed r) w e next refl))

  -- the test of the ends
  pub kept-rising : own ≡ true → ends_rise r e ≡ true
  kept-rising o =
      rise-test r e
      (rises-rising r.mark.start.0 (take r.mark.count e) (r.mark.search.0 + 1) r.fill.filled
      (omega (arith, g.is-sane.search_filled)) (k.ends-rise o))

  -- a record is searched on, where its ends pass the test
  keeps-searched : Behind own r.mark e → Keeps own (searched_on r w e)
  keeps-searched h = go (ends_rise r e) refl
    where
      go : (t : Bool) → ends_rise r e ≡ t → Keeps own (searched_on r w e)
      go true t = as-done (on-rising r w e t) (keeps-hunted (in_phase phase.Searching r) w e (searching-good r w e g) h)
      go false t =
          as-done (on-falling r w e t)
          (record { is_kept = k; not_state = λ o. absurd (false≢true (sym t ∙ kept-rising o)) })

  keeps-onward : Behind own r.mark e → Keeps own (onward r w e)
  keeps-onward h = go (ready r.fill) refl
    where
      go : (t : Bool) → ready r.fill ≡ t → Keeps own (onward r w e)
      go true t = as-done (onward-goes r w e t) (keeps-searched h)
      go false t =
          as-done (onward-waits r w e t)
          (keeps-asked (in_phase phase.Searching r) w e (kept-searched (in_phase phase.Searching r) w e (searching-good r w e g) h)
          (unready r.fill g.is-sane.window_sound t))

  keeps-in : (p : Phase) → r.phase ≡ p → Keeps own (read_in p r w e)
  keeps-in phase.Lead is = keeps-ready r w e led k (keeps-led (ap is_current is))
  keeps-in phase.Sought is = keeps-ready r w e sought_at k (λ full. keeps-sought)
  keeps-in phase.Searching is = keeps-onward (k.is_behind (ap is_searching is))
  keeps-in phase.Current is = keeps-behind
  keeps-in phase.Ended is = record { is_kept = k; not_state = λ o. refl }
  keeps-in phase.Over is = record { is_kept = k; not_state = λ o. refl }
  keeps-in phase.Window is = record { is_kept = k; not_state = λ o. refl }
  keeps-in phase.Table is = record { is_kept = k; not_state = λ o. refl }
  keeps-in phase.Astray is = record { is_kept = k; not_state = λ o. refl }
  keeps-in phase.Ahead is = keeps-onward (k.is_behind (ap is_searching is))

  -- what refusal 11 tests
  pub kept-sane : sane r ≡ true
  kept-sane = sane-true r g.is-sane

  pub kept-lent : lent_as r (length w) (length e) ≡ true
  kept-lent = lent-true r w e g.window_lent g.table_lent

  keeps-read : Keeps own (read_of r w e)
  keeps-read = go (not (lasts r.phase) && r.fill.asking) refl
    where
      go : (t : Bool) → (not (lasts r.phase) && r.fill.asking) ≡ t → Keeps own (read_of r w e)
      go true t =
          let both = and-true (not (lasts r.phase)) r.fill.asking t in
          as-done (read-repeats r w e kept-sane kept-lent (not-true (lasts r.phase) both.0) both.1)
          (record { is_kept = k; not_state = λ o. refl })
      go false t = as-done (read_goes r w e kept-sane kept-lent t) (keeps-in r.phase refl)

  -- a read keeps the invariant, and does not refuse the state
  pub kept_read : Kept own (read_of r w e).reader (read_of r w e).window (read_of r w e).table
  kept_read = keeps-read.is_kept

  pub read-not-state : own ≡ true → (read_of r w e).said ≡ refuses 11 [] → ⊥
  read-not-state o is = false≢true (sym (keeps-read.not_state o) ∙ ap is_state is)
