-- What each step of a read comes to, by the tests that lead there: the definitions of Read.antt, clause by clause.
-- Assumes nothing.
use Prim.Native.Nat.{ℕ, ◌+◌, ◌≤◌, ◌<◌, max, min}
use native.Mathlib.Omega.{arith}
use native.Mathlib.Nat.{le_refl, le_of_eq}
use native.Mathlib.Numerals.{add-one}
use mathlib.Core.Bool.{Bool, true, false, not, ◌&&◌, true≢false, false≢true}
use mathlib.Core.Logic.{◌⊎◌, inl, inr}
use mathlib.Core.List.{List, [], ◌∷◌}
use mathlib.Core.Option.{Option, none, some, none-ne-some, some-injective}
use mathlib.Core.Path.{◌≡◌, refl, sym, ap, ◌∙◌}
use lib.ListN.{length, get_or, take, set}
use lib.Seq.{length-take-le}
use lib.Dec.{eqb, ltb}
use borrow.Author.Tests.{lt-ltb, le-ltb, le-leb, lt-leb, eq-eqb, ne_eqb}
use Rattle.scan.specs.Move.{moved_ends}
use Rattle.scan.specs.Search.{Recorded, Lead}
use Rattle.scan.specs.declared.ends.Searched.{Searched}
use Rattle.scan.proofs.SearchLaws.{search-found}
use Rattle.scan.proofs.LeadLaws.{lead-led}
use Rattle.scan.specs.declared.line.Blank.{Blank}
use Rattle.scan.specs.declared.ends.Stop.TheVariants as stop
use Rattle.window.specs.Fill.{slid_window, widened_to, wider, of_capacity, ready}
use Rattle.window.specs.declared.fill.Fill.{Fill}
use Rattle.reader.specs.declared.state.Reader.{Reader}
use Rattle.reader.specs.declared.state.Phase.{Phase}
use Rattle.reader.specs.declared.state.Phase.TheVariants as phase
use Rattle.reader.specs.State.{Good, sane, lent_as, is_current, with_fill, in_phase, rising, ends_rise}
use Rattle.reader.specs.Read.{ends, refuses, Did, does, ask_for, asked, given, too_long, too_many, reached, moved_to_front, grows, makes_room, closed, stopped, searches, SearchIs, hunted, begins_at, passed, when_ready, behind, sought_at, searched_on, onward, led, led_to, lead_on, lead_found, lead_dropped, LeadIn, lasts, read_in, read_of}

module _ (r : Reader) (w e : List ℕ) where
  -- the end closes a record, with a slot or without
  pub closed-full : (at : ℕ) → r.slots ≤ r.mark.count → closed at r w e ≡ too_many (reached at r.mark.count r) w e
  unfolding closed
  closed-full at h = rw (le-leb r.slots r.mark.count h)

  pub closed-more : (at : ℕ) → r.mark.count < r.slots → closed at r w e ≡ given (reached r.fill.filled (r.mark.count + 1) r) w (set e r.mark.count at)
  unfolding closed
  closed-more at h = rw (lt-leb r.slots r.mark.count h, add-one r.mark.count)

  -- room is made by moving, or by growing
  pub room-moves : 0 < r.mark.start.0
      → makes_room r w e ≡ asked (moved_to_front r) (slid_window r.mark.start.0 r.fill w) (moved_ends r.mark.count r.mark.start.0 e)
  unfolding makes_room
  room-moves h = rw (lt-ltb 0 r.mark.start.0 h)

  room-grows : r.mark.start.0 ≤ 0 → makes_room r w e ≡ grows (widened_to r.fill) r w e
  unfolding makes_room
  room-grows h = rw (le-ltb 0 r.mark.start.0 h)

  pub room-wider : r.mark.start.0 ≤ 0 → (f : Fill) → some f ≡ wider (widened_to r.fill) r.fill → makes_room r w e ≡ asked (with_fill f r) w e
  room-wider h f p = room-grows h ∙ go (widened_to r.fill) p
    where
      go : (o : Option ℕ) → some f ≡ wider o r.fill → grows o r w e ≡ asked (with_fill f r) w e
      go none q = absurd (none-ne-some f (sym q))
      go (some c) q = ap (λ (g : Fill). asked (with_fill g r) w e) (sym (some-injective f (of_capacity c r.fill) q))

  pub room-none : r.mark.start.0 ≤ 0 → none ≡ wider (widened_to r.fill) r.fill → makes_room r w e ≡ too_long r w e
  room-none h p = room-grows h ∙ go (widened_to r.fill) p
    where
      go : (o : Option ℕ) → none ≡ wider o r.fill → grows o r w e ≡ too_long r w e
      go none q = refl
      go (some c) q = absurd (none-ne-some (of_capacity c r.fill) q)

  -- a search, or the end where nothing of a record is there
  pub hunt-over : r.fill.told ≡ true → r.mark.start.0 ≡ r.fill.filled → hunted r w e ≡ does ends (in_phase phase.Over r) w e
  unfolding hunted
  hunt-over t h = rw (t, eq-eqb r.mark.start.0 r.fill.filled h)

  pub hunt-goes : (r.fill.told && eqb r.mark.start.0 r.fill.filled) ≡ false → (s : Recorded) → s ≡ searches r w e
      → hunted r w e ≡ stopped s.out.stop (reached s.out.at s.out.count r) w s.ends
  unfolding hunted
  hunt-goes t s p = rw t (ap (λ (q : Recorded). stopped q.out.stop (reached q.out.at q.out.count r) w q.ends) (sym p))

  -- a search that came to the end of the filled bytes
  pub filled-told : r.fill.told ≡ true → stopped stop.Filled r w e ≡ closed r.mark.search.0 r w e
  filled-told t = rw t

  pub filled-not : r.fill.told ≡ false → stopped stop.Filled r w e ≡ makes_room r w e
  filled-not t = rw t

-- a search keeps what refusal 11 asks
pub hunt-good : (r : Reader) (w e : List ℕ) → Good r w e → (s : Searched) (x : List ℕ) → SearchIs r w e s x → Good (reached s.at s.count r) w x
hunt-good r w e g s x is =
    let from = min (max r.mark.search.0 (r.mark.start.0 + 1)) r.fill.filled in
    let m = g.is-sane in
    let v = m.window_sound in
    let l : length (take r.fill.filled w) ≡ r.fill.filled = length-take-le r.fill.filled w (omega (arith, v.filled_fits, v.capacity_fits, g.window_lent)) in
    let a = m.start_search in
    let b = m.search_filled in
    let k = m.count_search in
    let f = search-found (take r.fill.filled w) 62 r.slots from r.mark.count e s x (omega arith) m.count_slots (le_of_eq g.table_lent) is in
    let n = f.counted in
    let t = f.apart in
    let u = f.within in
    record {
      is-sane =
          record {
            capacity_least = m.capacity_least;
            window_sound = v;
            start_search = omega arith;
            search_filled = omega arith;
            count_slots = f.limited;
            count_search = omega arith;
            current_has_end = λ c. let h = m.current_has_end c in omega arith;
            line_least = m.line_least;
            line_most = m.line_most;
          };
      window_lent = g.window_lent;
      table_lent = g.table_lent ∙ sym f.same_length;
    }

-- the same in another phase
pub phase-good : (r : Reader) (w e : List ℕ) → Good r w e → (p : Phase) → (is_current p ≡ true → 1 ≤ r.mark.count) → Good (in_phase p r) w e
phase-good r w e g p has =
    let m = g.is-sane in
    record {
      is-sane =
          record {
            capacity_least = m.capacity_least;
            window_sound = m.window_sound;
            start_search = m.start_search;
            search_filled = m.search_filled;
            count_slots = m.count_slots;
            count_search = m.count_search;
            current_has_end = has;
            line_least = m.line_least;
            line_most = m.line_most;
          };
      window_lent = g.window_lent;
      table_lent = g.table_lent;
    }

pub searching-good : (r : Reader) (w e : List ℕ) → Good r w e → Good (in_phase phase.Searching r) w e
searching-good r w e g = phase-good r w e g phase.Searching (λ c. absurd (false≢true c))

-- a record that begins in the filled bytes, on a line within its bounds
pub begins-good : (r : Reader) (w e : List ℕ) → Good r w e → (start line : ℕ) → start ≤ r.fill.filled → 1 ≤ line → line ≤ r.fill.base.0 + start + 1
    → Good (begins_at start line r) w e
begins-good r w e g start line h k l =
    record {
      is-sane =
          record {
            capacity_least = g.is-sane.capacity_least;
            window_sound = g.is-sane.window_sound;
            start_search = le_refl start;
            search_filled = h;
            count_slots = omega arith;
            count_search = omega arith;
            current_has_end = λ c. absurd (false≢true c);
            line_least = k;
            line_most = l;
          };
      window_lent = g.window_lent;
      table_lent = g.table_lent;
    }

-- a read waits for a full window or the end
module _ (g : Reader → List ℕ → List ℕ → Did) (r : Reader) (w e : List ℕ) where
  pub waits : ready r.fill ≡ false → when_ready g r w e ≡ asked r w e
  waits t = rw t

  pub is-ready : ready r.fill ≡ true → when_ready g r w e ≡ g r w e
  is-ready t = rw t

module _ (r : Reader) (w e : List ℕ) where
  -- behind a current record
  pub behind-ended : r.fill.told ≡ true → r.mark.search.0 ≡ r.fill.filled → behind r w e ≡ does ends (in_phase phase.Ended r) w e
  unfolding behind
  behind-ended t h = rw (t, eq-eqb r.mark.search.0 r.fill.filled h)

  pub behind-next : (r.fill.told && eqb r.mark.search.0 r.fill.filled) ≡ false → behind r w e ≡ when_ready hunted (passed r) w e
  unfolding behind
  behind-next t = rw t

  -- after a seek
  pub sought-mark : r.mark.start.0 < r.fill.filled → get_or w r.mark.start.0 0 ≡ 62 → sought_at r w e ≡ hunted (begins_at r.mark.start.0 r.mark.line r) w e
  unfolding sought_at
  sought-mark h k = rw (lt-ltb r.mark.start.0 r.fill.filled h, eq-eqb (get_or w r.mark.start.0 0) 62 k)

  pub sought-astray : (ltb r.mark.start.0 r.fill.filled && eqb (get_or w r.mark.start.0 0) 62) ≡ false
      → sought_at r w e ≡ does (refuses 5 []) (in_phase phase.Astray r) w e
  unfolding sought_at
  sought-astray t = rw t

  -- a record that is searched on
  pub onward-waits : ready r.fill ≡ false → onward r w e ≡ asked (in_phase phase.Searching r) w e
  onward-waits t = rw t

  pub onward-goes : ready r.fill ≡ true → onward r w e ≡ searched_on r w e
  onward-goes t = rw t

  pub on-rising : ends_rise r e ≡ true → searched_on r w e ≡ hunted (in_phase phase.Searching r) w e
  unfolding searched_on
  on-rising t = rw t

  pub on-falling : ends_rise r e ≡ false → searched_on r w e ≡ does (refuses 11 []) r w e
  unfolding searched_on
  on-falling t = rw t

  -- the lead
  pub led-by : (b : Blank) → Lead (take r.fill.filled w) r.mark.start.0 b → led r w e ≡ led_to b r w e
  unfolding led
  led-by b p = ap (λ (k : Blank). led_to k r w e) (sym p)

  pub led_on : (b : Blank) → b.undecided ≡ true → led_to b r w e ≡ lead_on b r w e
  unfolding led_to
  led_on b t = rw t

  led-found : (b : Blank) → b.undecided ≡ false → led_to b r w e ≡ lead_found b r w e
  unfolding led_to
  led-found b t = rw t

  pub led-mark : (b : Blank) → b.undecided ≡ false → get_or w b.at 0 ≡ 62 → led_to b r w e ≡ hunted (begins_at b.at (r.mark.line + b.lines) r) w e
  led-mark b t h = led-found b t ∙ rw (eq-eqb (get_or w b.at 0) 62 h)

  pub led-refused : (b : Blank) → b.undecided ≡ false → (get_or w b.at 0 ≡ 62 → ⊥)
      → led_to b r w e ≡ does (refuses 2 ((r.mark.line + b.lines) ∷ get_or w b.at 0 ∷ [])) (in_phase phase.Over r) w e
  led-refused b t h = led-found b t ∙ rw (ne_eqb (get_or w b.at 0) 62 h)

  pub lead-over : (b : Blank) → r.fill.told ≡ true → lead_on b r w e ≡ does ends (in_phase phase.Over r) w e
  lead-over b t = rw t

  pub lead-asks : (b : Blank) → r.fill.told ≡ false → lead_on b r w e ≡ asked (lead_dropped b r) (slid_window b.at r.fill w) e
  lead-asks b t = rw t

-- what a lead over the filled bytes is known by
pub lead-in : (r : Reader) (w e : List ℕ) → Good r w e → (b : Blank) → Lead (take r.fill.filled w) r.mark.start.0 b → LeadIn b r
lead-in r w e g b p =
    let m = g.is-sane in
    let v = m.window_sound in
    let l : length (take r.fill.filled w) ≡ r.fill.filled = length-take-le r.fill.filled w (omega (arith, v.filled_fits, v.capacity_fits, g.window_lent)) in
    let a = m.start_search in
    let b' = m.search_filled in
    let d = lead-led (take r.fill.filled w) r.mark.start.0 b p in
    let u = d.apart in
    let i = d.within (omega arith) in
    record {
      at_start = omega arith;
      at_filled = omega arith;
      lines_few = omega arith;
      decided = λ t. let h = d.decided t in omega arith;
    }

-- a conjunction of tests that failed
pub neither : (t u : Bool) → (t ≡ false) ⊎ (u ≡ false) → (t && u) ≡ false
neither true u (inl e) = absurd (true≢false e)
neither true u (inr e) = e
neither false u e = refl

-- the next record begins where a current one ends
pub passed-good : (r : Reader) (w e : List ℕ) → Good r w e → Good (passed r) w e
passed-good r w e g =
    let m = g.is-sane in
    let a = m.start_search in
    let k = m.count_search in
    let l = m.line_least in
    let h = m.line_most in
    begins-good r w e g r.mark.search.0 (r.mark.line + r.mark.count) m.search_filled (omega arith) (omega arith)

-- a record that begins behind the lead
pub lead-begins : (r : Reader) (w e : List ℕ) → Good r w e → (b : Blank) → LeadIn b r → Good (begins_at b.at (r.mark.line + b.lines) r) w e
lead-begins r w e g b k =
    let m = g.is-sane in
    let l = m.line_least in
    let h = m.line_most in
    let a = k.at_start in
    let n = k.lines_few in
    begins-good r w e g b.at (r.mark.line + b.lines) k.at_filled (omega arith) (omega arith)

-- the ends' test as the code asks it
pub rise-test : (r : Reader) (e : List ℕ) {t : Bool} → rising r.mark.start.0 (take r.mark.count e) r.fill.filled ≡ t → ends_rise r e ≡ t
unfolding ends_rise
rise-test r e p = p

-- a read by the tests before its phase is looked at
module _ (r : Reader) (w e : List ℕ) where
  pub lent-true : r.fill.lent ≡ length w → r.slots ≡ length e → lent_as r (length w) (length e) ≡ true
  unfolding lent_as
  lent-true p q = rw (eq-eqb r.fill.lent (length w) p, eq-eqb r.slots (length e) q)

  pub unlent-window : (r.fill.lent ≡ length w → ⊥) → lent_as r (length w) (length e) ≡ false
  unfolding lent_as
  unlent-window h = neither (eqb r.fill.lent (length w)) (eqb r.slots (length e)) (inl (ne_eqb _ _ h))

  pub unlent-table : (r.slots ≡ length e → ⊥) → lent_as r (length w) (length e) ≡ false
  unfolding lent_as
  unlent-table h = neither (eqb r.fill.lent (length w)) (eqb r.slots (length e)) (inr (ne_eqb _ _ h))

  refused-state : (sane r && lent_as r (length w) (length e)) ≡ false → read_of r w e ≡ does (refuses 11 []) r w e
  unfolding read_of
  refused-state t = rw t

  pub read-unlent : lent_as r (length w) (length e) ≡ false → read_of r w e ≡ does (refuses 11 []) r w e
  read-unlent t = refused-state (neither (sane r) (lent_as r (length w) (length e)) (inr t))

  module _ (t : sane r ≡ true) (u : lent_as r (length w) (length e) ≡ true) where
    pub read-repeats : lasts r.phase ≡ false → r.fill.asking ≡ true → read_of r w e ≡ does (ask_for r) r w e
    unfolding read_of
    read-repeats p q = rw (t, u, p, q)

    pub read_goes : (not (lasts r.phase) && r.fill.asking) ≡ false → read_of r w e ≡ read_in r.phase r w e
    unfolding read_of
    read_goes p = rw (t, u, p)
