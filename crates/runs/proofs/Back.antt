-- A record that a read gives was due from its `>` on, however often its search was broken off; so where it is put back, all is due again that was due
-- before the read (01, refusal 12: "the next read gives that record"). Assumes nothing.
use Prim.Native.Nat.{ℕ, zero, suc, ◌+◌, ◌≤◌}
use native.Mathlib.Decide.{dec_le}
use native.Mathlib.Nat.{le_trans}
use native.Mathlib.Omega.{arith}
use mathlib.Core.Bool.{Bool, true, false, not, ◌&&◌, false≢true}
use mathlib.Core.List.{List, []}
use mathlib.Core.Option.{Option, none, some, none-ne-some}
use mathlib.Core.Path.{◌≡◌, refl, sym, ap, subst, ◌∙◌}
use lib.ListN.{length, get_or}
use lib.Dec.{eqb, ltb}
use borrow.Author.Tests.{not-true, eqb-true, eqb-false, ltb-true}
use Rattle.scan.specs.Search.{Recorded}
use Rattle.scan.specs.declared.ends.Stop.{Stop}
use Rattle.scan.specs.declared.ends.Stop.TheVariants as stop
use Rattle.scan.specs.declared.line.Blank.{Blank}
use Rattle.window.specs.Fill.{ready, of_capacity, widened_to, wider}
use Rattle.window.specs.declared.fill.Fill.{Fill}
use Rattle.window.proofs.Laws.{sound-slid}
use Rattle.reader.specs.declared.state.Reader.{Reader}
use Rattle.reader.specs.declared.state.Phase.{Phase}
use Rattle.reader.specs.declared.state.Phase.TheVariants as phase
use Rattle.reader.specs.State.{Good, Sane, byte_of, sane, lent_as, with_fill, in_phase}
use Rattle.reader.specs.Read.{Said, asks, gives, ends, refuses, Did, reached, makes_room, stopped, searches, hunted, begins_at, passed, when_ready, behind, sought_at, onward, led, led_to, lasts, read_in, read_of}
use Rattle.reader.specs.Look.{Seen, whole, unfinished, over, denied, look_of, put_back_of}
use Rattle.reader.proofs.Sanity.{and-true, sane-true}
use Rattle.reader.proofs.ReadLaws.{closed-full, closed-more, room-moves, room-wider, room-none, hunt-over, hunt-goes, filled-told, filled-not, waits, is-ready, behind-ended, behind-next, sought-mark, sought-astray, onward-waits, onward-goes, on-rising, searching-good, led-by, led_on, led-mark, led-refused, lead-over, lead-asks, lead-in, lead-begins, begins-good, passed-good, lent-true, read-repeats, read_goes}
use Rattle.reader.proofs.Kept.{is_searching, kept-searched, kept-rising}
use Rattle.runs.proofs.Tells.{Dues, from_here, due_searched, due_in, due_to, rest_says, Settled, Goes, Tells}
use Rattle.runs.proofs.Begun.{begun-due, begun-tells, tells-with}
use Rattle.runs.proofs.Hunt.{hunts}
use Rattle.runs.proofs.Calls.{filled_by}
use Rattle.runs.proofs.Lead.{stop as lead-stop, lead-from}
use Rattle.runs.proofs.Sought.{sought-from}
use Rattle.runs.proofs.Step.{steps, still-tells}
use Rattle.runs.proofs.Look.{from_start, Sees, current-of, look-steps, back_is, put-back-due}

-- a record that is searched is due as from its start
abbrev pub Fresh : (X : List ℕ) (C : ℕ) → Reader → (e : List ℕ) → Type 0
Fresh X C r e = is_searching r.phase ≡ true → due_searched X C r e ≡ from_start X C r

-- what a read left is fresh, and a record that it gave was due from its start on
pub record Backs (X : List ℕ) (C : ℕ) (due : Dues) (d : Did) : Type 0 where
  pub fresh : Fresh X C d.reader d.table
  pub from : (l b : ℕ) → d.said ≡ gives l b → due ≡ from_start X C d.reader

abbrev is_given : Said → Bool
is_given (asks p m o) = false
is_given (gives l b) = true
is_given ends = false
is_given (refuses n vs) = false

-- the record that a read asks for or gives is the one at b on line l
abbrev Stays : Said → Reader → (l b : ℕ) → Type 0
Stays (asks p m o) q l b = (q.mark.line ≡ l) × (byte_of q ≡ b)
Stays (gives l' b') q l b = (q.mark.line ≡ l) × (byte_of q ≡ b)
Stays ends q l b = Unit {0}
Stays (refuses n vs) q l b = Unit {0}

-- a search stays in its record
module _ (r : Reader) (w e : List ℕ) (v : Sane r) where
  abbrev Here : Did → Type 0
  Here d = Stays d.said d.reader r.mark.line (byte_of r)

  as-here : {d o : Did} → d ≡ o → Here o → Here d
  as-here p k = subst Here (sym p) k

  here-room : (at count : ℕ) (e' : List ℕ) → Here (makes_room (reached at count r) w e')
  here-room at count e' = go (dec_le r.mark.start.0 0) (widened_to r.fill) refl
    where
      go : Dec (r.mark.start.0 ≤ 0) → (o : Option ℕ) → widened_to r.fill ≡ o → Here (makes_room (reached at count r) w e')
      go (no z) o p =
          let inside : r.mark.start.0 ≤ r.fill.filled = le_trans v.start_search v.search_filled in
          let zero' : r.fill.base.0 + r.mark.start.0 + 0 ≡ r.fill.base.0 + r.mark.start.0 = omega arith in
          as-here (room-moves (reached at count r) w e' (omega arith))
          (refl, ap (λ (f : Fill). f.base.0 + 0) (sound-slid r.fill v.window_sound r.mark.start.0 inside) ∙ zero')
      go (yes z) (some c) p =
          as-here (room-wider (reached at count r) w e' z (of_capacity c r.fill) (sym (ap (λ (o : Option ℕ). wider o r.fill) p))) (refl, refl)
      go (yes z) none p = as-here (room-none (reached at count r) w e' z (sym (ap (λ (o : Option ℕ). wider o r.fill) p))) tt

  here-hunted : Here (hunted r w e)
  here-hunted = go (r.fill.told && eqb r.mark.start.0 r.fill.filled) refl
    where
      by-stop : (s : Recorded) (o : Stop) → Here (stopped o (reached s.out.at s.out.count r) w s.ends)
      by-stop s stop.Record = (refl, refl)
      by-stop s stop.Full = tt
      by-stop s stop.Filled = told' r.fill.told refl (dec_le r.slots s.out.count)
        where
          told' : (u : Bool) → r.fill.told ≡ u → Dec (r.slots ≤ s.out.count) → Here (stopped stop.Filled (reached s.out.at s.out.count r) w s.ends)
          told' false u d = as-here (filled-not (reached s.out.at s.out.count r) w s.ends u) (here-room s.out.at s.out.count s.ends)
          told' true u (yes d) =
              as-here (filled-told (reached s.out.at s.out.count r) w s.ends u ∙ closed-full (reached s.out.at s.out.count r) w s.ends s.out.at d) tt
          told' true u (no d) =
              as-here (filled-told (reached s.out.at s.out.count r) w s.ends u ∙ closed-more (reached s.out.at s.out.count r) w s.ends s.out.at (omega arith)) (refl, refl)

      go : (t : Bool) → (r.fill.told && eqb r.mark.start.0 r.fill.filled) ≡ t → Here (hunted r w e)
      go true t =
          let both = and-true r.fill.told (eqb r.mark.start.0 r.fill.filled) t in
          as-here (hunt-over r w e both.0 (eqb-true r.mark.start.0 r.fill.filled both.1)) tt
      go false t = as-here (hunt-goes r w e t (searches r w e) refl) (by-stop (searches r w e) (searches r w e).out.stop)

-- in the phases of a search
module _ (X : List ℕ) (C : ℕ) (r : Reader) (e : List ℕ) where
  searching-is : (p : Phase) → is_searching p ≡ true → (due_in p X C r e ≡ due_searched X C r e) × (rest_says p r ≡ none)
  searching-is phase.Lead s = absurd (false≢true s)
  searching-is phase.Sought s = absurd (false≢true s)
  searching-is phase.Searching s = (refl, refl)
  searching-is phase.Current s = absurd (false≢true s)
  searching-is phase.Ended s = absurd (false≢true s)
  searching-is phase.Over s = absurd (false≢true s)
  searching-is phase.Window s = absurd (false≢true s)
  searching-is phase.Table s = absurd (false≢true s)
  searching-is phase.Astray s = absurd (false≢true s)
  searching-is phase.Ahead s = (refl, refl)

module _ (X : List ℕ) (C : ℕ) (due : Dues) (d : Did) where
  -- an answer that gives no record and leaves none to be searched
  quiet : is_searching d.reader.phase ≡ false → is_given d.said ≡ false → Backs X C due d
  quiet a b =
      record {
        fresh = λ s. absurd (false≢true (sym a ∙ s));
        from = λ l k is. absurd (false≢true (sym b ∙ ap is_given is));
      }

  -- an ask, of a record that is fresh
  waiting : Fresh X C d.reader d.table → is_given d.said ≡ false → Backs X C due d
  waiting f b = record { fresh = f; from = λ l k is. absurd (false≢true (sym b ∙ ap is_given is)) }

  -- a step that stays in a record due from its start
  stays-back :
      (T l b : ℕ) (asking : Bool) → due ≡ from_here X C T l b (suc b) [] → d.reader.slots ≡ T → (s : Said) → d.said ≡ s →
      Stays s d.reader l b → Goes s due X C d.reader d.table → Settled s asking d.reader → Backs X C due d
  stays-back T l b asking is slots (asks p m o) said k goes settled =
      let same : from_here X C T l b (suc b) [] ≡ from_start X C d.reader =
      λ i. from_here X C (sym slots i) (sym k.0 i) (sym k.1 i) (suc (sym k.1 i)) [] in
      record {
        fresh = λ s. sym (searching-is X C d.reader d.table d.reader.phase s).0 ∙ goes.0 ∙ is ∙ same;
        from = λ l' b' gave. absurd (false≢true (ap is_given (sym said ∙ gave)));
      }
  stays-back T l b asking is slots (gives l' b') said k goes settled =
      let now = current-of l' b' d.reader d.table goes.first goes.says in
      record {
        fresh = λ s. absurd (false≢true (sym (ap is_searching now) ∙ s));
        from = λ l₁ b₁ gave. is ∙ (λ i. from_here X C (sym slots i) (sym k.0 i) (sym k.1 i) (suc (sym k.1 i)) []);
      }
  stays-back T l b asking is slots ends said k goes settled =
      record {
        fresh = λ s. absurd (none-ne-some ends (sym (searching-is X C d.reader d.table d.reader.phase s).1 ∙ settled.0));
        from = λ l' b' gave. absurd (false≢true (ap is_given (sym said ∙ gave)));
      }
  stays-back T l b asking is slots (refuses n vs) said k goes settled =
      record {
        fresh = λ s. absurd (none-ne-some _ (sym (searching-is X C d.reader d.table d.reader.phase s).1 ∙ settled.0));
        from = λ l' b' gave. absurd (false≢true (ap is_given (sym said ∙ gave)));
      }

backs-as : {X : List ℕ} {C : ℕ} {due due' : Dues} {d o : Did} → due ≡ due' → d ≡ o → Backs X C due' o → Backs X C due d
backs-as {X} {C} {due} {due'} {d} {o} p q k = subst (λ (x : Did). Backs X C due x) (sym q) (subst (λ (x : Dues). Backs X C x o) (sym p) k)

-- a search
hunt-backs :
    (X : List ℕ) (C : ℕ) (r : Reader) (w e : List ℕ) → Tells X C r w e → r.phase ≡ phase.Searching → ready r.fill ≡ true →
    due_searched X C r e ≡ from_start X C r → Backs X C (due_searched X C r e) (hunted r w e)
hunt-backs X C r w e t is full fresh =
    let s = hunts X C r w e t is full in
    stays-back X C (due_searched X C r e) (hunted r w e) r.slots r.mark.line (byte_of r) r.fill.asking fresh s.same.slots_are
    (hunted r w e).said refl (here-hunted r w e t.is_good.is-sane) s.goes s.settled

module _ (X : List ℕ) (C : ℕ) (r : Reader) (w e : List ℕ) (t : Tells X C r w e) where
  -- of a record that begins in the window
  begun-backs :
      (start line : ℕ) → Good (begins_at start line r) w e → ready r.fill ≡ true →
      Backs X C (from_here X C r.slots line (r.fill.base.0 + start) (suc (r.fill.base.0 + start)) []) (hunted (begins_at start line r) w e)
  begun-backs start line g full =
      let is = begun-due X C r e start line in
      backs-as (sym is) refl (hunt-backs X C (begins_at start line r) w e (begun-tells X C r w e t start line g) refl full is)

  lead-backs : r.phase ≡ phase.Lead → ready r.fill ≡ true → Backs X C (due_in phase.Lead X C r e) (led r w e)
  lead-backs is full = backs-as refl (led-by r w e b refl) (go b.undecided refl r.fill.told refl (eqb (get_or w b.at 0) 62) refl)
    where
      b : Blank
      b = lead-stop X C r w e t

      go : (o : Bool) → b.undecided ≡ o → (u : Bool) → r.fill.told ≡ u → (v : Bool) → eqb (get_or w b.at 0) 62 ≡ v → Backs X C (due_in phase.Lead X C r e) (led_to b r w e)
      go true o true u v x = backs-as refl (led_on r w e b o ∙ lead-over r w e b u) (quiet X C _ _ refl refl)
      go true o false u v x = backs-as refl (led_on r w e b o ∙ lead-asks r w e b u) (quiet X C _ _ (ap is_searching is) refl)
      go false o u told true x =
          let mark = eqb-true (get_or w b.at 0) 62 x in
          backs-as (lead-from X C r w e t o mark) (led-mark r w e b o mark)
          (begun-backs b.at (r.mark.line + b.lines) (lead-begins r w e t.is_good b (lead-in r w e t.is_good b refl)) full)
      go false o u told false x = backs-as refl (led-refused r w e b o (eqb-false (get_or w b.at 0) 62 x)) (quiet X C _ _ refl refl)

  sought-backs : ready r.fill ≡ true → Backs X C (due_in phase.Sought X C r e) (sought_at r w e)
  sought-backs full = go (ltb r.mark.start.0 r.fill.filled && eqb (get_or w r.mark.start.0 0) 62) refl
    where
      go : (u : Bool) → (ltb r.mark.start.0 r.fill.filled && eqb (get_or w r.mark.start.0 0) 62) ≡ u → Backs X C (due_in phase.Sought X C r e) (sought_at r w e)
      go true u =
          let both = and-true (ltb r.mark.start.0 r.fill.filled) (eqb (get_or w r.mark.start.0 0) 62) u in
          let there = ltb-true r.mark.start.0 r.fill.filled both.0 in
          let mark = eqb-true (get_or w r.mark.start.0 0) 62 both.1 in
          let m = t.is_good.is-sane in
          backs-as (sought-from X C r w e t there mark) (sought-mark r w e there mark)
          (begun-backs r.mark.start.0 r.mark.line
          (begins-good r w e t.is_good r.mark.start.0 r.mark.line (le_trans m.start_search m.search_filled) m.line_least m.line_most) full)
      go false u = backs-as refl (sought-astray r w e u) (quiet X C _ _ refl refl)

  behind-backs : Backs X C (due_in phase.Current X C r e) (behind r w e)
  behind-backs = go (r.fill.told && eqb r.mark.search.0 r.fill.filled) refl (ready r.fill) refl
    where
      go :
          (u : Bool) → (r.fill.told && eqb r.mark.search.0 r.fill.filled) ≡ u → (v : Bool) → ready r.fill ≡ v →
          Backs X C (due_in phase.Current X C r e) (behind r w e)
      go true u v p =
          let both = and-true r.fill.told (eqb r.mark.search.0 r.fill.filled) u in
          backs-as refl (behind-ended r w e both.0 (eqb-true r.mark.search.0 r.fill.filled both.1)) (quiet X C _ _ refl refl)
      go false u true p =
          backs-as refl (behind-next r w e u ∙ is-ready hunted (passed r) w e p)
          (begun-backs r.mark.search.0 (r.mark.line + r.mark.count) (passed-good r w e t.is_good) p)
      go false u false p =
          backs-as refl (behind-next r w e u ∙ waits hunted (passed r) w e p)
          (waiting X C _ _ (λ s. begun-due X C r e r.mark.search.0 (r.mark.line + r.mark.count)) refl)

  ready-backs :
      (due : Dues) (f : Reader → List ℕ → List ℕ → Did) → is_searching r.phase ≡ false →
      (ready r.fill ≡ true → Backs X C due (f r w e)) → Backs X C due (when_ready f r w e)
  ready-backs due f no' then' = go (ready r.fill) refl
    where
      go : (u : Bool) → ready r.fill ≡ u → Backs X C due (when_ready f r w e)
      go true u = backs-as refl (is-ready f r w e u) (then' u)
      go false u = backs-as refl (waits f r w e u) (quiet X C _ _ no' refl)

  -- a record that is searched on
  onward-backs : is_searching r.phase ≡ true → Fresh X C r e → Backs X C (due_searched X C r e) (onward r w e)
  onward-backs is fresh = go (ready r.fill) refl
    where
      go : (u : Bool) → ready r.fill ≡ u → Backs X C (due_searched X C r e) (onward r w e)
      go true u =
          backs-as refl
          (onward-goes r w e u ∙ on-rising r w e (kept-rising r w e (kept-searched {own = true} r w e t.is_good (t.is_behind is)) refl))
          (hunt-backs X C (in_phase phase.Searching r) w e
          (tells-with X C r w e t r.mark phase.Searching e refl (searching-good r w e t.is_good) (λ s. t.is_behind is)) refl u (fresh is))
      go false u = backs-as refl (onward-waits r w e u) (waiting X C _ _ (λ s. fresh is) refl)

  phase-backs : Fresh X C r e → (p : Phase) → r.phase ≡ p → Backs X C (due_in p X C r e) (read_in p r w e)
  phase-backs fresh phase.Lead is = ready-backs _ led (ap is_searching is) (lead-backs is)
  phase-backs fresh phase.Sought is = ready-backs _ sought_at (ap is_searching is) sought-backs
  phase-backs fresh phase.Searching is = onward-backs (ap is_searching is) fresh
  phase-backs fresh phase.Current is = behind-backs
  phase-backs fresh phase.Ended is = quiet X C _ _ (ap is_searching is) refl
  phase-backs fresh phase.Over is = quiet X C _ _ (ap is_searching is) refl
  phase-backs fresh phase.Window is = quiet X C _ _ (ap is_searching is) refl
  phase-backs fresh phase.Table is = quiet X C _ _ (ap is_searching is) refl
  phase-backs fresh phase.Astray is = quiet X C _ _ (ap is_searching is) refl
  phase-backs fresh phase.Ahead is = onward-backs (ap is_searching is) fresh

  -- a read
  pub read-backs : Fresh X C r e → Backs X C (due_to X C r e) (read_of r w e)
  read-backs fresh = go (not (lasts r.phase) && r.fill.asking) refl
    where
      fine : sane r ≡ true
      fine = sane-true r t.is_good.is-sane

      lent : lent_as r (length w) (length e) ≡ true
      lent = lent-true r w e t.is_good.window_lent t.is_good.table_lent

      go : (u : Bool) → (not (lasts r.phase) && r.fill.asking) ≡ u → Backs X C (due_to X C r e) (read_of r w e)
      go true u =
          let both = and-true (not (lasts r.phase)) r.fill.asking u in
          backs-as refl (read-repeats r w e fine lent (not-true (lasts r.phase) both.0) both.1) (waiting X C _ _ fresh refl)
      go false u = backs-as refl (read_goes r w e fine lent u) (phase-backs fresh r.phase refl)

  -- a record that a read gave and that is put back: all is due again
  pub read-put-back :
      Fresh X C r e → (l b : ℕ) → (read_of r w e).said ≡ gives l b →
      due_to X C (put_back_of (read_of r w e).reader) (read_of r w e).table ≡ due_to X C r e
  read-put-back fresh l b gave =
      let d = read_of r w e in
      let k = subst (λ (s : Said). Goes s (due_to X C r e) X C d.reader d.table) gave (steps X C r w e t).goes in
      put-back-due X C d.reader d.window d.table (still-tells X C r w e t) (current-of l b d.reader d.table k.first k.says)
      ∙ sym ((read-backs fresh).from l b gave)

-- the other calls leave a reader fresh: a report, and those that leave no record to be searched
pub fresh-report : (X : List ℕ) (C n : ℕ) (r : Reader) (e : List ℕ) → Fresh X C r e → Fresh X C (with_fill (filled_by n r.fill) r) e
fresh-report X C zero r e f = f
fresh-report X C (suc n) r e f = f

pub fresh-other : (X : List ℕ) (C : ℕ) (r : Reader) (e : List ℕ) → is_searching r.phase ≡ false → Fresh X C r e
fresh-other X C r e no' = λ s. absurd (false≢true (sym no' ∙ s))

module _ (X : List ℕ) (C : ℕ) (r : Reader) (w e : List ℕ) (t : Tells X C r w e) (is : r.phase ≡ phase.Current) where
  pub fresh-look : Fresh X C (look_of r w e).reader (look_of r w e).table
  fresh-look = go (look_of r w e).seen (look-steps X C r w e t is).sees
    where
      go : (s : Seen) → Sees s (due_to X C r e) X C (look_of r w e).reader (look_of r w e).table → Fresh X C (look_of r w e).reader (look_of r w e).table
      go (whole l b) k =
          fresh-other X C (look_of r w e).reader (look_of r w e).table
          (ap is_searching (current-of l b (look_of r w e).reader (look_of r w e).table k.0.first k.0.says))
      go unfinished k = λ s. sym (searching-is X C (look_of r w e).reader (look_of r w e).table (look_of r w e).reader.phase s).0 ∙ k.0 ∙ k.1
      go over k = fresh-other X C (look_of r w e).reader (look_of r w e).table (ap is_searching k.1.1)
      go (denied n) k = absurd k

  pub fresh-put-back : Fresh X C (put_back_of r) e
  fresh-put-back =
      subst (λ (x : Reader). Fresh X C x e) (sym (back_is X C r w e t is)) (λ s. begun-due X C r e r.mark.start.0 r.mark.line)
