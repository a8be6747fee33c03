-- One read: whatever the phase, it asks and the same is due, or it says what is due next. Assumes nothing.
use Prim.Native.Nat.{ℕ}
use mathlib.Core.Bool.{Bool, true, false, not, ◌&&◌, false≢true}
use mathlib.Core.List.{List, [], ◌∷◌}
use mathlib.Core.Option.{some}
use mathlib.Core.Path.{◌≡◌, refl, sym, ap, subst, ◌∙◌}
use lib.ListN.{length}
use borrow.Author.Tests.{not-true}
use Rattle.window.specs.Fill.{asking, ready}
use Rattle.meaning.specs.Due as meant
use Rattle.reader.specs.declared.state.Reader.{Reader}
use Rattle.reader.specs.declared.state.Phase.{Phase}
use Rattle.reader.specs.declared.state.Phase.TheVariants as phase
use Rattle.reader.specs.State.{sane, lent_as, with_fill, in_phase, ends_rise}
use Rattle.reader.specs.Read.{Said, ends, refuses, Did, does, asked, ask_for, placed, when_ready, led, sought_at, onward, lasts, read_in, read_of}
use Rattle.reader.proofs.Sanity.{and-true, sane-true}
use Rattle.reader.proofs.ReadLaws.{waits, is-ready, onward-waits, onward-goes, on-rising, searching-good, lent-true, read-repeats, read_goes}
use Rattle.reader.proofs.Kept.{is_searching, kept-searched, kept-rising}
use Rattle.meaning.specs.OnePass.{Mark}
use Rattle.runs.proofs.Keeping.{by_read, read-good}
use Rattle.runs.proofs.Begun.{at_rest, step-as, unready-told}
use Rattle.runs.proofs.Tells.{Dues, due_searched, due_in, due_to, later, Tells, rest_says, Settled, Says, Goes, Answers, Step}
use Rattle.runs.proofs.Hunt.{hunts}
use Rattle.runs.proofs.Lead.{leads}
use Rattle.runs.proofs.Sought.{soughts, behinds}

-- an ask changes nothing that is due
due-asking : (p : Phase) (X : List ℕ) (C : ℕ) (r : Reader) (e : List ℕ) → due_in p X C (with_fill (asking true r.fill) r) e ≡ due_in p X C r e
due-asking phase.Lead X C r e = refl
due-asking phase.Sought X C r e = refl
due-asking phase.Searching X C r e = refl
due-asking phase.Current X C r e = refl
due-asking phase.Ended X C r e = refl
due-asking phase.Over X C r e = refl
due-asking phase.Window X C r e = refl
due-asking phase.Table X C r e = refl
due-asking phase.Astray X C r e = refl
due-asking phase.Ahead X C r e = refl

module _ (X : List ℕ) (C : ℕ) (r : Reader) (w e : List ℕ) (t : Tells X C r w e) where
  -- a read that changes nothing
  same_step : (s : Said) → Goes s (due_to X C r e) X C r e → Settled s r.fill.asking r → Step X C r (due_to X C r e) (does s r w e)
  same_step s goes settled =
      record {
        goes = goes;
        text = t.text;
        told = t.told;
        largest_is = t.largest_is;
        sought_inside = t.sought_inside;
        same = record { reaches = refl; end_told = refl; slots_are = refl; lent_is = refl };
        rests = λ k. k;
        settled = settled;
      }

  -- an ask, where the end was not told
  pub asked-step : r.fill.told ≡ false → Step X C r (due_to X C r e) (asked r w e)
  asked-step quiet =
      record {
        goes = (due-asking r.phase X C r e, (refl, refl));
        text = t.text;
        told = λ is. absurd (false≢true (sym quiet ∙ is));
        largest_is = t.largest_is;
        sought_inside = t.sought_inside;
        same = record { reaches = refl; end_told = refl; slots_are = refl; lent_is = refl };
        rests = λ k. record { at_front = k.at_front; all_slots = k.all_slots };
        settled = tt;
      }

  ready-step :
      (f : Reader → List ℕ → List ℕ → Did) →
      (ready r.fill ≡ true → Step X C r (due_to X C r e) (f r w e)) →
      Step X C r (due_to X C r e) (when_ready f r w e)
  ready-step f then' = go (ready r.fill) refl
    where
      go : (u : Bool) → ready r.fill ≡ u → Step X C r (due_to X C r e) (when_ready f r w e)
      go true u = step-as refl (is-ready f r w e u) (then' u)
      go false u = step-as refl (waits f r w e u) (asked-step (unready-told r.fill u))

  -- the last answer, which repeats
  last_step : (s : Said) (a : meant.Said Mark) (p : Phase) → r.phase ≡ p → due_in p X C r e ≡ a ∷ [] → Says s a r e → Answers s (due_to X C r e) X C r e
  last_step s a p is one says =
      let due_is : due_to X C r e ≡ a ∷ [] = ap (λ (q : Phase). due_in q X C r e) is ∙ one in
      record { first = a; rest = []; due_is = due_is; says = says; then_due = due_is ∙ sym (ap later due_is) }

module _ (X : List ℕ) (C : ℕ) (r : Reader) (w e : List ℕ) (t : Tells X C r w e) where
  in-phase : (p : Phase) → r.phase ≡ p → {due : Dues} → due_to X C r e ≡ due → {d : Did} → Step X C r (due_in p X C r e) d → Step X C r due d
  in-phase p is {due} same {d} s =
      subst (λ (o : Dues). Step X C r o d) (sym (ap (λ (q : Phase). due_in q X C r e) is) ∙ same) s

  abbrev on : Reader
  on = in_phase phase.Searching r

  -- a record that is searched on, from its ends so far, which rise: whatever the phase before, it is searched from now on
  on_step : is_searching r.phase ≡ true → Step X C r (due_searched X C r e) (onward r w e)
  on_step is = go (ready r.fill) refl
    where
      rises : ends_rise r e ≡ true
      rises = kept-rising r w e (kept-searched {own = true} r w e t.is_good (t.is_behind is)) refl

      tells : Tells X C on w e
      tells =
          record {
            is_good = searching-good r w e t.is_good;
            is_behind = λ s. t.is_behind is;
            sought_inside = λ s. absurd (false≢true s);
            text = t.text;
            told = λ s. let k = t.told s in record { is_all = k.is_all; has_room = k.has_room; is_quiet = k.is_quiet };
            largest_is = t.largest_is;
          }

      from : {d : Did} → Step X C on (due_searched X C r e) d → Step X C r (due_searched X C r e) d
      from s =
          record {
            goes = s.goes;
            text = s.text;
            told = s.told;
            largest_is = s.largest_is;
            sought_inside = s.sought_inside;
            same = record { reaches = s.same.reaches; end_told = s.same.end_told; slots_are = s.same.slots_are; lent_is = s.same.lent_is };
            rests = λ k. s.rests (at_rest on refl refl);
            settled = s.settled;
          }

      go : (u : Bool) → ready r.fill ≡ u → Step X C r (due_searched X C r e) (onward r w e)
      go true u = step-as refl (onward-goes r w e u ∙ on-rising r w e rises) (from (hunts X C on w e tells refl u))
      go false u = step-as refl (onward-waits r w e u) (from (asked-step X C on w e tells (unready-told r.fill u)))

  settles : (p : Phase) → r.phase ≡ p → {a : Said} → rest_says p r ≡ some a → (rest_says r.phase r ≡ some a) × (r.fill.asking ≡ r.fill.asking)
  settles p is says = (ap (λ (q : Phase). rest_says q r) is ∙ says, refl)

  by-phase : (p : Phase) → r.phase ≡ p → Step X C r (due_to X C r e) (read_in p r w e)
  by-phase phase.Lead is = ready-step X C r w e t led (λ full. in-phase phase.Lead is refl (leads hunts X C r w e t is full))
  by-phase phase.Sought is = ready-step X C r w e t sought_at (λ full. in-phase phase.Sought is refl (soughts hunts X C r w e t is full))
  by-phase phase.Searching is = in-phase phase.Searching is refl (on_step (ap is_searching is))
  by-phase phase.Current is = in-phase phase.Current is refl (behinds hunts X C r w e t is)
  by-phase phase.Ended is = same_step X C r w e t ends (last_step X C r w e t ends meant.ends phase.Ended is refl tt) (settles phase.Ended is refl)
  by-phase phase.Over is = same_step X C r w e t ends (last_step X C r w e t ends meant.ends phase.Over is refl tt) (settles phase.Over is refl)
  by-phase phase.Window is =
      same_step X C r w e t (refuses 3 (placed r)) (last_step X C r w e t (refuses 3 (placed r)) (meant.refuses 3 (placed r)) phase.Window is refl (refl, refl)) (settles phase.Window is refl)
  by-phase phase.Table is =
      same_step X C r w e t (refuses 4 (placed r)) (last_step X C r w e t (refuses 4 (placed r)) (meant.refuses 4 (placed r)) phase.Table is refl (refl, refl)) (settles phase.Table is refl)
  by-phase phase.Astray is =
      same_step X C r w e t (refuses 5 []) (last_step X C r w e t (refuses 5 []) (meant.refuses 5 []) phase.Astray is refl (refl, refl)) (settles phase.Astray is refl)
  by-phase phase.Ahead is = in-phase phase.Ahead is refl (on_step (ap is_searching is))

  fine : sane r ≡ true
  fine = sane-true r t.is_good.is-sane

  lent : lent_as r (length w) (length e) ≡ true
  lent = lent-true r w e t.is_good.window_lent t.is_good.table_lent

  pub steps : Step X C r (due_to X C r e) (read_of r w e)
  steps = go (not (lasts r.phase) && r.fill.asking) refl
    where
      go : (u : Bool) → (not (lasts r.phase) && r.fill.asking) ≡ u → Step X C r (due_to X C r e) (read_of r w e)
      go true u =
          let both = and-true (not (lasts r.phase)) r.fill.asking u in
          step-as refl (read-repeats r w e fine lent (not-true (lasts r.phase) both.0) both.1) (same_step X C r w e t (ask_for r) (refl, (both.1, refl)) tt)
      go false u = step-as refl (read_goes r w e fine lent u) (by-phase r.phase refl)

  -- and the relation holds again
  pub still-tells : Tells X C (read_of r w e).reader (read_of r w e).window (read_of r w e).table
  still-tells =
      record {
        is_good = read-good r w e t.is_good t.is_behind;
        is_behind = by_read r w e t.is_good t.is_behind;
        sought_inside = steps.sought_inside;
        text = steps.text;
        told = steps.told;
        largest_is = steps.largest_is;
      }
