-- A read after a seek, and a read behind a current record, are steps of demand 3: at the place sought a record begins, or refusal 5 lasts; behind a record
-- the next one begins, or the input has ended (01, refusal 5 and "The window and its refills"). Assumes nothing.
use Prim.Native.Nat.{ℕ, suc, ◌+◌, ◌≤◌, ◌<◌}
use native.Mathlib.Decide.{dec_le}
use native.Mathlib.Nat.{le_trans}
use native.Mathlib.Omega.{arith}
use mathlib.Core.Bool.{Bool, true, false, ◌&&◌, false≢true}
use mathlib.Core.List.{List, [], ◌∷◌}
use mathlib.Core.Logic.{inl, inr}
use mathlib.Core.Path.{◌≡◌, refl, sym, ap, ◌∙◌}
use lib.ListN.{get_or, drop}
use lib.Dec.{eqb, ltb}
use borrow.Author.Tests.{eqb-true, eqb-false, ne_eqb, le-ltb}
use Rattle.meaning.specs.OnePass.{marks}
use Rattle.meaning.specs.Due as meant
use Rattle.window.specs.Fill.{ready}
use Rattle.reader.specs.declared.state.Reader.{Reader}
use Rattle.reader.specs.declared.state.Phase.TheVariants as phase
use Rattle.reader.specs.State.{byte_of, in_phase}
use Rattle.reader.specs.Read.{ends, refuses, asked, hunted, passed, when_ready, sought_at, behind}
use Rattle.reader.proofs.Sanity.{and-true}
use Rattle.reader.proofs.ReadLaws.{begins-good, passed-good, sought-mark, sought-astray, behind-ended, behind-next, waits, is-ready, neither}
use Rattle.runs.proofs.Tells.{judge, unless_over, from_here, at_sought, due_in, is_sought, Tells, Step, Hunts, Soughts, Behinds}
use Rattle.runs.proofs.Begun.{at_rest, ready-full, unready-told, text-byte, from-mark, step-as, begun-due, window-fits, at-end, step-rests, begun-step}

module _ (X : List ℕ) (C : ℕ) (r : Reader) (w e : List ℕ) (t : Tells X C r w e) where
  abbrev base : ℕ
  base = r.fill.base.0

  abbrev start : ℕ
  start = r.mark.start.0

  start-filled : start ≤ r.fill.filled
  start-filled = le_trans t.is_good.is-sane.start_search t.is_good.is-sane.search_filled

  -- a byte stands at the place sought
  module _ (there : start < r.fill.filled) where
    here : drop (byte_of r) X ≡ get_or w start 0 ∷ drop (suc (byte_of r)) X
    here = text-byte X w base r.fill.filled t.text (window-fits X C r w e t) start there

    pub sought-from : get_or w start 0 ≡ 62 → due_in phase.Sought X C r e ≡ from_here X C r.slots r.mark.line (byte_of r) (suc (byte_of r)) []
    sought-from is =
        let rest = drop (suc (byte_of r)) X in
        let mark : drop (byte_of r) X ≡ 62 ∷ rest = here ∙ ap (λ (x : ℕ). x ∷ rest) is in
        ap (at_sought C r.slots r.mark.line (byte_of r)) mark ∙ sym (from-mark X C r.slots r.mark.line (byte_of r) rest mark)

    sought-begins : Hunts → ready r.fill ≡ true → get_or w start 0 ≡ 62 → Step X C r (due_in phase.Sought X C r e) (sought_at r w e)
    sought-begins hunts full is =
        let m = t.is_good.is-sane in
        step-as (sought-from is) (sought-mark r w e there is)
        (begun-step X C r w e t start r.mark.line
        (begins-good r w e t.is_good start r.mark.line start-filled m.line_least m.line_most) hunts full)

    due-other : (get_or w start 0 ≡ 62 → ⊥) → due_in phase.Sought X C r e ≡ meant.refuses 5 [] ∷ []
    due-other other = ap (at_sought C r.slots r.mark.line (byte_of r)) here ∙ rw (ne_eqb (get_or w start 0) 62 other)

  -- nothing stands there: a full window holds the place, so the input has ended
  due-nothing : r.phase ≡ phase.Sought → ready r.fill ≡ true → r.fill.filled ≤ start → due_in phase.Sought X C r e ≡ meant.refuses 5 [] ∷ []
  due-nothing is full past = go r.fill.told refl
    where
      at : start ≡ r.fill.filled
      at = omega (arith, start-filled)

      go : (o : Bool) → r.fill.told ≡ o → due_in phase.Sought X C r e ≡ meant.refuses 5 [] ∷ []
      go true told =
          ap (at_sought C r.slots r.mark.line (byte_of r)) (ap (λ (n : ℕ). drop (base + n) X) at ∙ at-end X C r w e t told)
      go false told =
          let inside = t.sought_inside (ap is_sought is) in
          absurd (omega (arith, ready-full r.fill full told))

  astray :
      due_in phase.Sought X C r e ≡ meant.refuses 5 [] ∷ [] →
      (ltb start r.fill.filled && eqb (get_or w start 0) 62) ≡ false →
      Step X C r (due_in phase.Sought X C r e) (sought_at r w e)
  astray due no' =
      step-as due (sought-astray r w e no')
      (step-rests X C r w e t (refuses 5 []) r.mark phase.Astray e (meant.refuses 5 [] ∷ []) refl (at_rest (in_phase phase.Astray r) refl refl) (refl, refl)
      (record {
        first = meant.refuses 5 [];
        rest = [];
        due_is = refl;
        says = (refl, refl);
        then_due = refl;
      }))

  -- behind a current record, at the told end
  behind-over : r.fill.told ≡ true → r.mark.search.0 ≡ r.fill.filled → Step X C r (due_in phase.Current X C r e) (behind r w e)
  behind-over told at =
      let b = base + r.mark.search.0 in
      step-as
      (ap (λ (xs : List ℕ). unless_over xs (judge C r.slots (marks (r.mark.line + r.mark.count) b (suc b) [] (drop (suc b) X) false)))
      (ap (λ (n : ℕ). drop (base + n) X) at ∙ at-end X C r w e t told))
      (behind-ended r w e told at)
      (step-rests X C r w e t ends r.mark phase.Ended e (meant.ends ∷ []) refl (at_rest (in_phase phase.Ended r) refl refl) (refl, refl)
      (record { first = meant.ends; rest = []; due_is = refl; says = tt; then_due = refl }))

  -- the next record waits for a full window or the end
  behind-waits : ready r.fill ≡ false → Step X C r (due_in phase.Current X C r e) (asked (passed r) w e)
  behind-waits no' =
      record {
        goes = (begun-due X C r e r.mark.search.0 (r.mark.line + r.mark.count), (refl, refl));
        text = t.text;
        told = λ is. absurd (false≢true (sym (unready-told r.fill no') ∙ is));
        largest_is = t.largest_is;
        sought_inside = λ is. absurd (false≢true is);
        same = record { reaches = refl; end_told = refl; slots_are = refl; lent_is = refl };
        rests = λ k. at_rest (asked (passed r) w e).reader refl refl;
        settled = tt;
      }

  behind-goes : Hunts → Step X C r (due_in phase.Current X C r e) (when_ready hunted (passed r) w e)
  behind-goes hunts = go (ready r.fill) refl
    where
      go : (o : Bool) → ready r.fill ≡ o → Step X C r (due_in phase.Current X C r e) (when_ready hunted (passed r) w e)
      go true o =
          step-as refl (is-ready hunted (passed r) w e o)
          (begun-step X C r w e t r.mark.search.0 (r.mark.line + r.mark.count) (passed-good r w e t.is_good) hunts o)
      go false o = step-as refl (waits hunted (passed r) w e o) (behind-waits o)

-- a read after a seek, in a window that is full or at the told end
pub soughts : Hunts → Soughts
soughts hunts X C r w e t is full = go (dec_le r.fill.filled r.mark.start.0) (eqb (get_or w r.mark.start.0 0) 62) refl
  where
    test : Bool
    test = ltb r.mark.start.0 r.fill.filled

    go :
        Dec (r.fill.filled ≤ r.mark.start.0) →
        (v : Bool) →
        eqb (get_or w r.mark.start.0 0) 62 ≡ v →
        Step X C r (due_in phase.Sought X C r e) (sought_at r w e)
    go (yes past) v x =
        astray X C r w e t (due-nothing X C r w e t is full past)
        (neither test (eqb (get_or w r.mark.start.0 0) 62) (inl (le-ltb r.mark.start.0 r.fill.filled past)))
    go (no u) true x = sought-begins X C r w e t (omega arith) hunts full (eqb-true (get_or w r.mark.start.0 0) 62 x)
    go (no u) false x =
        astray X C r w e t (due-other X C r w e t (omega arith) (eqb-false (get_or w r.mark.start.0 0) 62 x))
        (neither test (eqb (get_or w r.mark.start.0 0) 62) (inr x))

-- a read behind a current record
pub behinds : Hunts → Behinds
behinds hunts X C r w e t is = go (r.fill.told && eqb r.mark.search.0 r.fill.filled) refl
  where
    go : (o : Bool) → (r.fill.told && eqb r.mark.search.0 r.fill.filled) ≡ o → Step X C r (due_in phase.Current X C r e) (behind r w e)
    go true o =
        let both = and-true r.fill.told (eqb r.mark.search.0 r.fill.filled) o in
        behind-over X C r w e t both.0 (eqb-true r.mark.search.0 r.fill.filled both.1)
    go false o = step-as refl (behind-next r w e o) (behind-goes X C r w e t hunts)
