-- A read in the lead, in a window that is full or at the told end, is a step of demand 3: blank lines alone are dropped, or are the end; the first other line
-- begins a record, or is refused (01, "The window and its refills", refusal 2). The bytes are those of LeadBytes.antt. Assumes nothing.
use Prim.Native.Nat.{ℕ, suc, ◌+◌}
use native.Mathlib.Omega.{arith}
use native.Mathlib.Nat.{add-zero}
use mathlib.Core.Bool.{Bool, true, false, false≢true}
use mathlib.Core.List.{List, [], ◌∷◌}
use mathlib.Core.Path.{◌≡◌, refl, sym, ap, subst, ◌∙◌}
use lib.ListN.{get_or, take, drop}
use lib.Dec.{eqb}
use borrow.Author.Tests.{eqb-true, eqb-false, eq-eqb, ne_eqb}
use Rattle.meaning.specs.OnePass.{marks, Marked, good, lead_marks, due_marks}
use Rattle.meaning.specs.Due.{due_by}
use Rattle.meaning.specs.Due as meant
use Rattle.scan.specs.Search.{lead_at}
use Rattle.scan.specs.declared.line.Blank.{Blank}
use Rattle.window.specs.Fill.{asking, ready, dropped}
use Rattle.window.proofs.Laws.{sound-slid, sound-slid-window}
use Rattle.reader.specs.declared.state.Reader.{Reader}
use Rattle.reader.specs.declared.state.Phase.{Phase}
use Rattle.reader.specs.declared.state.Phase.TheVariants as phase
use Rattle.reader.specs.State.{byte_of, with_fill, with_mark, in_phase, mark_at}
use Rattle.reader.specs.Read.{ends, refuses, asked, led_to, lead_on, LeadIn}
use Rattle.reader.proofs.ReadLaws.{led-by, led_on, led-mark, led-refused, lead-over, lead-asks, lead-in, lead-begins}
use Rattle.runs.proofs.Tells.{Dues, judge, from_here, due_in, is_sought, is_table, Tells, Step, Hunts, Leads}
use Rattle.runs.proofs.LeadBytes.{first_line, Meets, lead-meets}
use Rattle.runs.proofs.Begun.{at_rest, text-from, text-byte, text-slid, from-mark, step-as, window-fits, at-end, step-rests, begun-step}

-- what is due for what one pass found
module _ (C T : ℕ) where
  due-none : due_marks C T (good []) ≡ meant.ends ∷ []
  unfolding due_marks due_by
  due-none = refl

  due-first : (l p x : ℕ) (xs : List ℕ) → x ≡ 62 → due_marks C T (first_line l p (x ∷ xs)) ≡ judge C T (marks l p (suc p) [] xs false)
  unfolding due_marks
  due-first l p x xs is = rw (eq-eqb x 62 is)

  due-refused : (l p x : ℕ) (xs : List ℕ) → (x ≡ 62 → ⊥) → due_marks C T (first_line l p (x ∷ xs)) ≡ meant.refuses 2 (l ∷ x ∷ []) ∷ meant.ends ∷ []
  unfolding due_marks
  due-refused l p x xs other = rw (ne_eqb x 62 other)

module _ (X : List ℕ) (C : ℕ) (r : Reader) (w e : List ℕ) (t : Tells X C r w e) where
  abbrev base : ℕ
  base = r.fill.base.0

  abbrev found : Marked
  found = lead_marks r.mark.line (byte_of r) (drop (byte_of r) X) false

  abbrev due : Dues
  due = due_in phase.Lead X C r e

  abbrev pub stop : Blank
  stop = lead_at (drop r.mark.start.0 (take r.fill.filled w)) r.mark.start.0 0

  inside : LeadIn stop r
  inside = lead-in r w e t.is_good stop refl

  -- one pass finds from the start what it finds where the lead stops
  meets : Meets X base r.mark.line (drop (base + r.fill.filled) X) found stop
  meets =
      let m = t.is_good.is-sane in
      let bytes = text-from X w base r.fill.filled t.text (window-fits X C r w e t) r.mark.start.0
      (omega (arith, m.start_search, m.search_filled)) in
      subst (λ (xs : List ℕ). Meets X base r.mark.line (drop (base + r.fill.filled) X) (lead_marks r.mark.line (byte_of r) xs false) stop) (sym bytes)
      (lead-meets X base r.mark.line (drop (base + r.fill.filled) X) (drop r.mark.start.0 (take r.fill.filled w))
      r.mark.start.0 0 r.mark.line (byte_of r) refl (omega arith) bytes)

  -- blank lines to the told end
  over : stop.undecided ≡ true → r.fill.told ≡ true → Step X C r due (lead_on stop r w e)
  over open' told =
      step-as (ap (due_marks C r.slots) (meets.is_over open' (at-end X C r w e t told)) ∙ due-none C r.slots) (lead-over r w e stop told)
      (step-rests X C r w e t ends r.mark phase.Over e (meant.ends ∷ []) refl (at_rest (in_phase phase.Over r) refl refl) (refl, refl)
      (record { first = meant.ends; rest = []; due_is = refl; says = tt; then_due = refl }))

  -- blank lines that fill the window
  drops : r.phase ≡ phase.Lead → stop.undecided ≡ true → r.fill.told ≡ false → Step X C r due (lead_on stop r w e)
  drops is open' told =
      let v = t.is_good.is-sane.window_sound in
      let high = inside.at_filled in
      let n = stop.at in
      let mark = mark_at 0 0 0 (r.mark.line + stop.lines) in
      step-as refl
      (lead-asks r w e stop told
      ∙ (λ i. asked (with_fill (sound-slid r.fill v n high i) (with_mark mark r)) (sound-slid-window r.fill v n w high i) e))
      (record {
        goes = (
          ap (λ (p : Phase). due_in p X C (with_fill (asking true (dropped n r.fill)) (with_mark mark r)) e) is
              ∙ ap (λ (p : ℕ). due_marks C r.slots (lead_marks (r.mark.line + stop.lines) p (drop p X) false)) (add-zero (base + n))
              ∙ ap (due_marks C r.slots) (sym (meets.goes-on open')),
          (refl, refl),
        );
        text = text-slid X w base r.fill.filled t.text (window-fits X C r w e t) n high;
        told = λ yes'. absurd (false≢true (sym told ∙ yes'));
        largest_is = t.largest_is;
        sought_inside = λ at. absurd (false≢true (ap is_sought (sym is) ∙ at));
        same = record { reaches = omega arith; end_told = refl; slots_are = refl; lent_is = refl };
        rests = λ k. record { at_front = λ at. refl; all_slots = λ at. absurd (false≢true (ap is_table (sym is) ∙ at)) };
        settled = tt;
      })

  -- a line that is not blank
  module _ (shut : stop.undecided ≡ false) where
    abbrev first : ℕ
    first = get_or w stop.at 0

    here : drop (base + stop.at) X ≡ first ∷ drop (suc (base + stop.at)) X
    here = text-byte X w base r.fill.filled t.text (window-fits X C r w e t) stop.at (inside.decided shut)

    due-there : due ≡ due_marks C r.slots (first_line (r.mark.line + stop.lines) (base + stop.at) (first ∷ drop (suc (base + stop.at)) X))
    due-there =
        ap (due_marks C r.slots) (meets.is_first shut ∙ ap (first_line (r.mark.line + stop.lines) (base + stop.at)) here)

    -- a record begins there
    pub lead-from : first ≡ 62 → due ≡ from_here X C r.slots (r.mark.line + stop.lines) (base + stop.at) (suc (base + stop.at)) []
    lead-from is =
        let line = r.mark.line + stop.lines in
        let rest = drop (suc (base + stop.at)) X in
        due-there
        ∙ due-first C r.slots line (base + stop.at) first rest is
        ∙ sym (from-mark X C r.slots line (base + stop.at) rest (here ∙ ap (λ (x : ℕ). x ∷ rest) is))

    begins : Hunts → ready r.fill ≡ true → first ≡ 62 → Step X C r due (led_to stop r w e)
    begins hunts full is =
        step-as (lead-from is) (led-mark r w e stop shut is)
        (begun-step X C r w e t stop.at (r.mark.line + stop.lines) (lead-begins r w e t.is_good stop inside) hunts full)

    refused : (first ≡ 62 → ⊥) → Step X C r due (led_to stop r w e)
    refused other =
        let line = r.mark.line + stop.lines in
        let values = line ∷ first ∷ [] in
        step-as
        (due-there ∙ due-refused C r.slots line (base + stop.at) first (drop (suc (base + stop.at)) X) other)
        (led-refused r w e stop shut other)
        (step-rests X C r w e t (refuses 2 values) r.mark phase.Over e (meant.refuses 2 values ∷ meant.ends ∷ []) refl (at_rest (in_phase phase.Over r) refl refl) (refl, refl)
        (record {
          first = meant.refuses 2 values;
          rest = meant.ends ∷ [];
          due_is = refl;
          says = (refl, refl);
          then_due = refl;
        }))

pub leads : Hunts → Leads
leads hunts X C r w e t is full =
    step-as refl (led-by r w e b refl) (go b.undecided refl r.fill.told refl (eqb (get_or w b.at 0) 62) refl)
  where
    b : Blank
    b = stop X C r w e t

    go : (o : Bool) → b.undecided ≡ o → (u : Bool) → r.fill.told ≡ u → (v : Bool) → eqb (get_or w b.at 0) 62 ≡ v
        → Step X C r (due_in phase.Lead X C r e) (led_to b r w e)
    go true o true u v x = step-as refl (led_on r w e b o) (over X C r w e t o u)
    go true o false u v x = step-as refl (led_on r w e b o) (drops X C r w e t is o u)
    go false o u told true x = begins X C r w e t o hunts full (eqb-true (get_or w b.at 0) 62 x)
    go false o u told false x = refused X C r w e t o (eqb-false (get_or w b.at 0) 62 x)
