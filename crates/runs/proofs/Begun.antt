-- What the steps of a read share: the window's bytes are the input's, also after a slide; a read that ends in a phase at rest; and a search of a record
-- that begins in the window. Assumes nothing.
use Prim.Native.Nat.{ℕ, suc, ◌+◌, ◌-◌, ◌≤◌, ◌<◌, max}
use native.Mathlib.Omega.{arith}
use mathlib.Core.Bool.{Bool, true, false, ◌||◌, false≢true}
use mathlib.Core.List.{List, [], ◌∷◌, ◌++◌}
use mathlib.Core.Path.{◌≡◌, refl, sym, ap, subst, ◌∙◌}
use lib.ListN.{length, get_or, take, drop, length-drop}
use lib.Seq.{length-take-le, drop-cons, get_or-take, drop-drop, drop-append-le, take-add, take_at, drop_at}
use lib.Dec.{eqb}
use borrow.Author.Tests.{eqb-true}
use Rattle.meaning.specs.OnePass.{marks}
use Rattle.meaning.proofs.OnePass.{at-cons}
use Rattle.scan.specs.Move.{moved_down}
use Rattle.scan.proofs.MoveLaws.{moved-down-within}
use Rattle.window.specs.Fill.{ready}
use Rattle.window.specs.declared.fill.Fill.{Fill}
use Rattle.reader.specs.declared.state.Reader.{Reader}
use Rattle.reader.specs.declared.state.Mark.{Mark}
use Rattle.reader.specs.declared.state.Phase.{Phase}
use Rattle.reader.specs.declared.state.Phase.TheVariants as phase
use Rattle.reader.specs.State.{Good, in_phase, with_mark, mark_at}
use Rattle.reader.specs.Read.{Said, Did, does, hunted, begins_at}
use Rattle.reader.proofs.Kept.{is_searching, Behind, begun-behind}
use Rattle.runs.proofs.Tells.{Dues, judge, from_here, unless_over, due_in, is_sought, is_window, is_table, Told, Tells, Rests, Settled, Goes, Step, Hunts}

-- a window over the input from place a on, of which the first m bytes are filled
module _ (X w : List ℕ) (a m : ℕ) (text : drop a X ≡ take m w ++ drop (a + m) X) (fits : m ≤ length w) where
  filled-are : length (take m w) ≡ m
  filled-are = length-take-le m w fits

  pub text-from : (n : ℕ) → n ≤ m → drop (a + n) X ≡ drop n (take m w) ++ drop (a + m) X
  text-from n h =
      sym (drop-drop n a X)
      ∙ ap (drop n) text
      ∙ drop-append-le n (take m w) (drop (a + m) X) (omega (arith, filled-are))

  -- a filled byte is the input's
  pub text-byte : (n : ℕ) → n < m → drop (a + n) X ≡ get_or w n 0 ∷ drop (suc (a + n)) X
  text-byte n h =
      let cut = text-from n (omega arith)
      ∙ ap (λ (ys : List ℕ). ys ++ drop (a + m) X) (drop-cons (take m w) n 0 (omega (arith, filled-are))) in
      cut
      ∙ ap (λ (ys : List ℕ). get_or (take m w) n 0 ∷ ys) (sym (at-cons X (a + n) _ _ cut).next)
      ∙ ap (λ (x : ℕ). x ∷ drop (suc (a + n)) X) (get_or-take m w n 0 h)

  -- a slide drops the first n bytes
  pub text-slid : (n : ℕ) → n ≤ m → drop (a + n) X ≡ take (m - n) (moved_down n m w) ++ drop (a + n + (m - n)) X
  text-slid n h =
      let back : n + (m - n) ≡ m = omega arith in
      let end : a + m ≡ a + n + (m - n) = omega arith in
      let front : drop n (take m w) ≡ take (m - n) (drop n w) =
      ap (λ (k : ℕ). drop n (take k w)) (sym back)
      ∙ ap (drop n) (take-add n (m - n) w)
      ∙ drop_at (take n w) (take (m - n) (drop n w)) n (length-take-le n w (omega arith)) in
      let moved : take (m - n) (moved_down n m w) ≡ take (m - n) (drop n w) =
      ap (take (m - n)) (moved-down-within n m w h fits)
      ∙ take_at (take (m - n) (drop n w)) (drop (m - n) w) (m - n) (length-take-le (m - n) (drop n w) (omega (arith, length-drop n w))) in
      text-from n h
      ∙ ap (λ (ys : List ℕ). ys ++ drop (a + m) X) (front ∙ sym moved)
      ∙ ap (λ (k : ℕ). take (m - n) (moved_down n m w) ++ drop k X) end

-- a reader that is not refused has nothing of a refusal to leave
pub at_rest : (r : Reader) → is_window r.phase ≡ false → is_table r.phase ≡ false → Rests r
at_rest r a b = record { at_front = λ is. absurd (false≢true (sym a ∙ is)); all_slots = λ is. absurd (false≢true (sym b ∙ is)) }

-- a window that is ready is full, or its end was told
pub ready-full : (f : Fill) → ready f ≡ true → f.told ≡ false → f.filled ≡ f.capacity
ready-full f t u = eqb-true f.filled f.capacity (sym (ap (λ (o : Bool). o || eqb f.filled f.capacity) u) ∙ t)

pub unready-told : (f : Fill) → ready f ≡ false → f.told ≡ false
unready-told f t = go f.told (eqb f.filled f.capacity) t
  where
    go : (u v : Bool) → (u || v) ≡ false → u ≡ false
    go true v no' = no'
    go false v no' = refl

-- a record begins at a `>`
pub from-mark : (X : List ℕ) (C T l b : ℕ) (xs : List ℕ) → drop b X ≡ 62 ∷ xs → from_here X C T l b (suc b) [] ≡ judge C T (marks l b (suc b) [] xs false)
from-mark X C T l b xs e =
    (λ i. unless_over (e i) (judge C T (marks l b (suc b) [] ((at-cons X b 62 xs e).next i) false)))

-- the same step, of what is equal
pub step-as : {X : List ℕ} {C : ℕ} {r : Reader} {due due' : Dues} {d o : Did} → due ≡ due' → d ≡ o → Step X C r due' o → Step X C r due d
step-as {X} {C} {r} {due} {due'} {d} {o} p q s =
    subst (λ (x : Did). Step X C r due x) (sym q) (subst (λ (x : Dues). Step X C r x o) (sym p) s)

-- what is due to a reader whose record begins in the window, on a line
pub begun-due :
    (X : List ℕ) (C : ℕ) (r : Reader) (e : List ℕ) (start line : ℕ) →
    due_in phase.Searching X C (begins_at start line r) e
    ≡ from_here X C r.slots line (r.fill.base.0 + start) (suc (r.fill.base.0 + start)) []
begun-due X C r e start line =
    let next : r.fill.base.0 + max start (start + 1) ≡ suc (r.fill.base.0 + start) = omega arith in
    ap (λ (p : ℕ). from_here X C r.slots line (r.fill.base.0 + start) p []) next

module _ (X : List ℕ) (C : ℕ) (r : Reader) (w e : List ℕ) (t : Tells X C r w e) where
  pub window-fits : r.fill.filled ≤ length w
  window-fits =
      let v = t.is_good.is-sane.window_sound in
      omega (arith, v.filled_fits, v.capacity_fits, t.is_good.window_lent)

  -- the end of the input in a window whose end was told
  pub at-end : r.fill.told ≡ true → drop (r.fill.base.0 + r.fill.filled) X ≡ []
  at-end told = (t.told told).is_all

  -- the mark and the phase are not what a window's end is known by
  told_with : (m : Mark) (p : Phase) → r.fill.told ≡ true → Told X (in_phase p (with_mark m r))
  told_with m p told =
      let known = t.told told in
      record { is_all = known.is_all; has_room = known.has_room; is_quiet = known.is_quiet }

  -- an answer leaves the window as it is
  pub step-rests :
      (s : Said) (m : Mark) (p : Phase) (e' : List ℕ) (due : Dues) →
      is_sought p ≡ false →
      Rests (in_phase p (with_mark m r)) →
      Settled s r.fill.asking (in_phase p (with_mark m r)) →
      Goes s due X C (in_phase p (with_mark m r)) e' →
      Step X C r due (does s (in_phase p (with_mark m r)) w e')
  step-rests s m p e' due no' rests settled goes =
      record {
        goes = goes;
        text = t.text;
        told = told_with m p;
        largest_is = t.largest_is;
        sought_inside = λ is. absurd (false≢true (sym no' ∙ is));
        same = record { reaches = refl; end_told = refl; slots_are = refl; lent_is = refl };
        rests = λ k. rests;
        settled = settled;
      }

  -- the relation holds again, whatever the mark and the phase, where they pass
  pub tells-with :
      (m : Mark) (p : Phase) (e' : List ℕ) →
      is_sought p ≡ false →
      Good (in_phase p (with_mark m r)) w e' →
      (is_searching p ≡ true → Behind true m e') →
      Tells X C (in_phase p (with_mark m r)) w e'
  tells-with m p e' no' g h =
      record {
        is_good = g;
        is_behind = h;
        sought_inside = λ is. absurd (false≢true (sym no' ∙ is));
        text = t.text;
        told = told_with m p;
        largest_is = t.largest_is;
      }

  -- a search of a record that begins in the window
  module _ (start line : ℕ) (g : Good (begins_at start line r) w e) where
    pub begun-tells : Tells X C (begins_at start line r) w e
    begun-tells = tells-with (mark_at start start 0 line) phase.Searching e refl g (λ is. begun-behind (begins_at start line r) w e refl)

    pub begun-step :
        Hunts →
        ready r.fill ≡ true →
        Step X C r (from_here X C r.slots line (r.fill.base.0 + start) (suc (r.fill.base.0 + start)) []) (hunted (begins_at start line r) w e)
    begun-step hunts full =
        let s = hunts X C (begins_at start line r) w e begun-tells refl full in
        step-as (sym (begun-due X C r e start line)) refl
        (record {
          goes = s.goes;
          text = s.text;
          told = s.told;
          largest_is = s.largest_is;
          sought_inside = s.sought_inside;
          same = record { reaches = s.same.reaches; end_told = s.same.end_told; slots_are = s.same.slots_are; lent_is = s.same.lent_is };
          rests = λ k. s.rests (at_rest (begins_at start line r) refl refl);
          settled = s.settled;
        })
