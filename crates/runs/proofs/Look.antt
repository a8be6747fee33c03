-- One look, and a record put back (01, module 6: "every record from the current place that is whole in the window ... and meets no refusal";
-- "the rest is read next"): a record that is seen whole is due next, one that is not is not whole in the window, and nothing that is due is lost.
-- Assumes nothing.
use Prim.Native.Nat.{ℕ, suc, ◌+◌, ◌≤◌, ◌<◌}
use native.Mathlib.Decide.{dec_le}
use native.Mathlib.Omega.{arith}
use mathlib.Core.Bool.{Bool, true, false, ◌&&◌, false≢true}
use mathlib.Core.List.{List, [], ◌∷◌}
use mathlib.Core.Path.{◌≡◌, refl, sym, ap, subst, ◌∙◌}
use lib.ListN.{drop, set}
use lib.Dec.{eqb}
use borrow.Author.Tests.{eqb-true}
use Rattle.meaning.specs.Due as meant
use Rattle.meaning.specs.OnePass as pass
use Rattle.scan.specs.Search.{Recorded}
use Rattle.scan.specs.declared.ends.Stop.{Stop}
use Rattle.scan.specs.declared.ends.Stop.TheVariants as stop
use Rattle.window.specs.Fill.{ready}
use Rattle.reader.specs.declared.state.Reader.{Reader}
use Rattle.reader.specs.declared.state.Mark.{Mark}
use Rattle.reader.specs.declared.state.Phase.{Phase}
use Rattle.reader.specs.declared.state.Phase.TheVariants as phase
use Rattle.reader.specs.State.{Good, byte_of, sane, is_current, with_mark, in_phase, mark_at}
use Rattle.reader.specs.Read.{gives, Did, reached, stopped, searches, hunted, passed}
use Rattle.reader.specs.Look.{Seen, whole, unfinished, over, denied, Looked, looked_at, left_ahead, looked_to, looks_behind, look_of, put_back_of}
use Rattle.reader.proofs.Sanity.{and-true, sane-true}
use Rattle.reader.proofs.ReadLaws.{closed-full, closed-more, hunt-goes, filled-told, passed-good, lent-true}
use Rattle.reader.proofs.LookLaws.{shut-full, shut-more, to-told, to-not, on-found, look-over, look-waits, look-goes, look-behind, put-current}
use Rattle.reader.proofs.Kept.{Behind, goes_on, Kept, not-over, begun-behind, finds, found-behind}
use Rattle.reader.proofs.LookKept.{kept-look, kept-put-back}
use Rattle.runs.proofs.Tells.{Dues, judge, from_here, due_searched, due_in, due_to, Tells, Says, Answers, Same, Step}
use Rattle.runs.proofs.Beyond.{IfDue, Cut, if-as, if-refused, if-passed, if_here}
use Rattle.runs.proofs.Begun.{at-end, begun-due, begun-tells, tells-with}
use Rattle.runs.proofs.SearchMarks.{found_at, ends_in, SeesBy}
use Rattle.runs.proofs.Hunt.{none_left, still-due, sees-found, inside-due, outside-found, outside-due, hunts}

-- what is due from the `>` of a reader's record on
abbrev pub from_start : (X : List ℕ) (C : ℕ) → Reader → Dues
from_start X C r = from_here X C r.slots r.mark.line (byte_of r) (suc (byte_of r)) []

-- What a look did where d was due, from the next record's `>` on: it saw the first of d, and what is due then is the rest; or the same is due; or the
-- end is.
abbrev pub Sees : Seen → Dues → (X : List ℕ) (C : ℕ) → Reader → (e : List ℕ) → Type 0
Sees (whole l b) d X C r e = Answers (gives l b) d X C r e × (d ≡ from_start X C r)
Sees unfinished d X C r e = (due_to X C r e ≡ d) × (d ≡ from_start X C r)
Sees over d X C r e = (d ≡ meant.ends ∷ []) × ((due_to X C r e ≡ meant.ends ∷ []) × (r.phase ≡ phase.Over))
Sees (denied n) d X C r e = ⊥

abbrev pub is_unfinished : Seen → Bool
is_unfinished (whole l b) = false
is_unfinished unfinished = true
is_unfinished over = false
is_unfinished (denied n) = false

-- the relation holds again over the same window, and its end is the same; a record that is left is not whole there
pub record Looks (X : List ℕ) (C : ℕ) (r : Reader) (w : List ℕ) (d : Dues) (l : Looked) : Type 0 where
  pub tells : Tells X C l.reader w l.table
  pub sees : Sees l.seen d X C l.reader l.table
  pub same : Same r l.reader
  pub is_cut : is_unfinished l.seen ≡ true → ready r.fill ≡ true → IfDue d (Cut r.fill)

-- a record that is given is current
pub current-of : (l b : ℕ) (r : Reader) (e : List ℕ) (a : meant.Said pass.Mark) → Says (gives l b) a r e → r.phase ≡ phase.Current
current-of l b r e (meant.gives m) k = k.1.1.is-current
current-of l b r e meant.ends k = absurd k
current-of l b r e (meant.refuses n vs) k = absurd k

-- what is known of a reader that passes refusal 11, whatever its table
kept_any : {X : List ℕ} {C : ℕ} (r : Reader) (w e : List ℕ) → Tells X C r w e → Kept false r w e
kept_any r w e t =
    record {
      is_good = t.is_good;
      ends-rise = λ o. absurd (false≢true o);
      is_behind = λ s. record { count_behind = (t.is_behind s).count_behind; ends_behind = λ o. absurd (false≢true o) };
    }

module _ (X : List ℕ) (C : ℕ) (r : Reader) (w e : List ℕ) (t : Tells X C r w e) (is : r.phase ≡ phase.Current) where
  abbrev base : ℕ
  base = r.fill.base.0

  abbrev next : Reader
  next = passed r

  abbrev due : Dues
  due = due_in phase.Current X C r e

  abbrev Does : Looked → Type 0
  Does = Looks X C r w due

  as-looked : {d o : Looked} → d ≡ o → Does o → Does d
  as-looked q k = subst Does (sym q) k

  fine : sane r ≡ true
  fine = sane-true r t.is_good.is-sane

  goes : look_of r w e ≡ looks_behind r w e
  goes = look-behind r w e fine (lent-true r w e t.is_good.window_lent t.is_good.table_lent) (ap is_current is)

  -- what a look leaves passes refusal 11
  good : (d : Looked) → looks_behind r w e ≡ d → Good d.reader w d.table
  good d q = subst (λ (l : Looked). Good l.reader w l.table) (goes ∙ q) (kept-look r w e (kept_any r w e t)).is_good

  -- a record is left: the same is due
  leaves :
      (m : Mark) (e' : List ℕ) →
      looks_behind r w e ≡ left_ahead (with_mark m r) e' →
      due ≡ from_start X C (with_mark m r) →
      Behind true m e' →
      due_searched X C (with_mark m r) e' ≡ due →
      (ready r.fill ≡ true → IfDue due (Cut r.fill)) →
      Does (looks_behind r w e)
  leaves m e' q from b same cut =
      as-looked q
      (record {
        tells = tells-with X C r w e t m phase.Ahead e' refl (good _ q) (λ s. b);
        sees = (same, from);
        same = record { reaches = refl; end_told = refl; slots_are = refl; lent_is = refl };
        is_cut = λ u. cut;
      })

  -- a record is whole: it is due first
  takes :
      (m : Mark) (e' : List ℕ) →
      looks_behind r w e ≡ looked_at (with_mark m r) e' →
      due ≡ from_start X C (with_mark m r) →
      Answers (gives m.line (base + m.start.0)) due X C (in_phase phase.Current (with_mark m r)) e' →
      Does (looks_behind r w e)
  takes m e' q from k =
      as-looked q
      (record {
        tells = tells-with X C r w e t m phase.Current e' refl (good _ q) (λ s. absurd (false≢true s));
        sees = (k, from);
        same = record { reaches = refl; end_told = refl; slots_are = refl; lent_is = refl };
        is_cut = λ u. absurd (false≢true u);
      })

  -- the end, behind the last record
  ended : r.fill.told ≡ true → r.mark.search.0 ≡ r.fill.filled → Does (looks_behind r w e)
  ended told at =
      let b = base + r.mark.search.0 in
      let all : drop b X ≡ [] = ap (λ (n : ℕ). drop (base + n) X) at ∙ at-end X C r w e t told in
      let q = look-over r w e told at in
      as-looked q
      (record {
        tells = tells-with X C r w e t r.mark phase.Over e refl (good _ q) (λ s. absurd (false≢true s));
        sees = (none_left X C r.slots (r.mark.line + r.mark.count) b (suc b) [] all, (refl, refl));
        same = record { reaches = refl; end_told = refl; slots_are = refl; lent_is = refl };
        is_cut = λ u. absurd (false≢true u);
      })

  -- behind the current record
  module _ (more : (r.fill.told && eqb r.mark.search.0 r.fill.filled) ≡ false) where
    due-next : due_searched X C next e ≡ due
    due-next = begun-due X C r e r.mark.search.0 (r.mark.line + r.mark.count)

    none_yet : Behind true next.mark e
    none_yet = begun-behind next w e refl

    waits : ready r.fill ≡ false → Does (looks_behind r w e)
    waits u = leaves next.mark e (look-waits r w e more u) refl none_yet due-next (λ full. absurd (false≢true (sym u ∙ full)))

    -- the next record is searched
    module _ (full : ready r.fill ≡ true) where
      abbrev s : Recorded
      s = searches next w e

      abbrev q : Reader
      q = reached s.out.at s.out.count next

      tells-next : Tells X C next w e
      tells-next = begun-tells X C r w e t r.mark.search.0 (r.mark.line + r.mark.count) (passed-good r w e t.is_good)

      looked-to : (o : Stop) → s.out.stop ≡ o → looks_behind r w e ≡ looked_to o q s.ends
      looked-to o p = look-goes r w e more full ∙ on-found next w e s refl ∙ ap (λ (x : Stop). looked_to x q s.ends) p

      -- what a read would give: it searches as a look does
      read_step : (o : Stop) → s.out.stop ≡ o → (d : Did) → stopped o q w s.ends ≡ d → Step X C next due d
      read_step o p d k =
          let is_read = hunt-goes next w e more s refl ∙ ap (λ (x : Stop). stopped x q w s.ends) p ∙ k in
          subst (λ (x : Did). Step X C next due x) is_read
          (subst (λ (x : Dues). Step X C next x (hunted next w e)) due-next (hunts X C next w e tells-next refl full))

      -- a search that stopped without a whole record is kept
      left : looks_behind r w e ≡ left_ahead q s.ends → due_searched X C q s.ends ≡ due → IfDue due (Cut r.fill) → Does (looks_behind r w e)
      left p same cut = leaves q.mark s.ends p refl (found-behind next w e tells-next.is_good none_yet) same (λ u. cut)

      -- nothing of the next record is there yet
      outside : r.fill.filled ≡ r.mark.search.0 → r.fill.told ≡ false → Does (looks_behind r w e)
      outside z open' =
          let past = outside-found X C next w e tells-next z in
          let stops : s.out.stop ≡ stop.Filled = sym (ap (λ (x : Recorded). x.out.stop) past) in
          left (looked-to stop.Filled stops ∙ to-not q s.ends open')
          (ap (λ (x : Recorded). due_searched X C (reached x.out.at x.out.count next) x.ends) (sym past)
          ∙ outside-due X C next w e tells-next z
          ∙ due-next)
          (if_here (Cut r.fill) C r.slots next.mark.line (base + r.mark.search.0) (suc (base + r.mark.search.0)) []
          (λ m byte len. (open', omega arith)) X)

      -- it stands in the window
      module _ (inside : r.mark.search.0 < r.fill.filled) where
        abbrev ms : List pass.Mark
        ms = found_at X base r.fill.filled next.mark.line (byte_of next) (goes_on next.mark) next.mark.count e

        inside_is : due ≡ judge C r.slots ms
        inside_is = sym due-next ∙ inside-due X C next w e tells-next inside

        still : ms ≡ found_at X base r.fill.filled next.mark.line (byte_of next) s.out.at s.out.count s.ends → due_searched X C q s.ends ≡ due
        still are =
            still-due X C next w e tells-next due ms s inside_is
            (finds next w e tells-next.is_good none_yet) inside are

        -- its end is not in the window, and the input may go on
        cut_off : SeesBy X base r.fill.filled next.mark.line (byte_of next) stop.Filled ms s → r.fill.told ≡ false → IfDue due (Cut r.fill)
        cut_off k open' =
            if-as (Cut r.fill) (inside_is ∙ ap (judge C r.slots) k.all)
            (if-passed (Cut r.fill) C r.slots next.mark.line (byte_of next) (base + r.fill.filled) (ends_in base s.out.count s.ends)
            (λ m byte len. (open', omega arith)) (drop (base + r.fill.filled) X) k.held (omega (arith, k.near)))

        by-stop : (o : Stop) → s.out.stop ≡ o → SeesBy X base r.fill.filled next.mark.line (byte_of next) o ms s → Does (looks_behind r w e)
        by-stop stop.Record p k = takes q.mark s.ends (looked-to stop.Record p) refl (read_step stop.Record p _ refl).goes
        by-stop stop.Full p k =
            left (looked-to stop.Full p) (still k.still) (if-refused (Cut r.fill) 4 _ due X C _ _ (read_step stop.Full p _ refl).goes)
        by-stop stop.Filled p k = go r.fill.told refl (dec_le r.slots s.out.count)
          where
            here : looks_behind r w e ≡ looked_to stop.Filled q s.ends
            here = looked-to stop.Filled p

            go : (u : Bool) → r.fill.told ≡ u → Dec (r.slots ≤ s.out.count) → Does (looks_behind r w e)
            go false u d = left (here ∙ to-not q s.ends u) (still k.are) (cut_off k u)
            go true u (yes d) =
                left (here ∙ to-told q s.ends u ∙ shut-full q s.ends d) (still k.are)
                (if-refused (Cut r.fill) 4 _ due X C _ _
                (read_step stop.Filled p _ (filled-told q w s.ends u ∙ closed-full q w s.ends s.out.at d)).goes)
            go true u (no d) =
                takes (reached r.fill.filled (s.out.count + 1) q).mark (set s.ends s.out.count s.out.at)
                (here ∙ to-told q s.ends u ∙ shut-more q s.ends (omega arith)) refl
                (read_step stop.Filled p _ (filled-told q w s.ends u ∙ closed-more q w s.ends s.out.at (omega arith))).goes

      searched : Does (looks_behind r w e)
      searched = go (dec_le r.fill.filled r.mark.search.0) r.fill.told refl
        where
          b : r.mark.search.0 ≤ r.fill.filled
          b = t.is_good.is-sane.search_filled

          go : Dec (r.fill.filled ≤ r.mark.search.0) → (u : Bool) → r.fill.told ≡ u → Does (looks_behind r w e)
          go (no z) u p = by-stop (omega arith) s.out.stop refl (sees-found X C next w e tells-next (omega arith))
          go (yes z) false p = outside (omega (arith, b)) p
          go (yes z) true p = absurd (omega (arith, not-over r.fill.told r.mark.search.0 r.fill.filled p more b))

  looks : Does (look_of r w e)
  looks = as-looked goes (go (r.fill.told && eqb r.mark.search.0 r.fill.filled) refl (ready r.fill) refl)
    where
      go : (u : Bool) → (r.fill.told && eqb r.mark.search.0 r.fill.filled) ≡ u → (v : Bool) → ready r.fill ≡ v → Does (looks_behind r w e)
      go true u v p =
          let both = and-true r.fill.told (eqb r.mark.search.0 r.fill.filled) u in
          ended both.0 (eqb-true r.mark.search.0 r.fill.filled both.1)
      go false u true p = searched u p
      go false u false p = waits u p

  -- the step of a look
  pub look-steps : Looks X C r w (due_to X C r e) (look_of r w e)
  look-steps = subst (λ (d : Dues). Looks X C r w d (look_of r w e)) (sym (ap (λ (p : Phase). due_in p X C r e) is)) looks

  -- A record is put back: due is what is due from its `>` on.
  abbrev pub back : Reader
  back = in_phase phase.Ahead (with_mark (mark_at r.mark.start.0 r.mark.start.0 0 r.mark.line) r)

  pub back_is : put_back_of r ≡ back
  back_is = put-current r fine (ap is_current is)

  pub put-back-tells : Tells X C (put_back_of r) w e
  put-back-tells =
      subst (λ (x : Reader). Tells X C x w e) (sym back_is)
      (tells-with X C r w e t back.mark phase.Ahead e refl
      (subst (λ (x : Reader). Good x w e) back_is (kept-put-back r w e (kept_any r w e t)).is_good)
      (λ s. begun-behind back w e refl))

  pub put-back-due : due_to X C (put_back_of r) e ≡ from_start X C r
  put-back-due = ap (λ (x : Reader). due_to X C x e) back_is ∙ begun-due X C r e r.mark.start.0 r.mark.line

-- A record that a look saw and that is put back leaves due what was due before the look.
pub look-put-back :
    (X : List ℕ) (C : ℕ) (r : Reader) (w e : List ℕ) → Tells X C r w e → r.phase ≡ phase.Current →
    (l b : ℕ) → (look_of r w e).seen ≡ whole l b →
    due_to X C (put_back_of (look_of r w e).reader) (look_of r w e).table ≡ due_to X C r e
look-put-back X C r w e t is l b saw =
    let d = look_of r w e in
    let step = look-steps X C r w e t is in
    let seen = subst (λ (s : Seen). Sees s (due_to X C r e) X C d.reader d.table) saw step.sees in
    put-back-due X C d.reader w d.table step.tells (current-of l b d.reader d.table seen.0.first seen.0.says) ∙ sym seen.1
