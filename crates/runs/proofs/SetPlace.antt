-- Where a set call leaves a reader: before the next record, which stands in the window and is the one due next, or at the end (01: "after a set, the next
-- record, none at the end"). Assumes nothing.
use Prim.Native.Nat.{ℕ, zero, suc, ◌+◌, ◌-◌, ◌≤◌, ◌<◌}
use native.Mathlib.Decide.{dec_le}
use native.Mathlib.Omega.{arith}
use native.Mathlib.Nat.{eq-or-lt_of_le}
use mathlib.Core.Bool.{Bool, true, false, cond, ◌&&◌, false≢true}
use mathlib.Core.List.{List, [], ◌∷◌}
use mathlib.Core.Logic.{◌⊎◌, inl, inr, ⊎_elim}
use mathlib.Core.Option.{Option, none, some, none-ne-some, some-injective}
use mathlib.Core.Path.{◌≡◌, refl, sym, ap, subst, ◌∙◌}
use lib.ListN.{take, drop}
use lib.Dec.{eqb, ltb}
use borrow.Author.Tests.{eqb-true, eqb-false}
use Rattle.meaning.specs.Due as meant
use Rattle.meaning.specs.Due.{due_by}
use Rattle.meaning.specs.OnePass.{Mark, marks, table_mark, judged_mark, place_mark}
use Rattle.meaning.proofs.Due.{said_of, due-gives, due-refuses}
use Rattle.scan.specs.Search.{Recorded}
use Rattle.scan.specs.declared.ends.Stop.{Stop}
use Rattle.scan.specs.declared.ends.Stop.TheVariants as stop
use Rattle.scan.proofs.SearchLaws.{Stopped}
use Rattle.window.specs.Fill.{ready}
use Rattle.window.specs.declared.fill.Fill.{Fill}
use Rattle.reader.specs.declared.state.Reader.{Reader}
use Rattle.reader.specs.declared.state.Phase.TheVariants as phase
use Rattle.reader.specs.State.{Good, byte_of, is_current}
use Rattle.reader.specs.Read.{reached, searches, passed}
use Rattle.reader.specs.Calls.{Place, at}
use Rattle.reader.specs.Look.{Seen, whole, unfinished, over, denied, Looked, looked_to, looks_behind, look_of, put_back_of}
use Rattle.reader.proofs.Sanity.{sane-true}
use Rattle.reader.proofs.ReadLaws.{lent-true, passed-good}
use Rattle.reader.proofs.Kept.{goes_on, begun-behind, filled-bytes, stops}
use Rattle.reader.proofs.LookLaws.{shut-full, shut-more, to-told, to-not, on-found, look-over, look-waits, look-goes, look-behind, put-current}
use Rattle.set.specs.Read.{Gathered, fits, put, back, is_whole, gather}
use Rattle.set.proofs.Gathering.{gather-stops, gather-full, gather-misfit, gather-on}
use Rattle.runs.specs.Position.{place_due}
use Rattle.runs.proofs.Tells.{Dues, judge, unless_over, ends_of, due_searched, due_to, Tells}
use Rattle.runs.proofs.SearchMarks.{first}
use Rattle.runs.proofs.Begun.{window-fits, text-byte}
use Rattle.runs.proofs.Look.{Sees}
use Rattle.runs.proofs.Gather.{Going, seen_in, then', step, more}

-- the record behind a current one stands in the window, unless the end was told
abbrev pub Behind' : Reader → Type 0
Behind' r = r.fill.told ≡ false → r.mark.search.0 < r.fill.filled

-- what a look leaves
abbrev LeftBy : Seen → Reader → Type 0
LeftBy (whole l b) q = (q.phase ≡ phase.Current) × Behind' q
LeftBy unfinished q = (q.phase ≡ phase.Ahead) × (q.mark.start.0 < q.fill.filled)
LeftBy over q = q.phase ≡ phase.Over
LeftBy (denied n) q = Unit {0}

abbrev Left : Looked → Type 0
Left d = LeftBy d.seen d.reader

module _ (r : Reader) (w e : List ℕ) (g : Good r w e) (next : Behind' r) where
  abbrev s : Recorded
  s = searches (passed r) w e

  abbrev q : Reader
  q = reached s.out.at s.out.count (passed r)

  as-left : {d o : Looked} → d ≡ o → Left o → Left d
  as-left is k = subst Left (sym is) k

  -- a search that stopped at a `>` stopped in the window
  at_mark : s.out.stop ≡ stop.Record → s.out.at < r.fill.filled
  at_mark is =
      let g' = passed-good r w e g in
      let b = begun-behind {own = true} (passed r) w e refl in
      let marked = subst (Stopped (take r.fill.filled w) 0 r.slots 62 s.out s.ends) is (stops (passed r) w e g' b) in
      omega (arith, marked.inside, filled-bytes (passed r) w e g')

  left-stop : r.mark.search.0 < r.fill.filled → (o : Stop) → s.out.stop ≡ o → Left (looked_to o q s.ends)
  left-stop here stop.Record is = (refl, λ no'. at_mark is)
  left-stop here stop.Full is = (refl, here)
  left-stop here stop.Filled is = go r.fill.told refl (dec_le r.slots s.out.count)
    where
      go : (u : Bool) → r.fill.told ≡ u → Dec (r.slots ≤ s.out.count) → Left (looked_to stop.Filled q s.ends)
      go false u d = as-left (to-not q s.ends u) (refl, here)
      go true u (yes d) = as-left (to-told q s.ends u ∙ shut-full q s.ends d) (refl, here)
      go true u (no d) = as-left (to-told q s.ends u ∙ shut-more q s.ends (omega arith)) (refl, λ no'. absurd (false≢true (sym no' ∙ u)))

  left_behind : Left (looks_behind r w e)
  left_behind = go r.fill.told refl (eqb r.mark.search.0 r.fill.filled) refl
    where
      on : (r.fill.told && eqb r.mark.search.0 r.fill.filled) ≡ false → r.mark.search.0 < r.fill.filled → Left (looks_behind r w e)
      on no' here = by (ready r.fill) refl
        where
          by : (v : Bool) → ready r.fill ≡ v → Left (looks_behind r w e)
          by false v = as-left (look-waits r w e no' v) (refl, here)
          by true v = as-left (look-goes r w e no' v ∙ on-found (passed r) w e s refl) (left-stop here s.out.stop refl)

      go : (u : Bool) → r.fill.told ≡ u → (v : Bool) → eqb r.mark.search.0 r.fill.filled ≡ v → Left (looks_behind r w e)
      go true u true v = as-left (look-over r w e u (eqb-true r.mark.search.0 r.fill.filled v)) refl
      go true u false v =
          on (rw (u, v))
          (⊎_elim (λ same. absurd (eqb-false r.mark.search.0 r.fill.filled v same)) (λ less. less) (eq-or-lt_of_le g.is-sane.search_filled))
      go false u v x = on (rw u) (next u)

  left-look : r.phase ≡ phase.Current → Left (look_of r w e)
  left-look is = as-left (look-behind r w e (sane-true r g.is-sane) (lent-true r w e g.window_lent g.table_lent) (ap is_current is)) left_behind

-- before a record that stands in the window, or at the end
abbrev pub Ends : Reader → Type 0
Ends r = ((r.phase ≡ phase.Ahead) × (r.mark.start.0 < r.fill.filled)) ⊎ (r.phase ≡ phase.Over)

-- a record that is put back
pub back-ahead : (r : Reader) (w e : List ℕ) → Good r w e → r.phase ≡ phase.Current → ((put_back_of r).phase ≡ phase.Ahead) × ((put_back_of r).mark.start.0 < (put_back_of r).fill.filled)
back-ahead r w e g is =
    let same = put-current r (sane-true r g.is-sane) (ap is_current is) in
    let v = g.is-sane in
    let some_end = v.current_has_end (ap is_current is) in
    let here : r.mark.start.0 < r.fill.filled = omega (arith, v.count_search, v.search_filled) in (
      ap (λ (o : Reader). o.phase) same,
      subst (λ (o : Reader). o.mark.start.0 < o.fill.filled) (sym same) here,
    )

module _ (X : List ℕ) (C : ℕ) (w : List ℕ) (f : Fill) (T line : ℕ) (D : Dues) where
  abbrev At : Gathered → Looked
  At g = seen_in X C w f T line D g

  abbrev Then : Gathered → Gathered
  Then g = then' X C w f T line D g

  -- where nothing more is whole, a look left it so
  stopped-at : (room : ℕ) (g : Gathered) → is_whole (At g).seen ≡ false → Ends (At g).reader → Ends (gather room w g).reader
  stopped-at room g no' e =
      subst (λ (o : Gathered). Ends o.reader) (sym (gather-stops w g (At g).seen (At g).reader (At g).table refl room no')) e

  -- a whole record is put back
  backs-at : (room : ℕ) (g : Gathered) (ms : List Mark) (k : Going X C w f T line D room g ms) → (At g).reader.phase ≡ phase.Current → gather room w g ≡ back (Then g)
      → Ends (gather room w g).reader
  backs-at room g ms k current is =
      subst (λ (o : Gathered). Ends o.reader) (sym is)
      (inl (back-ahead (At g).reader w (At g).table (step X C w f T line D room g ms k).tells.is_good current))

  left_at : (room : ℕ) (g : Gathered) (ms : List Mark) → Going X C w f T line D room g ms → Behind' g.reader → Left (At g)
  left_at room g ms k next = left-look g.reader w g.table k.gathers.tells.is_good next k.is-current

  pub gather-ends : (room : ℕ) (g : Gathered) (ms : List Mark) → Going X C w f T line D room g ms → Behind' g.reader → Ends (gather room w g).reader
  gather-ends zero g ms k next = go (At g).seen refl (left_at zero g ms k next)
    where
      go : (a : Seen) → (At g).seen ≡ a → LeftBy a (At g).reader → Ends (gather zero w g).reader
      go (whole l b) is l' = backs-at zero g ms k l'.0 (gather-full w g (At g).seen (At g).reader (At g).table refl (ap is_whole is))
      go unfinished is l' = stopped-at zero g (ap is_whole is) (inl l')
      go over is l' = stopped-at zero g (ap is_whole is) (inr l')
      go (denied n) is l' = absurd (subst (λ (a : Seen). Sees a (due_to X C g.reader g.table) X C (At g).reader (At g).table) is (step X C w f T line D zero g ms k).sees)
  gather-ends (suc room) g ms k next = go (At g).seen refl (left_at (suc room) g ms k next) (fits (Then g)) refl (λ h ns j b. gather-ends room h ns j b)
    where
      go :
          (a : Seen) → (At g).seen ≡ a → LeftBy a (At g).reader → (t : Bool) → fits (Then g) ≡ t →
          ((h : Gathered) (ns : List Mark) → Going X C w f T line D room h ns → Behind' h.reader → Ends (gather room w h).reader) →
          Ends (gather (suc room) w g).reader
      go (whole l b) is l' true fit on =
          let less : suc room - 1 ≡ room = omega arith in
          let turn = gather-on w g (At g).seen (At g).reader (At g).table refl (ap is_whole is) (suc room) (λ z. omega arith) fit
          ∙ ap (λ (i : ℕ). gather i w (put (Then g))) less in
          subst (λ (o : Gathered). Ends o.reader) (sym turn) (on (put (Then g)) _ (more X C w f T line D (suc room) g ms k l b is room refl fit) l'.1)
      go (whole l b) is l' false fit on =
          backs-at (suc room) g ms k l'.0 (gather-misfit w g (At g).seen (At g).reader (At g).table refl (ap is_whole is) (suc room) fit)
      go unfinished is l' t fit on = stopped-at (suc room) g (ap is_whole is) (inl l')
      go over is l' t fit on = stopped-at (suc room) g (ap is_whole is) (inr l')
      go (denied n) is l' t fit on =
          absurd (subst (λ (a : Seen). Sees a (due_to X C g.reader g.table) X C (At g).reader (At g).table) is (step X C w f T line D (suc room) g ms k).sees)

-- ---- the record that is due next

named-place : (C T : ℕ) (m : Mark) (n : ℕ) → judged_mark C T m ≡ some n → (X : List ℕ) → place_due (said_of X (meant.refuses n (place_mark m))) ≡ at m.line m.byte
unfolding judged_mark
named-place C T m n is X = go (table_mark C T m) (ltb C (m.len + 1)) is
  where
    go : (t u : Bool) → cond {A = Option ℕ} t (some 4) (cond u (some 3) none) ≡ some n → place_due (said_of X (meant.refuses n (place_mark m))) ≡ at m.line m.byte
    go true u e = ap (λ (i : ℕ). place_due (said_of X (meant.refuses i (place_mark m)))) (sym (some-injective 4 n e))
    go false true e = ap (λ (i : ℕ). place_due (said_of X (meant.refuses i (place_mark m)))) (sym (some-injective 3 n e))
    go false false e = absurd (none-ne-some n e)

-- the first of what is due, and its place
pub record First (X : List ℕ) (d : Dues) (p : Place) : Type 0 where
  pub said : meant.Said Mark
  pub rest : Dues
  pub are : d ≡ said ∷ rest
  pub place_is : place_due (said_of X said) ≡ p

first-judged : (X : List ℕ) (C T : ℕ) (m : Mark) (ms : List Mark) → First X (judge C T (m ∷ ms)) (at m.line m.byte)
unfolding due_by
first-judged X C T m ms = go (judged_mark C T m) refl
  where
    go : (o : Option ℕ) → judged_mark C T m ≡ o → First X (judge C T (m ∷ ms)) (at m.line m.byte)
    go none o = record { said = meant.gives m; rest = judge C T ms; are = due-gives (judged_mark C T) place_mark m ms o; place_is = refl }
    go (some n) o =
        record {
          said = meant.refuses n (place_mark m);
          rest = [];
          are = due-refuses (judged_mark C T) place_mark m ms n o;
          place_is = named-place C T m n o X;
        }

-- of a record that is searched, and stands in the window
pub first-searched : (X : List ℕ) (C : ℕ) (r : Reader) (w e : List ℕ) → Tells X C r w e → r.mark.start.0 < r.fill.filled
    → First X (due_searched X C r e) (at r.mark.line (byte_of r))
first-searched X C r w e t here =
    let l = r.mark.line in
    let b = byte_of r in
    let p = r.fill.base.0 + goes_on r.mark in
    let f = first (drop p X) false l b p p (ends_of r e) (omega arith) in
    let byte = text-byte X w r.fill.base.0 r.fill.filled t.text (window-fits X C r w e t) r.mark.start.0 here in
    let some_left = ap (λ (xs : List ℕ). unless_over xs (judge C r.slots (marks l b p (ends_of r e) (drop p X) false))) byte in
    let g = first-judged X C r.slots f.head f.tail in
    record {
      said = g.said;
      rest = g.rest;
      are = some_left ∙ ap (judge C r.slots) f.are ∙ g.are;
      place_is = g.place_is ∙ (λ i. at (f.line_is i) (f.byte_is i));
    }
