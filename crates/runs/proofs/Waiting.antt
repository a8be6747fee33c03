-- Where nothing but asks was heard: the relation still holds, the same is due, and each report took one of the bytes left, or told the end.
-- Assumes nothing.
use Prim.Native.Nat.{ℕ, zero, suc, ◌+◌, ◌-◌, ◌≤◌}
use native.Mathlib.Omega.{arith}
use mathlib.Core.Bool.{Bool, true, false, false≢true}
use mathlib.Core.List.{List, ◌∷◌}
use mathlib.Core.Option.{none}
use mathlib.Core.Path.{◌≡◌, refl, sym, ap, subst, ◌∙◌}
use lib.ListN.{length, drop, length-drop}
use Rattle.reader.specs.declared.state.Reader.{Reader}
use Rattle.reader.specs.Read.{Said, asks, gives, ends, refuses}
use Rattle.reader.specs.State.{with_fill}
use Rattle.window.specs.Fill.{took}
use Rattle.reader.specs.Calls.{Left, report_of}
use Rattle.runs.specs.Run.{State, state, reading, after_read, offset, Brings, setting, after_set, Event, read, collected, brought, refused, Run, begun, by_read, by-set, by_report, by_seek, by_refused_report, by_refused_seek}
use Rattle.runs.specs.Standing.{OnlyAsks}
use Rattle.set.specs.declared.state.Set.{Set}
use Rattle.set.specs.Read as set
use Rattle.set.specs.Read.{Called}
use Rattle.runs.proofs.SetCall.{asked-read}
use lib.Dec.{ltb}
use Rattle.runs.specs.Progress.{reports, left, is_ask}
use Rattle.runs.proofs.Tells.{Dues, Tells, due_to, Goes, Step}
use Rattle.runs.proofs.Calls.{filled_by, Took, taken, tells-report, due-report, report-refused, seek-refused}
use Rattle.runs.proofs.Step.{steps, still-tells}

-- how many reports may still come before something other than an ask: one for each byte left, and one that tells the end
abbrev pub chances : List ℕ → State → ℕ
chances X s = elim s.reader.fill.told [ true ↦ 0 | false ↦ left X s + 1 ]

told_none : (X : List ℕ) (s : State) → s.reader.fill.told ≡ true → chances X s ≡ 0
told_none X s is = rw is

untold : (X : List ℕ) (s : State) → s.reader.fill.told ≡ false → chances X s ≡ left X s + 1
untold X s is = rw is

module _ (X : List ℕ) (C : ℕ) (s : State) (t : Tells X C s.reader s.window s.table) where
  abbrev r : Reader
  r = s.reader

  here : Step X C r (due_to X C r s.table) (reading s)
  here = steps X C r s.window s.table t

  -- a reader that was told the end does not ask
  pub told-answers : r.fill.told ≡ true → is_ask (reading s).said ≡ false
  told-answers is = go (reading s).said here.goes
    where
      go : (a : Said) → Goes a (due_to X C r s.table) X C (reading s).reader (reading s).table → is_ask a ≡ false
      go (asks p m o) q = absurd (false≢true (sym (here.told (here.same.end_told ∙ is)).is_quiet ∙ q.1.0))
      go (gives l b) q = refl
      go ends q = refl
      go (refuses n vs) q = refl

  -- a read leaves the chances
  pub chances-read : chances X (after_read s) ≡ chances X s
  chances-read = go r.fill.told refl
    where
      go : (u : Bool) → r.fill.told ≡ u → chances X (after_read s) ≡ chances X s
      go true u = told_none X (after_read s) (here.same.end_told ∙ u) ∙ sym (told_none X s u)
      go false u =
          untold X (after_read s) (here.same.end_told ∙ u)
          ∙ ap (λ (o : ℕ). length (drop o X) + 1) here.same.reaches
          ∙ sym (untold X s u)

  -- a report takes one at least
  pub chances-report :
      (n : ℕ) (w : List ℕ) → Took n r → Brings X n s w → suc (chances X (state (with_fill (filled_by n r.fill) r) w s.table)) ≤ chances X s
  chances-report n w k b = rw (untold X s quiet) (go n refl)
    where
      quiet : r.fill.told ≡ false
      quiet = not-told r.fill.told refl
        where
          not-told : (u : Bool) → r.fill.told ≡ u → r.fill.told ≡ false
          not-told true u = absurd (false≢true (sym (t.told u).is_quiet ∙ k.is_asked.is_open))
          not-told false u = u

      go : (m : ℕ) → n ≡ m → suc (chances X (state (with_fill (filled_by m r.fill) r) w s.table)) ≤ left X s + 1
      go zero z = omega arith
      go (suc m) z =
          let more = b.in_input in
          let far : length (drop (r.fill.base.0 + (r.fill.filled + suc m)) X) ≡ length X - (r.fill.base.0 + (r.fill.filled + suc m)) =
          length-drop (r.fill.base.0 + (r.fill.filled + suc m)) X in
          let near : length (drop (offset s) X) ≡ length X - offset s = length-drop (offset s) X in
          rw (untold X (state (with_fill (took (suc m) r.fill) r) w s.table) quiet) (omega arith)

-- what was heard before the last read, which asked
only_asks : (a : Said) (h : List Event) → OnlyAsks (read a ∷ h) → OnlyAsks h × (is_ask a ≡ true)
only_asks (asks p m o) h k = (k, refl)
only_asks (gives l b) h k = absurd k
only_asks ends h k = absurd k
only_asks (refuses n vs) h k = absurd k

only-asks-set : (short : Bool) (a : set.Said) (h : List Event) → OnlyAsks (collected short a ∷ h) → OnlyAsks h
only-asks-set short (set.asks p m o) h k = k
only-asks-set short (set.holds n filled) h k = absurd k
only-asks-set short set.ends h k = absurd k
only-asks-set short (set.refuses n vs) h k = absurd k

-- an ask leaves what is due
asks-same : (a : Said) (d : Dues) (X : List ℕ) (C : ℕ) (r : Reader) (e : List ℕ) → is_ask a ≡ true → Goes a d X C r e → due_to X C r e ≡ d
asks-same (asks p m o) d X C r e is q = q.0
asks-same (gives l b) d X C r e is q = absurd (false≢true is)
asks-same ends d X C r e is q = absurd (false≢true is)
asks-same (refuses n vs) d X C r e is q = absurd (false≢true is)

pub record Waited (X : List ℕ) (C : ℕ) (s : State) (g : List Event) (t : State) : Type 0 where
  pub tells : Tells X C t.reader t.window t.table
  pub due_is : due_to X C t.reader t.table ≡ due_to X C s.reader s.table
  pub fewer : reports g + chances X t ≤ chances X s

module _ (X : List ℕ) (C : ℕ) (s : State) (k : Tells X C s.reader s.window s.table) where
  waits-read : (g : List Event) (t : State) → is_ask (reading t).said ≡ true → Waited X C s g t → Waited X C s (read (reading t).said ∷ g) (after_read t)
  unfolding reports
  waits-read g t is before =
      record {
        tells = still-tells X C t.reader t.window t.table before.tells;
        due_is =
            asks-same (reading t).said _ X C (reading t).reader (reading t).table is (here X C t before.tells).goes ∙ before.due_is;
        fewer = omega (arith, before.fewer, chances-read X C t before.tells);
      }

  -- a set call that asks is a read that asks
  waits-set : (q : Set) (B M E : List ℕ) (short : Bool) (g : List Event) (t : State) → OnlyAsks (collected short (setting q B M E t).said ∷ g) → Waited X C s g t
      → Waited X C s (collected short (setting q B M E t).said ∷ g) (after_set q B M E t)
  unfolding reports
  waits-set q B M E short g t o before = go (setting q B M E t).said refl o
    where
      go : (a : set.Said) → (setting q B M E t).said ≡ a → OnlyAsks (collected short a ∷ g) → Waited X C s (collected short (setting q B M E t).said ∷ g) (after_set q B M E t)
      go (set.asks p m o') is k' =
          let own = asked-read X C t.reader t.window t.table before.tells q B M E p m o' is in
          let read' = waits-read g t (ap is_ask own.0) before in
          subst (λ (x : Called). Waited X C s (collected short (setting q B M E t).said ∷ g) (state x.reader x.window x.table)) (sym own.1)
          (record { tells = read'.tells; due_is = read'.due_is; fewer = read'.fewer })
      go (set.holds n filled) is k' = absurd k'
      go set.ends is k' = absurd k'
      go (set.refuses n vs) is k' = absurd k'

  waits-report :
      (n : ℕ) (w : List ℕ) (g : List Event) (t : State) → (report_of n t.reader).refusal ≡ none → Brings X n t w → Waited X C s g t →
      Waited X C s (brought n ∷ g) (state (report_of n t.reader).reader w t.table)
  unfolding reports
  waits-report n w g t is b before =
      let took = taken X C t.reader t.window t.table before.tells n is in
      subst (λ (l : Left). Waited X C s (brought n ∷ g) (state l.reader w t.table)) (sym took.reader_is)
      (record {
        tells = tells-report X C t.reader t.window t.table before.tells n w took b;
        due_is = due-report X C t.reader t.window t.table before.tells n w took b ∙ before.due_is;
        fewer = omega (arith, before.fewer, chances-report X C t before.tells n w took b);
      })

  -- a call that is refused changes nothing
  waits-refused : (number : ℕ) (g : List Event) (t : State) (q : Reader) → q ≡ t.reader → Waited X C s g t → Waited X C s (refused number ∷ g) (state q t.window t.table)
  unfolding reports
  waits-refused number g t q is before =
      subst (λ (x : Reader). Waited X C s (refused number ∷ g) (state x t.window t.table)) (sym is)
      (record { tells = before.tells; due_is = before.due_is; fewer = before.fewer })

  pub waits : (g : List Event) (t : State) → Run X s g t → OnlyAsks g → Waited X C s g t
  unfolding reports
  waits g t begun o = record { tells = k; due_is = refl; fewer = omega arith }
  waits g t (by_read g₁ t₁ q) o =
      let u = only_asks (reading t₁).said g₁ o in
      waits-read g₁ t₁ u.1 (waits g₁ t₁ q u.0)
  waits g t (by-set v B M E g₁ t₁ q) o =
      waits-set v B M E (ltb (length B) (length t₁.window)) g₁ t₁ o (waits g₁ t₁ q (only-asks-set (ltb (length B) (length t₁.window)) (setting v B M E t₁).said g₁ o))
  waits g t (by_report n w g₁ t₁ q is b) o = waits-report n w g₁ t₁ is b (waits g₁ t₁ q o)
  waits g t (by_seek l b g₁ t₁ q is) o = absurd o
  waits g t (by_refused_report n number g₁ t₁ q is) o =
      let before = waits g₁ t₁ q o in
      waits-refused number g₁ t₁ _ (report-refused X C t₁.reader t₁.window t₁.table before.tells n number is) before
  waits g t (by_refused_seek l b number g₁ t₁ q is) o =
      let before = waits g₁ t₁ q o in
      waits-refused number g₁ t₁ _ (seek-refused X C t₁.reader t₁.window t₁.table before.tells l b number is) before

-- no more chances than bytes left and one
pub chances-most : (X : List ℕ) (s : State) → chances X s ≤ left X s + 1
chances-most X s = go s.reader.fill.told refl
  where
    go : (u : Bool) → s.reader.fill.told ≡ u → chances X s ≤ left X s + 1
    go true u = rw (told_none X s u) (omega arith)
    go false u = rw (untold X s u) (omega arith)

-- without a chance the end was told
pub no-chance : (X : List ℕ) (s : State) → chances X s ≡ 0 → s.reader.fill.told ≡ true
no-chance X s z = go s.reader.fill.told refl
  where
    go : (u : Bool) → s.reader.fill.told ≡ u → s.reader.fill.told ≡ true
    go true u = u
    go false u = absurd (let o : left X s + 1 ≡ 0 = sym (untold X s u) ∙ z in omega arith)
