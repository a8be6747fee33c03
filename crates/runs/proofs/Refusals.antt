-- What the end and the refusals of a read leave: a reader at rest, which a read does not change. Assumes nothing.
use Prim.Native.Nat.{ℕ}
use native.Mathlib.Omega.{arith}
use mathlib.Core.Bool.{Bool, true, false, cond, not, ◌&&◌, false≢true}
use mathlib.Core.List.{List, []}
use mathlib.Core.Option.{Option, none, some, none-ne-some, some-injective}
use mathlib.Core.Path.{◌≡◌, refl, sym, ap, subst, ◌∙◌}
use lib.ListN.{length}
use borrow.Author.Tests.{eq-eqb, ne_eqb}
use Rattle.reader.specs.declared.state.Reader.{Reader}
use Rattle.reader.specs.declared.state.Phase.{Phase}
use Rattle.reader.specs.declared.state.Phase.TheVariants as phase
use Rattle.reader.specs.State.{Good, sane, lent_as}
use Rattle.reader.specs.Read.{Said, asks, gives, ends, refuses, Did, does, placed, lasts, read_in, read_of}
use Rattle.reader.proofs.Sanity.{sane-true}
use Rattle.reader.proofs.ReadLaws.{lent-true, read-repeats, read_goes}
use Rattle.runs.specs.Run.{State, reading, after_read, Event}
use Rattle.runs.specs.Refusals.{Lasts, Leaves, Refusals}
use Rattle.runs.proofs.Tells.{is_window, is_table, rest_says, Settled}
use Rattle.runs.proofs.Reached.{Reached, step, reached-read, runs_on, reached-made}

abbrev is_ask : Said → Bool
is_ask (asks p m o) = true
is_ask (gives l b) = false
is_ask ends = false
is_ask (refuses n vs) = false

-- the number of what is said, 0 for what is no refusal
abbrev number_of : Option Said → ℕ
number_of none = 0
number_of (some (asks p m o)) = 0
number_of (some (gives l b)) = 0
number_of (some ends) = 0
number_of (some (refuses n vs)) = n

-- the phase by the refusal that lasts in it
by-window : (p : Phase) (r : Reader) → number_of (rest_says p r) ≡ 3 → is_window p ≡ true
by-window phase.Lead r is = absurd (omega arith)
by-window phase.Sought r is = absurd (omega arith)
by-window phase.Searching r is = absurd (omega arith)
by-window phase.Current r is = absurd (omega arith)
by-window phase.Ended r is = absurd (omega arith)
by-window phase.Over r is = absurd (omega arith)
by-window phase.Window r is = refl
by-window phase.Table r is = absurd (omega arith)
by-window phase.Astray r is = absurd (omega arith)
by-window phase.Ahead r is = absurd (omega arith)

by-table : (p : Phase) (r : Reader) → number_of (rest_says p r) ≡ 4 → is_table p ≡ true
by-table phase.Lead r is = absurd (omega arith)
by-table phase.Sought r is = absurd (omega arith)
by-table phase.Searching r is = absurd (omega arith)
by-table phase.Current r is = absurd (omega arith)
by-table phase.Ended r is = absurd (omega arith)
by-table phase.Over r is = absurd (omega arith)
by-table phase.Window r is = absurd (omega arith)
by-table phase.Table r is = refl
by-table phase.Astray r is = absurd (omega arith)
by-table phase.Ahead r is = absurd (omega arith)

-- a reader at rest says the same again and changes nothing
module _ (r : Reader) (w e : List ℕ) (g : Good r w e) where
  fine : sane r ≡ true
  fine = sane-true r g.is-sane

  lent : lent_as r (length w) (length e) ≡ true
  lent = lent-true r w e g.window_lent g.table_lent

  rests-in : (p : Phase) (a : Said) → rest_says p r ≡ some a → read_in p r w e ≡ does a r w e
  rests-in phase.Lead a is = absurd (none-ne-some a is)
  rests-in phase.Sought a is = absurd (none-ne-some a is)
  rests-in phase.Searching a is = absurd (none-ne-some a is)
  rests-in phase.Current a is = absurd (none-ne-some a is)
  rests-in phase.Ended a is = ap (λ (s : Said). does s r w e) (some-injective ends a is)
  rests-in phase.Over a is = ap (λ (s : Said). does s r w e) (some-injective ends a is)
  rests-in phase.Window a is = ap (λ (s : Said). does s r w e) (some-injective (refuses 3 (placed r)) a is)
  rests-in phase.Table a is = ap (λ (s : Said). does s r w e) (some-injective (refuses 4 (placed r)) a is)
  rests-in phase.Astray a is = ap (λ (s : Said). does s r w e) (some-injective (refuses 5 []) a is)
  rests-in phase.Ahead a is = absurd (none-ne-some a is)

  says-again : (a : Said) → rest_says r.phase r ≡ some a → (lasts r.phase ≡ false → r.fill.asking ≡ false) → read_of r w e ≡ does a r w e
  says-again a is quiet = read_goes r w e fine lent (go (lasts r.phase) refl) ∙ rests-in r.phase a is
    where
      go : (t : Bool) → lasts r.phase ≡ t → (not (lasts r.phase) && r.fill.asking) ≡ false
      go true t = rw t
      go false t = rw (quiet t) (go' (lasts r.phase))
        where
          go' : (u : Bool) → (not u && false) ≡ false
          go' true = refl
          go' false = refl

  -- a read that is no ask came from a reader with none open, unless its refusal comes before asks and changed nothing
  open-ask : r.fill.asking ≡ true → ((p m o : ℕ) → (read_of r w e).said ≡ asks p m o → ⊥) → (lasts r.phase ≡ true) × ((read_of r w e).reader ≡ r)
  open-ask is answer = go (lasts r.phase) refl
    where
      stays : (p : Phase) → lasts p ≡ true → (read_in p r w e).reader ≡ r
      stays phase.Lead t = absurd (false≢true t)
      stays phase.Sought t = absurd (false≢true t)
      stays phase.Searching t = absurd (false≢true t)
      stays phase.Current t = absurd (false≢true t)
      stays phase.Ended t = absurd (false≢true t)
      stays phase.Over t = absurd (false≢true t)
      stays phase.Window t = refl
      stays phase.Table t = refl
      stays phase.Astray t = absurd (false≢true t)
      stays phase.Ahead t = absurd (false≢true t)

      go : (t : Bool) → lasts r.phase ≡ t → (lasts r.phase ≡ true) × ((read_of r w e).reader ≡ r)
      go true t = (t, ap (λ (d : Did). d.reader) (read_goes r w e fine lent (rw t)) ∙ stays r.phase t)
      go false t = absurd (answer _ _ _ (ap (λ (d : Did). d.said) (read-repeats r w e fine lent t is)))

module _ (X : List ℕ) (C T : ℕ) (h : List Event) (s : State) (k : Reached X C T h s) where
  abbrev q : Reader
  q = (reading s).reader

  good : Good q (reading s).window (reading s).table
  good = (reached-read X C T h s k).tells.is_good

  -- a settled reader says what it settled on
  settled-lasts :
      (a : Said) → rest_says q.phase q ≡ some a → q.fill.asking ≡ s.reader.fill.asking → ((p m o : ℕ) → (reading s).said ≡ asks p m o → ⊥) →
      Lasts a (after_read s)
  settled-lasts a is same answer =
      says-again q (reading s).window (reading s).table good a is (λ not-lasting. go s.reader.fill.asking refl not-lasting)
    where
      go : (t : Bool) → s.reader.fill.asking ≡ t → lasts q.phase ≡ false → q.fill.asking ≡ false
      go false t no' = same ∙ t
      go true t no' =
          let both = open-ask s.reader s.window s.table k.tells.is_good t answer in
          absurd (false≢true (sym no' ∙ ap (λ (o : Reader). lasts o.phase) both.1 ∙ both.0))

  no_ask : (a : Said) → (reading s).said ≡ a → ((p m o : ℕ) → a ≡ asks p m o → ⊥) → (p m o : ℕ) → (reading s).said ≡ asks p m o → ⊥
  no_ask a is other p m o asked = other p m o (sym is ∙ asked)

  after-end : (reading s).said ≡ ends → Lasts ends (after_read s)
  after-end is =
      let settled = subst (λ (a : Said). Settled a s.reader.fill.asking q) is (step X C T h s k).settled in
      settled-lasts ends settled.0 settled.1 (no_ask ends is (λ p m o e. false≢true (ap is_ask e)))

  after-refusal : (n : ℕ) (vs : List ℕ) → (reading s).said ≡ refuses n vs → Leaves n vs (after_read s)
  after-refusal n vs is =
      let settled = subst (λ (a : Said). Settled a s.reader.fill.asking q) is (step X C T h s k).settled in
      let answer = no_ask (refuses n vs) is (λ p m o e. false≢true (ap is_ask e)) in
      let then' = reached-read X C T h s k in
      let number : (n ≡ 2 → ⊥) → number_of (rest_says q.phase q) ≡ n =
      λ other. ap number_of (settled.0 ∙ ap (λ (t : Bool). some (cond t ends (refuses n vs))) (ne_eqb n 2 other)) in
      record {
        start = λ two. settled-lasts ends (settled.0 ∙ ap (λ (t : Bool). some (cond t ends (refuses n vs))) (eq-eqb n 2 two)) settled.1 answer;
        window = λ three. then'.rests.at_front (by-window q.phase q (number (λ two. omega arith) ∙ three));
        table =
            λ four.
            then'.rests.all_slots (by-table q.phase q (number (λ two. omega arith) ∙ four)) ∙ then'.tells.is_good.table_lent;
        lasting = λ other. settled-lasts (refuses n vs) (settled.0 ∙ ap (λ (t : Bool). some (cond t ends (refuses n vs))) (ne_eqb n 2 other)) settled.1 answer;
      }

pub refusals : Refusals
refusals =
    record {
      leaves =
          λ X capacity policy start made h s r n vs is.
          after-refusal X _ _ h s (runs_on X _ _ start (reached-made X capacity policy start made) h s r) n vs is;
      end_lasts =
          λ X capacity policy start made h s r is.
          after-end X _ _ h s (runs_on X _ _ start (reached-made X capacity policy start made) h s r) is;
    }
