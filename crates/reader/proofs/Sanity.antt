-- The test of refusal 11 holds exactly where every one of its facts does. Assumes nothing.
use Prim.Native.Nat.{ℕ, ◌≤◌}
use native.Mathlib.Omega.{arith}
use mathlib.Core.Bool.{Bool, true, false, not, ◌&&◌, ◌||◌, false≢true}
use mathlib.Core.Path.{◌≡◌, refl}
use lib.Dec.{eqb}
use borrow.Author.Tests.{eqb-true, leb-true}
use Rattle.std.proofs.lemmas.Bool.Decides.{nat_tests}
use Rattle.window.specs.Fill.{Sound, most}
use Rattle.window.proofs.Laws.{sound-true, true-sound}
use Rattle.reader.specs.declared.state.Reader.{Reader}
use Rattle.reader.specs.State.{Sane, sane, lent_as, byte_of}

-- a conjunction of tests
pub and-true : (t u : Bool) → (t && u) ≡ true → (t ≡ true) × (u ≡ true)
and-true true u e = (refl, e)
and-true false u e = absurd (false≢true e)

-- a test that is asked only where another holds
when_true : (t u : Bool) → (not t || u) ≡ true → t ≡ true → u ≡ true
when_true true u e f = e
when_true false u e f = absurd (false≢true f)

pub true-sane : (r : Reader) → sane r ≡ true → Sane r
unfolding sane
true-sane r e =
    let a = and-true _ _ e in
    let b = and-true _ _ a.0 in
    let c = and-true _ _ b.0 in
    let d = and-true _ _ c.0 in
    let g = and-true _ _ d.0 in
    let h = and-true _ _ g.0 in
    let i = and-true _ _ h.0 in
    let j = and-true _ _ i.0 in
    record {
      capacity_least = leb-true _ _ j.0;
      window_sound = true-sound r.fill j.1;
      start_search = leb-true _ _ i.1;
      search_filled = leb-true _ _ h.1;
      count_slots = leb-true _ _ g.1;
      count_search = leb-true _ _ d.1;
      current_has_end = λ f. leb-true _ _ (when_true _ _ c.1 f);
      line_least = leb-true _ _ b.1;
      line_most = leb-true _ _ a.1;
    }

pub sane-true : (r : Reader) → Sane r → sane r ≡ true
unfolding sane
sane-true r s = let fits = sound-true r.fill s.window_sound in let has = s.current_has_end in grind (arith, nat_tests)

-- the byte of a record that lies in what is filled
pub byte_fits : (r : Reader) → Sound r.fill → r.mark.start.0 ≤ r.mark.search.0 → r.mark.search.0 ≤ r.fill.filled → byte_of r ≤ most
byte_fits r s a b = let h = s.input_fits in omega arith

pub sane-byte : (r : Reader) → Sane r → byte_of r ≤ most
sane-byte r s = byte_fits r s.window_sound s.start_search s.search_filled

-- the lent lengths, where their test held
pub lent-window : (r : Reader) (window ends : ℕ) → lent_as r window ends ≡ true → r.fill.lent ≡ window
unfolding lent_as
lent-window r window ends e = eqb-true _ _ (and-true _ _ e).0

pub lent-table : (r : Reader) (window ends : ℕ) → lent_as r window ends ≡ true → r.slots ≡ ends
unfolding lent_as
lent-table r window ends e = eqb-true _ _ (and-true (eqb r.fill.lent window) _ e).1

-- what the test of refusal 11 gives to a call
pub ruleset sanity = (true-sane, sane-byte, lent-window, lent-table)
