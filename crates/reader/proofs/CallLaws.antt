-- What each call beside reads comes to, by what it tests. Assumes nothing.
use Prim.Native.Nat.{ℕ, ◌+◌, ◌≤◌}
use mathlib.Core.Bool.{Bool, true, false, ◌||◌, false≢true}
use mathlib.Core.Option.{none, some}
use mathlib.Core.Path.{◌≡◌, refl, sym, ap, ◌∙◌}
use borrow.Author.Tests.{eq-eqb}
use Rattle.std.proofs.Common.{arith}
use Rattle.std.proofs.lemmas.Bool.Decides.{nat_tests}
use Rattle.growth.specs.declared.Policy.{Policy}
use Rattle.window.specs.Fill.{most, reported, holds}
use Rattle.reader.specs.declared.state.Phase.{Phase}
use Rattle.reader.specs.declared.state.Reader.{Reader}
use Rattle.reader.specs.State.{sane, lent_as, is_current}
use Rattle.reader.specs.Calls.{setup_refused, setup_of, made, refused_by, done, took_over, report_of, misplaced, sought_in, sought_out, seek_of, shown_in, place_of, held, missing, current_of}

-- a disjunction of tests that fails
none_true : (t u : Bool) → (t || u) ≡ false → (t ≡ false) × (u ≡ false)
none_true false u e = (refl, e)
none_true true u e = absurd (false≢true (sym e))

-- a setup that is not refused
pub record Fitting (capacity window slots : ℕ) : Type 0 where
  pub capacity_least : 3 ≤ capacity
  pub capacity_fits : capacity ≤ window
  pub window_most : window ≤ 2147483648
  pub has_slot : slots ≡ 0 → ⊥

module _ (capacity window slots : ℕ) where
  pub test-fitting : setup_refused capacity window slots ≡ false → Fitting capacity window slots
  unfolding setup_refused
  test-fitting e =
      record {
        capacity_least = grind (arith, nat_tests);
        capacity_fits = grind (arith, nat_tests);
        window_most = grind (arith, nat_tests);
        has_slot = λ z. grind (arith, nat_tests);
      }

  pub setup-made : (p : Policy) → Fitting capacity window slots → setup_of capacity p window slots ≡ some (made capacity p window slots)
  unfolding setup_of setup_refused
  setup-made p s = let h = s.has_slot in grind (arith, nat_tests)

  pub setup-refused : (p : Policy) → (Fitting capacity window slots → ⊥) → setup_of capacity p window slots ≡ none
  unfolding setup_of
  setup-refused p out = go (setup_refused capacity window slots) refl
    where
      go : (t : Bool) → setup_refused capacity window slots ≡ t → setup_of capacity p window slots ≡ none
      go true e = rw e
      go false e = absurd (out (test-fitting e))

-- a place that a seek takes
pub record Placed (line byte : ℕ) : Type 0 where
  pub line_least : line ≡ 0 → ⊥
  pub line_most : line ≤ byte + 1
  pub byte_most : byte ≤ most

pub test-placed : (line byte : ℕ) → misplaced line byte ≡ false → Placed line byte
unfolding misplaced
test-placed line byte e =
    record {
      line_least = λ z. grind (arith, nat_tests);
      line_most = grind (arith, nat_tests);
      byte_most = grind (arith, nat_tests);
    }

module _ (r : Reader) where
  pub report-sane : (n : ℕ) → sane r ≡ true → report_of n r ≡ took_over (reported n r.fill) r
  unfolding report_of
  report-sane n e = rw e

  pub place-shown : sane r ≡ true → (p : Phase) → r.phase ≡ p → place_of r ≡ shown_in p r
  unfolding place_of
  place-shown e p is = let shown : place_of r ≡ shown_in r.phase r = rw e in shown ∙ ap (λ (q : Phase). shown_in q r) is

  module _ (line byte : ℕ) where
    pub seek-misplaced : sane r ≡ true → misplaced line byte ≡ true → seek_of line byte r ≡ refused_by 5 r
    unfolding seek_of
    seek-misplaced e m = rw (e, m)

    pub seek-in : sane r ≡ true → misplaced line byte ≡ false → holds byte r.fill ≡ true → seek_of line byte r ≡ done (sought_in line byte r)
    unfolding seek_of
    seek-in e m h = rw (e, m, h)

    pub seek-out : sane r ≡ true → misplaced line byte ≡ false → holds byte r.fill ≡ false → seek_of line byte r ≡ done (sought_out line byte r)
    unfolding seek_of
    seek-out e m h = rw (e, m, h)

  module _ (window ends : ℕ) where
    lent-true : r.fill.lent ≡ window → r.slots ≡ ends → lent_as r window ends ≡ true
    unfolding lent_as
    lent-true f g = rw (eq-eqb r.fill.lent window f, eq-eqb r.slots ends g)

    module _ (e : sane r ≡ true) (f : r.fill.lent ≡ window) (g : r.slots ≡ ends) where
      pub current-none : is_current r.phase ≡ false → current_of window ends r ≡ missing 7
      unfolding current_of
      current-none h = rw (e, lent-true f g, h)

      pub current-held : is_current r.phase ≡ true → current_of window ends r ≡ held r.mark.start.0 r.fill.filled r.mark.count
      unfolding current_of
      current-held h = rw (e, lent-true f g, h)
