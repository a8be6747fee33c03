-- Laws of the fill of a window: its test holds exactly where it is sound, what each step comes to inside its bounds, and that it leaves a
-- sound fill sound. Assumes nothing.
use Prim.Native.Nat.{ℕ, ◌+◌, ◌-◌, ◌^◌, ◌≤◌, ◌<◌, min}
use native.Mathlib.Nat.{min-eq_left}
use mathlib.Core.Bool.{Bool, true, false}
use mathlib.Core.List.{List}
use mathlib.Core.Option.{none, some}
use mathlib.Core.Path.{◌≡◌, refl, sym, ap}
use Rattle.std.proofs.Common.{arith}
use Rattle.std.proofs.lemmas.Bool.Decides.{nat_tests}
use Rattle.growth.specs.declared.Policy.{Policy}
use Rattle.growth.proofs.Laws.{grown-within}
use Rattle.scan.specs.Move.{moved_down}
use Rattle.window.specs.declared.fill.Fill.{Fill}
use Rattle.window.specs.Offset.{input_at}
use Rattle.window.specs.Fill.{most, Sound, sound, unfilled, asking, took, ended, unasked, reported, dropped, slid, slid_window, of_capacity, widened_to, emptied}

-- two tests are the same if each holds where the other does
pub same_test : (t u : Bool) → (t ≡ true → u ≡ true) → (u ≡ true → t ≡ true) → t ≡ u
same_test true u f g = sym (f refl)
same_test false true f g = g refl
same_test false false f g = refl

pub not-both : (b : Bool) → b ≡ true → b ≡ false → ⊥
not-both b e h = cc

module _ (f : Fill) where
  pub sound-true : Sound f → sound f ≡ true
  unfolding sound
  sound-true s = grind (arith, nat_tests)

  pub true-sound : sound f ≡ true → Sound f
  unfolding sound
  true-sound e =
      record {
        filled_fits = grind (arith, nat_tests);
        capacity_fits = grind (arith, nat_tests);
        ask_has_room = grind (arith, nat_tests);
        input_fits = grind (arith, nat_tests);
      }

  -- the capacity that a policy names is larger, and the window holds it
  pub widened-within : (c : ℕ) → widened_to f ≡ some c → (f.capacity < c) × (c ≤ f.lent)
  unfolding widened_to
  widened-within c e = grown-within f.policy f.capacity f.lent c e

  -- a report that is not refused
  pub record Asked (count : ℕ) : Type 0 where
    pub is_open : f.asking ≡ true
    pub has_room : count ≤ f.capacity - f.filled
    pub input_has_room : f.base.0 + f.filled + count ≤ most

  test-asked : (count : ℕ) → unasked count f ≡ false → Asked count
  unfolding unasked
  test-asked count e =
      record {
        is_open = grind (arith, nat_tests);
        has_room = grind (arith, nat_tests);
        input_has_room = grind (arith, nat_tests);
      }

  pub reported-refused : (count : ℕ) → (Asked count → ⊥) → reported count f ≡ none
  unfolding reported
  reported-refused count no' = go (unasked count f) refl
    where
      go : (t : Bool) → unasked count f ≡ t → reported count f ≡ none
      go true e = rw e
      go false e = absurd (no' (test-asked count e))

  pub reported-end : (count : ℕ) → Asked count → count ≡ 0 → reported count f ≡ some (ended f)
  unfolding reported unasked
  reported-end count a e = grind (arith, nat_tests)

  pub reported-more : (count : ℕ) → Asked count → (count ≡ 0 → ⊥) → reported count f ≡ some (took count f)
  unfolding reported unasked
  reported-more count a e = grind (arith, nat_tests)

-- a place of the input, where it is none that is cut off
pub input-fits-word : (base n : ℕ) → base + n ≤ most → input_at (min (base + n) (2 ^ 64 - 1)) ≡ input_at (base + n)
input-fits-word base n h =
    let e : base + n ≤ 2 ^ 64 - 1 = omega arith in
    ap input_at (min-eq_left e)

pub sound-unfilled : (capacity : ℕ) (p : Policy) (lent : ℕ) → capacity ≤ lent → Sound (unfilled capacity p lent)
sound-unfilled capacity p lent h =
    record {
      filled_fits = omega arith;
      capacity_fits = h;
      ask_has_room = λ e. cc;
      input_fits = omega arith;
    }

-- every step leaves a sound fill sound
module _ (f : Fill) (s : Sound f) where
  pub sound-asking : f.filled < f.capacity → Sound (asking true f)
  sound-asking h =
      record { filled_fits = s.filled_fits; capacity_fits = s.capacity_fits; ask_has_room = λ e. h; input_fits = s.input_fits }

  pub sound-not-asking : Sound (asking false f)
  sound-not-asking =
      record { filled_fits = s.filled_fits; capacity_fits = s.capacity_fits; ask_has_room = λ e. cc; input_fits = s.input_fits }

  pub sound-slid : (n : ℕ) → n ≤ f.filled → slid n f ≡ dropped n f
  unfolding slid
  sound-slid n h = grind (arith, nat_tests)

  pub sound-slid-window : (n : ℕ) (w : List ℕ) → n ≤ f.filled → slid_window n f w ≡ moved_down n f.filled w
  unfolding slid_window
  sound-slid-window n w h = grind (arith, nat_tests)

  pub sound-widened : (c : ℕ) → widened_to f ≡ some c → Sound (of_capacity c f)
  sound-widened c e =
      let h = widened-within f c e in
      record {
        filled_fits = omega arith;
        capacity_fits = h.1;
        ask_has_room = λ a. let k = s.ask_has_room a in omega arith;
        input_fits = s.input_fits;
      }

  pub sound-emptied : (at : ℕ) → at ≤ most → Sound (emptied at f)
  sound-emptied at h =
      record { filled_fits = omega arith; capacity_fits = s.capacity_fits; ask_has_room = λ e. cc; input_fits = omega arith }

  pub sound-reported : (count : ℕ) (g : Fill) → reported count f ≡ some g → Sound g
  unfolding reported unasked
  sound-reported count g is =
      record {
        filled_fits = grind (arith, nat_tests);
        capacity_fits = grind (arith, nat_tests);
        ask_has_room = grind (arith, nat_tests);
        input_fits = grind (arith, nat_tests);
      }
