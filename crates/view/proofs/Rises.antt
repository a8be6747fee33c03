-- Laws of rising ends: the test by its first end, and that it holds exactly if they rise. Assumes nothing.
use Prim.Native.Nat.{ℕ, ◌≤◌, ◌<◌}
use native.Mathlib.Decide.{dec_le}
use native.Mathlib.Omega.{arith}
use mathlib.Core.Bool.{Bool, true, false, false≢true}
use mathlib.Core.List.{List, [], ◌∷◌}
use mathlib.Core.Path.{◌≡◌, refl, sym, ◌∙◌}
use lib.Dec.{ltb, leb}
use borrow.Author.Tests.{lt-ltb, le-leb, ltb-true, leb-true}
use Rattle.view.specs.Rising.{rising, Rising}

module _ (lo e : ℕ) (es : List ℕ) (hi : ℕ) where
  -- an end above the one before it and inside is passed
  pub rising-next : lo < e → e ≤ hi → rising lo (e ∷ es) hi ≡ rising e es hi
  rising-next h k = rw (lt-ltb lo e h, le-leb e hi k)

  -- any other is refused
  pub not-rising : (lo < e → e ≤ hi → ⊥) → rising lo (e ∷ es) hi ≡ false
  not-rising never = go (ltb lo e) refl (leb e hi) refl
    where
      go : (t : Bool) → ltb lo e ≡ t → (u : Bool) → leb e hi ≡ u → rising lo (e ∷ es) hi ≡ false
      go false et u eu = rw et
      go true et false eu = rw (et, eu)
      go true et true eu = absurd (never (ltb-true lo e et) (leb-true e hi eu))

  -- what the test says of the first end
  pub first-inside : rising lo (e ∷ es) hi ≡ true → (lo < e) × (e ≤ hi)
  first-inside t = go (dec_le e lo) (dec_le e hi)
    where
      go : Dec (e ≤ lo) → Dec (e ≤ hi) → (lo < e) × (e ≤ hi)
      go (yes u) v = absurd (false≢true (sym (not-rising (λ h k. omega arith)) ∙ t))
      go (no u) (no v) = absurd (false≢true (sym (not-rising (λ h k. omega arith)) ∙ t))
      go (no u) (yes v) = (omega arith, v)

-- the test holds exactly if the ends rise
pub rising-rises : (lo : ℕ) (es : List ℕ) (hi : ℕ) → rising lo es hi ≡ true → Rising lo es hi
rising-rises lo [] hi t = tt
rising-rises lo (e ∷ es) hi t =
    let f = first-inside lo e es hi t in
    (f.0, (f.1, rising-rises e es hi (sym (rising-next lo e es hi f.0 f.1) ∙ t)))

pub rises-rising : (lo : ℕ) (es : List ℕ) (hi : ℕ) → Rising lo es hi → rising lo es hi ≡ true
rises-rising lo [] hi r = refl
rises-rising lo (e ∷ es) hi r = rising-next lo e es hi r.0 r.1.0 ∙ rises-rising e es hi r.1.1
