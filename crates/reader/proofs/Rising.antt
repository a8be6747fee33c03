-- The test that ends rise, one end at a time. Assumes nothing.
use Prim.Native.Nat.{ℕ, ◌+◌, ◌≤◌, ◌<◌}
use native.Mathlib.Numerals.{add-one}
use mathlib.Core.Bool.{true, false}
use mathlib.Core.List.{List}
use mathlib.Core.Path.{◌≡◌}
use lib.ListN.{length, get_or, drop, drop_of_length-le}
use lib.Seq.{drop-cons}
use borrow.Author.Tests.{lt-ltb, le-ltb, le-leb, lt-leb}
use Rattle.reader.specs.State.{rising}

module _ (es : List ℕ) (i lo hi : ℕ) where
  pub rising-end : length es ≤ i → rising lo (drop i es) hi ≡ true
  unfolding rising
  rising-end h = rw (drop_of_length-le es {i = i} h)

  pub rising-low : i < length es → get_or es i 0 ≤ lo → rising lo (drop i es) hi ≡ false
  unfolding rising
  rising-low h k = rw (drop-cons es i 0 h, le-ltb lo (get_or es i 0) k)

  pub rising-high : i < length es → lo < get_or es i 0 → hi < get_or es i 0 → rising lo (drop i es) hi ≡ false
  unfolding rising
  rising-high h k l = rw (drop-cons es i 0 h, lt-ltb lo (get_or es i 0) k, lt-leb (get_or es i 0) hi l)

  pub rising-next : i < length es → lo < get_or es i 0 → get_or es i 0 ≤ hi → rising lo (drop i es) hi ≡ rising (get_or es i 0) (drop (i + 1) es) hi
  unfolding rising
  rising-next h k l = rw (drop-cons es i 0 h, lt-ltb lo (get_or es i 0) k, le-leb (get_or es i 0) hi l, add-one i)

pub ruleset rising_steps = (rising-end, rising-low, rising-high, rising-next)
