-- The digits of a number of 64 bits are those that the library writes, and a power of ten counts them. Assumes nothing.
use Prim.Native.Nat.{ℕ, zero, suc, ◌+◌, ◌*◌, ◌/◌, ◌%◌, ◌^◌, ◌≤◌, ◌<◌}
use native.Mathlib.Nat.{pow-suc}
use native.Mathlib.Omega.{arith}
use mathlib.Core.Path.{◌≡◌, refl, ap, ◌∙◌}
use mathlib.Core.List.{List, [], ◌∷◌, ◌++◌}
use lib.ListN.{length, length-append}
use borrow.Author.Tests.{lt-ltb, le-ltb}
use Rattle.std.specs.Fmt as fmt
use Rattle.std.proofs.lemmas.Fmt.{decimal_by_steps, length-decimal-le}
use Rattle.write.specs.Listing.{decimal_in, decimal}

in-few : (more n : ℕ) → n < 10 → decimal_in more n ≡ (48 + n) ∷ []
unfolding decimal_in
in-few zero n h = refl
in-few (suc more) n h = rw (lt-ltb n 10 h, decimal_in)

in-more : (more n : ℕ) → 10 ≤ n → decimal_in (suc more) n ≡ decimal_in more (n / 10) ++ ((48 + n % 10) ∷ [])
unfolding decimal_in
in-more more n h = rw (le-ltb n 10 h, decimal_in)

-- a number has no more digits than it is large
pub decimal-is : (n : ℕ) → n < 2 ^ 64 → decimal n ≡ fmt.decimal n
unfolding decimal
decimal-is n small = decimal_by_steps (λ m ds. (k : ℕ) → m ≤ k → decimal_in k m ≡ ds) (λ m h k le. in-few k m h) more n small n (omega arith)
  where
    more : (m : ℕ) (ds : List ℕ) → 10 ≤ m → ((k : ℕ) → m / 10 ≤ k → decimal_in k (m / 10) ≡ ds)
        → (k : ℕ) → m ≤ k → decimal_in k m ≡ ds ++ ((48 + m % 10) ∷ [])
    more m ds h front zero le = absurd (omega arith)
    more m ds h front (suc k) le = in-more k m h ∙ ap (λ (l : List ℕ). l ++ ((48 + m % 10) ∷ [])) (front k (omega arith))

pub digits_short : (n : ℕ) → n < 2 ^ 64 → length (decimal n) ≤ 20
digits_short n h = omega (arith, ap length (decimal-is n h), length-decimal-le 20 n (omega arith) (omega arith) h)

pub digits-none : length (decimal 0) ≡ 1
unfolding decimal decimal_in
digits-none = refl

-- a power of ten that is at most the number, and whose tenfold is above it, has as many digits
pub digits-count : (k n : ℕ) → n < 2 ^ 64 → 10 ^ k ≤ n → n < 10 * 10 ^ k → length (decimal n) ≡ k + 1
digits-count k n small low high =
    ap length (decimal-is n small)
    ∙ decimal_by_steps (λ m ds. (k : ℕ) → 10 ^ k ≤ m → m < 10 * 10 ^ k → length ds ≡ k + 1) one more n small k low high
  where
    one : (m : ℕ) → m < 10 → (k : ℕ) → 10 ^ k ≤ m → m < 10 * 10 ^ k → 1 ≡ k + 1
    one m h zero low high = refl
    one m h (suc k) low high = absurd (omega (arith, pow-suc 10 k))

    more : (m : ℕ) (ds : List ℕ) → 10 ≤ m → ((k : ℕ) → 10 ^ k ≤ m / 10 → m / 10 < 10 * 10 ^ k → length ds ≡ k + 1)
        → (k : ℕ) → 10 ^ k ≤ m → m < 10 * 10 ^ k → length (ds ++ ((48 + m % 10) ∷ [])) ≡ k + 1
    more m ds h front zero low high = absurd (omega arith)
    more m ds h front (suc k) low high =
        omega (arith, length-append ds ((48 + m % 10) ∷ []), front k (omega (arith, pow-suc 10 k)) (omega (arith, pow-suc 10 k)))
