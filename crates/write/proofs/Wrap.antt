-- Laws of `wrap_seq_text`: its two clauses, and an induction that goes from one cut to the next. The steps of `cut_in` are enough, since
-- each cut takes a byte at least. Assumes nothing.
use Prim.Native.Nat.{ℕ, zero, suc, ◌≤◌, ◌<◌}
use native.Mathlib.Omega.{arith}
use mathlib.Core.Path.{◌≡◌, refl, ap}
use mathlib.Core.List.{List, [], ◌∷◌, ◌++◌}
use lib.ListN.{length, take, drop, length-drop}
use Rattle.write.specs.Text.{cut_in, cuts, ended, wrap_seq_text}

-- what is left behind a cut is shorter
shorter : (wrap n : ℕ) (x : ℕ) (xs : List ℕ) → 0 < wrap → length (x ∷ xs) ≤ suc n → length (drop wrap (x ∷ xs)) ≤ n
shorter wrap n x xs w h = omega (arith, length-drop wrap (x ∷ xs))

-- no more steps than bytes are needed
enough : (m n wrap : ℕ) (seq : List ℕ) → 0 < wrap → length seq ≤ m → length seq ≤ n → cut_in m wrap seq ≡ cut_in n wrap seq
unfolding cut_in
enough zero zero wrap seq w h k = refl
enough zero (suc n) wrap [] w h k = refl
enough zero (suc n) wrap (x ∷ xs) w h k = absurd (omega arith)
enough (suc m) zero wrap [] w h k = refl
enough (suc m) zero wrap (x ∷ xs) w h k = absurd (omega arith)
enough (suc m) (suc n) wrap [] w h k = refl
enough (suc m) (suc n) wrap (x ∷ xs) w h k =
    ap (λ (l : List (List ℕ)). take wrap (x ∷ xs) ∷ l)
    (enough m n wrap (drop wrap (x ∷ xs)) w (shorter wrap m x xs w h) (shorter wrap n x xs w k))

-- an empty sequence has no line
pub wrap-none : (wrap : ℕ) → wrap_seq_text wrap [] ≡ []
unfolding wrap_seq_text cuts cut_in
wrap-none wrap = refl

-- any other: its first `wrap` bytes, a `\n`, and the lines of the rest
pub wrap-line : (wrap : ℕ) (seq : List ℕ) → 0 < wrap → 0 < length seq → wrap_seq_text wrap seq ≡ take wrap seq ++ (10 ∷ wrap_seq_text wrap (drop wrap seq))
unfolding wrap_seq_text cuts cut_in
wrap-line wrap [] w h = absurd (omega arith)
wrap-line wrap (x ∷ xs) w h =
    let rest = drop wrap (x ∷ xs) in
    ap (λ (l : List (List ℕ)). take wrap (x ∷ xs) ++ (10 ∷ ended l))
    (enough (length xs) (length rest) wrap rest w (shorter wrap (length xs) x xs w (omega arith)) (omega arith))

-- what holds of an empty sequence, and of any other if it holds of what is left behind its first cut, holds of all
pub by_lines : (P : List ℕ → Type 0) (wrap : ℕ) → 0 < wrap → P [] → ((seq : List ℕ) → 0 < length seq → P (drop wrap seq) → P seq) → (seq : List ℕ) → P seq
by_lines P wrap w none more seq = go (length seq) seq (omega arith)
  where
    go : (n : ℕ) (s : List ℕ) → length s ≤ n → P s
    go zero [] h = none
    go zero (x ∷ xs) h = absurd (omega arith)
    go (suc n) [] h = none
    go (suc n) (x ∷ xs) h = more (x ∷ xs) (omega arith) (go n (drop wrap (x ∷ xs)) (shorter wrap n x xs w h))
