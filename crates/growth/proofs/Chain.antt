-- Laws of the chain. A growth is above the present capacity and in the window, so a chain of W steps in a window of W bytes always ends
-- before its steps do (`chain-step` and `chain-stop` know no steps any more), and induction along the chain is sound (`along`). The other
-- laws follow by that induction, for any capacity and window. Assumes nothing.
use Prim.Native.Nat.{ℕ, zero, suc, ◌+◌, ◌≤◌, ◌<◌}
use native.Mathlib.Omega.{arith}
use mathlib.Core.List.Memᴰ
use mathlib.Core.List.{List, [], ◌∷◌, Memᴰ}
use mathlib.Core.Logic.{⊎_elim}
use mathlib.Core.Option.{Option, none, some}
use mathlib.Core.Path.{◌≡◌, refl, sym, ap, ◌∙◌}
use Rattle.growth.specs.Growth.{grown}
use Rattle.growth.specs.Chain.{chain_in, chain, last_of, largest, Below, Rising}
use Rattle.growth.specs.declared.Policy.{Policy}
use Rattle.growth.proofs.Laws.{grown-within}

module _ (p : Policy) (W : ℕ) where
  chain_in-stop : (steps c : ℕ) → grown p c W ≡ none → chain_in p W steps c ≡ c ∷ []
  unfolding chain_in
  chain_in-stop zero c e = refl
  chain_in-stop (suc k) c e = rw (e, chain_in)

  chain_in-step : (steps c d : ℕ) → grown p c W ≡ some d → chain_in p W (suc steps) c ≡ c ∷ chain_in p W steps d
  unfolding chain_in
  chain_in-step k c d e = rw (e, chain_in)

  -- what holds where the chain ends, and of a capacity if it holds of its growth, holds of every capacity
  pub along :
      (P : ℕ → Type 0) →
      ((c : ℕ) → grown p c W ≡ none → P c) →
      ((c d : ℕ) → grown p c W ≡ some d → P d → P c) →
      (c : ℕ) →
      P c
  along P stop step c = within W c (omega arith)
    where
      within : (k c : ℕ) → W ≤ k + c → P c
      within zero c h = go (grown p c W) refl
        where
          go : (o : Option ℕ) → grown p c W ≡ o → P c
          go none e = stop c e
          go (some d) e = absurd (let u = grown-within p c W d e in omega arith)
      within (suc k) c h = go (grown p c W) refl (λ d. within k d)
        where
          go : (o : Option ℕ) → grown p c W ≡ o → ((d : ℕ) → W ≤ k + d → P d) → P c
          go none e below = stop c e
          go (some d) e below =
              let u = grown-within p c W d e in
              step c d e (below d (omega arith))

  -- steps enough are as good as more
  chain_in-same : (c k m : ℕ) → W ≤ k + c → W ≤ m + c → chain_in p W k c ≡ chain_in p W m c
  chain_in-same =
      along (λ c. (k m : ℕ) → W ≤ k + c → W ≤ m + c → chain_in p W k c ≡ chain_in p W m c)
      (λ c e k m h l. chain_in-stop k c e ∙ sym (chain_in-stop m c e))
      both
    where
      both :
          (c d : ℕ) →
          grown p c W ≡ some d →
          ((k m : ℕ) → W ≤ k + d → W ≤ m + d → chain_in p W k d ≡ chain_in p W m d) →
          (k m : ℕ) →
          W ≤ k + c →
          W ≤ m + c →
          chain_in p W k c ≡ chain_in p W m c
      both c d e ih zero m h l = absurd (let u = grown-within p c W d e in omega arith)
      both c d e ih (suc k) zero h l = absurd (let u = grown-within p c W d e in omega arith)
      both c d e ih (suc k) (suc m) h l =
          let u = grown-within p c W d e in
          chain_in-step k c d e ∙ ap (λ (cs : List ℕ). c ∷ cs) (ih k m (omega arith) (omega arith)) ∙ sym (chain_in-step m c d e)

  pub chain-stop : (c : ℕ) → grown p c W ≡ none → chain p W c ≡ c ∷ []
  unfolding chain
  chain-stop c e = chain_in-stop W c e

  pub chain-step : (c d : ℕ) → grown p c W ≡ some d → chain p W c ≡ c ∷ chain p W d
  unfolding chain
  chain-step c d e = chain_in-same c W (suc W) (omega arith) (omega arith) ∙ chain_in-step W c d e

  -- the last of a chain is the same behind any capacity
  last-chain : (x c : ℕ) → last_of x (chain p W c) ≡ largest p W c
  unfolding largest
  last-chain x c = go (grown p c W) refl
    where
      go : (o : Option ℕ) → grown p c W ≡ o → last_of x (chain p W c) ≡ last_of c (chain p W c)
      go none e = rw (chain-stop c e)
      go (some d) e = rw (chain-step c d e)

  pub largest-stop : (c : ℕ) → grown p c W ≡ none → largest p W c ≡ c
  unfolding largest
  largest-stop c e = ap (last_of c) (chain-stop c e)

  -- growing leaves the largest reachable capacity as it was
  pub largest_step : (c d : ℕ) → grown p c W ≡ some d → largest p W c ≡ largest p W d
  unfolding largest
  largest_step c d e = ap (last_of c) (chain-step c d e) ∙ last-chain c d

  pub largest-above : (c : ℕ) → c ≤ largest p W c
  largest-above =
      along (λ c. c ≤ largest p W c)
      (λ c e. omega (arith, largest-stop c e))
      (λ c d e above. omega (arith, grown-within p c W d e, largest_step c d e))

  pub largest-within : (c : ℕ) → c ≤ W → largest p W c ≤ W
  largest-within =
      along (λ c. c ≤ W → largest p W c ≤ W)
      (λ c e h. omega (arith, largest-stop c e))
      (λ c d e below h. omega (arith, below (grown-within p c W d e).1, largest_step c d e))

  -- from the largest there is no growth
  pub largest-ends : (c : ℕ) → grown p (largest p W c) W ≡ none
  largest-ends =
      along (λ c. grown p (largest p W c) W ≡ none)
      (λ c e. rw (largest-stop c e) e)
      (λ c d e ends. rw (largest_step c d e) ends)

  -- each capacity of the chain is below the next one
  pub chain-rises : (c : ℕ) → Rising (chain p W c)
  chain-rises =
      along (λ c. Rising (chain p W c)) (λ c e. rw (chain-stop c e) (tt, tt))
      (λ c d e rising. rw (chain-step c d e) (first c d (grown-within p c W d e).0, rising))
    where
      first : (c d : ℕ) → c < d → Below c (chain p W d)
      first c d h = go (grown p d W) refl
        where
          go : (o : Option ℕ) → grown p d W ≡ o → Below c (chain p W d)
          go none e = rw (chain-stop d e) h
          go (some d') e = rw (chain-step d d' e) h

  -- the chain stays in the window
  pub chain-within : (c : ℕ) → c ≤ W → (d : ℕ) → Memᴰ d (chain p W c) → d ≤ W
  chain-within =
      along (λ c. c ≤ W → (d : ℕ) → Memᴰ d (chain p W c) → d ≤ W)
      (λ c e h d m. omega (arith, Memᴰ.eq_of_singleton (rw (chain-stop c e) at m)))
      (λ c e q ih h d m.
      ⊎_elim (λ (o : d ≡ c). omega arith) (λ n. ih (grown-within p c W e q).1 d n)
      (Memᴰ.cases_cons (rw (chain-step c e q) at m)))

  -- the largest is the same from every capacity of the chain
  pub chain-largest : (c d : ℕ) → Memᴰ d (chain p W c) → largest p W d ≡ largest p W c
  chain-largest =
      along (λ c. (d : ℕ) → Memᴰ d (chain p W c) → largest p W d ≡ largest p W c)
      (λ c e d m. ap (largest p W) (Memᴰ.eq_of_singleton (rw (chain-stop c e) at m)))
      (λ c e q ih d m.
      ⊎_elim (ap (largest p W)) (λ n. ih d n ∙ sym (largest_step c e q))
      (Memᴰ.cases_cons (rw (chain-step c e q) at m)))

  -- growth ends exactly at the largest: a capacity of the chain without growth is the largest, and from the largest there is none
  pub none-at-largest :
      (c d : ℕ) →
      Memᴰ d (chain p W c) →
      (grown p d W ≡ none → d ≡ largest p W c) × (d ≡ largest p W c → grown p d W ≡ none)
  none-at-largest c d m =
      (λ e. sym (largest-stop d e) ∙ chain-largest c d m, λ q. rw q (largest-ends c))
