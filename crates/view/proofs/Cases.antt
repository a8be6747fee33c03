-- The cases of each view, as its function meets them: no end, an end that does not rise, and the answer. Assumes nothing.
use Prim.Native.Nat.{ℕ, suc, ◌+◌, ◌-◌, ◌≤◌, ◌<◌}
use native.Mathlib.Numerals.{add-one}
use native.Mathlib.Decide.{dec_le}
use native.Mathlib.Omega.{arith}
use mathlib.Core.Bool.{Bool, true, false}
use mathlib.Core.List.{List, [], ◌∷◌}
use mathlib.Core.Path.{◌≡◌, refl, sym, ap, ◌∙◌}
use lib.Seq.{length-take-le}
use lib.ListN.{length, get_or, take, drop, length-drop}
use lib.Dec.{leb}
use borrow.Author.Tests.{lt-ltb, le-ltb, le-leb, leb-true}
use Rattle.std.specs.List.{position}
use Rattle.meaning.specs.Parts.{ends_id, id_of, desc_of}
use Rattle.std.proofs.Common.{inl, inr}
use Rattle.std.specs.Prelude.{◌⊎◌, Option, Some, None, Result, Err, MatchOption, unwrap_or, slice_range}
use Rattle.std.specs.Borrow.{Bor}
use Rattle.std.specs.Result.{IsErrAnd}
use Rattle.std.proofs.lemmas.Result.{err_from_is_err_and}
use Rattle.view.specs.View.{Shown, part, none, refuses, if_rising, line_of, extent, after, last_of, between, head_in, id_in, desc_in, seq_in, line_in}
use Rattle.view.specs.Steps.{First, Falls}
use Rattle.view.proofs.Rises.{rising-next, not-rising}
use Rattle.view.proofs.Heads.{id-within, desc-none, desc-some, space-is, id-length}

-- what a `?` hands on is the refusal that it met
pub passed-on : {A E : Type 0} (r : Result A E) (e x : E) → IsErrAnd r (λ y. y ≡ e) → e ≡ x → r ≡ Err x
passed-on r e x h s =
    let p = err_from_is_err_and r h in
    p.1 ∙ ap Err (p.2 ∙ s)

module _ (w : List ℕ) (lo e : ℕ) (s : Shown) where
  -- one end that rises, and one that does not
  pub one-rises : lo < e → e ≤ length w → if_rising w lo (e ∷ []) s ≡ s
  unfolding if_rising
  one-rises h k = rw (rising-next lo e [] (length w) h k)

  pub none-rises : (es : List ℕ) → (lo < e → e ≤ length w → ⊥) → if_rising w lo (e ∷ es) s ≡ refuses 11 []
  unfolding if_rising
  none-rises es never = rw (not-rising lo e es (length w) never)

-- of two ends the first lies inside if the second does: only its front is tested
pub two-rise : (w : List ℕ) (lo e f : ℕ) (s : Shown) → lo < e → if_rising w lo (e ∷ f ∷ []) s ≡ if_rising w e (f ∷ []) s
unfolding if_rising
two-rise w lo e f s h = go (dec_le e (length w))
  where
    go : Dec (e ≤ length w) → if_rising w lo (e ∷ f ∷ []) s ≡ if_rising w e (f ∷ []) s
    go (yes k) = rw (rising-next lo e (f ∷ []) (length w) h k)
    go (no k) = none-rises w lo e s (f ∷ []) (λ a b. omega arith) ∙ sym (none-rises w e f s [] (λ a b. omega arith))

-- the trimmed line l behind a place, if the end rises
pub line-behind : (w : List ℕ) (lo e : ℕ) (l : List ℕ) → lo < e → e ≤ length w → l ≡ line_of w (lo + 1) e
    → part (lo + 1) (lo + 1 + length l) ≡ if_rising w lo (e ∷ []) (extent w (suc lo) e)
line-behind w lo e l h k q =
    rw q (rw add-one (sym (one-rises w lo e (extent w (suc lo) e) h k)))

module _ (w : List ℕ) where
  -- the bytes between two places, inside and outside
  pub between_in : (a e : ℕ) → a ≤ e → e ≤ length w → between w a e ≡ take (e - a) (drop a w)
  unfolding between
  between_in a e h k = rw (le-leb a e h, le-leb e (length w) k)

  pub between-out : (a e : ℕ) → (a ≤ e → e ≤ length w → ⊥) → between w a e ≡ []
  unfolding between
  between-out a e never = go (leb a e) refl (leb e (length w)) refl
    where
      go : (t : Bool) → leb a e ≡ t → (u : Bool) → leb e (length w) ≡ u → between w a e ≡ []
      go false et u eu = rw (et, between)
      go true et false eu = rw (et, eu, between)
      go true et true eu = absurd (never (leb-true a e et) (leb-true e (length w) eu))

-- what `get` and `unwrap_or` answer of a range: the bytes between its places
pub got : (w : List ℕ) (a e : ℕ) (r : Option (Bor (List ℕ))) (out other : Bor (List ℕ))
    → MatchOption r ((e < a) ⊎ (length w < e)) (λ x. (a ≤ e) × (e ≤ length w) × (x.now ≡ slice_range w a e) × (length x.now + a ≡ e))
    → out ≡ unwrap_or r other → other.now ≡ [] → out.now ≡ between w a e
got w a e (Some x) out other h o n = ap (λ (b : Bor (List ℕ)). b.now) o ∙ h.2 ∙ sym (between_in w a e h.0 h.1)
got w a e None out other h o n =
    ap (λ (b : Bor (List ℕ)). b.now) o
    ∙ n
    ∙ sym (between-out w a e (λ p q. elim h [ inl u ↦ omega arith | inr u ↦ omega arith ]))

pub last-at : (e : ℕ) (es : List ℕ) → get_or (e ∷ es) (length es) 0 ≡ last_of e es
last-at e [] = refl
last-at e (f ∷ es) = last-at f es

module _ (w : List ℕ) (start : ℕ) where
  pub head-falls : (ends : List ℕ) → Falls w start ends → head_in w start ends ≡ refuses 11 []
  unfolding head_in
  head-falls [] never = refl
  head-falls (x ∷ ends) never = none-rises w start x _ [] (never (omega arith))

  pub head-some : (ends : List ℕ) → 0 < length ends
      → head_in w start ends ≡ if_rising w start (get_or ends 0 0 ∷ []) (extent w (suc start) (get_or ends 0 0))
  unfolding head_in
  head-some [] k = absurd (omega arith)
  head-some (x ∷ ends) k = refl

  -- the head's text behind the `>` is the head
  pub head-text : (ends head : List ℕ) → First w start ends head → part (start + 1) (start + 1 + length head) ≡ head_in w start ends
  head-text ends head f =
      line-behind w start (get_or ends 0 0) head f.above f.inside f.is ∙ sym (head-some ends f.there)

  pub id-falls : (ends : List ℕ) → Falls w start ends → id_in w start ends ≡ refuses 11 []
  unfolding id_in
  id-falls [] never = refl
  id-falls (x ∷ ends) never = none-rises w start x _ [] (never (omega arith))

  pub id-some : (ends head : List ℕ) → First w start ends head
      → id_in w start ends ≡ part (start + 1) (start + 1 + length (id_of head))
  unfolding id_in
  id-some [] head f = absurd (omega (arith, f.there))
  id-some (x ∷ ends) head f =
      rw (f.is, add-one) (one-rises w start x _ f.above f.inside)

  -- the head's text up to its first space is the id
  pub id-text : (ends head : List ℕ) (n : ℕ) → First w start ends head → n ≡ unwrap_or (position ends_id head) (length head)
      → part (start + 1) (start + 1 + length (take n head)) ≡ id_in w start ends
  id-text ends head n f e =
      let is : n ≡ length (id_of head) = e ∙ id-length head (position ends_id head) refl in
      let text : length (take n head) ≡ length (id_of head) = length-take-le n head (omega (arith, is, id-within head)) ∙ is in
      ap (λ (k : ℕ). part (start + 1) (start + 1 + k)) text ∙ sym (id-some ends head f)

  pub desc-falls : (ends : List ℕ) → Falls w start ends → desc_in w start ends ≡ refuses 11 []
  unfolding desc_in
  desc-falls [] never = refl
  desc-falls (x ∷ ends) never = none-rises w start x _ [] (never (omega arith))

  desc-first : (ends head : List ℕ) → First w start ends head
      → desc_in w start ends ≡ after (suc (suc start + length (id_of head))) (desc_of head)
  unfolding desc_in
  desc-first [] head f = absurd (omega (arith, f.there))
  desc-first (x ∷ ends) head f =
      rw (f.is, add-one) (one-rises w start x _ f.above f.inside)

  -- an id as long as the head leaves no description
  pub desc-without : (ends head : List ℕ) → First w start ends head → length (id_of head) ≡ length head
      → desc_in w start ends ≡ none
  desc-without ends head f e =
      desc-first ends head f ∙ ap (after (suc (suc start + length (id_of head)))) (desc-none head e)

  -- a shorter one leaves what stands behind the space, be it empty
  pub desc-behind : (ends head : List ℕ) → First w start ends head → (length (id_of head) ≡ length head → ⊥)
      → desc_in w start ends ≡ part (start + 1 + length (id_of head) + 1) (start + 1 + length head)
  desc-behind ends head f ne =
      let n = length (id_of head) in
      let less : n < length head = omega (arith, id-within head) in
      let from : suc (suc start + n) ≡ start + 1 + n + 1 = omega arith in
      let to : suc (suc start + n) + length (drop (suc n) head) ≡ start + 1 + length head = omega (arith, length-drop (suc n) head) in
      desc-first ends head f ∙ ap (after (suc (suc start + n))) (desc-some head less) ∙ (λ i. part (from i) (to i))

  -- without a space there is none, and with one it is the text behind it
  pub desc-nowhere : (ends head : List ℕ) → First w start ends head → None ≡ position ends_id head → none ≡ desc_in w start ends
  desc-nowhere ends head f e = sym (desc-without ends head f (space-is head None e))

  pub desc-text : (ends head : List ℕ) (n : ℕ) → First w start ends head → Some n ≡ position ends_id head
      → part (start + 1 + n + 1) (start + 1 + n + 1 + length (take (length head - (n + 1)) (drop (n + 1) head))) ≡ desc_in w start ends
  desc-text ends head n f e =
      let s = space-is head (Some n) e in
      let text = length-take-le (length head - (n + 1)) (drop (n + 1) head) (omega (arith, length-drop (n + 1) head)) in
      let to : start + 1 + n + 1 + length (take (length head - (n + 1)) (drop (n + 1) head)) ≡ start + 1 + length head = omega (arith, text, s.1) in
      ap (part (start + 1 + n + 1)) to
      ∙ ap (λ (k : ℕ). part (start + 1 + k + 1) (start + 1 + length head)) s.0
      ∙ sym (desc-behind ends head f (λ e. omega (arith, s.0, s.1)))

  pub seq-falls : (ends : List ℕ) → Falls w start ends → seq_in w start ends ≡ refuses 11 []
  unfolding seq_in
  seq-falls [] never = refl
  seq-falls (x ∷ []) never = none-rises w start x _ [] (never (omega arith))
  seq-falls (x ∷ y ∷ ends) never = none-rises w start x _ (last_of y ends ∷ []) (never (omega arith))

  pub seq-one : (ends : List ℕ) → length ends ≡ 1 → start < get_or ends 0 0 → get_or ends 0 0 ≤ length w
      → seq_in w start ends ≡ part (get_or ends 0 0) (get_or ends 0 0)
  unfolding seq_in
  seq-one [] e h k = absurd (omega arith)
  seq-one (x ∷ []) e h k = one-rises w start x _ h k
  seq-one (x ∷ y ∷ ends) e h k = absurd (omega arith)

  pub seq-some : (ends : List ℕ) → 1 < length ends → start < get_or ends 0 0
      → seq_in w start ends
      ≡ if_rising w (get_or ends 0 0) (get_or ends (length ends - 1) 0 ∷ []) (extent w (suc (get_or ends 0 0)) (get_or ends (length ends - 1) 0))
  unfolding seq_in
  seq-some [] k h = absurd (omega arith)
  seq-some (x ∷ []) k h = absurd (omega arith)
  seq-some (x ∷ y ∷ ends) k h =
      let e : length (x ∷ y ∷ ends) - 1 ≡ suc (length ends) = omega arith in
      rw (e, last-at y ends) (two-rise w start x (last_of y ends) _ h)

  pub line-empty : (ends : List ℕ) (i : ℕ) → length ends ≡ 0 → line_in w start ends i ≡ refuses 11 []
  unfolding line_in
  line-empty [] i e = refl
  line-empty (x ∷ ends) i e = absurd (omega arith)

  pub line-past : (ends : List ℕ) (i : ℕ) → 0 < length ends → length ends - 1 ≤ i → line_in w start ends i ≡ refuses 8 []
  unfolding line_in
  line-past [] i k h = absurd (omega arith)
  line-past (x ∷ ends) i k h = rw (le-ltb i (length ends) (omega arith))

  line-there : (ends : List ℕ) (i : ℕ) → i < length ends - 1
      → line_in w start ends i
      ≡ if_rising w start (get_or ends i 0 ∷ get_or ends (i + 1) 0 ∷ []) (extent w (suc (get_or ends i 0)) (get_or ends (i + 1) 0))
  unfolding line_in
  line-there [] i h = absurd (omega arith)
  line-there (x ∷ ends) i h = rw (lt-ltb i (length ends) (omega arith), add-one)

  pub line-falls : (ends : List ℕ) (i : ℕ) → i < length ends - 1 → (start < get_or ends i 0 → get_or ends i 0 ≤ length w → ⊥)
      → line_in w start ends i ≡ refuses 11 []
  line-falls ends i h never =
      line-there ends i h ∙ none-rises w start (get_or ends i 0) _ (get_or ends (i + 1) 0 ∷ []) never

  pub line-some : (ends : List ℕ) (i : ℕ) → i < length ends - 1 → start < get_or ends i 0
      → line_in w start ends i
      ≡ if_rising w (get_or ends i 0) (get_or ends (i + 1) 0 ∷ []) (extent w (suc (get_or ends i 0)) (get_or ends (i + 1) 0))
  line-some ends i h k = line-there ends i h ∙ two-rise w start (get_or ends i 0) (get_or ends (i + 1) 0) _ k

-- what the functions of one part go by
pub ruleset parts_steps = (
  passed-on,
  line-behind,
  none-rises,
  head-falls,
  head-text,
  id-falls,
  id-text,
  desc-falls,
  desc-nowhere,
  desc-text,
  seq-falls,
  seq-one,
  seq-some,
  line-empty,
  line-past,
  line-falls,
  line-some,
)
