-- Laws of the blank lead: what it does with the bytes from one place on, and what its answer is. Assumes nothing.
use Prim.Native.Nat.{ℕ, suc, ◌+◌, ◌≤◌, ◌<◌}
use native.Mathlib.Decide.{dec_le}
use native.Mathlib.Numerals.{add-one}
use native.Mathlib.Omega.{arith}
use mathlib.Core.Bool.{Bool, true, false, ◌&&◌, false≢true}
use mathlib.Core.List.{List, [], ◌∷◌}
use mathlib.Core.Path.{◌≡◌, refl, sym, ap, subst, ◌∙◌}
use lib.ListN.{length, take, drop, get_or, drop_of_length-le, length-drop}
use lib.Dec.{eqb}
use borrow.Author.Tests.{eq-eqb, ne_eqb, eqb-true}
use Rattle.scan.specs.declared.line.Blank.{Blank}
use Rattle.scan.specs.Search.{Lead, blank, lead_at}

-- the clauses of the definition
pub clause-one :
    (x i n : ℕ) →
    lead_at (x ∷ []) i n ≡ elim (eqb x 10) [ true ↦ blank (suc i) (suc n) true | false ↦ blank i n (eqb x 13) ]
unfolding lead_at
clause-one x i n = refl

pub clause-two :
    (x y : ℕ) (r : List ℕ) (i n : ℕ) →
    lead_at (x ∷ y ∷ r) i n
    ≡ elim (eqb x 10) [
      | true ↦ lead_at (y ∷ r) (suc i) (suc n)
      | false ↦ elim (eqb x 13 && eqb y 10) [ true ↦ lead_at r (suc (suc i)) (suc n) | false ↦ blank i n false ]
    ]
unfolding lead_at
clause-two x y r i n = refl

-- nothing is left
pub lead-none : (i n : ℕ) → lead_at [] i n ≡ blank i n true
unfolding lead_at
lead-none i n = refl

-- an empty line is passed
pub lead-empty : (l : List ℕ) (i n : ℕ) → 10 ∷ [] ≡ take 1 l → lead_at l i n ≡ lead_at (drop 1 l) (i + 1) (n + 1)
lead-empty [] i n e = absurd (omega (arith, ap length e))
lead-empty (x ∷ []) i n e =
    let h : x ≡ 10 = ap (λ (t : List ℕ). get_or t 0 0) (sym e) in
    rw (clause-one, eq-eqb x 10 h, lead-none, add-one i, add-one n)
lead-empty (x ∷ y ∷ r) i n e =
    let h : x ≡ 10 = ap (λ (t : List ℕ). get_or t 0 0) (sym e) in
    rw (clause-two, eq-eqb x 10 h, add-one i, add-one n)

-- so is a line that is a `\r`
pub lead-cr : (l : List ℕ) (i n : ℕ) → 13 ∷ (10 ∷ []) ≡ take 2 l → lead_at l i n ≡ lead_at (drop 2 l) (i + 2) (n + 1)
lead-cr [] i n e = absurd (omega (arith, ap length e))
lead-cr (x ∷ []) i n e = absurd (omega (arith, ap length e))
lead-cr (x ∷ y ∷ r) i n e =
    let h : x ≡ 13 = ap (λ (t : List ℕ). get_or t 0 0) (sym e) in
    let k : y ≡ 10 = ap (λ (t : List ℕ). get_or t 1 0) (sym e) in
    let two : i + 2 ≡ suc (suc i) = omega arith in
    rw (clause-two, ne_eqb x 10 (λ z. omega arith), eq-eqb x 13 h, eq-eqb y 10 k, two, add-one n)

-- any other line ends the lead, and a last `\r` leaves it undecided
pub lead-other :
    (l : List ℕ) (i n : ℕ) (t : Bool) →
    0 < length l →
    (10 ∷ [] ≡ take 1 l → ⊥) →
    (13 ∷ (10 ∷ []) ≡ take 2 l → ⊥) →
    (t ≡ true → l ≡ 13 ∷ []) →
    (t ≡ false → l ≡ 13 ∷ [] → ⊥) →
    lead_at l i n ≡ blank i n t
lead-other [] i n t h a b c d = absurd (omega arith)
lead-other (x ∷ []) i n t h a b c d =
    let other : eqb x 10 ≡ false = ne_eqb x 10 (λ e. a (ap (λ (z : ℕ). z ∷ []) (sym e))) in
    rw (clause-one, other) (ap (blank i n) (last t c d))
  where
    last : (t : Bool) → (t ≡ true → x ∷ [] ≡ 13 ∷ []) → (t ≡ false → x ∷ [] ≡ 13 ∷ [] → ⊥) → eqb x 13 ≡ t
    last true c d = eq-eqb x 13 (ap (λ (t : List ℕ). get_or t 0 0) (c refl))
    last false c d = ne_eqb x 13 (λ e. d refl (ap (λ (z : ℕ). z ∷ []) e))
lead-other (x ∷ y ∷ r) i n true h a b c d = absurd (omega (arith, ap length (c refl)))
lead-other (x ∷ y ∷ r) i n false h a b c d =
    let other : eqb x 10 ≡ false = ne_eqb x 10 (λ e. a (ap (λ (z : ℕ). z ∷ []) (sym e))) in
    rw (clause-two, other) (go (eqb x 13) refl (eqb y 10) refl)
  where
    go :
        (u : Bool) → eqb x 13 ≡ u → (v : Bool) → eqb y 10 ≡ v →
        elim (eqb x 13 && eqb y 10) [ true ↦ lead_at r (suc (suc i)) (suc n) | false ↦ blank i n false ] ≡ blank i n false
    go false e v f = rw e
    go true e false f = rw (e, f)
    go true e true f =
        absurd (b (sym (ap (λ (z : ℕ). z ∷ (y ∷ [])) (eqb-true x 13 e) ∙ ap (λ (z : ℕ). 13 ∷ (z ∷ [])) (eqb-true y 10 f))))

-- what a lead at place i behind n blank lines answers
pub record Led (bytes : List ℕ) (i n : ℕ) (r : Blank) : Type 0 where
  pub apart : i + r.lines ≤ r.at + n
  pub within : i ≤ length bytes → r.at ≤ length bytes
  pub decided : r.undecided ≡ false → r.at < length bytes
  pub at_last : r.undecided ≡ true → length bytes ≤ r.at + 1

module _ (bytes : List ℕ) where
  -- behind the bytes and at their end
  ended : (i n : ℕ) → length bytes ≤ i → Led bytes i n (blank i n true)
  ended i n h = record { apart = omega arith; within = λ k. k; decided = λ e. absurd (false≢true (sym e)); at_last = λ e. omega arith }

  -- a line that is not blank, or may not be
  stopped : (i n : ℕ) (t : Bool) → i < length bytes → (t ≡ true → length bytes ≤ i + 1) → Led bytes i n (blank i n t)
  stopped i n t h l = record { apart = omega arith; within = λ k. k; decided = λ e. h; at_last = l }

  -- a blank line
  passed : (i j n : ℕ) (r : Blank) → i < j → j ≤ length bytes → Led bytes j (suc n) r → Led bytes i n r
  passed i j n r h k f =
      record { apart = omega (arith, f.apart); within = λ l. f.within (omega arith); decided = f.decided; at_last = f.at_last }

  led : (l : List ℕ) (i n : ℕ) → i + length l ≡ length bytes → Led bytes i n (lead_at l i n)
  led [] i n h = rw lead-none (ended i n (omega arith))
  led (x ∷ []) i n h = rw clause-one (go (eqb x 10))
    where
      go : (t : Bool) → Led bytes i n (elim t [ true ↦ blank (suc i) (suc n) true | false ↦ blank i n (eqb x 13) ])
      go true = passed i (suc i) n _ (omega arith) (omega arith) (ended (suc i) (suc n) (omega arith))
      go false = stopped i n (eqb x 13) (omega arith) (λ e. omega arith)
  led (x ∷ y ∷ r) i n h =
      rw clause-two (go (eqb x 10) (eqb x 13 && eqb y 10) (led (y ∷ r) (suc i) (suc n) (omega arith)) (led r (suc (suc i)) (suc n) (omega arith)))
    where
      go :
          (t u : Bool) →
          Led bytes (suc i) (suc n) (lead_at (y ∷ r) (suc i) (suc n)) →
          Led bytes (suc (suc i)) (suc n) (lead_at r (suc (suc i)) (suc n)) →
          Led bytes i n
          (elim t [
            | true ↦ lead_at (y ∷ r) (suc i) (suc n)
            | false ↦ elim u [ true ↦ lead_at r (suc (suc i)) (suc n) | false ↦ blank i n false ]
          ])
      go true u f g = passed i (suc i) n _ (omega arith) (omega arith) f
      go false true f g = passed i (suc (suc i)) n _ (omega arith) (omega arith) g
      go false false f g = stopped i n false (omega arith) (λ e. absurd (false≢true e))

-- what `lead` answers
pub lead-led : (bytes : List ℕ) (from : ℕ) (r : Blank) → Lead bytes from r → Led bytes from 0 r
lead-led bytes from r is = subst (Led bytes from 0) (sym is) (go (dec_le (length bytes) from))
  where
    go : Dec (length bytes ≤ from) → Led bytes from 0 (lead_at (drop from bytes) from 0)
    go (yes h) = rw (drop_of_length-le bytes {i = from} h, lead-none) (ended bytes from 0 h)
    go (no h) = led bytes (drop from bytes) from 0 (omega (arith, length-drop from bytes))
