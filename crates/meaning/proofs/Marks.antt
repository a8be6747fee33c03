-- Every mark of the one-pass form is right: it lies in the input, and its ends are those of its record's lines. So its lines, their number
-- and the refusal that it meets are those of the record. Assumes nothing.
use Prim.Native.Nat.{ℕ, suc, pred, ◌+◌, ◌-◌, ◌≤◌}
use native.Mathlib.Omega.{arith}
use native.Mathlib.Nat.{le_refl}
use mathlib.Core.Bool.{Bool, true, false}
use mathlib.Core.List.{List, [], ◌∷◌, ◌++◌, append-nil}
use mathlib.Core.Path.{◌≡◌, refl, sym, ap, ◌∙◌}
use lib.ListN.{length, take, drop, length-drop, take-append-drop}
use lib.Dec.{eqb}
use lib.Seq.{append_snoc, length-take-le}
use borrow.Author.Tests.{eqb-true}
use Rattle.meaning.specs.Line.{lines}
use Rattle.meaning.specs.Parts.{size}
use Rattle.meaning.specs.OnePass.{Mark, marks, Marked, good, bad, lines_at}
use Rattle.meaning.proofs.OnePass.{cut_out, At, at-cons, take_more, Lead, nothing, refusal, start}
use Rattle.meaning.proofs.Ends.{ends_at, closing, lines_cut, length-lines_at}

-- what holds of each mark of a list
abbrev pub All : (Mark → Type 0) → List Mark → Type 0
All P [] = Unit {0}
All P (m ∷ ms) = P m × All P ms

abbrev pub AllOf : (Mark → Type 0) → Marked → Type 0
AllOf P (good ms) = All P ms
AllOf P (bad l x) = Unit {0}

-- the ends so far, with the `\n` that is held
abbrev pend : (held : Bool) (p : ℕ) → List ℕ → List ℕ
pend true p E = E ++ (pred p ∷ [])
pend false p E = E

module _ (X : List ℕ) where
  pub record Right (m : Mark) : Type 0 where
    pub there : m.byte + m.len ≤ length X
    pub ends_are : m.ends ≡ ends_at m.byte (cut_out X m).bytes true

  -- what was recorded of the bytes q from b to p is right, whatever follows them
  abbrev Recorded : (held : Bool) (b p : ℕ) (E q : List ℕ) → Type 0
  Recorded held b p E q = (z : List ℕ) → ends_at b (q ++ z) true ≡ pend held p E ++ ends_at p z held

  -- one byte more, with the ends E' that its recording leaves
  recorded_more : (held : Bool) (b p x : ℕ) (E q : List ℕ) → Recorded held b p E q → Recorded (eqb x 10) b (suc p) (pend held p E) (q ++ (x ∷ []))
  unfolding ends_at
  recorded_more held b p x E q r z = ap (λ (k : List ℕ). ends_at b k true) (append_snoc q x z) ∙ r (x ∷ z) ∙ go (eqb x 10)
    where
      go : (t : Bool) → pend held p E ++ closing t p (ends_at (suc p) z t) ≡ pend t (suc p) (pend held p E) ++ ends_at (suc p) z t
      go true = sym (append_snoc (pend held p E) p (ends_at (suc p) z true))
      go false = refl

  -- a record that ends at p
  emitted : (held : Bool) (l b p : ℕ) (E F : List ℕ) → b ≤ p → p ≤ length X → Recorded held b p E (take (p - b) (drop b X))
      → F ≡ pend held p E ++ ends_at p [] held → Right (record { line = l; byte = b; len = p - b; ends = F })
  emitted held l b p E F h k r f =
      record {
        there = omega arith;
        ends_are = f ∙ sym (r []) ∙ ap (λ (q : List ℕ). ends_at b q true) (append-nil (take (p - b) (drop b X)));
      }

  -- the bytes passed, with one more
  passed : (held : Bool) (b p x : ℕ) (E xs : List ℕ) → b ≤ p → At X p x xs → Recorded held b p E (take (p - b) (drop b X))
      → Recorded (eqb x 10) b (suc p) (pend held p E) (take (suc p - b) (drop b X))
  passed held b p x E xs h a r =
      rw (take_more X b p x xs h a) (recorded_more held b p x E (take (p - b) (drop b X)) r)

  -- the bytes of a record that begins at p
  begun : (p : ℕ) (xs : List ℕ) → At X p 62 xs → Recorded false p (suc p) [] (take (suc p - p) (drop p X))
  unfolding ends_at
  begun p xs a =
      let e : p - p ≡ 0 = omega arith in
      rw (take_more X p p 62 xs (le_refl p) a, e) (λ z. refl)

  rights : (xs : List ℕ) (held : Bool) (l b p : ℕ) (E : List ℕ) → drop p X ≡ xs → b ≤ p → p ≤ length X → Recorded held b p E (take (p - b) (drop b X))
      → All Right (marks l b p E xs held)
  unfolding marks ends_at
  rights [] false l b p E e h k r = (emitted false l b p E (E ++ (p ∷ [])) h k r refl, tt)
  rights [] true l b p E e h k r = (emitted true l b p E (E ++ (pred p ∷ [])) h k r (sym (append-nil (E ++ (pred p ∷ [])))), tt)
  rights (x ∷ xs) false l b p E e h k r =
      let a = at-cons X p x xs e in
      rights xs (eqb x 10) l b (suc p) E a.next (omega arith) a.there (passed false b p x E xs h a r)
  rights (x ∷ xs) true l b p E e h k r =
      go (eqb x 62) refl
      (λ n. rights xs false (l + suc (length E)) p (suc p) [] a.next (omega arith) a.there n)
      (rights xs (eqb x 10) l b (suc p) (E ++ (pred p ∷ [])) a.next (omega arith) a.there (passed true b p x E xs h a r))
    where
      a : At X p x xs
      a = at-cons X p x xs e

      go : (t : Bool) → eqb x 62 ≡ t
          → (Recorded false p (suc p) [] (take (suc p - p) (drop p X)) → All Right (marks (l + suc (length E)) p (suc p) [] xs false))
          → All Right (marks l b (suc p) (E ++ (pred p ∷ [])) xs (eqb x 10))
          → All Right (marks l b p E (x ∷ xs) true)
      go true t next on =
          let a62 : At X p 62 xs = record { there = a.there; is = a.is ∙ eqb-true x 62 t; next = a.next } in
          rw (t, marks) (emitted true l b p E (E ++ (pred p ∷ [])) h k r (sym (append-nil (E ++ (pred p ∷ [])))), next (begun p xs a62))
      go false t next on = rw (t, marks) on

  -- from a `>` on
  pub marks-right : (l b : ℕ) (xs : List ℕ) → drop b X ≡ 62 ∷ xs → All Right (marks l b (suc b) [] xs false)
  marks-right l b xs e =
      let a = at-cons X b 62 xs e in
      rights xs false l b (suc b) [] a.next (omega arith) a.there (begun b xs a)

  -- behind any lead
  pub lead-right : {M : Marked} → Lead X M → AllOf Right M
  lead-right nothing = tt
  lead-right (refusal l x) = tt
  lead-right (start l b xs e h k) = marks-right l b xs e

  -- what follows of a right mark
  module _ (m : Mark) (r : Right m) where
    -- L
    pub right-size : size (cut_out X m) ≡ m.len
    right-size = length-take-le m.len (drop m.byte X) (omega (arith, length-drop m.byte X, r.there))

    -- its lines are cut out at its ends
    pub right-lines : lines_at X m.byte m.ends ≡ lines (cut_out X m).bytes
    right-lines =
        rw r.ends_are
        (lines_cut X (cut_out X m).bytes m.byte (drop m.len (drop m.byte X)) (sym (take-append-drop m.len (drop m.byte X))))

    pub right-count : length (lines (cut_out X m).bytes) ≡ length m.ends
    right-count = ap length (sym right-lines) ∙ length-lines_at X m.byte m.ends
