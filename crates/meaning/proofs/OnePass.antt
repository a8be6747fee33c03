-- The one-pass form finds the records of the lines. A mark is cut out of the whole input X: what one pass finds from place p on, with the
-- bytes from b to p already passed, are the records found byte by byte (proofs/Bytes.antt), the first with those bytes in front.
-- Assumes nothing.
use Prim.Native.Nat.{ℕ, zero, suc, pred, ◌+◌, ◌-◌, ◌≤◌, ◌<◌}
use native.Mathlib.Omega.{arith}
use native.Mathlib.Numerals.{add-one, add-two}
use mathlib.Core.Bool.{Bool, true, false, cond}
use mathlib.Core.List.{List, [], ◌∷◌, ◌++◌, map, append-nil, nil≢cons}
use mathlib.Core.Path.{◌≡◌, refl, sym, ap, ◌∙◌}
use lib.ListN.{length, get_or, take, drop, length-append, length-drop}
use lib.Seq.{take-suc, get_or-drop, append_snoc}
use lib.Dec.{eqb}
use native.Mathlib.Nat.{le_refl}
use borrow.Author.Tests.{eqb-true, ne_eqb}
use Rattle.meaning.specs.Line.{pieces, line, on_first}
use Rattle.meaning.specs.Input.{Rec, Split, split, blank, records_from, Meaning, records, refused, led, meaning_from, meaning}
use Rattle.meaning.specs.OnePass.{Mark, marks, Marked, good, bad, lead_marks}
use Rattle.meaning.proofs.Bytes.{cut, put, after, recs-cut}

-- a mark's record, with its bytes cut out of the input
abbrev pub cut_out : List ℕ → Mark → Rec
cut_out X m = record { line = m.line; byte = m.byte; bytes = take m.len (drop m.byte X) }

-- what stands at place p of X
pub record At (X : List ℕ) (p x : ℕ) (xs : List ℕ) : Type 0 where
  pub there : p < length X
  pub is : get_or X p 0 ≡ x
  pub next : drop (suc p) X ≡ xs

pub at-cons : (X : List ℕ) (p x : ℕ) (xs : List ℕ) → drop p X ≡ x ∷ xs → At X p x xs
at-cons [] zero x xs e = absurd (nil≢cons e)
at-cons [] (suc p) x xs e = absurd (nil≢cons e)
at-cons (y ∷ X) zero x xs e = record { there = omega arith; is = cc; next = cc }
at-cons (y ∷ X) (suc p) x xs e =
    let a = at-cons X p x xs e in
    record { there = omega (arith, a.there); is = a.is; next = a.next }

-- one byte more of X behind those from b to p
pub take_more : (X : List ℕ) (b p x : ℕ) (xs : List ℕ) → b ≤ p → At X p x xs → take (suc p - b) (drop b X) ≡ take (p - b) (drop b X) ++ (x ∷ [])
take_more X b p x xs h a =
    let e : suc p - b ≡ suc (p - b) = omega arith in
    let f : b + (p - b) ≡ p = omega arith in
    let k : p - b < length (drop b X) = omega (arith, length-drop b X, a.there) in
    rw e (take-suc (drop b X) (p - b) 0 k ∙ ap (λ (y : ℕ). take (p - b) (drop b X) ++ (y ∷ [])) (get_or-drop b X (p - b) 0 ∙ ap (λ (n : ℕ). get_or X n 0) f ∙ a.is))

-- lines that are still to be counted
abbrev pub late : Bool → ℕ
late true = 1
late false = 0

late-after : (x k : ℕ) → k + late (eqb x 10) ≡ after x k
late-after x k = go (eqb x 10)
  where
    go : (t : Bool) → k + late t ≡ cond t (suc k) k
    go true = omega arith
    go false = omega arith

-- the bytes passed, and behind them a split: the record that goes on, and those after it
abbrev pub rec_at : (l b : ℕ) (bytes : List ℕ) → Rec
rec_at l b bytes = record { line = l; byte = b; bytes = bytes }

abbrev pub opened : (l b : ℕ) (passed : List ℕ) → Split → List Rec
opened l b passed s = rec_at l b (passed ++ s.loose) ∷ s.recs

module _ (X : List ℕ) where
  -- a byte that is passed
  pass : (l b p x : ℕ) (xs : List ℕ) (s : Split) → b ≤ p → At X p x xs
      → opened l b (take (suc p - b) (drop b X)) s ≡ opened l b (take (p - b) (drop b X)) (put false l p x s)
  pass l b p x xs s h a =
      ap (λ (ys : List ℕ). rec_at l b ys ∷ s.recs)
      (ap (λ (t : List ℕ). t ++ s.loose) (take_more X b p x xs h a) ∙ append_snoc (take (p - b) (drop b X)) x s.loose)

  -- the first byte of a record
  begin : (p x : ℕ) (xs : List ℕ) → At X p x xs → take (suc p - p) (drop p X) ≡ x ∷ []
  begin p x xs a =
      let e : p - p ≡ 0 = omega arith in
      take_more X p p x xs (le_refl p) a ∙ ap (λ (n : ℕ). take n (drop p X) ++ (x ∷ [])) e

  marks-cut : (xs : List ℕ) (held : Bool) (l b p k : ℕ) (E : List ℕ) → drop p X ≡ xs → b ≤ p → k ≡ l + length E + late held
      → map (cut_out X) (marks l b p E xs held) ≡ opened l b (take (p - b) (drop b X)) (cut k p xs held)
  unfolding marks cut
  marks-cut [] false l b p k E e h n = ap (λ (ys : List ℕ). rec_at l b ys ∷ []) (sym (append-nil (take (p - b) (drop b X))))
  marks-cut [] true l b p k E e h n = ap (λ (ys : List ℕ). rec_at l b ys ∷ []) (sym (append-nil (take (p - b) (drop b X))))
  marks-cut (x ∷ xs) false l b p k E e h n =
      let a = at-cons X p x xs e in
      marks-cut xs (eqb x 10) l b (suc p) (after x k) E a.next (omega arith) (omega (arith, late-after x k))
      ∙ pass l b p x xs (cut (after x k) (suc p) xs (eqb x 10)) h a
  marks-cut (x ∷ xs) true l b p k E e h n =
      go (eqb x 62) refl
      (marks-cut xs false (l + suc (length E)) p (suc p) k [] a.next (omega arith) (omega arith))
      (marks-cut xs (eqb x 10) l b (suc p) (after x k) (E ++ (pred p ∷ [])) a.next (omega arith) (omega (arith, late-after x k, length-append E (pred p ∷ []))))
    where
      a : At X p x xs
      a = at-cons X p x xs e

      m : Mark
      m = record { line = l; byte = b; len = p - b; ends = E ++ (pred p ∷ []) }

      go : (t : Bool) → eqb x 62 ≡ t
          → map (cut_out X) (marks (l + suc (length E)) p (suc p) [] xs false) ≡ opened (l + suc (length E)) p (take (suc p - p) (drop p X)) (cut k (suc p) xs false)
          → map (cut_out X) (marks l b (suc p) (E ++ (pred p ∷ [])) xs (eqb x 10)) ≡ opened l b (take (suc p - b) (drop b X)) (cut (after x k) (suc p) xs (eqb x 10))
          → map (cut_out X) (marks l b p E (x ∷ xs) true) ≡ opened l b (take (p - b) (drop b X)) (cut k p (x ∷ xs) true)
      go true t next on =
          let c : eqb x 10 ≡ false = ne_eqb x 10 (λ q. let z : x ≡ 62 = eqb-true x 62 t in omega arith) in
          let j : l + suc (length E) ≡ k = omega arith in
          rw (t, marks, c)
          (ap (λ (rs : List Rec). cut_out X m ∷ rs) (next ∙ (λ i. opened (j i) p (begin p x xs a i) (cut k (suc p) xs false)))
          ∙ ap (λ (ys : List ℕ). rec_at l b ys ∷ rec_at k p (x ∷ (cut k (suc p) xs false).loose) ∷ (cut k (suc p) xs false).recs) (sym (append-nil (take (p - b) (drop b X)))))
      go false t next on = rw (t, marks) (on ∙ pass l b p x xs (cut (after x k) (suc p) xs (eqb x 10)) h a)

  -- from a `>` on, one pass finds the records of the lines
  pub marks-records : (l b : ℕ) (xs : List ℕ) → drop b X ≡ 62 ∷ xs → map (cut_out X) (marks l b (suc b) [] xs false) ≡ records_from l b (62 ∷ xs)
  unfolding cut
  marks-records l b xs e =
      let a = at-cons X b 62 xs e in
      marks-cut xs false l b (suc b) l [] a.next (omega arith) (omega arith)
      ∙ ap (λ (t : List ℕ). opened l b t (cut l (suc b) xs false)) (begin b 62 xs a)
      ∙ sym (recs-cut l b (62 ∷ xs))

-- what one pass finds, as an input's meaning
abbrev pub seen : List ℕ → Marked → Meaning
seen X (good ms) = records (map (cut_out X) ms)
seen X (bad l x) = refused l x

blank-other : (x : ℕ) (q : List ℕ) → eqb x 13 ≡ false → blank (x ∷ q) ≡ false
blank-other x [] e = e
blank-other x (y ∷ q) e = refl

-- the lead's clauses at a line that is not blank, by its first byte
led-mark : (l b : ℕ) (ps : List (List ℕ)) → led l b (on_first 62 ps) ≡ records (split l b (on_first 62 ps)).recs
unfolding led line
led-mark l b [] = refl
led-mark l b (p ∷ ps) = rw (blank-other 62 (line p) refl)

led-bad : (l b x : ℕ) (ps : List (List ℕ)) → eqb x 10 ≡ false → eqb x 13 ≡ false → eqb x 62 ≡ false → led l b (on_first x ps) ≡ refused l x
unfolding led line
led-bad l b x [] e f g = rw (e, line, f, g)
led-bad l b x (p ∷ ps) e f g = rw (e, line, blank-other x (line p) f, g)

led-cr : (l b y : ℕ) (ps : List (List ℕ)) → eqb y 10 ≡ false → led l b (on_first 13 (on_first y ps)) ≡ refused l 13
unfolding led line
led-cr l b y [] e = rw (e, line)
led-cr l b y (p ∷ ps) e = rw (e, line)

-- its clauses at a blank line
led-lf : (l b x : ℕ) (ps : List (List ℕ)) → eqb x 10 ≡ true → led l b ((x ∷ []) ∷ ps) ≡ led (suc l) (suc b) ps
unfolding led line
led-lf l b x ps e = rw (e, line, add-one b)

led-crlf : (l b x : ℕ) (ps : List (List ℕ)) → eqb x 10 ≡ true → led l b ((13 ∷ x ∷ []) ∷ ps) ≡ led (suc l) (suc (suc b)) ps
unfolding led line
led-crlf l b x ps e = rw (e, line, add-two b)

module _ (X : List ℕ) where
  -- the lead: at the front of a line, or behind a `\r` that begins one
  lead-led : (xs : List ℕ) (l b : ℕ)
      → (drop b X ≡ xs → seen X (lead_marks l b xs false) ≡ led l b (pieces xs))
      × (drop (suc b) X ≡ xs → seen X (lead_marks l (suc b) xs true) ≡ led l b (on_first 13 (pieces xs)))
  unfolding lead_marks pieces led line records_from
  lead-led [] l b = (λ e. refl, λ e. refl)
  lead-led (x ∷ xs) l b = (
    λ e. front (eqb x 10) refl (eqb x 13) refl (eqb x 62) refl e ((lead-led xs (suc l) (suc b)).0 (at-cons X b x xs e).next) ((lead-led xs l b).1 (at-cons X b x xs e).next),
    λ e. behind (eqb x 10) refl ((lead-led xs (suc l) (suc (suc b))).0 (at-cons X (suc b) x xs e).next),
  )
    where
      front : (t : Bool) → eqb x 10 ≡ t → (u : Bool) → eqb x 13 ≡ u → (v : Bool) → eqb x 62 ≡ v → drop b X ≡ x ∷ xs
          → seen X (lead_marks (suc l) (suc b) xs false) ≡ led (suc l) (suc b) (pieces xs)
          → seen X (lead_marks l (suc b) xs true) ≡ led l b (on_first 13 (pieces xs))
          → seen X (lead_marks l b (x ∷ xs) false) ≡ led l b (pieces (x ∷ xs))
      front true t u f v g e next on = rw (t, lead_marks, pieces) (next ∙ sym (led-lf l b x (pieces xs) t))
      front false t true f v g e next on =
          let z : x ≡ 13 = eqb-true x 13 f in
          rw (t, lead_marks, pieces, f) (on ∙ ap (λ (y : ℕ). led l b (on_first y (pieces xs))) (sym z))
      front false t false f true g e next on =
          let z : x ≡ 62 = eqb-true x 62 g in
          rw (t, lead_marks, pieces, f, g)
          (ap records (marks-records X l b xs (e ∙ ap (λ (y : ℕ). y ∷ xs) z))
          ∙ sym (led-mark l b (pieces xs))
          ∙ ap (λ (y : ℕ). led l b (on_first y (pieces xs))) (sym z))
      front false t false f false g e next on = rw (t, lead_marks, pieces, f, g) (sym (led-bad l b x (pieces xs) t f g))

      behind : (t : Bool) → eqb x 10 ≡ t
          → seen X (lead_marks (suc l) (suc (suc b)) xs false) ≡ led (suc l) (suc (suc b)) (pieces xs)
          → seen X (lead_marks l (suc b) (x ∷ xs) true) ≡ led l b (on_first 13 (pieces (x ∷ xs)))
      behind true t next = rw (t, lead_marks, pieces) (next ∙ sym (led-crlf l b x (pieces xs) t))
      behind false t next = rw (t, lead_marks, pieces) (sym (led-cr l b x (pieces xs) t))

  -- the one-pass form and the readable one say the same, wherever the input's reading begins
  pub lead-meaning : (l b : ℕ) (xs : List ℕ) → drop b X ≡ xs → seen X (lead_marks l b xs false) ≡ meaning_from l b xs
  unfolding meaning_from
  lead-meaning l b xs e = (lead-led xs l b).0 e

pub whole-meaning : (X : List ℕ) → seen X (lead_marks 1 0 X false) ≡ meaning X
unfolding meaning
whole-meaning X = lead-meaning X 1 0 X refl

-- What the lead of X comes to: nothing, a refusal, or a `>` at a place of X, on a line within the bounds of refusal 5.
pub data Lead (X : List ℕ) : Marked → Type 0 where
  nothing : Lead X (good [])
  refusal : (l x : ℕ) → Lead X (bad l x)
  start : (l b : ℕ) (xs : List ℕ) → drop b X ≡ 62 ∷ xs → 1 ≤ l → l ≤ suc b → Lead X (good (marks l b (suc b) [] xs false))

module _ (X : List ℕ) where
  pub lead_is : (xs : List ℕ) (l p : ℕ) (cr : Bool) → drop p X ≡ xs → 1 ≤ l → l ≤ suc p → Lead X (lead_marks l p xs cr)
  unfolding lead_marks
  lead_is [] l p cr e h k = nothing
  lead_is (x ∷ xs) l p true e h k = go (eqb x 10) refl (lead_is xs (suc l) (suc p) false (at-cons X p x xs e).next (omega arith) (omega arith))
    where
      go : (t : Bool) → eqb x 10 ≡ t → Lead X (lead_marks (suc l) (suc p) xs false) → Lead X (lead_marks l p (x ∷ xs) true)
      go true t next = rw (t, lead_marks) next
      go false t next = rw (t, lead_marks) (refusal l 13)
  lead_is (x ∷ xs) l p false e h k =
      go (eqb x 10) refl (eqb x 13) refl (eqb x 62) refl
      (lead_is xs (suc l) (suc p) false (at-cons X p x xs e).next (omega arith) (omega arith))
      (lead_is xs l (suc p) true (at-cons X p x xs e).next h (omega arith))
    where
      go : (t : Bool) → eqb x 10 ≡ t → (u : Bool) → eqb x 13 ≡ u → (v : Bool) → eqb x 62 ≡ v
          → Lead X (lead_marks (suc l) (suc p) xs false) → Lead X (lead_marks l (suc p) xs true) → Lead X (lead_marks l p (x ∷ xs) false)
      go true t u f v g next on = rw (t, lead_marks) next
      go false t true f v g next on = rw (t, lead_marks, f) on
      go false t false f true g next on =
          rw (t, lead_marks, f, g) (start l p xs (e ∙ ap (λ (y : ℕ). y ∷ xs) (eqb-true x 62 g)) h k)
      go false t false f false g next on = rw (t, lead_marks, f, g) (refusal l x)

  pub whole-lead : Lead X (lead_marks 1 0 X false)
  whole-lead = lead_is X 1 0 false refl (omega arith) (omega arith)
