-- What gathering comes to, by what a look saw: the clauses of `gather`. Assumes nothing.
use Prim.Native.Nat.{ℕ, zero, suc, ◌-◌, ◌/◌, ◌<◌}
use native.Mathlib.Omega.{arith}
use mathlib.Core.Bool.{true, false, false≢true}
use mathlib.Core.List.{List, [], ◌∷◌}
use mathlib.Core.Path.{◌≡◌, refl, sym, ap, ◌∙◌}
use lib.ListN.{length, length-set}
use Rattle.std.proofs.lemmas.Grind.{common_steps}
use Rattle.reader.specs.declared.state.Reader.{Reader}
use Rattle.reader.specs.Read.{Did}
use Rattle.reader.specs.declared.state.Look.{Look}
use Rattle.reader.specs.Look.{LookIs, seen_by, Seen, Looked, whole, unfinished, over, denied, sees, look_of}
use Rattle.set.specs.declared.state.Set.{Set}
use Rattle.set.specs.Read.{Gathered, gathered, gathered_by, fits, pairs, has_room, put, back}
use Rattle.set.specs.Read.{is_whole, by_look, gather, gather_all, filled_with, collected_in}

module _ (more : Gathered → Gathered) (g : Gathered) where
  look-stops :
      (s : Seen) (r : Reader) (t : List ℕ) (k : Looked) → sees s r t ≡ k → is_whole s ≡ false →
      by_look more g k ≡ gathered_by r t g
  look-stops (whole l b) r t k e h = absurd (false≢true (sym h))
  look-stops unfinished r t k e h = ap (by_look more g) (sym e)
  look-stops over r t k e h = ap (by_look more g) (sym e)
  look-stops (denied n) r t k e h = ap (by_look more g) (sym e)

  look-goes :
      (s : Seen) (r : Reader) (t : List ℕ) (k : Looked) → sees s r t ≡ k → is_whole s ≡ true →
      by_look more g k ≡ more (gathered_by r t g)
  look-goes (whole l b) r t k e h = ap (by_look more g) (sym e)
  look-goes unfinished r t k e h = absurd (false≢true h)
  look-goes over r t k e h = absurd (false≢true h)
  look-goes (denied n) r t k e h = absurd (false≢true h)

-- a whole record with room for its marks: it is put behind the others, or left
abbrev fitting : (room : ℕ) (w : List ℕ) → Gathered → Gathered
fitting room w q = elim (fits q) [ true ↦ gather room w (put q) | false ↦ back q ]

module _ (w : List ℕ) (g : Gathered) where
  gather-zero : gather 0 w g ≡ by_look (λ (q : Gathered). back q) g (look_of g.reader w g.table)
  unfolding gather
  gather-zero = refl

  gather-suc : (room : ℕ) → gather (suc room) w g ≡ by_look (fitting room w) g (look_of g.reader w g.table)
  unfolding gather
  gather-suc room = refl

module _ (w : List ℕ) (q : Gathered) (room : ℕ) where
  fitting-true : fits q ≡ true → fitting room w q ≡ gather room w (put q)
  fitting-true f = rw (f, fitting)

  fitting-false : fits q ≡ false → fitting room w q ≡ back q
  fitting-false f = rw (f, fitting)

module _ (w : List ℕ) (g : Gathered) (s : Seen) (r : Reader) (t : List ℕ)
    (e : sees s r t ≡ look_of g.reader w g.table) where
  -- no whole record is there
  pub gather-stops : (room : ℕ) → is_whole s ≡ false → gather room w g ≡ gathered_by r t g
  gather-stops zero h = gather-zero w g ∙ look-stops (λ (q : Gathered). back q) g s r t (look_of g.reader w g.table) e h
  gather-stops (suc room) h = gather-suc w g room ∙ look-stops (fitting room w) g s r t (look_of g.reader w g.table) e h

  module _ (h : is_whole s ≡ true) where
    gather-tries : (room : ℕ) → gather (suc room) w g ≡ fitting room w (gathered_by r t g)
    gather-tries room = gather-suc w g room ∙ look-goes (fitting room w) g s r t (look_of g.reader w g.table) e h

    -- one is, and does not fit
    pub gather-full : gather 0 w g ≡ back (gathered_by r t g)
    gather-full = gather-zero w g ∙ look-goes (λ (q : Gathered). back q) g s r t (look_of g.reader w g.table) e h

    pub gather-misfit : (room : ℕ) → fits (gathered_by r t g) ≡ false → gather room w g ≡ back (gathered_by r t g)
    gather-misfit zero f = gather-full
    gather-misfit (suc room) f = gather-tries room ∙ fitting-false w (gathered_by r t g) room f

    -- one is, and fits
    pub gather-on :
        (room : ℕ) → (room ≡ 0 → ⊥) → fits (gathered_by r t g) ≡ true →
        gather room w g ≡ gather (room - 1) w (put (gathered_by r t g))
    gather-on zero some f = absurd (some refl)
    gather-on (suc room) some f =
        let less : room ≡ suc room - 1 = omega arith in
        gather-tries room
        ∙ fitting-true w (gathered_by r t g) room f
        ∙ ap (λ (n : ℕ). gather n w (put (gathered_by r t g))) less

-- two marks for each record
pub half_is : (ms : List ℕ) → pairs ms ≡ length ms / 2
half_is [] = omega arith
half_is (x ∷ []) = omega arith
half_is (x ∷ y ∷ ms) = omega (arith, half_is ms)

pub pairs-put : (g : Gathered) → pairs (put g).marks ≡ pairs g.marks
pairs-put g = simp (half_is, length-set)

-- as many as there is room for: each turn of the loop
module _ (w : List ℕ) (g : Gathered) (n : Look) (t : List ℕ) (e : LookIs g.reader w g.table n t) where
  abbrev seen : Gathered
  seen = gathered_by n.reader t g

  pub all_stops : is_whole (seen_by n.sight) ≡ false → seen ≡ gather_all w g
  all_stops h = sym (gather-stops w g (seen_by n.sight) n.reader t e (pairs g.marks - g.count) h)

  module _ (h : is_whole (seen_by n.sight) ≡ true) where
    pub all_misfit : has_room seen ≡ false → back seen ≡ gather_all w g
    all_misfit f = sym (go (pairs g.marks - g.count) refl)
      where
        go : (k : ℕ) → pairs g.marks - g.count ≡ k → gather k w g ≡ back seen
        go zero u = gather-full w g (seen_by n.sight) n.reader t e h
        go (suc k) u = gather-misfit w g (seen_by n.sight) n.reader t e h (suc k) (grind (arith, common_steps))

    pub all_on : has_room seen ≡ true → gather_all w (put seen) ≡ gather_all w g
    all_on f =
        let some : g.count < pairs g.marks = grind (arith, common_steps) in
        let fit : fits seen ≡ true = grind (arith, common_steps) in
        let left : pairs (put seen).marks - suc g.count ≡ pairs g.marks - g.count - 1 = omega (arith, pairs-put seen) in
        ap (λ (k : ℕ). gather k w (put seen)) left
        ∙ sym (gather-on w g (seen_by n.sight) n.reader t e h (pairs g.marks - g.count) (λ z. omega arith) fit)

-- a set call whose tables have room for the first record, which is current
module _ (s : Set) (bytes marks es : List ℕ) (d : Did) where
  abbrev start : Gathered
  start = gathered d.reader d.table 0 0 marks es

  pub collected :
      has_room start ≡ true →
      filled_with s bytes marks es d (gather_all d.window (put start)) ≡ collected_in s bytes marks es (pairs marks) d
  collected f =
      ap (λ (n : ℕ). filled_with s bytes marks es d (gather (n - 1) d.window (put start))) (pairs-put start)
      ∙ go (pairs marks) (grind (arith, common_steps))
    where
      go :
          (n : ℕ) → 0 < n →
          filled_with s bytes marks es d (gather (n - 1) d.window (put start)) ≡ collected_in s bytes marks es n d
      go zero h = absurd (omega arith)
      go (suc n) h =
          let less : suc n - 1 ≡ n = omega arith in
          let fit : fits start ≡ true = grind (arith, common_steps) in
          rw (less, fit)
