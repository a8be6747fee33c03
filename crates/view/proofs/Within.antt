-- What a view names lies in the bytes that it was given, so that it shows the same in a longer window: a record that stands in the first bytes of
-- a window is shown there as the input's meaning has it. Assumes nothing.
use Prim.Native.Nat.{ℕ, suc, ◌+◌, ◌-◌, ◌≤◌, ◌<◌}
use native.Mathlib.Decide.{dec_le}
use native.Mathlib.Omega.{arith}
use mathlib.Core.Bool.{Bool, true, false}
use mathlib.Core.List.{List, [], ◌∷◌}
use mathlib.Core.Option.{Option, none as without, some}
use mathlib.Core.Path.{◌≡◌, refl, sym, ap, ◌∙◌}
use lib.ListN.{length, get_or, take, drop, length-drop}
use lib.Seq.{take-take, length-take-le}
use lib.Dec.{eqb, ltb, leb}
use borrow.Author.Tests.{eqb-true, eqb-false}
use Rattle.meaning.specs.Input.{Rec}
use Rattle.meaning.specs.Parts.{head_of, seq_lines, seq_of, id_of, desc_of}
use Rattle.view.specs.Rising.{rising}
use Rattle.view.specs.View.{Shown, part, none, refuses, if_rising, line_of, head_in, id_in, desc_in, line_in, after, between}
use Rattle.view.specs.Full.{Whole, window, front, refuses as refuses9, filled, joined_at, whole_at, full_in, picked}
use Rattle.view.specs.Shows.{Shows}
use Rattle.view.proofs.Rises.{first-inside, rising-next}
use Rattle.view.proofs.Heads.{id-within, desc-none, desc-some, line-within}
use Rattle.view.proofs.Cases.{between_in}
use Rattle.view.proofs.Places.{drop-take}
use Rattle.view.proofs.Meaning.{Stands, head-shows, id-shows, desc-shows, line-shows, full-shows, full-one-shows}

-- the part that is named lies in n bytes
abbrev Within : (n : ℕ) → Shown → Type 0
Within n (part from to) = (from ≤ to) × (to ≤ n)
Within n none = Unit {0}
Within n (refuses number values) = Unit {0}

-- a part of the first bytes is that part of all
between-wider : (n : ℕ) (w : List ℕ) (a e : ℕ) → n ≤ length w → a ≤ e → e ≤ length (take n w) → between w a e ≡ between (take n w) a e
between-wider n w a e h k l =
    let m : length (take n w) ≡ n = length-take-le n w h in
    between_in w a e k (omega arith)
    ∙ sym (take-take (e - a) (n - a) (drop a w) (omega arith))
    ∙ sym (ap (take (e - a)) (drop-take a n w (omega arith)))
    ∙ sym (between_in (take n w) a e k l)

shows-wider : (n : ℕ) (w : List ℕ) (s : Shown) (text : Option (List ℕ)) → n ≤ length w → Within (length (take n w)) s → Shows (take n w) s text → Shows w s text
shows-wider n w (part from to) (some text) h k s = between-wider n w from to h k.0 k.1 ∙ s
shows-wider n w (part from to) without h k s = s
shows-wider n w none text h k s = go text s
  where
    go : (t : Option (List ℕ)) → Shows (take n w) none t → Shows w none t
    go (some x) s = s
    go without s = s
shows-wider n w (refuses number values) text h k s = s

-- behind the test of its ends
by-rising : (w : List ℕ) (lo e : ℕ) (es : List ℕ) (s : Shown) → (lo < e → e ≤ length w → rising e es (length w) ≡ true → Within (length w) s) → Within (length w) (if_rising w lo (e ∷ es) s)
unfolding if_rising
by-rising w lo e es s k = go (rising lo (e ∷ es) (length w)) refl
  where
    go : (t : Bool) → rising lo (e ∷ es) (length w) ≡ t → Within (length w) (if_rising w lo (e ∷ es) s)
    go false t = rw t tt
    go true t =
        let i = first-inside lo e es (length w) t in
        rw t (k i.0 i.1 (sym (rising-next lo e es (length w) i.0 i.1) ∙ t))

line-in : (w : List ℕ) (a e : ℕ) → a ≤ e → e ≤ length w → a + length (line_of w a e) ≤ length w
line-in w a e h k = omega (arith, line-within w a e k)

module _ (w : List ℕ) (start : ℕ) where
  head-within : (ends : List ℕ) → Within (length w) (head_in w start ends)
  unfolding head_in
  head-within [] = tt
  head-within (e ∷ es) = by-rising w start e [] _ (λ a b c. (omega arith, line-in w (suc start) e a b))

  id-in : (ends : List ℕ) → Within (length w) (id_in w start ends)
  unfolding id_in
  id-in [] = tt
  id-in (e ∷ es) =
      by-rising w start e [] _ (λ a b c. (omega arith, omega (arith, line-in w (suc start) e a b, id-within (line_of w (suc start) e))))

  desc-in : (ends : List ℕ) → Within (length w) (desc_in w start ends)
  unfolding desc_in
  desc-in [] = tt
  desc-in (e ∷ es) = by-rising w start e [] _ (λ a b c. go a b (dec_le (length h) (length (id_of h))))
    where
      h : List ℕ
      h = line_of w (suc start) e

      go : start < e → e ≤ length w → Dec (length h ≤ length (id_of h)) → Within (length w) (after (suc (suc start + length (id_of h))) (desc_of h))
      go a b (yes u) = rw (desc-none h (omega (arith, id-within h))) tt
      go a b (no u) =
          rw (desc-some h (omega arith))
          (omega arith, omega (arith, line-in w (suc start) e a b, length-drop (suc (length (id_of h))) h))

  line-in' : (ends : List ℕ) (i : ℕ) → Within (length w) (line_in w start ends i)
  unfolding line_in
  line-in' [] i = tt
  line-in' (e ∷ es) i = go (ltb i (length es)) refl
    where
      go : (t : Bool) → ltb i (length es) ≡ t → Within (length w) (line_in w start (e ∷ es) i)
      go false t = rw t tt
      go true t =
          rw t
          (by-rising w start (get_or (e ∷ es) i 0) (get_or es i 0 ∷ []) _
          (λ a b c.
          let n = first-inside (get_or (e ∷ es) i 0) (get_or es i 0) [] (length w) c in
          (omega arith, line-in w (suc (get_or (e ∷ es) i 0)) (get_or es i 0) n.0 n.1)))

-- the same of the full sequence
abbrev WholeIn : (n : ℕ) → Whole → Type 0
WholeIn n (window from to) = (from ≤ to) × (to ≤ n)
WholeIn n (front m) = Unit {0}
WholeIn n (refuses9 number values) = Unit {0}

filled_in : (n : ℕ) (text scratch : List ℕ) → WholeIn n (filled text scratch).answer
unfolding filled
filled_in n text scratch = go (leb (length text) (length scratch)) refl
  where
    go : (t : Bool) → leb (length text) (length scratch) ≡ t → WholeIn n (filled text scratch).answer
    go true t = rw t tt
    go false t = rw t tt

whole_in : (w : List ℕ) (e : ℕ) (es scratch : List ℕ) → rising e es (length w) ≡ true → WholeIn (length w) (whole_at w (suc e) es scratch).answer
unfolding whole_at
whole_in w e [] scratch t = filled_in (length w) [] scratch
whole_in w e (f ∷ []) scratch t = let i = first-inside e f [] (length w) t in (omega arith, line-in w (suc e) f i.0 i.1)
whole_in w e (f ∷ g ∷ es) scratch t = filled_in (length w) (joined_at w (suc e) (f ∷ g ∷ es)) scratch

full-in : (w : List ℕ) (start : ℕ) (ends scratch : List ℕ) → WholeIn (length w) (full_in w start ends scratch).answer
unfolding full_in
full-in w start [] scratch = tt
full-in w start (e ∷ es) scratch = go (rising start (e ∷ es) (length w)) refl
  where
    go : (t : Bool) → rising start (e ∷ es) (length w) ≡ t → WholeIn (length w) (full_in w start (e ∷ es) scratch).answer
    go false t = rw t tt
    go true t =
        let i = first-inside start e es (length w) t in
        rw t (whole_in w e es scratch (sym (rising-next start e es (length w) i.0 i.1) ∙ t))

-- so it is picked from the longer window too
picked-wider : (n : ℕ) (w : List ℕ) (start : ℕ) (ends scratch exit : List ℕ) → n ≤ length w
    → picked w exit (full_in (take n w) start ends scratch).answer ≡ picked (take n w) exit (full_in (take n w) start ends scratch).answer
unfolding picked
picked-wider n w start ends scratch exit h =
    go (full_in (take n w) start ends scratch).answer (full-in (take n w) start ends scratch)
  where
    go : (a : Whole) → WholeIn (length (take n w)) a → picked w exit a ≡ picked (take n w) exit a
    go (window from to) k = between-wider n w from to h k.0 k.1
    go (front m) k = refl
    go (refuses9 number values) k = refl

-- a record that stands in the first bytes, as it is shown in all of them
module _ (n : ℕ) (w : List ℕ) (start : ℕ) (r : Rec) (ends : List ℕ) (fits : n ≤ length w) (s : Stands (take n w) start r ends) where
  pub head-wider : Shows w (head_in (take n w) start ends) (some (head_of r))
  head-wider = shows-wider n w (head_in (take n w) start ends) (some (head_of r)) fits (head-within (take n w) start ends) (head-shows (take n w) start r ends s)

  pub id-wider : Shows w (id_in (take n w) start ends) (some (id_of (head_of r)))
  id-wider = shows-wider n w (id_in (take n w) start ends) (some (id_of (head_of r))) fits (id-in (take n w) start ends) (id-shows (take n w) start r ends s)

  pub desc-wider : Shows w (desc_in (take n w) start ends) (desc_of (head_of r))
  desc-wider = shows-wider n w (desc_in (take n w) start ends) (desc_of (head_of r)) fits (desc-in (take n w) start ends) (desc-shows (take n w) start r ends s)

  pub line-wider : (i : ℕ) → i < length (seq_lines r) → Shows w (line_in (take n w) start ends i) (some (get_or (seq_lines r) i []))
  line-wider i h = shows-wider n w (line_in (take n w) start ends i) (some (get_or (seq_lines r) i [])) fits (line-in' (take n w) start ends i) (line-shows (take n w) start r ends s i h)

  -- the full sequence, where the scratch has room for it or one line needs none
  pub full-wider : (scratch : List ℕ) → length (seq_of r) ≤ length scratch
      → picked w (full_in (take n w) start ends scratch).scratch (full_in (take n w) start ends scratch).answer ≡ seq_of r
  full-wider scratch room =
      picked-wider n w start ends scratch (full_in (take n w) start ends scratch).scratch fits ∙ go (eqb (length (seq_lines r)) 1) refl
    where
      go : (t : Bool) → eqb (length (seq_lines r)) 1 ≡ t
          → picked (take n w) (full_in (take n w) start ends scratch).scratch (full_in (take n w) start ends scratch).answer ≡ seq_of r
      go false u = full-shows (take n w) start r ends s scratch (eqb-false (length (seq_lines r)) 1 u) room
      go true u =
          let one = full-one-shows (take n w) start r ends s scratch (eqb-true (length (seq_lines r)) 1 u) in
          ap (λ (q : List ℕ). picked (take n w) q (full_in (take n w) start ends scratch).answer) one.1 ∙ one.0
