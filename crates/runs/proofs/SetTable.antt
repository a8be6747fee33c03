-- The tables of a set (01, module 6): a record that is put behind others stands there with its start and its ends, and the others stand as they
-- stood. Assumes nothing.
use Prim.Native.Nat.{ℕ, zero, suc, ◌+◌, ◌-◌, ◌≤◌, ◌<◌}
use native.Mathlib.Omega.{arith}
use mathlib.Core.List.{List, [], ◌∷◌, ◌++◌, map}
use mathlib.Core.Path.{◌≡◌, refl, sym, ap, subst, ◌∙◌}
use lib.ListN.{length, get_or, take, drop, set, length-set, length-drop}
use lib.Seq.{take-take, length-take-le, take_at, drop_at, drop-append-le, take-append-le, get_or-set_same}
use Rattle.meaning.specs.OnePass.{Mark}
use Rattle.scan.specs.Move.{pasted}
use Rattle.scan.proofs.Paste.{pasted-room}
use Rattle.set.specs.Set.{start_of, ends_before, ends_to}

-- a number elsewhere in a list
get_d_set_other : (l : List ℕ) (i j a : ℕ) → (i ≡ j → ⊥) → get_or (set l i a) j 0 ≡ get_or l j 0
get_d_set_other [] i j a ne = refl
get_d_set_other (x ∷ l) zero zero a ne = absurd (ne refl)
get_d_set_other (x ∷ l) zero (suc j) a ne = refl
get_d_set_other (x ∷ l) (suc i) zero a ne = refl
get_d_set_other (x ∷ l) (suc i) (suc j) a ne = get_d_set_other l i j a (λ e. ne (ap suc e))

-- the part of a list below a place where others are pasted
part-below : (at : ℕ) (src out : List ℕ) (from n : ℕ) → at + length src ≤ length out → from + n ≤ at → take n (drop from (pasted at src out)) ≡ take n (drop from out)
part-below at src out from n room below =
    let front : length (take at out) ≡ at = length-take-le at out (omega arith) in
    let rest = src ++ drop (at + length src) out in
    let long : length (drop from (take at out)) ≡ at - from = length-drop from (take at out) ∙ ap (λ (k : ℕ). k - from) front in
    ap (λ (l : List ℕ). take n (drop from l)) (pasted-room at src out room)
    ∙ ap (take n) (drop-append-le from (take at out) rest (omega arith))
    ∙ take-append-le n (drop from (take at out)) rest (omega arith)
    ∙ below-take out from n at below
  where
    below-take : (l : List ℕ) (from n at : ℕ) → from + n ≤ at → take n (drop from (take at l)) ≡ take n (drop from l)
    below-take l zero n at h = take-take n at l (omega arith)
    below-take [] (suc from) n zero h = refl
    below-take [] (suc from) n (suc at) h = refl
    below-take (x ∷ l) (suc from) n zero h = absurd (omega arith)
    below-take (x ∷ l) (suc from) n (suc at) h = below-take l from n at (omega arith)

-- the part where they are pasted
part-pasted : (at : ℕ) (src out : List ℕ) → at + length src ≤ length out → take (length src) (drop at (pasted at src out)) ≡ src
part-pasted at src out room =
    let front : length (take at out) ≡ at = length-take-le at out (omega arith) in
    ap (λ (l : List ℕ). take (length src) (drop at l)) (pasted-room at src out room)
    ∙ ap (take (length src)) (drop_at (take at out) (src ++ drop (at + length src) out) at front)
    ∙ take_at src (drop (at + length src) out) (length src) refl

-- Record number i of a set whose bytes stand at `base` in the input, and whose first record stands on line `line`, of which the first `used` ends are
-- filled: it is that of the mark.
pub record At (base line : ℕ) (marks ends : List ℕ) (used i : ℕ) (m : Mark) : Type 0 where
  pub byte_is : m.byte ≡ base + start_of marks i
  pub line_is : m.line ≡ line + ends_before marks i
  pub ends_are : m.ends ≡ map (λ (x : ℕ). base + x) (take (ends_to marks i - ends_before marks i) (drop (ends_before marks i) ends))
  pub some_end : ends_before marks i < ends_to marks i
  pub in_table : ends_to marks i ≤ used

-- records from number i on
abbrev pub Each : (base line : ℕ) (marks ends : List ℕ) (used i : ℕ) → List Mark → Type 0
Each base line marks ends used i [] = Unit {0}
Each base line marks ends used i (m ∷ ms) = At base line marks ends used i m × Each base line marks ends used (suc i) ms

-- one more at the end
each_more : (base line : ℕ) (marks ends : List ℕ) (used i : ℕ) (ms : List Mark) (m : Mark) → Each base line marks ends used i ms
    → At base line marks ends used (i + length ms) m → Each base line marks ends used i (ms ++ (m ∷ []))
each_more base line marks ends used i [] m k a = let z : i + 0 ≡ i = omega arith in (subst (λ (n : ℕ). At base line marks ends used n m) z a, tt)
each_more base line marks ends used i (x ∷ ms) m k a =
    let z : i + suc (length ms) ≡ suc i + length ms = omega arith in
    (k.0, each_more base line marks ends used (suc i) ms m k.1 (subst (λ (n : ℕ). At base line marks ends used n m) z a))

-- the tables behind k records, with one more put there
module _ (base line : ℕ) (marks ends : List ℕ) (used k start n : ℕ) (src : List ℕ) (long : length src ≡ n)
    (room : used + n ≤ length ends) (free : k + k + 2 ≤ length marks) (used_is : ends_before marks k ≡ used) where
  abbrev pub marks' : List ℕ
  marks' = set (set marks (k + k) start) (k + k + 1) (used + n)

  abbrev pub ends' : List ℕ
  ends' = pasted used src ends

  other : (j : ℕ) → j < k + k → get_or marks' j 0 ≡ get_or marks j 0
  other j h =
      get_d_set_other (set marks (k + k) start) (k + k + 1) j (used + n) (λ e. omega arith)
      ∙ get_d_set_other marks (k + k) j start (λ e. omega arith)

  start-there : start_of marks' k ≡ start
  start-there =
      get_d_set_other (set marks (k + k) start) (k + k + 1) (k + k) (used + n) (λ e. omega arith)
      ∙ get_or-set_same marks (k + k) start 0 (omega arith)

  to-there : ends_to marks' k ≡ used + n
  to-there = get_or-set_same (set marks (k + k) start) (k + k + 1) (used + n) 0 (omega (arith, length-set marks (k + k) start))

  before_same : (j : ℕ) → j ≤ k → ends_before marks' j ≡ ends_before marks j
  before_same zero h = refl
  before_same (suc j) h = other (j + j + 1) (omega arith)

  pub used-then : ends_before marks' (suc k) ≡ used + n
  used-then = to-there

  -- the others stand as they stood
  kept_at : (j : ℕ) (m : Mark) → j < k → At base line marks ends used j m → At base line marks' ends' (used + n) j m
  kept_at j m h a =
      let from = before_same j (omega arith) in
      let to : ends_to marks' j ≡ ends_to marks j = other (j + j + 1) (omega arith) in
      record {
        byte_is = a.byte_is ∙ ap (λ (n : ℕ). base + n) (sym (other (j + j) (omega arith)));
        line_is = a.line_is ∙ ap (λ (n : ℕ). line + n) (sym from);
        ends_are =
            a.ends_are
            ∙ ap (map (λ (x : ℕ). base + x))
            (sym (part-below used src ends (ends_before marks j) (ends_to marks j - ends_before marks j) (omega (arith, long)) (omega (arith, a.in_table, a.some_end)))
            ∙ (λ i. take (sym to i - sym from i) (drop (sym from i) ends')));
        some_end = omega (arith, a.some_end, from, to);
        in_table = omega (arith, a.in_table, to);
      }

  kept-each : (i : ℕ) (ms : List Mark) → i + length ms ≤ k → Each base line marks ends used i ms → Each base line marks' ends' (used + n) i ms
  kept-each i [] h e = tt
  kept-each i (m ∷ ms) h e = (kept_at i m (omega arith) e.0, kept-each (suc i) ms (omega arith) e.1)

  -- the new one stands behind them
  new-at : (m : Mark) → m.byte ≡ base + start → m.line ≡ line + used → m.ends ≡ map (λ (x : ℕ). base + x) src → 0 < n
      → At base line marks' ends' (used + n) k m
  new-at m byte at-line are some =
      let from : ends_before marks' k ≡ used = before_same k (omega arith) ∙ used_is in
      let many : length src ≡ used + n - used = omega arith in
      record {
        byte_is = byte ∙ ap (λ (x : ℕ). base + x) (sym start-there);
        line_is = at-line ∙ ap (λ (x : ℕ). line + x) (sym from);
        ends_are =
            are
            ∙ ap (map (λ (x : ℕ). base + x))
            (sym (part-pasted used src ends (omega (arith, long)))
            ∙ (λ i. take (many i) (drop used ends'))
            ∙ (λ i. take (sym to-there i - sym from i) (drop (sym from i) ends')));
        some_end = omega (arith, from, to-there);
        in_table = omega (arith, to-there);
      }

  pub put-each : (ms : List Mark) (m : Mark) → length ms ≡ k → Each base line marks ends used 0 ms
      → m.byte ≡ base + start → m.line ≡ line + used → m.ends ≡ map (λ (x : ℕ). base + x) src → 0 < n
      → Each base line marks' ends' (used + n) 0 (ms ++ (m ∷ []))
  put-each ms m many e byte at-line are some =
      each_more base line marks' ends' (used + n) 0 ms m (kept-each 0 ms (omega arith) e)
      (subst (λ (j : ℕ). At base line marks' ends' (used + n) j m) (let z : k ≡ 0 + length ms = omega arith in z) (new-at m byte at-line are some))
