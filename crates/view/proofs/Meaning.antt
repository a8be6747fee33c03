-- A record of an input that stands in the bytes, with the ends of its lines, is shown by the views as the input's meaning has it: head,
-- id, description, raw sequence, each line by its number, their count, and the full sequence. Assumes nothing.
use Prim.Native.Nat.{ℕ, zero, suc, ◌+◌, ◌-◌, ◌≤◌, ◌<◌}
use native.Mathlib.Numerals.{add-one}
use native.Mathlib.Decide.{dec_le}
use native.Mathlib.Omega.{arith}
use mathlib.Core.Bool.{true, false}
use mathlib.Core.List.{List, [], ◌∷◌, ◌++◌, map, append-nil}
use mathlib.Core.Option.{some}
use mathlib.Core.Path.{◌≡◌, refl, sym, ap, ◌∙◌}
use lib.ListN.{length, get_or, take, drop, length-drop, length-map, take-append-drop, get_or-map}
use lib.Seq.{drop-drop, get_or-drop, take_at, length-take-le}
use Rattle.meaning.specs.Line.{lines, trim_cr}
use Rattle.meaning.specs.Input.{Rec}
use Rattle.meaning.specs.Parts.{size, head_of, seq_lines, seq_of, id_of, desc_of, joined}
use Rattle.meaning.specs.OnePass.{lines_at}
use Rattle.meaning.proofs.Ends.{ends_at, lines_cut, length-lines_at}
use Rattle.scan.specs.Move.{pasted}
use Rattle.scan.proofs.Paste.{pasted-room, length-pasted}
use Rattle.view.specs.Rising.{rising, Rising}
use Rattle.view.specs.View.{line_of, between, head_in, id_in, desc_in, seq_in, line_in, line_count, refuses}
use Rattle.view.specs.Full.{refuses as refuses9, left, filled, joined_at, whole_at, full_in, picked}
use Rattle.view.specs.Shows.{Shows}
use Rattle.view.proofs.Rises.{rises-rising}
use Rattle.view.proofs.Heads.{id-within, desc-none, desc-some}
use Rattle.view.specs.Steps.{First}
use Rattle.view.proofs.Cases.{line-behind, between_in, last-at, head-some, id-some, desc-without, desc-behind, seq-one, seq-some, line-past, line-some}
use Rattle.view.proofs.Joins.{filled-room, filled-done, whole-one, whole-many, Others, others-are, full-some}
use Rattle.view.proofs.Places.{ends-rise, ends_some, rises-pair, rises-last, lines-index, drop-take, line-shown, id-shown, rest-shown}

-- The record's bytes, which begin with a `>`, stand in X from start on, and the ends are those of its lines.
pub record Stands (X : List ℕ) (start : ℕ) (r : Rec) (ends : List ℕ) : Type 0 where
  pub rest : List ℕ
  pub begins : r.bytes ≡ 62 ∷ rest
  pub there : take (size r) (drop start X) ≡ r.bytes
  pub are : ends ≡ ends_at start r.bytes true

take-fits : (n : ℕ) (l : List ℕ) → length (take n l) ≡ n → n ≤ length l
take-fits zero l e = omega arith
take-fits (suc n) [] e = absurd (omega arith)
take-fits (suc n) (x ∷ l) e = let u = take-fits n l (omega arith) in omega (arith, u)

-- what is pasted to the front is shown there
front-shown : (text scratch : List ℕ) → length text ≤ length scratch → between (pasted 0 text scratch) 0 (length text) ≡ text
front-shown text scratch h =
    let n : length (pasted 0 text scratch) ≡ length scratch = length-pasted 0 text scratch (omega arith) in
    let z : length text - 0 ≡ length text = omega arith in
    between_in (pasted 0 text scratch) 0 (length text) (omega arith) (omega arith)
    ∙ ap (λ (k : ℕ). take k (pasted 0 text scratch)) z
    ∙ ap (take (length text)) (pasted-room 0 text scratch (omega arith))
    ∙ take_at text (drop (0 + length text) scratch) (length text) refl

-- one line joined is the line
joined-one : (X : List ℕ) (a : ℕ) (es : List ℕ) → length es ≡ 1 → joined_at X (suc a) es ≡ line_of X (a + 1) (get_or es 0 0)
unfolding lines_at
joined-one X a [] k = absurd (omega arith)
joined-one X a (e ∷ []) k = rw add-one (append-nil (line_of X (suc a) e))
joined-one X a (e ∷ f ∷ es) k = absurd (omega arith)

others-first : (ends : List ℕ) → 1 < length ends → get_or (Others ends) 0 0 ≡ get_or ends 1 0
others-first [] k = absurd (omega arith)
others-first (e ∷ []) k = absurd (omega arith)
others-first (e ∷ f ∷ es) k = rw (others-are e (f ∷ es)) refl

module _ (X : List ℕ) (start : ℕ) (r : Rec) (ends : List ℕ) (s : Stands X start r ends) where
  inside : start + suc (length s.rest) ≤ length X
  inside =
      let n : size r ≡ suc (length s.rest) = ap length s.begins in
      let u : size r ≤ length (drop start X) = take-fits (size r) (drop start X) (ap length s.there) in
      omega (arith, length-drop start X)

  pub rises : Rising start ends (length X)
  unfolding ends_at
  rises =
      rw (s.are, s.begins) (ends-rise s.rest false start (suc start) (length X) (omega arith) (omega (arith, inside)))

  pub some_end : 0 < length ends
  unfolding ends_at
  some_end = rw (s.are, s.begins) (ends_some s.rest (suc start))

  -- the record's lines are cut out at its ends
  pub cut : lines_at X start ends ≡ lines r.bytes
  cut =
      let R = drop (size r) (drop start X) in
      rw s.are (lines_cut X r.bytes start R
      (sym (take-append-drop (size r) (drop start X)) ∙ ap (λ (l : List ℕ). l ++ R) s.there))

  above : (start < get_or ends 0 0) × (get_or ends 0 0 ≤ length X)
  above = go ends rises some_end
    where
      go : (es : List ℕ) → Rising start es (length X) → 0 < length es → (start < get_or es 0 0) × (get_or es 0 0 ≤ length X)
      go [] u k = absurd (omega arith)
      go (e ∷ es) u k = (u.0, u.1.0)

  begun : First X start ends (line_of X (start + 1) (get_or ends 0 0))
  begun = record { there = some_end; above = above.0; inside = above.1; is = refl }

  -- the head
  pub head_is : line_of X (start + 1) (get_or ends 0 0) ≡ head_of r
  unfolding head_of lines_at
  head_is = go ends cut above.0 some_end
    where
      go : (es : List ℕ) → lines_at X start es ≡ lines r.bytes → start < get_or es 0 0 → 0 < length es
          → line_of X (start + 1) (get_or es 0 0) ≡ head_of r
      go [] c h k = absurd (omega arith)
      go (e ∷ es) c h k =
          let z : e - start - 1 ≡ e - (start + 1) = omega arith in
          let q : drop 1 (take (e - start) (drop start X)) ≡ take (e - (start + 1)) (drop (start + 1) X) =
          drop-take 1 (e - start) (drop start X) (omega arith)
          ∙ ap (take (e - start - 1)) (drop-drop 1 start X)
          ∙ ap (λ (n : ℕ). take n (drop (start + 1) X)) z in
          ap trim_cr (sym q) ∙ ap (λ (ls : List (List ℕ)). trim_cr (drop 1 (get_or ls 0 []))) c

  pub head-shows : Shows X (head_in X start ends) (some (head_of r))
  head-shows =
      rw (
        head-some X start ends some_end,
        ← line-behind X start (get_or ends 0 0) (line_of X (start + 1) (get_or ends 0 0)) above.0 above.1 refl,
      )
      (line-shown X (start + 1) (get_or ends 0 0) (omega (arith, above.0)) above.1 ∙ head_is)

  -- its id
  pub id-shows : Shows X (id_in X start ends) (some (id_of (head_of r)))
  id-shows =
      rw (id-some X start ends (line_of X (start + 1) (get_or ends 0 0)) begun)
      (id-shown X (start + 1) (get_or ends 0 0) (omega (arith, above.0)) above.1 ∙ ap id_of head_is)

  -- its description, or that there is none
  pub desc-shows : Shows X (desc_in X start ends) (desc_of (head_of r))
  desc-shows = rw (← head_is) (go (dec_le (length h) (length (id_of h))))
    where
      h : List ℕ
      h = line_of X (start + 1) (get_or ends 0 0)

      go : Dec (length h ≤ length (id_of h)) → Shows X (desc_in X start ends) (desc_of h)
      go (yes u) =
          let e : length (id_of h) ≡ length h = omega (arith, id-within h) in
          rw (desc-without X start ends h begun e, desc-none h e) tt
      go (no u) =
          let ne : length (id_of h) < length h = omega arith in
          rw (desc-behind X start ends h begun (λ e. omega arith), desc-some h ne)
          (rest-shown X (start + 1) (get_or ends 0 0) (omega (arith, above.0)) above.1 (length (id_of h)) ne)

  -- the number of sequence lines
  pub count_is : line_count ends ≡ length (seq_lines r)
  unfolding seq_lines
  count_is =
      let ls = lines r.bytes in
      let n : length ls ≡ length ends = ap length (sym cut) ∙ length-lines_at X start ends in
      omega (arith, n, length-map (drop 1 ls) trim_cr, length-drop 1 ls)

  -- each by its number
  line_is : (i : ℕ) → suc i < length ends → get_or (seq_lines r) i [] ≡ line_of X (suc (get_or ends i 0)) (get_or ends (suc i) 0)
  unfolding seq_lines trim_cr
  line_is i k =
      let ls = lines r.bytes in
      let z : 1 + i ≡ suc i = omega arith in
      get_or-map trim_cr (drop 1 ls) i []
      ∙ ap trim_cr (get_or-drop 1 ls i []
      ∙ ap (λ (n : ℕ). get_or ls n []) z
      ∙ ap (λ (m : List (List ℕ)). get_or m (suc i) []) (sym cut)
      ∙ lines-index X start ends i k)

  pub line-shows : (i : ℕ) → i < length (seq_lines r) → Shows X (line_in X start ends i) (some (get_or (seq_lines r) i []))
  line-shows i k =
      let c = count_is in
      let n : suc i < length ends = omega arith in
      let p = rises-pair start ends (length X) i rises n in
      let b = get_or ends i 0 in
      let e = get_or ends (i + 1) 0 in
      let here : line_of X (b + 1) e ≡ get_or (seq_lines r) i [] = rw (add-one, add-one) (sym (line_is i n)) in
      let up : b < e = rw add-one p.1.0 in
      let in-X : e ≤ length X = rw add-one p.1.1 in
      rw (line-some X start ends i (omega arith) p.0, ← line-behind X b e (line_of X (b + 1) e) up in-X refl)
      (line-shown X (b + 1) e (omega arith) in-X ∙ here)

  -- and no other
  pub line_refused : (i : ℕ) → length (seq_lines r) ≤ i → line_in X start ends i ≡ refuses 8 []
  line_refused i k = let c = count_is in line-past X start ends i some_end (omega arith)

  -- the raw sequence: what stands behind the first end up to the last, and nothing with one end
  pub seq-shows : 1 < length ends
      → Shows X (seq_in X start ends) (some (line_of X (get_or ends 0 0 + 1) (get_or ends (length ends - 1) 0)))
  seq-shows k =
      let u = go ends rises k in
      rw (
        seq-some X start ends k above.0,
        ← line-behind X (get_or ends 0 0) (get_or ends (length ends - 1) 0) (line_of X (get_or ends 0 0 + 1) (get_or ends (length ends - 1) 0)) u.0 u.1 refl,
      )
      (line-shown X (get_or ends 0 0 + 1) (get_or ends (length ends - 1) 0) (omega (arith, u.0)) u.1)
    where
      go : (es : List ℕ) → Rising start es (length X) → 1 < length es
          → (get_or es 0 0 < get_or es (length es - 1) 0) × (get_or es (length es - 1) 0 ≤ length X)
      go [] v k = absurd (omega arith)
      go (e ∷ es) v k =
          let z : length (e ∷ es) - 1 ≡ length es = omega arith in
          rw (z, last-at e es) (rises-last start e es (length X) v (omega arith))

  pub seq-empty-shows : length ends ≡ 1 → Shows X (seq_in X start ends) (some [])
  seq-empty-shows k =
      let a = get_or ends 0 0 in
      let z : a - a ≡ 0 = omega arith in
      rw (seq-one X start ends k above.0 above.1) (between_in X a a (omega arith) above.1 ∙ ap (λ (n : ℕ). take n (drop a X)) z)

  -- the full sequence: the others' lines joined
  joined_is : joined_at X (suc (get_or ends 0 0)) (Others ends) ≡ seq_of r
  unfolding seq_of lines_at
  joined_is = go ends cut some_end
    where
      go : (es : List ℕ) → lines_at X start es ≡ lines r.bytes → 0 < length es
          → joined_at X (suc (get_or es 0 0)) (Others es) ≡ seq_of r
      go [] c k = absurd (omega arith)
      go (e ∷ es) c k = rw (others-are e es) (ap (λ (ls : List (List ℕ)). joined (map trim_cr (drop 1 ls))) c)

  others-count : length (Others ends) ≡ length (seq_lines r)
  others-count =
      length-take-le (length ends - 1) (drop 1 ends) (omega (arith, length-drop 1 ends)) ∙ count_is

  all-rise : rising start ends (length X) ≡ true
  all-rise = rises-rising start ends (length X) rises

  whole_is : (scratch : List ℕ) → full_in X start ends scratch ≡ whole_at X (suc (get_or ends 0 0)) (Others ends) scratch
  whole_is scratch = full-some X start ends scratch some_end all-rise

  many_is : (scratch : List ℕ) → (length (seq_lines r) ≡ 1 → ⊥) → full_in X start ends scratch ≡ filled (seq_of r) scratch
  many_is scratch ne =
      whole_is scratch
      ∙ whole-many X (get_or ends 0 0) (Others ends) scratch (λ e. ne (sym others-count ∙ e))
      ∙ ap (λ (t : List ℕ). filled t scratch) joined_is

  -- with room it is picked from the scratch
  pub full-shows : (scratch : List ℕ) → (length (seq_lines r) ≡ 1 → ⊥) → length (seq_of r) ≤ length scratch
      → picked X (full_in X start ends scratch).scratch (full_in X start ends scratch).answer ≡ seq_of r
  unfolding picked
  full-shows scratch ne h =
      rw (many_is scratch ne ∙ filled-done (seq_of r) scratch h) (front-shown (seq_of r) scratch h)

  -- without room it is refused with its length
  pub full-refused : (scratch : List ℕ) → (length (seq_lines r) ≡ 1 → ⊥) → length scratch < length (seq_of r)
      → full_in X start ends scratch ≡ left (refuses9 9 (length (seq_of r) ∷ [])) scratch
  full-refused scratch ne h = many_is scratch ne ∙ filled-room (seq_of r) scratch h

  -- one line is picked from the window, whatever the scratch, which stays as it was
  pub full-one-shows : (scratch : List ℕ) → length (seq_lines r) ≡ 1
      → (picked X scratch (full_in X start ends scratch).answer ≡ seq_of r) × ((full_in X start ends scratch).scratch ≡ scratch)
  unfolding picked
  full-one-shows scratch e =
      let a = get_or ends 0 0 in
      let b = get_or (Others ends) 0 0 in
      let k : length (Others ends) ≡ 1 = others-count ∙ e in
      let p = rises-pair start ends (length X) 0 rises (omega (arith, e, count_is)) in
      let second : b ≡ get_or ends 1 0 = others-first ends (omega (arith, e, count_is)) in
      rw (whole_is scratch ∙ whole-one X a (Others ends) scratch (line_of X (a + 1) b) k refl) (
        line-shown X (a + 1) b (omega (arith, second, p.1.0)) (omega (arith, second, p.1.1)) ∙ sym (joined-one X a (Others ends) k) ∙ joined_is,
        refl,
      )
