-- A record of an input that stands in the bytes, with the ends of its lines, is written as the input's meaning has it: its head and its lines
-- anew, or the copy that `write_unchanged` makes. Assumes nothing.
use Prim.Native.Nat.{ℕ, suc, ◌+◌, ◌-◌, ◌≤◌, ◌<◌}
use native.Mathlib.Numerals.{add-one}
use native.Mathlib.Omega.{arith}
use mathlib.Core.Bool.{Bool, true, false}
use mathlib.Core.List.{List, [], ◌∷◌, map}
use mathlib.Core.Path.{◌≡◌, refl, sym, ap, ◌∙◌}
use lib.ListN.{length, get_or, take, drop}
use lib.Seq.{take-take}
use lib.Dec.{eqb}
use Rattle.meaning.specs.Line.{lines, trim_cr, trim_last}
use Rattle.meaning.specs.Input.{Rec}
use Rattle.meaning.specs.Parts.{size, head_of, seq_lines}
use Rattle.meaning.specs.OnePass.{lines_at}
use Rattle.meaning.proofs.Ends.{ends_at}
use Rattle.view.specs.Rising.{Rising}
use Rattle.view.specs.Trimmed.{trimmed_at}
use Rattle.view.specs.View.{line_of}
use Rattle.view.proofs.Places.{ends_some}
use Rattle.view.proofs.Rises.{rises-rising}
use Rattle.view.proofs.Meaning.{Stands, rises, some_end, cut, head_is}
use Rattle.write.specs.Output.{filled, wrapped}
use Rattle.write.specs.Text.{record_text, record_wrap_text, wrap_seq_iter_text, unchanged_text, copy_of}
use Rattle.rewrite.specs.Rewrite.{of_lines, written_in, wrapped_in, iterated_in, unchanged_in}
use Rattle.rewrite.proofs.Cases.{unchanged-some}
use Rattle.rewrite.proofs.Records.{Written, lines-rise}

-- the last of some ends that rise
last-rises : (lo : ℕ) (es : List ℕ) (hi : ℕ) → Rising lo es hi → 0 < length es
    → (lo < get_or es (length es - 1) 0) × (get_or es (length es - 1) 0 ≤ hi)
last-rises lo [] hi r k = absurd (omega arith)
last-rises lo (e ∷ []) hi r k = (r.0, r.1.0)
last-rises lo (e ∷ f ∷ es) hi r k =
    let z : length (e ∷ f ∷ es) - 1 ≡ suc (length (f ∷ es) - 1) = omega arith in
    let q = last-rises e (f ∷ es) hi r.1.1 (omega arith) in
    rw z (omega (arith, r.0, q.0), q.1)

-- the last end of some lines: where they end without a final `\n`
last_end : (xs : List ℕ) (x i : ℕ) (fresh : Bool)
    → get_or (ends_at i (x ∷ xs) fresh) (length (ends_at i (x ∷ xs) fresh) - 1) 0 ≡ i + length (trim_last 10 (x ∷ xs))
unfolding ends_at trim_last
last_end [] x i fresh = go (eqb x 10) refl
  where
    go : (t : Bool) → eqb x 10 ≡ t
        → get_or (ends_at i (x ∷ []) fresh) (length (ends_at i (x ∷ []) fresh) - 1) 0 ≡ i + length (trim_last 10 (x ∷ []))
    go true t = rw (t, ends_at) (omega arith)
    go false t = rw (t, ends_at) (omega arith)
last_end (y ∷ r) x i fresh = go (eqb x 10) refl (last_end r y (suc i) false) (ends_some (y ∷ r) (suc i))
  where
    E : List ℕ
    E = ends_at (suc i) (y ∷ r) false

    go : (t : Bool) → eqb x 10 ≡ t → get_or E (length E - 1) 0 ≡ suc i + length (trim_last 10 (y ∷ r)) → 0 < length E
        → get_or (ends_at i (x ∷ y ∷ r) fresh) (length (ends_at i (x ∷ y ∷ r) fresh) - 1) 0 ≡ i + length (trim_last 10 (x ∷ y ∷ r))
    go true t ih k =
        let z : length (i ∷ E) - 1 ≡ suc (length E - 1) = omega arith in
        rw (t, ends_at, z) (ih ∙ omega arith)
    go false t ih k = rw (t, ends_at) (ih ∙ omega arith)

-- trimming leaves a front
trim-front : (b : ℕ) (l : List ℕ) → (take (length (trim_last b l)) l ≡ trim_last b l) × (length (trim_last b l) ≤ length l)
unfolding trim_last
trim-front b [] = (refl, omega arith)
trim-front b (x ∷ []) = go (eqb x b) refl
  where
    go : (t : Bool) → eqb x b ≡ t
        → (take (length (trim_last b (x ∷ []))) (x ∷ []) ≡ trim_last b (x ∷ [])) × (length (trim_last b (x ∷ [])) ≤ 1)
    go true t = rw t (refl, omega arith)
    go false t = rw t (refl, omega arith)
trim-front b (x ∷ y ∷ r) =
    let ih = trim-front b (y ∷ r) in
    (ap (λ (l : List ℕ). x ∷ l) ih.0, omega (arith, ih.1))

module _ (X : List ℕ) (start : ℕ) (r : Rec) (ends : List ℕ) (s : Stands X start r ends) where
  some : 0 < length ends
  some = some_end X start r ends s

  -- its lines are the head and the sequence lines
  lines_are : trimmed_at X (suc start) ends ≡ head_of r ∷ seq_lines r
  unfolding seq_lines lines_at
  lines_are = go ends (cut X start r ends s) (head_is X start r ends s) some
    where
      go : (es : List ℕ) → lines_at X start es ≡ lines r.bytes → line_of X (start + 1) (get_or es 0 0) ≡ head_of r → 0 < length es
          → trimmed_at X (suc start) es ≡ head_of r ∷ seq_lines r
      go [] c h k = absurd (omega arith)
      go (e ∷ es) c h k = let f = rw add-one at h in λ i. f i ∷ map trim_cr (drop 1 (c i))

  of-lines : (out : List ℕ) (written : Written) → of_lines X start ends out written ≡ written (head_of r) (seq_lines r)
  of-lines out written = lines-rise X start ends out written (rises-rising start ends (length X) (rises X start r ends s)) lines_are

  pub write-is : (out : List ℕ) → written_in X start ends out ≡ filled (record_text (head_of r) (seq_lines r)) out
  unfolding written_in
  write-is out = of-lines out (λ (head : List ℕ) (ls : List (List ℕ)). filled (record_text head ls) out)

  pub write-wrap-is : (wrap : ℕ) (out : List ℕ) → wrapped_in X start ends wrap out ≡ wrapped wrap (record_wrap_text (head_of r) (seq_lines r) wrap) out
  unfolding wrapped_in
  write-wrap-is wrap out = of-lines out (λ (head : List ℕ) (ls : List (List ℕ)). wrapped wrap (record_wrap_text head ls wrap) out)

  pub write-iter-is : (wrap : ℕ) (out : List ℕ) → iterated_in X start ends wrap out ≡ wrapped wrap (wrap_seq_iter_text wrap (seq_lines r)) out
  unfolding iterated_in
  write-iter-is wrap out = of-lines out (λ (head : List ℕ) (ls : List (List ℕ)). wrapped wrap (wrap_seq_iter_text wrap ls) out)

  -- the copy from `>` to the last end
  copy_is : take (get_or ends (length ends - 1) 0 - start) (drop start X) ≡ copy_of r
  unfolding copy_of
  copy_is =
      let n = length (trim_last 10 r.bytes) in
      let t = trim-front 10 r.bytes in
      let last : get_or ends (length ends - 1) 0 ≡ start + n =
      rw (s.are, s.begins) (last_end s.rest 62 start true) in
      let z : get_or ends (length ends - 1) 0 - start ≡ n = omega arith in
      ap (λ (k : ℕ). take k (drop start X)) z
      ∙ sym (take-take n (size r) (drop start X) t.1)
      ∙ ap (take n) s.there
      ∙ t.0

  pub write-unchanged-is : (out : List ℕ) → unchanged_in X start ends out ≡ filled (unchanged_text (copy_of r)) out
  write-unchanged-is out =
      let l = last-rises start ends (length X) (rises X start r ends s) some in
      unchanged-some X start ends out some refl l.0 l.1 ∙ ap (λ (c : List ℕ). filled (unchanged_text c) out) copy_is
