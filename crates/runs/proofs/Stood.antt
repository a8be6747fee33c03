-- A record of the input, by its mark, stands in bytes that are the input's from some place on, where its start and its ends are counted from that place:
-- so views and writers of those bytes show and write it as the input's meaning has it. Assumes nothing.
use Prim.Native.Nat.{ℕ, suc, ◌+◌, ◌-◌, ◌≤◌}
use native.Mathlib.Omega.{arith}
use mathlib.Core.Bool.{Bool, true, false}
use mathlib.Core.List.{List, [], ◌∷◌, ◌++◌, map}
use mathlib.Core.Path.{◌≡◌, refl, sym, ap, ◌∙◌}
use lib.ListN.{length, get_or, take, drop, length-drop}
use lib.Seq.{drop-drop, drop-append-le, take-append-le, drop-cons}
use lib.Dec.{eqb}
use Rattle.meaning.specs.Input.{Rec}
use Rattle.meaning.specs.OnePass.{Mark}
use Rattle.meaning.proofs.OnePass.{cut_out}
use Rattle.meaning.proofs.Ends.{ends_at, closing}
use Rattle.meaning.proofs.Marks.{right-size}
use Rattle.view.proofs.Meaning.{Stands}
use Rattle.runs.proofs.Fine.{Fine}

-- places counted from b on
abbrev shifted : (b : ℕ) → List ℕ → List ℕ
shifted b es = map (λ (x : ℕ). b + x) es

shift-closing : (b i : ℕ) (t : Bool) (es : List ℕ) → closing t (b + i) (shifted b es) ≡ shifted b (closing t i es)
shift-closing b i true es = refl
shift-closing b i false es = refl

ends-shift : (b : ℕ) (xs : List ℕ) (i : ℕ) (fresh : Bool) → ends_at (b + i) xs fresh ≡ shifted b (ends_at i xs fresh)
unfolding ends_at
ends-shift b [] i true = refl
ends-shift b [] i false = refl
ends-shift b (x ∷ xs) i fresh =
    let s : suc (b + i) ≡ b + suc i = omega arith in
    ap (λ (n : ℕ). closing (eqb x 10) (b + i) (ends_at n xs (eqb x 10))) s
    ∙ ap (closing (eqb x 10) (b + i)) (ends-shift b xs (suc i) (eqb x 10))
    ∙ shift-closing b i (eqb x 10) (ends_at (suc i) xs (eqb x 10))

shift-injective : (b : ℕ) (es fs : List ℕ) → shifted b es ≡ shifted b fs → es ≡ fs
shift-injective b [] [] e = refl
shift-injective b [] (f ∷ fs) e = absurd (let z : 0 ≡ suc (length (shifted b fs)) = ap length e in omega arith)
shift-injective b (x ∷ es) [] e = absurd (let z : suc (length (shifted b es)) ≡ 0 = ap length e in omega arith)
shift-injective b (x ∷ es) (f ∷ fs) e =
    let h : b + x ≡ b + f = ap (λ (l : List ℕ). get_or l 0 0) e in
    let k : x ≡ f = omega arith in
    let t = shift-injective b es fs (ap (drop 1) e) in
    λ i. k i ∷ t i

-- F are the input's bytes from `base` on; the record starts in them at `start`, and has at least one byte there
module _ (X : List ℕ) (base : ℕ) (F rest : List ℕ) (text : drop base X ≡ F ++ rest) (m : Mark) (f : Fine X m) (start : ℕ) (es : List ℕ)
    (byte_is : m.byte ≡ base + start) (ends_are : m.ends ≡ shifted base es) (some_byte : 1 ≤ m.len) (inside : start + m.len ≤ length F) where
  abbrev rec : Rec
  rec = cut_out X m

  -- the record's bytes
  there : take m.len (drop start F) ≡ rec.bytes
  there =
      let z : m.len ≤ length (drop start F) = omega (arith, length-drop start F, inside) in
      sym (take-append-le m.len (drop start F) rest z)
      ∙ ap (take m.len)
      (sym (drop-append-le start F rest (omega (arith, inside)))
      ∙ ap (drop start) (sym text)
      ∙ drop-drop start base X
      ∙ ap (λ (n : ℕ). drop n X) (sym byte_is))

  first : (n : ℕ) → m.len ≡ suc n → rec.bytes ≡ 62 ∷ take n (drop (suc m.byte) X)
  first n is =
      ap (λ (l : ℕ). take l (drop m.byte X)) is
      ∙ ap (take (suc n)) (drop-cons X m.byte 0 (omega (arith, f.is_right.there, some_byte)))
      ∙ ap (λ (x : ℕ). x ∷ take n (drop (suc m.byte) X)) f.is_mark

  pub stands : Stands F start rec es
  stands =
      let n = m.len - 1 in
      let is : m.len ≡ suc n = omega (arith, some_byte) in
      record {
        rest = take n (drop (suc m.byte) X);
        begins = first n is;
        there = ap (λ (l : ℕ). take l (drop start F)) (right-size X m f.is_right) ∙ there;
        are =
            shift-injective base es (ends_at start rec.bytes true)
            (sym ends_are
            ∙ f.is_right.ends_are
            ∙ ap (λ (b : ℕ). ends_at b rec.bytes true) byte_is
            ∙ ends-shift base rec.bytes start true);
      }
