-- Laws of `Put`: putting a text behind another is putting both at once. What is still to be put is followed by `Rest`: the rest, put
-- where the last part ended, gives what the whole text gives. Assumes nothing.
use Prim.Native.Nat.{ℕ, ◌+◌, ◌≤◌, ◌<◌, min}
use native.Mathlib.Omega.{arith}
use mathlib.Core.Path.{◌≡◌, refl, sym, ap, subst, ◌∙◌}
use mathlib.Core.List.{List, [], ◌∷◌, ◌++◌}
use lib.ListN.{length, get_or, take, drop, length-append}
use lib.Seq.{drop-cons, take-append_seam, drop-append_seam, append_snoc}
use Rattle.std.specs.Borrow.{Bor}
use Rattle.std.proofs.Common.{add-one}
use Rattle.std.proofs.lemmas.Grind.{common_steps}
use Rattle.scan.specs.Move.{pasted}
use Rattle.scan.proofs.Paste.{length-pasted, pasted-behind, pasted-none}
use Rattle.write.specs.Put.{Fits, Put, text_of}
use Rattle.write.specs.Text.{seq_text, wrap_seq_text}
use Rattle.write.proofs.Wrap.{wrap-line}

-- room for two texts is room for the first
pub first_fits : (at : ℕ) (a b out : List ℕ) → Fits at (a ++ b) out → Fits at a out
first_fits at a b out fits = omega (arith, length-append a b)

-- and, once that is put, for the second behind it
pub second_fits : {at m : ℕ} {a out mid : List ℕ} (b : List ℕ) → Fits at (a ++ b) out → Put at a out m mid → Fits m b mid
second_fits {at} {m} {a} {out} {mid} b fits p =
    omega (arith, length-append a b, ap length p.holds, length-pasted at a out (first_fits at a b out fits))

-- of a text that is to stand from `at` on, the rest is still to be put at `m`
pub record Rest (at : ℕ) (text out : List ℕ) (m : ℕ) (rest mid : List ℕ) : Type 0 where
  pub place : m + length rest ≡ at + length text
  pub holds : pasted m rest mid ≡ pasted at text out

pub rest_all : (at : ℕ) (text out : List ℕ) → Rest at text out at text out
rest_all at text out = record { place = refl; holds = refl }

pub rest-next : {at n m : ℕ} {text out a mid next : List ℕ} (b : List ℕ)
    → Fits m (a ++ b) mid → Rest at text out m (a ++ b) mid → Put m a mid n next → Rest at text out n b next
rest-next {at} {n} {m} {text} {out} {a} {mid} {next} b fits r p =
    record {
      place = omega (arith, length-append a b, r.place, p.place);
      holds = (λ i. pasted (p.place i) b (p.holds i)) ∙ pasted-behind m a b mid (omega (arith, length-append a b)) ∙ r.holds;
    }

pub rest_put : {at m n : ℕ} {text out rest mid exit : List ℕ} → Rest at text out m rest mid → Put m rest mid n exit → Put at text out n exit
rest_put r p = record { place = p.place ∙ r.place; holds = p.holds ∙ r.holds }

pub rest-none : {at m : ℕ} {text out mid : List ℕ} → m ≤ length mid → Rest at text out m [] mid → Put at text out m mid
rest-none {at} {m} {text} {out} {mid} h r = record { place = omega (arith, r.place); holds = sym (pasted-none m mid h) ∙ r.holds }

pub put_both : {at m r : ℕ} {a b out mid exit : List ℕ} → Fits at (a ++ b) out → Put at a out m mid → Put m b mid r exit → Put at (a ++ b) out r exit
put_both {at} {m} {r} {a} {b} {out} fits p q = rest_put (rest-next b fits (rest_all at (a ++ b) out) p) q

-- the same under another form of the text
pub fits-as : (at : ℕ) {a b : List ℕ} (out : List ℕ) → a ≡ b → Fits at a out → Fits at b out
fits-as at out e fits = omega (arith, ap length e)

pub put_as : {at r : ℕ} {a b out exit : List ℕ} → a ≡ b → Put at b out r exit → Put at a out r exit
put_as {at} {r} {a} {b} {out} {exit} e p = subst (λ (text : List ℕ). Put at text out r exit) (sym e) p

pub rest-as : {at m : ℕ} {text out a b mid : List ℕ} → a ≡ b → Rest at text out m a mid → Rest at text out m b mid
rest-as {at} {m} {text} {out} {a} {b} {mid} e r = subst (λ (rest : List ℕ). Rest at text out m rest mid) e r

-- a number of elements and that number cut at the length take and drop the same
take-cut : (n : ℕ) (l : List ℕ) → take (min n (length l)) l ≡ take n l
take-cut n l = grind (arith, common_steps)

drop-cut : (n : ℕ) (l : List ℕ) → drop (min n (length l)) l ≡ drop n l
drop-cut n l = grind (arith, common_steps)

-- the first line of a sequence, as `chunks` cuts it, and the lines of what is left
pub lines-next : {wrap size : ℕ} {s : List ℕ} (line rest : List ℕ) → 0 < wrap → size ≡ wrap
    → (s ≡ line ++ rest) × (length line ≡ min size (length s)) × (0 < length s)
    → wrap_seq_text wrap s ≡ seq_text line ++ wrap_seq_text wrap rest
lines-next {wrap} {size} {s} line rest w wide (e, cut, h) =
    let n : min wrap (length s) ≡ length line = omega arith in
    let first : take wrap s ≡ line = sym (take-cut wrap s) ∙ (λ i. take (n i) (e i)) ∙ take-append_seam line rest in
    let behind : drop wrap s ≡ rest = sym (drop-cut wrap s) ∙ (λ i. drop (n i) (e i)) ∙ drop-append_seam line rest in
    wrap-line wrap s w h
    ∙ (λ i. first i ++ (10 ∷ wrap_seq_text wrap (behind i)))
    ∙ sym (append_snoc line 10 (wrap_seq_text wrap rest))

-- the i-th part put, those behind it are still to be put
pub rest-part : {at m : ℕ} {text out mid next : List ℕ} (parts : List (Bor (List ℕ))) (i : ℕ) (d : Bor (List ℕ)) → i < length parts
    → at + length text ≤ length mid
    → Rest at text out m (text_of (drop i parts)) mid
    → next ≡ pasted m (get_or parts i d).now mid
    → Rest at text out (m + length (get_or parts i d).now) (text_of (drop (i + 1) parts)) next
rest-part {at} {m} {text} {out} {mid} parts i d h fits r e =
    let behind = text_of (drop (i + 1) parts) in
    let now : text_of (drop i parts) ≡ (get_or parts i d).now ++ behind =
    rw add-one (ap text_of (drop-cons parts i d h)) in
    rest-next behind (omega (arith, ap length now, r.place)) (rest-as now r) (record { place = refl; holds = e })
