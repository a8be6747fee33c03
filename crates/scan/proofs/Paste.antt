-- Laws of `pasted`: what it is where there is room, its length, and that pasting a part behind another is pasting both at once. Assumes nothing.
use Prim.Native.Nat.{ℕ, ◌+◌, ◌≤◌}
use native.Mathlib.Omega.{arith}
use mathlib.Core.Path.{◌≡◌, sym, ap, ◌∙◌}
use mathlib.Core.List.{List, [], ◌++◌, append_assoc}
use lib.ListN.{length, take, drop, length-append}
use lib.Seq.{paste, paste-zero, length-paste, take-paste, drop-paste, take-length, drop-drop}
use borrow.Author.Tests.{le-leb}
use Rattle.scan.specs.Move.{pasted}

-- with room, the part stands from `at` on
pub pasted-room : {A : Type 0} → (at : ℕ) (src out : List A) → at + length src ≤ length out → pasted at src out ≡ take at out ++ (src ++ drop (at + length src) out)
unfolding pasted
pasted-room at src out h = rw (le-leb (at + length src) (length out) h)

-- the library's `paste` of all elements is `pasted`
pub paste_all : {A : Type 0} → (at : ℕ) (src out : List A) → at + length src ≤ length out → paste out at src (length src) ≡ pasted at src out
paste_all {A = A} at src out h =
    append_assoc (take at out) (take (length src) src) (drop (at + length src) out)
    ∙ ap (λ (l : List A). take at out ++ (l ++ drop (at + length src) out)) (take-length src)
    ∙ sym (pasted-room at src out h)

pub length-pasted : {A : Type 0} → (at : ℕ) (src out : List A) → at + length src ≤ length out → length (pasted at src out) ≡ length out
length-pasted at src out h = ap length (sym (paste_all at src out h)) ∙ length-paste out at src (length src) h (omega arith)

-- a part behind another is both at once
pub pasted-behind : {A : Type 0} → (at : ℕ) (a b out : List A) → at + length a + length b ≤ length out → pasted (at + length a) b (pasted at a out) ≡ pasted at (a ++ b) out
pasted-behind {A = A} at a b out h =
    let n = at + length a in
    let fits : n ≤ length out = omega arith in
    let same : length (pasted at a out) ≡ length out = length-pasted at a out fits in
    let front : take n (pasted at a out) ≡ take at out ++ a =
    ap (take n) (sym (paste_all at a out fits)) ∙ take-paste out at a (length a) (omega arith) (omega arith) ∙ ap (λ (l : List A). take at out ++ l) (take-length a) in
    let rest : drop (n + length b) (pasted at a out) ≡ drop (n + length b) out =
    sym (drop-drop (length b) n (pasted at a out))
    ∙ ap (λ (l : List A). drop (length b) (drop n l)) (sym (paste_all at a out fits))
    ∙ ap (drop (length b)) (drop-paste out at a (length a) (omega arith) (omega arith))
    ∙ drop-drop (length b) n out in
    let joined : at + length (a ++ b) ≡ n + length b = omega (arith, length-append a b) in
    pasted-room n b (pasted at a out) (omega arith)
    ∙ (λ i. front i ++ (b ++ rest i))
    ∙ append_assoc (take at out) a (b ++ drop (n + length b) out)
    ∙ ap (λ (l : List A). take at out ++ l) (sym (append_assoc a b (drop (n + length b) out)))
    ∙ ap (λ (k : ℕ). take at out ++ ((a ++ b) ++ drop k out)) (sym joined)
    ∙ sym (pasted-room at (a ++ b) out (omega arith))

-- nothing pasted changes nothing
pub pasted-none : {A : Type 0} → (at : ℕ) (out : List A) → at ≤ length out → pasted at [] out ≡ out
pasted-none at out h = sym (paste_all at [] out (omega arith)) ∙ sym (paste-zero out at [])
