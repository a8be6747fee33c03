-- Laws of ends that rise: a higher bound, ends that are moved with their record, the test of refusal 11; and the
-- lengths that moving keeps. Assumes nothing.
use Prim.Native.Nat.{ℕ, suc, ◌+◌, ◌-◌, ◌≤◌}
use native.Mathlib.Omega.{arith}
use mathlib.Core.Bool.{true}
use mathlib.Core.List.{List, [], ◌∷◌, map}
use mathlib.Core.Path.{◌≡◌, refl, sym, ap, ◌∙◌}
use lib.ListN.{length, take, drop, length-map, length-drop}
use lib.Seq.{length-take-le, length_front, take_at}
use borrow.Author.Tests.{lt-ltb, le-leb}
use Rattle.scan.specs.Move.{moved_down, moved_ends}
use Rattle.scan.proofs.SearchLaws.{Rises, rises-lower, rises-count}
use Rattle.scan.proofs.MoveLaws.{moved-down-within, moved-ends-within}
use Rattle.reader.specs.State.{rising}

pub rises-higher : (lo : ℕ) (es : List ℕ) (hi top : ℕ) → hi ≤ top → Rises lo es hi → Rises lo es top
unfolding Rises
rises-higher lo [] hi top h r = omega arith
rises-higher lo (x ∷ es) hi top h (k, r) = (k, rises-higher (suc x) es hi top h r)

pub rises-moved : (by lo : ℕ) (es : List ℕ) (hi : ℕ) → by ≤ lo → Rises lo es hi → Rises (lo - by) (map (λ (x : ℕ). x - by) es) (hi - by)
unfolding Rises
rises-moved by lo [] hi h r = omega arith
rises-moved by lo (x ∷ es) hi h (k, r) =
    (omega arith, rises-lower (suc (x - by)) (suc x - by) (map (λ (x : ℕ). x - by) es) (hi - by) (omega arith) (rises-moved by (suc x) es hi (omega arith) r))

pub rises-rising : (lo : ℕ) (es : List ℕ) (hi top : ℕ) → hi ≤ top + 1 → Rises (lo + 1) es hi → rising lo es top ≡ true
unfolding Rises rising
rises-rising lo [] hi top h r = refl
rises-rising lo (x ∷ es) hi top h (k, r) =
    let inside : x ≤ top = omega (arith, rises-count (suc x) es hi r) in
    rw (lt-ltb lo x (omega arith), le-leb x top inside)
    (rises-rising x es hi top h (rises-lower (x + 1) (suc x) es hi (omega arith) r))

-- a moved window and moved ends have their lengths
pub length-moved-down : (from to : ℕ) (w : List ℕ) → from ≤ to → to ≤ length w → length (moved_down from to w) ≡ length w
length-moved-down from to w h k =
    let a : length (take (to - from) (drop from w)) ≡ to - from = length-take-le (to - from) (drop from w) (omega (arith, length-drop from w)) in
    let b : length (take (to - from) w) ≡ to - from = length-take-le (to - from) w (omega arith) in
    ap length (moved-down-within from to w h k) ∙ length_front w (take (to - from) (drop from w)) (to - from) (a ∙ sym b)

pub moved-taken : (count by : ℕ) (e : List ℕ) → count ≤ length e → take count (moved_ends count by e) ≡ map (λ (x : ℕ). x - by) (take count e)
moved-taken count by e h =
    ap (take count) (moved-ends-within count by e h)
    ∙ take_at (map (λ (x : ℕ). x - by) (take count e)) (drop count e) count (length-map (take count e) (λ (x : ℕ). x - by) ∙ length-take-le count e h)

pub length-moved-ends : (count by : ℕ) (e : List ℕ) → count ≤ length e → length (moved_ends count by e) ≡ length e
length-moved-ends count by e h =
    ap length (moved-ends-within count by e h)
    ∙ length_front e (map (λ (x : ℕ). x - by) (take count e)) count (length-map (take count e) (λ (x : ℕ). x - by))

pub rises-none : (lo : ℕ) (es : List ℕ) (hi : ℕ) → length es ≤ 0 → lo ≤ hi → Rises lo es hi
unfolding Rises
rises-none lo [] hi z h = h
rises-none lo (x ∷ es) hi z h = absurd (omega arith)
