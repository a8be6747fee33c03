-- What moving and copying leave (01: "it is moved to 0; bytes behind the moved part stay"). Outside its bounds each changes nothing.
-- Assumes nothing.
use Rattle.std.specs.Prelude.{ℕ, ◌+◌, ◌-◌, cond, ◌&&◌, List, ◌++◌, map, ◌≡◌, length, take, drop, leb}

-- the bytes from `from` up to `to` at the front, those behind as they were
unfoldable pub moved_down : (from to : ℕ) → List ℕ → List ℕ
moved_down from to w =
    cond (leb from to && leb to (length w)) (take (to - from) (drop from w) ++ drop (to - from) w) w

-- each of the first `count` ends less by `by`, the others as they were
unfoldable pub moved_ends : (count by : ℕ) → List ℕ → List ℕ
moved_ends count by ends =
    cond (leb count (length ends)) (map (λ (e : ℕ). e - by) (take count ends) ++ drop count ends) ends

-- `src` in place of as many bytes from `at` on, the others as they were
unfoldable pub pasted : {A : Type 0} → (at : ℕ) (src out : List A) → List A
pasted at src out =
    cond (leb (at + length src) (length out)) (take at out ++ (src ++ drop (at + length src) out)) out

-- the promises of `move_down`, `move_ends` and `copy`
abbrev pub MoveDown : (from to : ℕ) (w exit : List ℕ) → Type 0
MoveDown from to w exit = exit ≡ moved_down from to w

abbrev pub MoveEnds : (count by : ℕ) (ends exit : List ℕ) → Type 0
MoveEnds count by ends exit = exit ≡ moved_ends count by ends

abbrev pub Copy : {A : Type 0} → (at : ℕ) (src out exit : List A) → Type 0
Copy at src out exit = exit ≡ pasted at src out
