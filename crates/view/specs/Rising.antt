-- Rising ends (01, refusal 11): strictly, each above the one before it, the first above the start, none above the end of the bytes.
-- Assumes nothing.
use Rattle.std.specs.Prelude.{ℕ, ◌≤◌, ◌<◌, Bool, true, ◌&&◌, List, [], ◌∷◌, ltb, leb}

-- the test
abbrev pub rising : (lo : ℕ) → (ends : List ℕ) → (hi : ℕ) → Bool
rising lo [] hi = true
rising lo (e ∷ es) hi = ltb lo e && leb e hi && rising e es hi

-- the fact that it tests
abbrev pub Rising : (lo : ℕ) → (ends : List ℕ) → (hi : ℕ) → Type 0
Rising lo [] hi = Unit {0}
Rising lo (e ∷ es) hi = (lo < e) × ((e ≤ hi) × Rising e es hi)
