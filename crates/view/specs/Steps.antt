-- What the private steps of the views answer: the head, a trimmed line, and its extent. Assumes nothing.
use Rattle.std.specs.Prelude.{ℕ, ◌+◌, ◌<◌, ◌≤◌, ◌≡◌, List, length, get_or, suc, [], ◌∷◌, Result, Ok, Err}
use Rattle.std.specs.Borrow.{Bor}
use Rattle.view.specs.declared.error.ViewError.{ViewError}
use Rattle.view.specs.declared.error.ViewError.TheVariants.{State}
use Rattle.view.specs.View.{Viewed, says, if_rising, line_of, extent}

-- the first end rises, and `head` is the trimmed line before it
pub record First (w : List ℕ) (start : ℕ) (ends head : List ℕ) : Type 0 where
  pub there : 0 < length ends
  pub above : start < get_or ends 0 0
  pub inside : get_or ends 0 0 ≤ length w
  pub is : head ≡ line_of w (start + 1) (get_or ends 0 0)

-- a first end that is not there, or does not rise
abbrev pub Falls : (w : List ℕ) (start : ℕ) (ends : List ℕ) → Type 0
Falls w start ends = 0 < length ends → start < get_or ends 0 0 → get_or ends 0 0 ≤ length w → ⊥

-- the head's text, or refusal 11
abbrev pub HeadTextIs : (w : List ℕ) (start : ℕ) (ends : List ℕ) → Result (Bor (List ℕ)) ViewError → Type 0
HeadTextIs w start ends (Ok head) = First w start ends head.now
HeadTextIs w start ends (Err x) = (x ≡ State) × Falls w start ends

-- the trimmed line from behind a place up to an end that rises, or refusal 11
abbrev pub TrimmedIs : (w : List ℕ) (place e : ℕ) → Result (Bor (List ℕ)) ViewError → Type 0
TrimmedIs w place e (Ok line) = (place < e) × ((e ≤ length w) × (line.now ≡ line_of w (place + 1) e))
TrimmedIs w place e (Err x) = (x ≡ State) × (place < e → e ≤ length w → ⊥)

-- its extent
abbrev pub BehindIs : (w : List ℕ) (place e : ℕ) → Viewed → Type 0
BehindIs w place e r = says r ≡ if_rising w place (e ∷ []) (extent w (suc place) e)
