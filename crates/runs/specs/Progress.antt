-- Progress (01, "The window and its refills"): a caller that reports at least 1 byte per ask, and 0 only at the end, hears something other than an
-- ask within (input bytes left) + 1 reports. Assumes nothing.
use Rattle.std.specs.Prelude.{ℕ, suc, ◌+◌, ◌≤◌, Bool, true, false, List, [], ◌∷◌, ◌≡◌, length, drop}
use Rattle.growth.specs.declared.Policy.{Policy}
use Rattle.reader.specs.Read.{Said, asks, gives, ends, refuses}
use Rattle.runs.specs.Run.{State, Made, reading, offset, Event, read, collected, brought, sought, refused, Run}
use Rattle.runs.specs.Standing.{OnlyAsks}

-- how many reports were taken
unfoldable pub reports : List Event → ℕ
reports [] = 0
reports (read a ∷ h) = reports h
reports (collected short a ∷ h) = reports h
reports (brought n ∷ h) = suc (reports h)
reports (sought l b ∷ h) = reports h
reports (refused n ∷ h) = reports h

-- the bytes of the input that are not yet in the window
abbrev pub left : List ℕ → State → ℕ
left X s = length (drop (offset s) X)

abbrev pub is_ask : Said → Bool
is_ask (asks p m o) = true
is_ask (gives l b) = false
is_ask ends = false
is_ask (refuses n vs) = false

-- From any state of a run: as long as nothing but asks is heard, there are no more reports than that, and after so many the next read answers
-- something other than an ask.
abbrev pub Progress : Type 0
Progress =
    (X : List ℕ) (capacity : ℕ) (policy : Policy) (start : State) → Made capacity policy start →
    (h : List Event) (s : State) → Run X start h s →
    (g : List Event) (t : State) → Run X s g t → OnlyAsks g →
    (reports g ≤ left X s + 1) × (reports g ≡ left X s + 1 → is_ask (reading t).said ≡ false)
