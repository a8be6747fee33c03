-- The rows of the table of refusals (01, "Refusal numbers"): twelve numbers, of which 9 alone gives a need. Assumes nothing.
use Rattle.std.specs.Prelude.{ℕ, ◌<◌, ◌≤◌, ◌≡◌, ◌≢◌}

abbrev pub InTable : (number need : ℕ) → Type 0
InTable number need = (0 < number) × (number ≤ 12) × (number ≢ 9 → need ≡ 0)
