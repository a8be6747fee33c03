-- Offsets in the window and in the input (01: "numbers of two different types"), and the turning of one into the other. Assumes nothing.
use Rattle.std.specs.Prelude.{ℕ, ◌+◌, ◌-◌, ◌^◌, min, ◌≡◌}
use Rattle.window.specs.declared.offset.WindowOffset.{WindowOffset}
use Rattle.window.specs.declared.offset.InputOffset.{InputOffset}

abbrev pub window_at : ℕ → WindowOffset
window_at n = record { 0 = n }

abbrev pub input_at : ℕ → InputOffset
input_at n = record { 0 = n }

-- the promises of `to_input`, whose sum ends at 2^64 - 1, and of `to_window`, which gives 0 for a place before the window
abbrev pub ToInput : InputOffset → WindowOffset → (r : InputOffset) → Type 0
ToInput base at r = r ≡ input_at (min (base.0 + at.0) (2 ^ 64 - 1))

abbrev pub ToWindow : InputOffset → InputOffset → (r : WindowOffset) → Type 0
ToWindow base at r = r ≡ window_at (at.0 - base.0)
