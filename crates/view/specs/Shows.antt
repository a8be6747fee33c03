-- What it means that a view shows a text: it answers a part, and that part is the text. Assumes nothing.
use Rattle.std.specs.Prelude.{ℕ, List, ◌≡◌}
use Rattle.std.proofs.Math.Option.{Option, none as without, some}
use Rattle.view.specs.View.{Shown, part, none, refuses, between}

-- a view shows a text, or that there is none; a refusal shows neither
abbrev pub Shows : (w : List ℕ) → Shown → Option (List ℕ) → Type 0
Shows w (part from to) (some text) = between w from to ≡ text
Shows w (part from to) without = ⊥
Shows w none (some text) = ⊥
Shows w none without = Unit {0}
Shows w (refuses number values) text = ⊥
