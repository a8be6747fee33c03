-- What the writers' private parts ask and leave: a text put into the output from a place on, where there is room. Assumes nothing.
use Rattle.std.specs.Borrow.{Bor}
use Rattle.std.specs.List.{flat_map}
use Rattle.std.specs.Prelude.{ℕ, ◌+◌, ◌≤◌, List, ◌≡◌, length}
use Rattle.scan.specs.Move.{pasted}

-- the parts of a text, one behind the other
abbrev pub text_of : List (Bor (List ℕ)) → List ℕ
text_of parts = flat_map (λ part. part.now) parts

-- there is room for the text
abbrev pub Fits : (at : ℕ) (text out : List ℕ) → Type 0
Fits at text out = at + length text ≤ length out

-- the text stands there, and the answer is the place behind it
pub record Put (at : ℕ) (text out : List ℕ) (r : ℕ) (exit : List ℕ) : Type 0 where
  pub place : r ≡ at + length text
  pub holds : exit ≡ pasted at text out
