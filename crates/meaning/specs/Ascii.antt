-- Bytes written as quoted text, for tables and fixed words: each character's code. Assumes nothing.
use Rattle.std.specs.Prelude.{ℕ, List, [] as none, ◌∷◌ as ◌then◌}
use Prim.Native.Char.{code}
use Prim.Native.String.{String, [], ◌∷◌}

unfoldable pub ascii : String → List ℕ
ascii [] = none
ascii (c ∷ s) = code c then ascii s
