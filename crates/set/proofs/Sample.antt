-- Set calls computed: `>a\nA\n>b\n>c` in a full window at the told end, a reader before its lead. What is said of set
-- calls is said of something. Assumes nothing.
use Prim.Native.Nat.{ℕ}
use mathlib.Core.Bool.{true, false}
use mathlib.Core.List.{List, [], ◌∷◌}
use mathlib.Core.Path.{◌≡◌, refl}
use lib.ListN.{take}
use Rattle.growth.specs.declared.Policy.TheVariants.{StdPolicy}
use Rattle.meaning.specs.Ascii.{ascii}
use Rattle.window.specs.Offset.{input_at}
use Rattle.reader.specs.declared.state.Reader.{Reader}
use Rattle.reader.specs.declared.state.Phase.TheVariants as phase
use Rattle.reader.specs.State.{mark_at}
use Rattle.set.specs.declared.state.Set.{Set}
use Rattle.set.specs.Read.{holds, refuses, set_of}

abbrev window : List ℕ
unfolding ascii
window = ascii ">a\nA\n>b\n>c"

abbrev zeros : List ℕ
zeros = 0 ∷ 0 ∷ 0 ∷ 0 ∷ 0 ∷ 0 ∷ []

abbrev start : Reader
start =
    record {
      fill =
          record {
            capacity = 10;
            filled = 10;
            base = input_at 0;
            told = true;
            asking = false;
            lent = 10;
            policy = StdPolicy;
          };
      mark = mark_at 0 0 0 1;
      slots = 6;
      phase = phase.Lead;
    }

abbrev empty : Set
empty = record { filled = 0; count = 0; line = 1; base = input_at 0 }

-- all three, with their starts and ends; the rest of the tables stays
all : (set_of empty window zeros zeros start window zeros).said ≡ holds 3 10
unfolding ascii set_of
all = refl

marks : (set_of empty window zeros zeros start window zeros).marks ≡ 0 ∷ 2 ∷ 5 ∷ 3 ∷ 8 ∷ 4 ∷ []
unfolding ascii set_of
marks = refl

ends-of : (set_of empty window zeros zeros start window zeros).ends ≡ 2 ∷ 4 ∷ 7 ∷ 10 ∷ 0 ∷ 0 ∷ []
unfolding ascii set_of
ends-of = refl

-- a table of marks with room for one
one : (set_of empty window (0 ∷ 0 ∷ 0 ∷ []) zeros start window zeros).said ≡ holds 1 10
unfolding ascii set_of
one = refl

next-found : (set_of empty window (0 ∷ 0 ∷ 0 ∷ []) zeros start window zeros).reader.mark ≡ mark_at 5 5 0 3
unfolding ascii set_of
next-found = refl

-- no room for the ends of the first; bytes shorter than the window
no_room : (set_of empty window zeros (0 ∷ []) start window zeros).said ≡ refuses 12 []
unfolding ascii set_of
no_room = refl

short : (set_of empty (take 9 window) zeros zeros start window zeros).said ≡ refuses 12 []
unfolding ascii set_of
short = refl
