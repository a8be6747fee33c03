-- What the program writes (01, module 10). Per record: line, tab, byte, tab, id, tab, joined length, newline. Then `end` or `refused N`,
-- newline. Assumes nothing.
use Rattle.std.specs.Prelude.{ℕ, zero, suc, ◌+◌, ◌/◌, ◌%◌, true, false, List, [], ◌∷◌, ◌++◌, length, ltb}
use Rattle.meaning.specs.Ascii.{ascii}
use Rattle.meaning.specs.Input.{Rec}
use Rattle.meaning.specs.Parts.{head_of, seq_of, id_of}
use Rattle.meaning.specs.Due.{Said, gives, ends, refuses}

-- the digits of n, of which there are at most `more` behind the first
unfoldable pub decimal_in : (more n : ℕ) → List ℕ
decimal_in zero n = (48 + n) ∷ []
decimal_in (suc more) n =
    elim (ltb n 10) [ true ↦ (48 + n) ∷ [] | false ↦ decimal_in more (n / 10) ++ ((48 + n % 10) ∷ []) ]

unfoldable pub decimal : ℕ → List ℕ
unfolding decimal_in
decimal n = decimal_in n n

-- a record's row by its four values
unfoldable pub row_of : (line byte : ℕ) (id : List ℕ) (len : ℕ) → List ℕ
unfolding decimal
row_of line byte id len = decimal line ++ (9 ∷ (decimal byte ++ (9 ∷ (id ++ (9 ∷ (decimal len ++ (10 ∷ [])))))))

unfoldable pub row : Rec → List ℕ
unfolding row_of head_of seq_of id_of
row r = row_of r.line r.byte (id_of (head_of r)) (length (seq_of r))

-- the last line
unfoldable pub end_text : List ℕ
unfolding ascii
end_text = ascii "end\n"

unfoldable pub refused_text : (number : ℕ) → List ℕ
unfolding decimal ascii
refused_text number = ascii "refused " ++ (decimal number ++ (10 ∷ []))

-- it stops at anything but a record
unfoldable pub listing : List (Said Rec) → List ℕ
unfolding row end_text refused_text
listing [] = []
listing (gives r ∷ rest) = row r ++ listing rest
listing (ends ∷ rest) = end_text
listing (refuses number values ∷ rest) = refused_text number
