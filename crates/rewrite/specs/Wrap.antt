-- What the private parts of the writers of lines ask and leave. Wrapped lines have a one-pass form: the column (bytes since the last cut) is
-- carried from line to line. proofs/Columns.antt shows that this is the text of `write_wrap_seq_iter`. Assumes nothing.
use Rattle.std.specs.Prelude.{ℕ, suc, ◌+◌, ◌≤◌, ◌<◌, max, true, false, List, [], ◌∷◌, ◌++◌, ◌≡◌, length, eqb, Option, Some, None, Result}
use Rattle.std.specs.Borrow.{Bor}
use Rattle.write.specs.Need.{line_count}
use Rattle.write.specs.Output.{wrapped}
use Rattle.write.specs.Put.{Fits, Put}
use Rattle.write.specs.Text.{head_text, wrap_seq_iter_text}
use Rattle.rewrite.specs.Rewrite.{left}
use Rattle.rewrite.specs.declared.column.Column.{Column}
use Rattle.rewrite.specs.declared.error.RewriteError.{RewriteError}

-- some bytes from column `col` on, with a `\n` behind each that fills its line
unfoldable pub wrap_on : (wrap col : ℕ) → List ℕ → List ℕ
wrap_on wrap col [] = []
wrap_on wrap col (x ∷ xs) = x ∷ elim (eqb (suc col) wrap) [ true ↦ 10 ∷ wrap_on wrap 0 xs | false ↦ wrap_on wrap (suc col) xs ]

-- and the column behind them
unfoldable pub column_on : (wrap col : ℕ) → List ℕ → ℕ
column_on wrap col [] = col
column_on wrap col (x ∷ xs) = elim (eqb (suc col) wrap) [ true ↦ column_on wrap 0 xs | false ↦ column_on wrap (suc col) xs ]

-- bytes can go on: a column inside its line, and room
pub record Goes (seq : List ℕ) (c : Column) : Type 0 where
  pub inside : c.col < c.wrap
  pub room : Fits c.at (wrap_on c.wrap c.col seq) c.out.now

-- a text is put, and the column is this one; width and output are the same
pub record Lays (text : List ℕ) (col : ℕ) (old new : Column) : Type 0 where
  pub put : Put old.at text old.out.now new.at new.out.now
  pub column : new.col ≡ col
  pub wrap : new.wrap ≡ old.wrap
  pub same : new.out.ghost_name ≡ old.out.ghost_name

-- they are put
abbrev pub Reached : (seq : List ℕ) (old new : Column) → Type 0
Reached seq old new = Lays (wrap_on old.wrap old.col seq) (column_on old.wrap old.col seq) old new

-- a piece reaches no further than the next cut
pub record Piece (piece : List ℕ) (c : Column) : Type 0 where
  pub some : 0 < length piece
  pub short : c.col + length piece ≤ c.wrap
  pub goes : Goes piece c

-- room for a `\n`, and one put
abbrev pub Ends : Column → Type 0
Ends c = Fits c.at (10 ∷ []) c.out.now

abbrev pub Ended : (old new : Column) → Type 0
Ended = Lays (10 ∷ []) 0

-- room for the wrapped lines, from the beginning of a line on
pub record Wraps (ls : List (List ℕ)) (c : Column) : Type 0 where
  pub wide : 0 < c.wrap
  pub fresh : c.col ≡ 0
  pub room : Fits c.at (wrap_seq_iter_text c.wrap ls) c.out.now

-- the head's line, where there is a head
abbrev pub head_part : Option (Bor (List ℕ)) → List ℕ
head_part (Some head) = head_text head.now
head_part None = []

-- the length of `n` joined bytes in lines, of which there is one at least
abbrev pub wrap_len : (wrap n : ℕ) → ℕ
wrap_len wrap n = n + max 1 (line_count wrap n)

-- what the writers of lines write
abbrev pub lines_text : Option (Bor (List ℕ)) → (wrap : ℕ) (ls : List (List ℕ)) → List ℕ
lines_text head wrap ls = head_part head ++ wrap_seq_iter_text wrap ls

abbrev pub WriteLines : Option (Bor (List ℕ)) → (ls : List (List ℕ)) (wrap : ℕ) (out : List ℕ) → Result ℕ RewriteError → (exit : List ℕ) → Type 0
WriteLines head ls wrap out r exit = left r exit ≡ wrapped wrap (lines_text head wrap ls) out
