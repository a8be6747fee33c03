-- Records of an input (01, "What a whole input means"). Line and byte of the first line are parameters: after a seek they are counted
-- on from those given. Assumes nothing.
use Rattle.std.specs.Prelude.{ℕ, suc, ◌+◌, Bool, true, false, cond, List, [], ◌∷◌, ◌++◌, length, get_or, eqb}
use Rattle.meaning.specs.Line.{pieces, line}

-- A record: the line (from 1) and the byte (from 0) of its `>`, and its bytes, from that `>` to the next record or to the end of input.
pub record Rec : Type 0 where
  pub line : ℕ
  pub byte : ℕ
  pub bytes : List ℕ

-- bytes that no record before them has claimed, and the records behind them
pub record Split : Type 0 where
  pub loose : List ℕ
  pub recs : List Rec

abbrev pub begins : List ℕ → Bool
begins [] = false
begins (x ∷ xs) = eqb x 62

-- A record is a line that begins with `>` and the lines after it that do not.
unfoldable pub split : (l b : ℕ) → List (List ℕ) → Split
split l b [] = record { loose = []; recs = [] }
split l b (p ∷ ps) =
    let rest = split (suc l) (b + length p) ps in
    cond (begins p)
    (record { loose = []; recs = record { line = l; byte = b; bytes = p ++ rest.loose } ∷ rest.recs })
    (record { loose = p ++ rest.loose; recs = rest.recs })

-- the records of bytes that begin with a `>`, which stands on line l at byte b
unfoldable pub records_from : (l b : ℕ) → List ℕ → List Rec
unfolding split pieces
records_from l b xs = (split l b (pieces xs)).recs

-- The records of an input, or refusal 2 with the line and the first byte of the first line that is not blank.
pub data Meaning : Type 0 where
  records : List Rec → Meaning
  refused : (line first : ℕ) → Meaning

-- a line that is empty or exactly `\r`
abbrev pub blank : List ℕ → Bool
blank [] = true
blank (x ∷ []) = eqb x 13
blank (x ∷ y ∷ r) = false

-- Leading blank lines are skipped. If nothing else follows, there are no records. The first other line must begin with `>`.
unfoldable pub led : (l b : ℕ) → List (List ℕ) → Meaning
unfolding split line
led l b [] = records []
led l b (p ∷ ps) =
    let on = led (suc l) (b + length p) ps in
    let recs = (split l b (p ∷ ps)).recs in
    cond (blank (line p)) on (cond (begins p) (records recs) (refused l (get_or p 0 0)))

unfoldable pub meaning_from : (l b : ℕ) → List ℕ → Meaning
unfolding led pieces
meaning_from l b xs = led l b (pieces xs)

unfoldable pub meaning : List ℕ → Meaning
unfolding meaning_from
meaning xs = meaning_from 1 0 xs
