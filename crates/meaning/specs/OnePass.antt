-- The one-pass form of an input's meaning, which proofs about a reader use: a pass over the bytes that carries the line, the start, the
-- place and the ends so far, as a reader does. It says the same as Input.antt and Due.antt (proofs/OnePass.antt, proofs/Marks.antt).
-- Places are byte offsets in the input. Assumes nothing.
use Rattle.std.specs.Prelude.{ℕ, suc, pred, ◌+◌, ◌-◌, Bool, true, false, cond, ◌&&◌, ◌||◌, List, [], ◌∷◌, ◌++◌, length, get_or, take, drop, eqb, ltb, leb}
use Rattle.std.proofs.Math.Option.{Option, none, some}
use Rattle.meaning.specs.Due.{Said, ends, refuses, due_by}

-- A record as one pass finds it: line and byte of its `>`, its number of bytes, and where its lines end, the head's first.
pub record Mark : Type 0 where
  pub line : ℕ
  pub byte : ℕ
  pub len : ℕ
  pub ends : List ℕ

-- The records of the bytes from place p on, in a record that starts at b on line l and has the ends E so far.
-- `held`: the byte before p is a `\n` that is not yet recorded.
unfoldable pub marks : (l b p : ℕ) (E : List ℕ) → List ℕ → (held : Bool) → List Mark
marks l b p E [] false = record { line = l; byte = b; len = p - b; ends = E ++ (p ∷ []) } ∷ []
marks l b p E [] true = record { line = l; byte = b; len = p - b; ends = E ++ (pred p ∷ []) } ∷ []
marks l b p E (x ∷ xs) false = marks l b (suc p) E xs (eqb x 10)
marks l b p E (x ∷ xs) true =
    elim (eqb x 62) [
      | true ↦ record { line = l; byte = b; len = p - b; ends = E ++ (pred p ∷ []) } ∷ marks (l + suc (length E)) p (suc p) [] xs false
      | false ↦ marks l b (suc p) (E ++ (pred p ∷ [])) xs (eqb x 10)
    ]

-- an input's records, or refusal 2 with its line and byte
pub data Marked : Type 0 where
  good : List Mark → Marked
  bad : (line first : ℕ) → Marked

-- The lead from place p on, on line l. `cr`: the byte before p is a `\r` that begins its line.
unfoldable pub lead_marks : (l p : ℕ) → List ℕ → (cr : Bool) → Marked
unfolding marks
lead_marks l p [] cr = good []
lead_marks l p (x ∷ xs) true = elim (eqb x 10) [ true ↦ lead_marks (suc l) (suc p) xs false | false ↦ bad l 13 ]
lead_marks l p (x ∷ xs) false =
    elim (eqb x 10) [
      | true ↦ lead_marks (suc l) (suc p) xs false
      | false ↦ elim (eqb x 13) [
        | true ↦ lead_marks l (suc p) xs true
        | false ↦ elim (eqb x 62) [ true ↦ good (marks l p (suc p) [] xs false) | false ↦ bad l x ]
      ]
    ]

-- Refusals 4 and 3 by a mark's numbers: over T `\n` among the first C - 1 bytes, that is, an end T that stands there.
unfoldable pub table_mark : (C T : ℕ) → Mark → Bool
table_mark C T m = ltb T (length m.ends) && (leb (m.len + 1) C || ltb (suc (get_or m.ends T 0)) (m.byte + C))

unfoldable pub judged_mark : (C T : ℕ) → Mark → Option ℕ
unfolding table_mark
judged_mark C T m = cond (table_mark C T m) (some 4) (cond (ltb C (m.len + 1)) (some 3) none)

abbrev pub place_mark : Mark → List ℕ
place_mark m = m.line ∷ m.byte ∷ []

unfoldable pub due_marks : (C T : ℕ) → Marked → List (Said Mark)
unfolding due_by judged_mark
due_marks C T (good ms) = due_by (judged_mark C T) place_mark ms
due_marks C T (bad l x) = refuses 2 (l ∷ x ∷ []) ∷ ends ∷ []

-- the lines that end at the given ends, the first from place a on, each other one from behind the end before it
unfoldable pub lines_at : (X : List ℕ) (a : ℕ) → (ends : List ℕ) → List (List ℕ)
lines_at X a [] = []
lines_at X a (e ∷ es) = take (e - a) (drop a X) ∷ lines_at X (suc e) es
