-- The text that each writer writes (01, module 3), a record's writers among them. Assumes nothing.
use Rattle.std.specs.Prelude.{ℕ, zero, suc, Bool, false, cond, List, [], ◌∷◌, ◌++◌, length, take, drop, eqb}
use Rattle.std.proofs.Math.Option.{Option, none, some}
use Rattle.meaning.specs.Line.{trim_last}
use Rattle.meaning.specs.Input.{Rec}
use Rattle.meaning.specs.Parts.{joined}

-- `write_head` is `>`, head, `\n`
abbrev pub head_text : List ℕ → List ℕ
head_text head = 62 ∷ (head ++ (10 ∷ []))

-- `write_id_desc` puts one space before a description
abbrev pub id_desc : List ℕ → Option (List ℕ) → List ℕ
id_desc id none = id
id_desc id (some desc) = id ++ (32 ∷ desc)

abbrev pub id_desc_text : List ℕ → Option (List ℕ) → List ℕ
id_desc_text id desc = head_text (id_desc id desc)

-- `write_seq` adds one `\n`
abbrev pub seq_text : List ℕ → List ℕ
seq_text seq = seq ++ (10 ∷ [])

-- a sequence cut every `wrap` bytes, in at most `steps` cuts
unfoldable pub cut_in : (steps wrap : ℕ) → List ℕ → List (List ℕ)
cut_in zero wrap seq = []
cut_in (suc steps) wrap [] = []
cut_in (suc steps) wrap (x ∷ xs) = take wrap (x ∷ xs) ∷ cut_in steps wrap (drop wrap (x ∷ xs))

-- each cut takes a byte at least, so there are no more cuts than bytes
unfoldable pub cuts : (wrap : ℕ) → List ℕ → List (List ℕ)
unfolding cut_in
cuts wrap seq = cut_in (length seq) wrap seq

-- lines, each with a `\n` behind it
abbrev pub ended : List (List ℕ) → List ℕ
ended [] = []
ended (l ∷ ls) = l ++ (10 ∷ ended ls)

-- `write_wrap_seq` of an empty sequence writes nothing
unfoldable pub wrap_seq_text : (wrap : ℕ) → List ℕ → List ℕ
unfolding cuts
wrap_seq_text wrap seq = ended (cuts wrap seq)

-- `write_wrap_seq_iter` joins lines, cuts every `wrap` bytes, and writes one `\n` for an empty sequence
unfoldable pub wrap_seq_iter_text : (wrap : ℕ) → List (List ℕ) → List ℕ
unfolding wrap_seq_text
wrap_seq_iter_text wrap ls = cond (eqb (length (joined ls)) 0) (10 ∷ []) (wrap_seq_text wrap (joined ls))

-- `write_to`, `write_parts` and `write_wrap`: a whole record of a given head, or id and description, and sequence
abbrev pub to_text : (head seq : List ℕ) → List ℕ
to_text head seq = head_text head ++ seq_text seq

abbrev pub parts_text : (id : List ℕ) (desc : Option (List ℕ)) (seq : List ℕ) → List ℕ
parts_text id desc seq = id_desc_text id desc ++ seq_text seq

abbrev pub wrap_text : (id : List ℕ) (desc : Option (List ℕ)) (seq : List ℕ) (wrap : ℕ) → List ℕ
wrap_text id desc seq wrap = id_desc_text id desc ++ wrap_seq_text wrap seq

-- the writers of a record of a given head and lines: write, write_wrap
abbrev pub record_text : (head : List ℕ) (ls : List (List ℕ)) → List ℕ
record_text head ls = head_text head ++ seq_text (joined ls)

abbrev pub record_wrap_text : (head : List ℕ) (ls : List (List ℕ)) (wrap : ℕ) → List ℕ
record_wrap_text head ls wrap = head_text head ++ wrap_seq_iter_text wrap ls

abbrev pub ends_in : (b : ℕ) → List ℕ → Bool
ends_in b [] = false
ends_in b (x ∷ []) = eqb x b
ends_in b (x ∷ y ∷ r) = ends_in b (y ∷ r)

-- `write_unchanged` copies from `>` to the last recorded end and adds `\n` unless the copy ends in `\n`
unfoldable pub unchanged_text : (copy : List ℕ) → List ℕ
unchanged_text copy = cond (ends_in 10 copy) copy (copy ++ (10 ∷ []))

-- the copy of a record: its last end is the end of its last line
unfoldable pub copy_of : Rec → List ℕ
unfolding trim_last
copy_of r = trim_last 10 r.bytes
