-- What the stored vectors ask (tests/vectors), put to the definitions that contracts and theorems cite: `due`, `records_from`, `head_of`, `seq_lines`,
-- `id_of`, `desc_of`, `seq_of`, the writers' texts with `filled` and `wrapped`, `grown`. What the bench list asks is asked in its words (crates/bench).
-- Assumes nothing.
use Rattle.std.specs.Prelude.{ℕ, List, map, drop}
use Rattle.std.proofs.Math.Option.{Option}
use Rattle.bench.specs.Table.{Question, Reply, hears, texts, shown, recs}
use Rattle.bench.specs.Table as bench
use Rattle.growth.specs.declared.Policy.{Policy}
use Rattle.growth.specs.Growth.{grown}
use Rattle.growth.specs.Chain.{largest}
use Rattle.meaning.specs.Input.{Rec, records, records_from, meaning}
use Rattle.meaning.specs.Parts.{head_of, seq_lines, seq_of, id_of, desc_of}
use Rattle.meaning.specs.Due.{due}
use Rattle.write.specs.Text.{head_text, id_desc_text, seq_text, wrap_seq_text, to_text, parts_text, wrap_text, record_text, record_wrap_text}
use Rattle.write.specs.Output.{Left, filled, wrapped}

-- a free writer, with what it is given
pub data Writer : Type 0 where
  write-head : (head : List ℕ) → Writer
  write-id-desc : (id : List ℕ) (desc : Option (List ℕ)) → Writer
  write-seq : (seq : List ℕ) → Writer
  write-wrap-seq : (seq : List ℕ) (wrap : ℕ) → Writer
  write-to : (head seq : List ℕ) → Writer
  write-parts : (id : List ℕ) (desc : Option (List ℕ)) (seq : List ℕ) → Writer
  write-wrap : (id : List ℕ) (desc : Option (List ℕ)) (seq : List ℕ) (wrap : ℕ) → Writer

-- what is asked: as the bench list asks; the reads behind a seek to a line and byte; of each record its id, description and joined sequence; what
-- `write` makes of each record, and `write_wrap`; what a free writer answers and leaves in an output; what a policy grows some sizes to
pub data Query : Type 0 where
  listed : Question → Query
  resumes : Policy → (window start slots line byte : ℕ) (input : List ℕ) → Query
  names : (input : List ℕ) → Query
  writes : (input : List ℕ) → Query
  wraps : (width : ℕ) (input : List ℕ) → Query
  fills : Writer → (out : List ℕ) → Query
  grows : Policy → (window : ℕ) (sizes : List ℕ) → Query

pub data Named : Type 0 where
  named : (id : List ℕ) (desc : Option (List ℕ)) (seq : List ℕ) → Named

pub data Told : Type 0 where
  told : Reply → Told
  are : List Named → Told
  leaves : Left → Told
  sizes : List (Option ℕ) → Told

unfoldable pub naming : Rec → Named
unfolding head_of seq_of id_of desc_of
naming r = named (id_of (head_of r)) (desc_of (head_of r)) (seq_of r)

unfoldable pub writing : Writer → List ℕ → Left
unfolding filled wrapped wrap_seq_text
writing (write-head head) out = filled (head_text head) out
writing (write-id-desc id desc) out = filled (id_desc_text id desc) out
writing (write-seq seq) out = filled (seq_text seq) out
writing (write-wrap-seq seq wrap) out = wrapped wrap (wrap_seq_text wrap seq) out
writing (write-to head seq) out = filled (to_text head seq) out
writing (write-parts id desc seq) out = filled (parts_text id desc seq) out
writing (write-wrap id desc seq wrap) out = wrapped wrap (wrap_text id desc seq wrap) out

unfoldable pub asked : Query → Told
unfolding naming writing due meaning records_from largest head_of seq_lines grown
asked (listed question) = told (bench.asked question)
asked (resumes policy window start slots line byte input) =
    told (hears (map shown (due (largest policy window start) slots (records (records_from line byte (drop byte input))))))
asked (names input) = are (map naming (recs (meaning input)))
asked (writes input) = told (texts (map (λ (r : Rec). record_text (head_of r) (seq_lines r)) (recs (meaning input))))
asked (wraps width input) = told (texts (map (λ (r : Rec). record_wrap_text (head_of r) (seq_lines r) width) (recs (meaning input))))
asked (fills writer out) = leaves (writing writer out)
asked (grows policy window ss) = sizes (map (λ (s : ℕ). grown policy s window) ss)

-- a question, and what the Rust answered
pub record Vector : Type 0 where
  pub query : Query
  pub said : Told

abbrev pub vector : Query → Told → Vector
vector q t = record { query = q; said = t }
