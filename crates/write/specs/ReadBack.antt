-- Reading back (01): "Reading back what is written gives head and joined sequence again if the head has no `\n` and no final `\r`, and the
-- sequence no `\n`, `\r` or `>`." The conditions and the claim; proofs/ReadBack.antt proves it of the writers of a head and a sequence.
-- Assumes nothing.
use Rattle.std.specs.Prelude.{ℕ, List, [], ◌∷◌, ◌++◌, ◌≡◌}
use Rattle.meaning.specs.Input.{Rec, records, meaning}
use Rattle.meaning.specs.Parts.{head_of, seq_of}

-- no byte b
abbrev pub Without : (b : ℕ) → List ℕ → Type 0
Without b [] = Unit {0}
Without b (x ∷ xs) = (x ≡ b → ⊥) × Without b xs

pub record GoodHead (head : List ℕ) : Type 0 where
  pub no_lf : Without 10 head
  pub no_final_cr : (front : List ℕ) → head ≡ front ++ (13 ∷ []) → ⊥

pub record GoodSeq (seq : List ℕ) : Type 0 where
  pub no_lf : Without 10 seq
  pub no_cr : Without 13 seq
  pub no_mark : Without 62 seq

-- the text means one record, with that head and that joined sequence
pub record ReadsBack (text head seq : List ℕ) : Type 0 where
  pub it : Rec
  pub one : meaning text ≡ records (it ∷ [])
  pub head_is : head_of it ≡ head
  pub seq_is : seq_of it ≡ seq
