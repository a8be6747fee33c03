-- The bench list's eleven P cases (01): one table of questions and replies, one statement. Every question is answered by the definitions
-- that contracts and theorems cite: `due` of `meaning`, `head_of`, `seq_lines`, `chain`, `unchanged_text`, `listing`. Assumes nothing.
use Rattle.std.specs.Prelude.{ℕ, List, [], ◌∷◌, map, ◌≡◌, refl}
use Rattle.growth.specs.declared.Policy.{Policy}
use Rattle.growth.specs.declared.Policy.TheVariants.{StdPolicy, DoubleUntilLimited}
use Rattle.growth.specs.Chain.{chain, largest}
use Rattle.meaning.specs.Ascii.{ascii}
use Rattle.meaning.specs.Input.{Rec, Meaning, records, refused, meaning}
use Rattle.meaning.specs.Parts.{head_of, seq_lines}
use Rattle.meaning.specs.Due.{Said, gives, ends, refuses, due}
use Rattle.write.specs.Text.{unchanged_text, copy_of}
use Rattle.write.specs.Listing.{listing}

-- what is asked: the answers of single reads under a policy, a window, a start capacity and a table; a policy's chain; what
-- `write_unchanged` makes of each record; what the program writes
pub data Question : Type 0 where
  reads : Policy → (window start slots : ℕ) (input : List ℕ) → Question
  grows : Policy → (window start : ℕ) → Question
  rewrites : (input : List ℕ) → Question
  lists : (input : List ℕ) → Question

-- a record as views show it, the end, or a refusal
pub data Shown : Type 0 where
  shows : (line byte : ℕ) (head : List ℕ) (lines : List (List ℕ)) → Shown
  the_end : Shown
  refusal : (number : ℕ) (values : List ℕ) → Shown

pub data Reply : Type 0 where
  hears : List Shown → Reply
  sizes : List ℕ → Reply
  texts : List (List ℕ) → Reply

unfoldable pub shown : Said Rec → Shown
unfolding head_of seq_lines
shown (gives r) = shows r.line r.byte (head_of r) (seq_lines r)
shown ends = the_end
shown (refuses number values) = refusal number values

-- the records of an input
abbrev pub recs : Meaning → List Rec
recs (records rs) = rs
recs (refused l x) = []

unfoldable pub asked : Question → Reply
unfolding shown due meaning largest chain unchanged_text copy_of listing
asked (reads policy window start slots input) = hears (map shown (due (largest policy window start) slots (meaning input)))
asked (grows policy window start) = sizes (chain policy window start)
asked (rewrites input) = texts (map (λ (r : Rec). unchanged_text (copy_of r)) (recs (meaning input)))
asked (lists input) = texts (listing (due (largest StdPolicy 65536 65536) 4096 (meaning input)) ∷ [])

-- a question and its reply
pub record Case : Type 0 where
  pub question : Question
  pub reply : Reply

-- single reads with the program's setup
abbrev read : List ℕ → List Shown → Case
read input says = record { question = reads StdPolicy 65536 65536 4096 input; reply = hears says }

-- single reads from a start of 3 in a window of 20
abbrev read20 : List ℕ → List Shown → Case
read20 input says = record { question = reads StdPolicy 20 3 4096 input; reply = hears says }

abbrev pub table : List Case
unfolding ascii
table =
    -- empty input: end
    read [] (the_end ∷ []) ∷
    -- `\r`: end
    read (ascii "\r") (the_end ∷ []) ∷
    -- `\n\rX`: refusal 2, line 2, byte 13
    read (ascii "\n\rX") (refusal 2 (2 ∷ 13 ∷ []) ∷ the_end ∷ []) ∷
    -- `>`: empty head, no lines
    read (ascii ">") (shows 1 0 [] [] ∷ the_end ∷ []) ∷
    -- `>id\r`: head `id`
    read (ascii ">id\r") (shows 1 0 (ascii "id") [] ∷ the_end ∷ []) ∷
    -- `>id\nACGT` and `>id\nACGT\n`: one line `ACGT`
    read (ascii ">id\nACGT") (shows 1 0 (ascii "id") (ascii "ACGT" ∷ []) ∷ the_end ∷ []) ∷
    read (ascii ">id\nACGT\n") (shows 1 0 (ascii "id") (ascii "ACGT" ∷ []) ∷ the_end ∷ []) ∷
    -- `>id\nAC\n\n`: lines `AC` and empty; `write_unchanged` gives `>id\nAC\n`
    read (ascii ">id\nAC\n\n") (shows 1 0 (ascii "id") (ascii "AC" ∷ [] ∷ []) ∷ the_end ∷ []) ∷
    record { question = rewrites (ascii ">id\nAC\n\n"); reply = texts (ascii ">id\nAC\n" ∷ []) } ∷
    -- line `AC\r\r`: shown as `AC\r`
    read (ascii ">id\nAC\r\r\n") (shows 1 0 (ascii "id") (ascii "AC\r" ∷ []) ∷ the_end ∷ []) ∷
    -- `>a>b\n>c`: heads `a>b`, `c`
    read (ascii ">a>b\n>c") (shows 1 0 (ascii "a>b") [] ∷ shows 2 5 (ascii "c") [] ∷ the_end ∷ []) ∷
    -- start 3, `StdPolicy`, window 20: 3, 6, 12. L = 11 is read, L = 12 refused with 3. `DoubleUntilLimited` 8 and 20 from 3: 3, 6, 12, 20
    record { question = grows StdPolicy 20 3; reply = sizes (3 ∷ 6 ∷ 12 ∷ []) } ∷
    read20 (ascii ">id\nACGTAC\n") (shows 1 0 (ascii "id") (ascii "ACGTAC" ∷ []) ∷ the_end ∷ []) ∷
    read20 (ascii ">id\nACGTACG\n") (refusal 3 (1 ∷ 0 ∷ []) ∷ []) ∷
    record { question = grows (DoubleUntilLimited 8 20) 65536 3; reply = sizes (3 ∷ 6 ∷ 12 ∷ 20 ∷ []) } ∷
    -- `>id1\nACGT\n>id2\nTGCA\n`: second position line 3, byte 10. The program writes all of that
    read (ascii ">id1\nACGT\n>id2\nTGCA\n")
    (shows 1 0 (ascii "id1") (ascii "ACGT" ∷ []) ∷ shows 3 10 (ascii "id2") (ascii "TGCA" ∷ []) ∷ the_end ∷ []) ∷
    record { question = lists (ascii ">id1\nACGT\n>id2\nTGCA\n"); reply = texts (ascii "1\t0\tid1\t4\n3\t10\tid2\t4\nend\n" ∷ []) } ∷
    []

pub all_right : map (λ (c : Case). asked c.question) table ≡ map (λ (c : Case). c.reply) table
unfolding asked shown ascii due meaning largest chain unchanged_text copy_of listing head_of seq_lines
all_right = refl
