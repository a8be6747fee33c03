-- What it means that the views of a set show a record of the input by its number, and that its writers write it.
-- Assumes nothing.
use Rattle.std.specs.Prelude.{ℕ, ◌<◌, ◌≤◌, List, [], ◌≡◌, length, get_or}
use Rattle.std.proofs.Math.Option.{some}
use Rattle.meaning.specs.Input.{Rec}
use Rattle.meaning.specs.Parts.{head_of, seq_lines, seq_of, id_of, desc_of}
use Rattle.view.specs.View.{head_in, id_in, desc_in, line_in, line_count}
use Rattle.view.specs.Full as full
use Rattle.view.specs.Full.{full_in, picked}
use Rattle.view.specs.Shows.{Shows}
use Rattle.view.specs.Current.{refused, are, refuses}
use Rattle.write.specs.Output.{filled, wrapped}
use Rattle.write.specs.Text.{record_text, record_wrap_text, unchanged_text, copy_of}
use Rattle.rewrite.specs.Rewrite as rewrite
use Rattle.rewrite.specs.Rewrite.{written_in, wrapped_in, unchanged_in}
use Rattle.set.specs.declared.state.Set.{Set}
use Rattle.set.specs.Set.{of_record}

-- The views of record i show a record's head, id and description, as many lines as it has, each of them by its
-- number, and the joined sequence where the scratch has room for it or one line needs none.
pub record ShowsAt (s : Set) (bytes marks ends : List ℕ) (i : ℕ) (r : Rec) : Type 0 where
  pub head : Shows bytes (of_record s bytes marks ends i head_in refused) (some (head_of r))
  pub id : Shows bytes (of_record s bytes marks ends i id_in refused) (some (id_of (head_of r)))
  pub desc : Shows bytes (of_record s bytes marks ends i desc_in refused) (desc_of (head_of r))
  pub lines : of_record s bytes marks ends i (λ w start es. are (line_count es)) refuses ≡ are (length (seq_lines r))
  pub line :
      (n : ℕ) → n < length (seq_lines r) →
      Shows bytes (of_record s bytes marks ends i (λ w start es. line_in w start es n) refused)
      (some (get_or (seq_lines r) n []))
  pub sequence :
      (scratch : List ℕ) → length (seq_of r) ≤ length scratch →
      let f =
      of_record s bytes marks ends i (λ w start es. full_in w start es scratch)
      (λ n. full.left (full.refuses n []) scratch) in
      picked bytes f.scratch f.answer ≡ seq_of r

-- The writers of record i write a record's text, the wrapped one, and the copy of what was read, as any text is
-- written.
pub record WritesAt (s : Set) (bytes marks ends : List ℕ) (i : ℕ) (r : Rec) : Type 0 where
  pub write :
      (out : List ℕ) →
      of_record s bytes marks ends i (λ w start es. written_in w start es out) (λ n. rewrite.refused n out)
      ≡ filled (record_text (head_of r) (seq_lines r)) out
  pub write-wrap :
      (wrap : ℕ) (out : List ℕ) →
      of_record s bytes marks ends i (λ w start es. wrapped_in w start es wrap out) (λ n. rewrite.refused n out)
      ≡ wrapped wrap (record_wrap_text (head_of r) (seq_lines r) wrap) out
  pub write-unchanged :
      (out : List ℕ) →
      of_record s bytes marks ends i (λ w start es. unchanged_in w start es out) (λ n. rewrite.refused n out)
      ≡ filled (unchanged_text (copy_of r)) out
