-- Views and writers of a set's record by its number (01, module 6, "its views take a record's number"; refusals 11,
-- 7, then 8, 9 for views and 10, 9 for writers): those of the set's filled bytes, the record's start and its own
-- ends. Assumes nothing.
use Rattle.std.specs.Prelude.{ℕ, List, [], ◌≡◌, Result}
use Rattle.reader.specs.declared.error.RecordError.{RecordError}
use Rattle.view.specs.View as view
use Rattle.view.specs.View.{Viewed, head_in, id_in, desc_in, seq_in, line_in, line_count}
use Rattle.view.specs.Full as full
use Rattle.view.specs.Full.{full_in}
use Rattle.view.specs.Current.{refused, stands, absent, placed, are, refuses, counts}
use Rattle.view.specs.declared.Full.{Full}
use Rattle.view.specs.declared.Record.{Record}
use Rattle.view.specs.declared.error.FullError.{FullError}
use Rattle.rewrite.specs.Rewrite as rewrite
use Rattle.rewrite.specs.Rewrite.{written_in, wrapped_in, unchanged_in}
use Rattle.rewrite.specs.declared.error.RewriteError.{RewriteError}
use Rattle.set.specs.declared.state.Set.{Set}
use Rattle.set.specs.declared.views.SetRef.{SetRef}
use Rattle.set.specs.Set.{of_record}

module _ (s : Set) (bytes marks ends : List ℕ) (i : ℕ) where
  -- the promise of the record itself, as it stands in the bytes
  abbrev pub RecordAt : Result Record RecordError → Type 0
  RecordAt r = placed r ≡ of_record s bytes marks ends i stands absent

  -- of the views
  abbrev pub Head : Viewed → Type 0
  Head v = view.says v ≡ of_record s bytes marks ends i head_in refused

  abbrev pub Id : Viewed → Type 0
  Id v = view.says v ≡ of_record s bytes marks ends i id_in refused

  abbrev pub Desc : Viewed → Type 0
  Desc v = view.says v ≡ of_record s bytes marks ends i desc_in refused

  abbrev pub Seq : Viewed → Type 0
  Seq v = view.says v ≡ of_record s bytes marks ends i seq_in refused

  abbrev pub Line : (n : ℕ) → Viewed → Type 0
  Line n v = view.says v ≡ of_record s bytes marks ends i (λ w start es. line_in w start es n) refused

  abbrev pub LinesOf : Result ℕ RecordError → Type 0
  LinesOf n = counts n ≡ of_record s bytes marks ends i (λ w start es. are (line_count es)) refuses

  abbrev pub FullSeq : (scratch : List ℕ) → Result Full FullError → (exit : List ℕ) → Type 0
  FullSeq scratch f exit =
      full.left (full.says f) exit
      ≡ of_record s bytes marks ends i (λ w start es. full_in w start es scratch)
      (λ number. full.left (full.refuses number []) scratch)

  -- and of the writers
  abbrev pub Write : (out : List ℕ) → Result ℕ RewriteError → (exit : List ℕ) → Type 0
  Write out a exit =
      rewrite.left a exit
      ≡ of_record s bytes marks ends i (λ w start es. written_in w start es out)
      (λ number. rewrite.refused number out)

  abbrev pub WriteWrap : (wrap : ℕ) (out : List ℕ) → Result ℕ RewriteError → (exit : List ℕ) → Type 0
  WriteWrap wrap out a exit =
      rewrite.left a exit
      ≡ of_record s bytes marks ends i (λ w start es. wrapped_in w start es wrap out)
      (λ number. rewrite.refused number out)

  abbrev pub WriteUnchanged : (out : List ℕ) → Result ℕ RewriteError → (exit : List ℕ) → Type 0
  WriteUnchanged out a exit =
      rewrite.left a exit
      ≡ of_record s bytes marks ends i (λ w start es. unchanged_in w start es out)
      (λ number. rewrite.refused number out)

-- a promise of a set with its bytes and tables, as one of the struct that holds them
abbrev pub Of {ℓ} : {B : Type ℓ} → (Set → (bytes marks ends : List ℕ) → B) → SetRef → B
Of P r = P r.set r.bytes.now r.marks.now r.ends.now
