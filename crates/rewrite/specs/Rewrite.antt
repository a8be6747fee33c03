-- A record's writers (01, module 3, refusals 11, 10, 9 in this order). The record is given in bytes w by the place of its `>` (start) and
-- its recorded ends, the head's end first. A refusal leaves the output unchanged. Assumes nothing.
use Rattle.std.specs.Prelude.{ℕ, Result, Ok, Err, suc, ◌-◌, cond, List, [], ◌∷◌, map, ◌≡◌, length, take, drop}
use Rattle.meaning.specs.Line.{trim_cr}
use Rattle.meaning.specs.OnePass.{lines_at}
use Rattle.view.specs.Rising.{rising}
use Rattle.view.specs.View.{line_of, last_of}
use Rattle.write.specs.Output.{Answer, wrote, refuses, Left, filled, wrapped}
use Rattle.write.specs.Text.{record_text, record_wrap_text, wrap_seq_iter_text, unchanged_text}
use Rattle.rewrite.specs.Refused.{number_of, values_of}
use Rattle.rewrite.specs.declared.error.RewriteError.{RewriteError}

-- what each answer of the writers says
abbrev pub says : Result ℕ RewriteError → Answer
says (Ok n) = wrote n
says (Err error) = refuses (number_of error) (values_of error)

abbrev pub left : Result ℕ RewriteError → List ℕ → Left
left r exit = record { answer = says r; out = exit }

abbrev pub refused : (number : ℕ) (out : List ℕ) → Left
refused number out = record { answer = refuses number []; out = out }

-- what is written of the head and the sequence lines, each trimmed; refusal 11 without an end, or if not all ends are rising
unfoldable pub of_lines : (w : List ℕ) (start : ℕ) (ends out : List ℕ) → ((head : List ℕ) (ls : List (List ℕ)) → Left) → Left
of_lines w start [] out written = refused 11 out
of_lines w start (e ∷ es) out written =
    cond (rising start (e ∷ es) (length w)) (written (line_of w (suc start) e) (map trim_cr (lines_at w (suc e) es))) (refused 11 out)

-- `write`: the head's line, then the lines joined and one `\n`
unfoldable pub written_in : (w : List ℕ) (start : ℕ) (ends out : List ℕ) → Left
unfolding of_lines
written_in w start ends out = of_lines w start ends out (λ (head : List ℕ) (ls : List (List ℕ)). filled (record_text head ls) out)

-- `write_wrap`: the head's line, then the lines joined and cut every `wrap` bytes
unfoldable pub wrapped_in : (w : List ℕ) (start : ℕ) (ends : List ℕ) (wrap : ℕ) (out : List ℕ) → Left
unfolding of_lines
wrapped_in w start ends wrap out =
    of_lines w start ends out (λ (head : List ℕ) (ls : List (List ℕ)). wrapped wrap (record_wrap_text head ls wrap) out)

-- `write_wrap_seq_iter`: these without the head
unfoldable pub iterated_in : (w : List ℕ) (start : ℕ) (ends : List ℕ) (wrap : ℕ) (out : List ℕ) → Left
unfolding of_lines
iterated_in w start ends wrap out =
    of_lines w start ends out (λ (head : List ℕ) (ls : List (List ℕ)). wrapped wrap (wrap_seq_iter_text wrap ls) out)

-- `write_unchanged`: a copy from `>` to the last end, the only one that it uses
unfoldable pub unchanged_in : (w : List ℕ) (start : ℕ) (ends out : List ℕ) → Left
unchanged_in w start [] out = refused 11 out
unchanged_in w start (e ∷ es) out =
    let last = last_of e es in
    cond (rising start (last ∷ []) (length w)) (filled (unchanged_text (take (last - start) (drop start w))) out) (refused 11 out)

-- the promises
abbrev pub WriteIn : (w : List ℕ) (start : ℕ) (ends out : List ℕ) → Result ℕ RewriteError → (exit : List ℕ) → Type 0
WriteIn w start ends out r exit = left r exit ≡ written_in w start ends out

abbrev pub WriteWrapIn : (w : List ℕ) (start : ℕ) (ends : List ℕ) (wrap : ℕ) (out : List ℕ) → Result ℕ RewriteError → (exit : List ℕ) → Type 0
WriteWrapIn w start ends wrap out r exit = left r exit ≡ wrapped_in w start ends wrap out

abbrev pub WriteWrapSeqIter : (w : List ℕ) (start : ℕ) (ends : List ℕ) (wrap : ℕ) (out : List ℕ) → Result ℕ RewriteError → (exit : List ℕ) → Type 0
WriteWrapSeqIter w start ends wrap out r exit = left r exit ≡ iterated_in w start ends wrap out

abbrev pub WriteUnchangedIn : (w : List ℕ) (start : ℕ) (ends out : List ℕ) → Result ℕ RewriteError → (exit : List ℕ) → Type 0
WriteUnchangedIn w start ends out r exit = left r exit ≡ unchanged_in w start ends out
