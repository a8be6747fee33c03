-- Any two answers that one promise of a record's writer allows are the same, and so are the outputs: each promise is an equation with one
-- value on its right, and what an answer says tells which answer it is. Assumes nothing.
use Prim.Native.Nat.{ℕ}
use mathlib.Core.Bool.{cond}
use mathlib.Core.List.{List}
use mathlib.Core.Path.{◌≡◌, refl, sym, ap, ◌∙◌}
use lib.ListN.{get_or}
use lib.Dec.{eqb}
use Rattle.std.specs.Prelude.{Result, Ok, Err}
use Rattle.write.specs.Output.{Answer, wrote, refuses, Left}
use Rattle.reader.specs.declared.state.Reader.{Reader}
use Rattle.rewrite.specs.Current.{Write, WriteWrap, WriteUnchanged}
use Rattle.rewrite.specs.Rewrite.{says, left, WriteIn, WriteWrapIn, WriteWrapSeqIter, WriteUnchangedIn}
use Rattle.rewrite.specs.declared.error.RewriteError.{RewriteError}
use Rattle.rewrite.specs.declared.error.RewriteError.TheVariants.{NoRecord, Wrap, Room, State}

-- a promise allows one answer and one output
abbrev pub Unique : (Result ℕ RewriteError → List ℕ → Type 0) → Type 0
Unique P = (r r' : Result ℕ RewriteError) (exit exit' : List ℕ) → P r exit → P r' exit' → (r ≡ r') × (exit ≡ exit')

-- the answer that says it
abbrev answer_of : Answer → Result ℕ RewriteError
answer_of (wrote n) = Ok n
answer_of (refuses number values) =
    Err (cond (eqb number 7) NoRecord (cond (eqb number 10) Wrap (cond (eqb number 9) (Room (get_or values 0 0)) State)))

answer-of : (r : Result ℕ RewriteError) → answer_of (says r) ≡ r
answer-of (Ok n) = refl
answer-of (Err NoRecord) = refl
answer-of (Err Wrap) = refl
answer-of (Err (Room n)) = refl
answer-of (Err State) = refl

-- one answer and one output for what is said and left
pub one_left : (x : Left) → Unique (λ (r : Result ℕ RewriteError) (exit : List ℕ). left r exit ≡ x)
one_left x r r' exit exit' p q =
    let e : left r exit ≡ left r' exit' = p ∙ sym q in
    (sym (answer-of r) ∙ ap (λ (l : Left). answer_of l.answer) e ∙ answer-of r', ap (λ (l : Left). l.out) e)

pub write-in-unique : (w : List ℕ) (start : ℕ) (ends out : List ℕ) → Unique (WriteIn w start ends out)
write-in-unique w start ends out = one_left _

pub write-wrap-in-unique : (w : List ℕ) (start : ℕ) (ends : List ℕ) (wrap : ℕ) (out : List ℕ) → Unique (WriteWrapIn w start ends wrap out)
write-wrap-in-unique w start ends wrap out = one_left _

pub write-wrap-seq-iter-unique : (w : List ℕ) (start : ℕ) (ends : List ℕ) (wrap : ℕ) (out : List ℕ) → Unique (WriteWrapSeqIter w start ends wrap out)
write-wrap-seq-iter-unique w start ends wrap out = one_left _

pub write-unchanged-in-unique : (w : List ℕ) (start : ℕ) (ends out : List ℕ) → Unique (WriteUnchangedIn w start ends out)
write-unchanged-in-unique w start ends out = one_left _

-- the same of a reader's current record
pub write-unique : (reader : Reader) (w ends out : List ℕ) → Unique (Write reader w ends out)
write-unique reader w ends out = one_left _

pub write-wrap-unique : (reader : Reader) (w ends : List ℕ) (wrap : ℕ) (out : List ℕ) → Unique (WriteWrap reader w ends wrap out)
write-wrap-unique reader w ends wrap out = one_left _

pub write-unchanged-unique : (reader : Reader) (w ends out : List ℕ) → Unique (WriteUnchanged reader w ends out)
write-unchanged-unique reader w ends out = one_left _
