-- The cases of `write_unchanged`, as its functions meet them: no end, an end that does not rise, and the copy with or without a `\n` behind
-- it. And what `copy` and `write_head` leave, as texts put (`Put`). Assumes nothing.
use Prim.Native.Nat.{ℕ, suc, ◌+◌, ◌-◌, ◌≤◌, ◌<◌}
use native.Mathlib.Omega.{arith}
use native.Mathlib.Nat.{zero-add}
use mathlib.Core.Bool.{true, false, false≢true, and-true}
use mathlib.Core.List.{List, [], ◌∷◌, ◌++◌}
use mathlib.Core.Path.{◌≡◌, refl, sym, ap, ◌∙◌}
use lib.ListN.{length, get_or, take, drop}
use lib.Dec.{eqb}
use lib.Pointwise.{pointwise}
use borrow.Author.Tests.{le-leb, eqb-true}
use Rattle.std.proofs.Common.{Bor}
use Rattle.std.specs.Option.{unwrap_or}
use Rattle.std.specs.Prelude.{Option, Some, None, Result, Ok, Err, MatchOption, IsOk, IsErr, IsErrAnd}
use Rattle.scan.specs.Move.{pasted}
use Rattle.scan.proofs.Paste.{pasted-room, pasted-none}
use Rattle.write.specs.Output.{Left, wrote, filled, WriteHead}
use Rattle.write.specs.Output as write
use Rattle.write.specs.declared.error.WriteError.{WriteError}
use Rattle.write.specs.declared.error.WriteError.TheVariants.{Wrap, Room}
use Rattle.write.specs.Put.{Fits, Put}
use Rattle.write.specs.Text.{ends_in, head_text, seq_text, unchanged_text}
use Rattle.view.specs.View.{last_of}
use Rattle.view.proofs.Rises.{rising-next, not-rising}
use Rattle.view.proofs.Cases.{last-at}
use Rattle.rewrite.specs.Refused.{FromWrite}
use Rattle.rewrite.specs.declared.error.RewriteError.{RewriteError}
use Rattle.rewrite.specs.declared.error.RewriteError.TheVariants.{State}
use Rattle.rewrite.specs.Rewrite.{left, refused, unchanged_in}

-- the last byte, by the library's test
tail-is : (l : List ℕ) → pointwise eqb (drop (length l - 1) l) (10 ∷ []) ≡ ends_in 10 l
tail-is [] = refl
tail-is (x ∷ []) = and-true (eqb x 10)
tail-is (x ∷ y ∷ r) =
    let z : length (x ∷ y ∷ r) - 1 ≡ suc (length (y ∷ r) - 1) = omega arith in
    rw z (tail-is (y ∷ r))

-- bytes that end in `\n` are the others and that
front-tail : (l : List ℕ) → ends_in 10 l ≡ true → seq_text (take (length l - 1) l) ≡ l
front-tail [] e = absurd (false≢true e)
front-tail (x ∷ []) e = ap (λ (y : ℕ). y ∷ []) (sym (eqb-true x 10 e))
front-tail (x ∷ y ∷ r) e =
    let z : length (x ∷ y ∷ r) - 1 ≡ suc (length (y ∷ r) - 1) = omega arith in
    rw z (ap (λ (l : List ℕ). x ∷ l) (front-tail (y ∷ r) e))

-- a copy without the `\n` that it may end in, and one `\n`
pub stripped : (copy : Bor (List ℕ)) (o : Option (Bor (List ℕ)))
    → MatchOption o (pointwise eqb (drop (length copy.now - 1) copy.now) (10 ∷ []) ≡ false)
    (λ x. (pointwise eqb (drop (length copy.now - 1) copy.now) (10 ∷ []) ≡ true) × (x.now ≡ take (length copy.now - 1) copy.now) × (length x.now + 1 ≡ length copy.now))
    → seq_text (unwrap_or o copy).now ≡ unchanged_text copy.now
unfolding unchanged_text
stripped copy None e = let t : ends_in 10 copy.now ≡ false = sym (tail-is copy.now) ∙ e in rw t
stripped copy (Some x) e =
    let t : ends_in 10 copy.now ≡ true = sym (tail-is copy.now) ∙ e.0 in
    rw (t, e.1) (front-tail copy.now t)

-- what a copy leaves, as a text put
pub put-at : (at : ℕ) (text out : List ℕ) {exit : List ℕ} → exit ≡ pasted at text out → Put at text out (at + length text) exit
put-at at text out e = record { place = refl; holds = e }

module _ (w : List ℕ) (start : ℕ) where
  pub unchanged-empty : (ends out : List ℕ) → length ends ≡ 0 → unchanged_in w start ends out ≡ refused 11 out
  unfolding unchanged_in
  unchanged-empty [] out k = refl
  unchanged-empty (e ∷ es) out k = absurd (omega arith)

  -- the last end does not rise
  pub unchanged-falls : (ends out : List ℕ) {last : ℕ} → 0 < length ends → last ≡ get_or ends (length ends - 1) 0 → (start < last → last ≤ length w → ⊥)
      → unchanged_in w start ends out ≡ refused 11 out
  unfolding unchanged_in
  unchanged-falls [] out k is never = absurd (omega arith)
  unchanged-falls (e ∷ es) out k is never =
      let z : length (e ∷ es) - 1 ≡ length es = omega arith in
      let at : get_or (e ∷ es) (length (e ∷ es) - 1) 0 ≡ last_of e es = rw z (last-at e es) in
      rw (not-rising start (last_of e es) [] (length w) (λ h g. never (omega arith) (omega arith)))

  -- it does
  pub unchanged-some : (ends out : List ℕ) {last : ℕ} → 0 < length ends → last ≡ get_or ends (length ends - 1) 0 → start < last → last ≤ length w
      → unchanged_in w start ends out ≡ filled (unchanged_text (take (last - start) (drop start w))) out
  unfolding unchanged_in
  unchanged-some [] out k is h g = absurd (omega arith)
  unchanged-some (e ∷ es) out k is h g =
      let z : length (e ∷ es) - 1 ≡ length es = omega arith in
      let at : get_or (e ∷ es) (length (e ∷ es) - 1) 0 ≡ last_of e es = rw z (last-at e es) in
      rw (is, at, rising-next start (last_of e es) [] (length w) (omega arith) (omega arith))

-- what `?` makes of a refusal of `write`, and of one of its own
pub as-write : (r : Result ℕ RewriteError) (e : WriteError) (exit : List ℕ) → IsErr r × IsErrAnd r (FromWrite e) → left r exit ≡ write.left (Err e) exit
as-write (Ok n) e exit g = absurd (false≢true g.0)
as-write (Err x) Wrap exit g = ap (λ (y : RewriteError). left (Err y) exit) g.1
as-write (Err x) (Room n) exit g = ap (λ (y : RewriteError). left (Err y) exit) g.1

pub as-state : (r : Result ℕ RewriteError) {e : RewriteError} (exit : List ℕ) → e ≡ State → IsErr r × IsErrAnd r (λ x. x ≡ e) → left r exit ≡ refused 11 exit
as-state (Ok n) exit is g = absurd (false≢true g.0)
as-state (Err x) exit is g = ap (λ (y : RewriteError). left (Err y) exit) (g.1 ∙ is)

-- what `write_head` answers and leaves where there is room
filled-fits : (text out : List ℕ) → Fits 0 text out → filled text out ≡ record { answer = wrote (length text); out = pasted 0 text out }
unfolding filled
filled-fits text out fits =
    let made : pasted 0 text out ≡ text ++ drop (length text) out =
    pasted-room 0 text out fits ∙ ap (λ (k : ℕ). text ++ drop k out) (zero-add (length text)) in
    rw (le-leb (length text) (length out) (omega arith), made)

pub head-fits : (head out : List ℕ) (r : Result ℕ WriteError) {exit : List ℕ} → Fits 0 (head_text head) out → WriteHead head out r exit → IsOk r
head-fits head out (Ok n) fits e = refl
head-fits head out (Err x) fits e = let f = ap (λ (l : Left). l.answer) (e ∙ filled-fits (head_text head) out fits) in cc

pub head-put : {n : ℕ} {exit : List ℕ} {r : Result ℕ WriteError} (head out : List ℕ) → Fits 0 (head_text head) out → r ≡ Ok n → WriteHead head out r exit
    → Put 0 (head_text head) out n exit
head-put {n} {exit} head out fits is e =
    let d : write.left (Ok n) exit ≡ record { answer = wrote (length (head_text head)); out = pasted 0 (head_text head) out } =
    ap (λ (r : Result ℕ WriteError). write.left r exit) (sym is) ∙ e ∙ filled-fits (head_text head) out fits in
    let f : wrote n ≡ wrote (length (head_text head)) = ap (λ (l : Left). l.answer) d in
    let k : n ≡ length (head_text head) = cc in
    record { place = omega arith; holds = ap (λ (l : Left). l.out) d }

pub put-nothing : (out : List ℕ) → Put 0 [] out 0 out
put-nothing out = record { place = refl; holds = sym (pasted-none 0 out (omega arith)) }
