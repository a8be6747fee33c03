-- Filling the output: by the need, either there is room for the text, and putting it at the front fills the output, or it is refused.
-- Assumes nothing.
use Prim.Native.Nat.{ℕ, ◌<◌}
use Rattle.std.proofs.Common.{arith}
use Rattle.std.proofs.lemmas.Bool.Decides.{nat_tests}
use native.Mathlib.Nat.{zero-add}
use mathlib.Core.Path.{◌≡◌, ap, ◌∙◌}
use mathlib.Core.List.{List, ◌++◌}
use lib.ListN.{length, drop}
use Rattle.scan.proofs.Paste.{pasted-room}
use Rattle.write.specs.Put.{Fits, Put}
use Rattle.write.specs.Output.{cut, need, filled, wrapped, left}
use Rattle.std.specs.Prelude.{Ok, Err}
use Rattle.write.specs.declared.error.WriteError.TheVariants.{Wrap, Room}

pub fill-refused : {k n : ℕ} (text out : List ℕ) → length text ≡ k → n ≡ cut k → length out < n → left (Err (Room n)) out ≡ filled text out
unfolding need filled
fill-refused {k} {n} text out e need h = grind (arith, nat_tests)

pub fill_done : {text out : List ℕ} {r : ℕ} {exit : List ℕ} → Fits 0 text out → Put 0 text out r exit → left (Ok r) exit ≡ filled text out
unfolding need filled
fill_done {text} {out} {r} {exit} h p =
    let holds : exit ≡ text ++ drop (length text) out =
    p.holds ∙ pasted-room 0 text out h ∙ ap (λ (n : ℕ). text ++ drop n out) (zero-add (length text)) in
    let place = p.place in
    grind (arith, nat_tests)

-- a width 0 is refused with 10; any other fills
pub wrap-refused : (wrap : ℕ) (text out : List ℕ) → wrap ≡ 0 → left (Err Wrap) out ≡ wrapped wrap text out
unfolding wrapped
wrap-refused wrap text out e = grind (arith, nat_tests)

pub wrap-fill : (wrap : ℕ) (text out : List ℕ) → 0 < wrap → wrapped wrap text out ≡ filled text out
unfolding wrapped
wrap-fill wrap text out h = grind (arith, nat_tests)
