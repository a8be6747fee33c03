-- By the need, either there is room for the text, and putting it is what is asked, or it is refused; and the texts' parts and lengths.
-- Assumes nothing.
use Prim.Native.Nat.{ℕ, ◌+◌, ◌^◌, ◌≤◌, ◌<◌}
use native.Mathlib.Decide.{dec_le}
use native.Mathlib.Omega.{arith}
use mathlib.Core.Path.{◌≡◌, refl, sym, ap, subst, ◌∙◌}
use mathlib.Core.Bool.{false≢true}
use mathlib.Core.List.{List, [], ◌∷◌, ◌++◌, append_assoc}
use lib.ListN.{length, take, drop, length-append}
use lib.Seq.{length-take-le, take_at}
use borrow.Author.Tests.{le-leb, lt-leb}
use Rattle.meaning.specs.Ascii.{ascii}
use Rattle.scan.specs.Move.{pasted}
use Rattle.scan.proofs.Paste.{pasted-room}
use Rattle.write.specs.Listing.{decimal, row_of, end_text, refused_text}
use Rattle.write.specs.Output.{Answer, wrote, refuses, Left, cut, need}
use Rattle.std.specs.Prelude.{Result, Ok, Err, IsErr, IsErrAnd}
use Rattle.write.specs.Put.{Put}
use Rattle.rows.specs.Rows.{left, filled_at}
use Rattle.rows.specs.declared.room.Room.{Room}

-- an answer that is a length, and the length
abbrev IsWrote : Answer → Type 0
IsWrote (wrote n) = Unit {0}
IsWrote (refuses number values) = ⊥

abbrev length_in : Answer → ℕ
length_in (wrote n) = n
length_in (refuses number values) = 0

-- the two cases of `filled_at`
filled-refused : (at : ℕ) (text out : List ℕ) → length out < at + length text → filled_at at text out ≡ record { answer = refuses 9 (need text ∷ []); out = out }
unfolding filled_at
filled-refused at text out h = rw (lt-leb (at + length text) (length out) h)

filled_put : (at : ℕ) (text out : List ℕ) → at + length text ≤ length out → filled_at at text out ≡ record { answer = wrote (at + length text); out = pasted at text out }
unfolding filled_at
filled_put at text out h = rw (le-leb (at + length text) (length out) h)

-- what `?` makes of a refusal for want of room, by the text's length
pub told_room : {n : ℕ} {e : Room} (r : Result ℕ Room) (at : ℕ) (text out : List ℕ) → length text ≡ n → n < 2 ^ 64
    → (length out < at + n) × (e ≡ record { 0 = n }) → IsErr r × IsErrAnd r (λ x. x ≡ e) → left r out ≡ filled_at at text out
unfolding need
told_room (Ok m) at text out long few full passed = absurd (false≢true passed.0)
told_room {n} (Err x) at text out long few full passed =
    let is : n ≡ cut (length text) = omega arith in
    ap (λ (y : Room). left (Err y) out) (passed.1 ∙ full.1)
    ∙ (λ i. record { answer = refuses 9 (is i ∷ []); out = out })
    ∙ sym (filled-refused at text out (omega (arith, full.0)))

pub told-done : {n at r : ℕ} {text out exit : List ℕ} → length text ≡ n → at + n ≤ length out → Put at text out r exit → left (Ok r) exit ≡ filled_at at text out
told-done {n} {at} {r} {text} {out} e h p =
    (λ i. record { answer = wrote (p.place i); out = p.holds i })
    ∙ sym (filled_put at text out (omega arith))

-- What stands before the place that is answered is what stood before the text, and the text: so a buffer's front, when it is written, is the texts
-- put into it one behind the other.
pub kept : (at n : ℕ) (text out exit : List ℕ) → left (Ok n) exit ≡ filled_at at text out → take n exit ≡ take at out ++ text
kept at n text out exit e = go (dec_le (at + length text) (length out))
  where
    go : Dec (at + length text ≤ length out) → take n exit ≡ take at out ++ text
    go (yes fits) =
        let is = e ∙ filled_put at text out fits in
        let long : length (take at out ++ text) ≡ at + length text = omega (arith, length-append (take at out) text, length-take-le at out (omega arith)) in
        let rest = drop (at + length text) out in
        let place : n ≡ at + length text = ap (λ (l : Left). length_in l.answer) is in
        (λ i. take (place i) (is i).out)
        ∙ ap (take (at + length text)) (pasted-room at text out fits ∙ sym (append_assoc (take at out) text rest))
        ∙ take_at (take at out ++ text) rest (at + length text) long
    go (no full) = absurd (subst IsWrote (ap (λ (l : Left). l.answer) (e ∙ filled-refused at text out (omega arith))) tt)

-- a row's length, by those of its numbers
pub row-length : {a b d : ℕ} (line byte : ℕ) (id : List ℕ) (len : ℕ) → a ≡ length (decimal line) → b ≡ length (decimal byte) → d ≡ length (decimal len)
    → length (row_of line byte id len) ≡ a + b + length id + d + 4
unfolding row_of
row-length line byte id len e f g = simp length-append (omega arith)

-- the last line
pub end_is : end_text ≡ 101 ∷ 110 ∷ 100 ∷ 10 ∷ []
unfolding end_text ascii
end_is = refl

pub refused-length : {d : ℕ} (number : ℕ) → d ≡ length (decimal number) → length (refused_text number) ≡ d + 9
unfolding refused_text ascii
refused-length number e = simp length-append (omega arith)
