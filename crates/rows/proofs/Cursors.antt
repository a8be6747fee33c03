-- What a cursor's puts leave: the text in its place; and, of texts put one behind the other, the room for the rest, and all of them at once.
-- Assumes nothing.
use Prim.Native.Nat.{ℕ, ◌+◌, ◌-◌, ◌≤◌, ◌<◌, ◌^◌}
use native.Mathlib.Omega.{arith}
use mathlib.Core.Path.{◌≡◌, refl, sym, ap, ◌∙◌}
use mathlib.Core.List.{List, ◌++◌}
use lib.ListN.{length, take, drop, take-append-drop}
use borrow.Rule.Slice.PartMut.{put_mid}
use Rattle.std.proofs.lemmas.Slice.{put_mid-paste}
use Rattle.std.specs.Fmt as fmt
use Rattle.scan.specs.Move.{pasted}
use Rattle.scan.proofs.Paste.{paste_all, pasted-room}
use Rattle.write.specs.Listing.{decimal}
use Rattle.write.specs.Put.{Fits, Put}
use Rattle.write.proofs.Putting.{first_fits, second_fits, put_both}
use Rattle.rows.specs.Put.{Holds, PutOn}
use Rattle.rows.specs.declared.cursor.Cursor.{Cursor}
use Rattle.rows.proofs.Digits.{decimal-is}

-- the part of the output that a text was copied to
pub copied : (at : ℕ) (text out part : List ℕ) → Fits at text out → part ≡ text → put_mid at (at + length text - at) out part ≡ pasted at text out
copied at text out part fits e = put_mid-paste at _ out part text (length text) e (omega arith) refl ∙ paste_all at text out fits

-- digits that end where they fit
pub written : (n at end r : ℕ) (out exit : List ℕ) → n < 2 ^ 64 → Fits at (decimal n) out → end ≡ at + length (decimal n)
    → r + length (fmt.decimal n) ≡ end → drop r exit ≡ fmt.decimal n ++ drop end out → take r exit ≡ take r out → exit ≡ pasted at (decimal n) out
written n at end r out exit small fits e start behind before =
    let is = decimal-is n small in
    let place : r ≡ at = omega (arith, ap length is) in
    sym (take-append-drop r exit)
    ∙ (λ i. before i ++ behind i)
    ∙ (λ i. take (place i) out ++ (sym is i ++ drop (e i) out))
    ∙ sym (pasted-room at (decimal n) out fits)

-- By its length there is room for a text.
pub has_room : {n : ℕ} {c : Cursor} (text : List ℕ) → length text ≡ n → c.at + n ≤ length c.out.now → Holds text c
has_room text long fits = record { fits = omega arith }

-- Of a text that a cursor `first` has room for, `rest` is still to be put where it stands at `c`.
pub record Begun (text : List ℕ) (first : Cursor) (rest : List ℕ) (c : Cursor) : Type 0 where
  pub room : Holds rest c
  pub put : (c' : Cursor) → PutOn rest c c' → PutOn text first c'

pub begun : {c : Cursor} {text : List ℕ} → Holds text c → Begun text c text c
begun h = record { room = h; put = λ c' p. p }

pub front : {first c : Cursor} {text : List ℕ} (a b : List ℕ) → Begun text first (a ++ b) c → Holds a c
front {first} {c} a b s = record { fits = first_fits c.at a b c.out.now s.room.fits }

pub on : {first c c' : Cursor} {text a : List ℕ} (b : List ℕ) → Begun text first (a ++ b) c → PutOn a c c' → Begun text first b c'
on b s p =
    record {
      room = record { fits = second_fits b s.room.fits p.put };
      put = λ c'' q. s.put c'' (record { put = put_both s.room.fits p.put q.put; same = q.same ∙ p.same });
    }

-- what the output holds when the cursor is gone
pub left_by : {c c' : Cursor} {text exit : List ℕ} → PutOn text c c' → exit ≡ c'.out.now → Put c.at text c.out.now c'.at exit
left_by p e = record { place = p.put.place; holds = e ∙ p.put.holds }
