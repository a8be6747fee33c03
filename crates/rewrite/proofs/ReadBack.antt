-- Reading back what a record's writers wrote (01): under its conditions on head and sequence where they are written anew, and with no condition
-- where a record of an input is written unchanged. In such a record no other one begins, so its copy is one record, and the copy has the same
-- lines but for an empty one at the end. Assumes nothing.
use Prim.Native.Nat.{ℕ, suc, ◌<◌}
use native.Mathlib.Omega.{arith}
use mathlib.Core.Bool.{Bool, true, false, ◌&&◌, false≢true}
use mathlib.Core.List.{List, [], ◌∷◌, ◌++◌, map}
use mathlib.Core.Path.{◌≡◌, refl, sym, ap, ◌∙◌, subst}
use lib.ListN.{length, get_or, take, drop}
use lib.Seq.{take_at}
use lib.Dec.{eqb, leb}
use borrow.Author.Tests.{eqb-true, eqb-false, ne_eqb}
use Rattle.meaning.specs.Line.{lines, on_first, trim_last, trim_cr}
use Rattle.meaning.specs.Input.{Rec, Split, records_from, Meaning, records, refused, meaning}
use Rattle.meaning.specs.Parts.{head_of, seq_lines, seq_of, joined}
use Rattle.meaning.specs.OnePass.{Marked, lead_marks}
use Rattle.meaning.proofs.Bytes.{cut, put, after, recs-cut}
use Rattle.meaning.proofs.Lines.{lines-nil, lines-lf, lines-on}
use Rattle.meaning.proofs.OnePass.{seen, marks-records, whole-meaning, Lead, nothing, refusal, start, whole-lead}
use Rattle.reader.proofs.Sanity.{and-true}
use Rattle.std.specs.Prelude.{Ok, Err}
use Rattle.write.specs.Output.{Answer, wrote, refuses, Left, need, filled, wrapped}
use Rattle.write.specs.Text.{record_text, record_wrap_text, ends_in, unchanged_text, copy_of}
use Rattle.write.specs.ReadBack.{GoodHead, GoodSeq, ReadsBack}
use Rattle.write.proofs.ReadBack.{to_back, wrap-iter-back}
use Rattle.view.proofs.Meaning.{Stands}
use Rattle.rewrite.specs.Rewrite.{left, WriteIn, WriteWrapIn, WriteUnchangedIn}
use Rattle.rewrite.specs.declared.error.RewriteError.TheVariants.{Wrap, Room}
use Rattle.rewrite.proofs.Meaning.{write-is, write-wrap-is, write-unchanged-is}

-- `write` and `write_wrap`
pub write-back : (r : Rec) → GoodHead (head_of r) → GoodSeq (seq_of r) → ReadsBack (record_text (head_of r) (seq_lines r)) (head_of r) (seq_of r)
unfolding seq_of
write-back r g w = to_back (head_of r) (joined (seq_lines r)) g w

pub write-wrap-back : (r : Rec) (wrap : ℕ) → 0 < wrap → GoodHead (head_of r) → GoodSeq (seq_of r)
    → ReadsBack (record_wrap_text (head_of r) (seq_lines r) wrap) (head_of r) (seq_of r)
unfolding seq_of
write-wrap-back r wrap k g w = wrap-iter-back (head_of r) g wrap k (seq_lines r) w

-- no record begins in some bytes; `fresh`: the byte before them is a `\n`
abbrev Loose : (fresh : Bool) → List ℕ → Type 0
Loose fresh [] = Unit {0}
Loose fresh (x ∷ xs) = ((fresh && eqb x 62) ≡ false) × Loose (eqb x 10) xs

cut-loose : (xs : List ℕ) (fresh : Bool) (l b : ℕ) → Loose fresh xs → cut l b xs fresh ≡ record { loose = xs; recs = [] }
unfolding cut
cut-loose [] fresh l b p = refl
cut-loose (x ∷ xs) fresh l b p =
    let ih = cut-loose xs (eqb x 10) (after x l) (suc b) p.1 in
    λ i. put (p.0 i) l b x (ih i)

loose-cut : (xs : List ℕ) (fresh : Bool) (l b : ℕ) → Loose fresh (cut l b xs fresh).loose
unfolding cut
loose-cut [] fresh l b = tt
loose-cut (x ∷ xs) fresh l b = go (fresh && eqb x 62) refl (loose-cut xs (eqb x 10) (after x l) (suc b))
  where
    R : Split
    R = cut (after x l) (suc b) xs (eqb x 10)

    go : (t : Bool) → (fresh && eqb x 62) ≡ t → Loose (eqb x 10) R.loose → Loose fresh (put t l b x R).loose
    go true t ih = tt
    go false t ih = (t, ih)

-- a `\n` more or less at the end makes no difference to that
loose-more : (xs : List ℕ) (fresh : Bool) → Loose fresh xs → Loose fresh (xs ++ (10 ∷ []))
loose-more [] true p = (refl, tt)
loose-more [] false p = (refl, tt)
loose-more (x ∷ xs) fresh p = (p.0, loose-more xs (eqb x 10) p.1)

loose-trim : (xs : List ℕ) (fresh : Bool) → Loose fresh xs → Loose fresh (trim_last 10 xs)
unfolding trim_last
loose-trim [] fresh p = tt
loose-trim (x ∷ []) fresh p = go (eqb x 10) refl
  where
    go : (t : Bool) → eqb x 10 ≡ t → Loose fresh (trim_last 10 (x ∷ []))
    go true t = rw t tt
    go false t = rw t (p.0, tt)
loose-trim (x ∷ y ∷ r) fresh p = (p.0, loose-trim (y ∷ r) (eqb x 10) p.1)

-- a `>` and such bytes are one record
alone : List ℕ → Rec
alone bytes = record { line = 1; byte = 0; bytes = bytes }

one-record : (rest : List ℕ) → Loose false rest → meaning (62 ∷ rest) ≡ records (alone (62 ∷ rest) ∷ [])
unfolding lead_marks cut alone
one-record rest p =
    sym (whole-meaning (62 ∷ rest))
    ∙ ap records (marks-records (62 ∷ rest) 1 0 rest refl ∙ recs-cut 1 0 (62 ∷ rest))
    ∙ ap (λ (s : Split). records (alone (62 ∷ s.loose) ∷ s.recs)) (cut-loose rest false 1 1 p)

-- what a record of an input is: a `>`, and behind it no record begins
pub record Begins (r : Rec) : Type 0 where
  pub rest : List ℕ
  pub bytes_are : r.bytes ≡ 62 ∷ rest
  pub loose : Loose false rest

abbrev Begin : List Rec → Type 0
Begin [] = Unit {0}
Begin (r ∷ rs) = Begins r × Begin rs

cut-begin : (xs : List ℕ) (fresh : Bool) (l b : ℕ) → Begin (cut l b xs fresh).recs
unfolding cut
cut-begin [] fresh l b = tt
cut-begin (x ∷ xs) fresh l b = go (fresh && eqb x 62) refl (cut-begin xs (eqb x 10) (after x l) (suc b))
  where
    R : Split
    R = cut (after x l) (suc b) xs (eqb x 10)

    go : (t : Bool) → (fresh && eqb x 62) ≡ t → Begin R.recs → Begin (put t l b x R).recs
    go true t ih =
        let is : x ≡ 62 = eqb-true x 62 (and-true fresh (eqb x 62) t).1 in
        let no_lf : eqb x 10 ≡ false = ne_eqb x 10 (λ e. omega arith) in
        let loose : Loose (eqb x 10) R.loose = loose-cut xs (eqb x 10) (after x l) (suc b) in (
          record {
            rest = R.loose;
            bytes_are = ap (λ (y : ℕ). y ∷ R.loose) is;
            loose = subst (λ (f : Bool). Loose f R.loose) no_lf loose;
          },
          ih,
        )
    go false t ih = ih

from-begin : (l b : ℕ) (xs : List ℕ) → Begin (records_from l b xs)
from-begin l b xs = subst Begin (sym (recs-cut l b xs)) (cut-begin xs true l b)

abbrev BeginOf : Meaning → Type 0
BeginOf (records rs) = Begin rs
BeginOf (refused l x) = Unit {0}

lead-begin : (X : List ℕ) {M : Marked} → Lead X M → BeginOf (seen X M)
lead-begin X nothing = tt
lead-begin X (refusal l x) = tt
lead-begin X (start l b xs e h k) = subst Begin (sym (marks-records X l b xs e)) (from-begin l b (62 ∷ xs))

begin-at : (before : List Rec) (r : Rec) (behind : List Rec) → Begin (before ++ r ∷ behind) → Begins r
begin-at [] r behind b = b.0
begin-at (x ∷ before) r behind b = begin-at before r behind b.1

-- the lines of bytes with one `\n` more
lines-some : (x : ℕ) (xs : List ℕ) → 0 < length (lines (x ∷ xs))
lines-some x xs = go (eqb x 10) refl
  where
    first : (ls : List (List ℕ)) → 0 < length (on_first x ls)
    first [] = omega arith
    first (l ∷ ls) = omega arith

    go : (t : Bool) → eqb x 10 ≡ t → 0 < length (lines (x ∷ xs))
    go true t = rw (lines-lf x xs t) (omega arith)
    go false t = rw (lines-on x xs t) (first (lines xs))

lines-open : (xs : List ℕ) → 0 < length xs → ends_in 10 xs ≡ false → lines (xs ++ (10 ∷ [])) ≡ lines xs
lines-open [] k e = absurd (omega arith)
lines-open (x ∷ []) k e =
    lines-on x (10 ∷ []) e ∙ ap (on_first x) (lines-lf 10 [] refl ∙ ap (λ (ls : List (List ℕ)). [] ∷ ls) lines-nil) ∙ sym (lines-on x [] e ∙ ap (on_first x) lines-nil)
lines-open (x ∷ y ∷ r) k e = go (eqb x 10) refl (lines-open (y ∷ r) (omega arith) e)
  where
    go : (t : Bool) → eqb x 10 ≡ t → lines ((y ∷ r) ++ (10 ∷ [])) ≡ lines (y ∷ r) → lines ((x ∷ y ∷ r) ++ (10 ∷ [])) ≡ lines (x ∷ y ∷ r)
    go true t ih = lines-lf x ((y ∷ r) ++ (10 ∷ [])) t ∙ ap (λ (ls : List (List ℕ)). [] ∷ ls) ih ∙ sym (lines-lf x (y ∷ r) t)
    go false t ih = lines-on x ((y ∷ r) ++ (10 ∷ [])) t ∙ ap (on_first x) ih ∙ sym (lines-on x (y ∷ r) t)

-- an empty line at the end
abbrev and_empty : List (List ℕ) → List (List ℕ)
and_empty ls = ls ++ ([] ∷ [])

on-first-empty : (x : ℕ) (ls : List (List ℕ)) → 0 < length ls → on_first x (and_empty ls) ≡ and_empty (on_first x ls)
on-first-empty x [] k = absurd (omega arith)
on-first-empty x (l ∷ ls) k = refl

lines-ended : (xs : List ℕ) → ends_in 10 xs ≡ true → lines (xs ++ (10 ∷ [])) ≡ and_empty (lines xs)
lines-ended [] e = absurd (false≢true e)
lines-ended (x ∷ []) e =
    lines-lf x (10 ∷ []) e
    ∙ ap (λ (ls : List (List ℕ)). [] ∷ ls) (lines-lf 10 [] refl ∙ ap (λ (ls : List (List ℕ)). [] ∷ ls) lines-nil)
    ∙ ap and_empty (sym (lines-lf x [] e ∙ ap (λ (ls : List (List ℕ)). [] ∷ ls) lines-nil))
lines-ended (x ∷ y ∷ r) e = go (eqb x 10) refl (lines-ended (y ∷ r) e)
  where
    go : (t : Bool) → eqb x 10 ≡ t → lines ((y ∷ r) ++ (10 ∷ [])) ≡ and_empty (lines (y ∷ r))
        → lines ((x ∷ y ∷ r) ++ (10 ∷ [])) ≡ and_empty (lines (x ∷ y ∷ r))
    go true t ih = lines-lf x ((y ∷ r) ++ (10 ∷ [])) t ∙ ap (λ (ls : List (List ℕ)). [] ∷ ls) ih ∙ ap and_empty (sym (lines-lf x (y ∷ r) t))
    go false t ih =
        lines-on x ((y ∷ r) ++ (10 ∷ [])) t
        ∙ ap (on_first x) ih
        ∙ on-first-empty x (lines (y ∷ r)) (lines-some y r)
        ∙ ap and_empty (sym (lines-on x (y ∷ r) t))

-- trimmed bytes: as they were, or with a `\n` less
trim-open : (xs : List ℕ) → ends_in 10 xs ≡ false → trim_last 10 xs ≡ xs
unfolding trim_last
trim-open [] e = refl
trim-open (x ∷ []) e = rw e
trim-open (x ∷ y ∷ r) e = ap (λ (l : List ℕ). x ∷ l) (trim-open (y ∷ r) e)

trim-ended : (xs : List ℕ) → ends_in 10 xs ≡ true → trim_last 10 xs ++ (10 ∷ []) ≡ xs
unfolding trim_last
trim-ended [] e = absurd (false≢true e)
trim-ended (x ∷ []) e = rw e (ap (λ (y : ℕ). y ∷ []) (sym (eqb-true x 10 e)))
trim-ended (x ∷ y ∷ r) e = ap (λ (l : List ℕ). x ∷ l) (trim-ended (y ∷ r) e)

-- an empty line at the end shows nothing
abbrev head_with : List (List ℕ) → List ℕ
head_with ls = trim_cr (drop 1 (get_or ls 0 []))

abbrev seq_with : List (List ℕ) → List ℕ
seq_with ls = joined (map trim_cr (drop 1 ls))

joined-empty : (ls : List (List ℕ)) → joined (map trim_cr (and_empty ls)) ≡ joined (map trim_cr ls)
unfolding trim_cr trim_last
joined-empty [] = refl
joined-empty (l ∷ ls) = ap (λ (s : List ℕ). trim_cr l ++ s) (joined-empty ls)

shown-empty : (ls : List (List ℕ)) → 0 < length ls → (head_with (and_empty ls) ≡ head_with ls) × (seq_with (and_empty ls) ≡ seq_with ls)
shown-empty [] k = absurd (omega arith)
shown-empty (l ∷ ls) k = (refl, joined-empty ls)

-- the text of `write_unchanged` begins with the `>` too, and no record begins behind it
record Text (bytes text : List ℕ) : Type 0 where
  rest : List ℕ
  text_is : text ≡ 62 ∷ rest
  loose : Loose false rest
  head : head_with (lines text) ≡ head_with (lines bytes)
  seq : seq_with (lines text) ≡ seq_with (lines bytes)

trim-mark : (rest : List ℕ) → trim_last 10 (62 ∷ rest) ≡ 62 ∷ trim_last 10 rest
unfolding trim_last
trim-mark [] = refl
trim-mark (y ∷ r) = refl

-- by the bytes' last byte, and by that of the copy
text_of : (rest : List ℕ) → Loose false rest → Text (62 ∷ rest) (unchanged_text (trim_last 10 (62 ∷ rest)))
unfolding unchanged_text
text_of rest p = go (ends_in 10 bytes) refl (ends_in 10 copy) refl
  where
    bytes : List ℕ
    bytes = 62 ∷ rest

    copy : List ℕ
    copy = trim_last 10 bytes

    same : (q : List ℕ) → Loose false q → lines (62 ∷ q) ≡ lines bytes → Text bytes (62 ∷ q)
    same q l e = record { rest = q; text_is = refl; loose = l; head = ap head_with e; seq = ap seq_with e }

    go : (t : Bool) → ends_in 10 bytes ≡ t → (u : Bool) → ends_in 10 copy ≡ u → Text bytes (unchanged_text copy)
    go false et u eu =
        let e : ends_in 10 copy ≡ false = ap (ends_in 10) (trim-open bytes et) ∙ et in
        rw e (subst (λ (c : List ℕ). Text bytes (c ++ (10 ∷ []))) (sym (trim-open bytes et))
        (same (rest ++ (10 ∷ [])) (loose-more rest false p) (lines-open bytes (omega arith) et)))
    go true et false eu = rw eu (subst (Text bytes) (sym (trim-ended bytes et)) (same rest p refl))
    go true et true eu =
        let q = trim_last 10 rest in
        let is : copy ≡ 62 ∷ q = trim-mark rest in
        let more : lines bytes ≡ and_empty (lines (62 ∷ q)) =
        ap lines (sym (trim-ended bytes et)) ∙ lines-ended copy eu ∙ ap (λ (c : List ℕ). and_empty (lines c)) is in
        let shown = shown-empty (lines (62 ∷ q)) (lines-some 62 q) in
        rw eu (subst (Text bytes) (sym is) (record {
          rest = q;
          text_is = refl;
          loose = loose-trim rest false p;
          head = sym (ap head_with more ∙ shown.0);
          seq = sym (ap seq_with more ∙ shown.1);
        }))

text-back : {bytes text : List ℕ} → Text bytes text → ReadsBack text (head_with (lines bytes)) (seq_with (lines bytes))
unfolding alone head_of seq_of seq_lines
text-back {bytes} {text} t =
    record {
      it = alone text;
      one = ap meaning t.text_is ∙ one-record t.rest t.loose ∙ ap (λ (b : List ℕ). records (alone b ∷ [])) (sym t.text_is);
      head_is = t.head;
      seq_is = t.seq;
    }

-- a record written unchanged
pub begins-back : (r : Rec) → Begins r → ReadsBack (unchanged_text (copy_of r)) (head_of r) (seq_of r)
unfolding head_of seq_of seq_lines copy_of
begins-back r b =
    rw b.bytes_are (text-back (text_of b.rest b.loose))

-- each record of an input, and each from a place sought on
pub unchanged-back : (X : List ℕ) (before : List Rec) (r : Rec) (behind : List Rec) → meaning X ≡ records (before ++ r ∷ behind)
    → ReadsBack (unchanged_text (copy_of r)) (head_of r) (seq_of r)
unchanged-back X before r behind e =
    begins-back r (begin-at before r behind (subst BeginOf (whole-meaning X ∙ e) (lead-begin X (whole-lead X))))

pub unchanged-back-from : (l b : ℕ) (xs : List ℕ) (before : List Rec) (r : Rec) (behind : List Rec) → records_from l b xs ≡ before ++ r ∷ behind
    → ReadsBack (unchanged_text (copy_of r)) (head_of r) (seq_of r)
unchanged-back-from l b xs before r behind e = begins-back r (begin-at before r behind (subst Begin e (from-begin l b xs)))

-- the length that an answer says was written
abbrev is_wrote : Answer → Bool
is_wrote (wrote n) = true
is_wrote (refuses number values) = false

abbrev written_by : Answer → ℕ
written_by (wrote n) = n
written_by (refuses number values) = 0

-- what a call wrote: the front of the output, as long as it answers
done-text : (text out : List ℕ) (n : ℕ) (exit : List ℕ) → left (Ok n) exit ≡ filled text out → take n exit ≡ text
unfolding filled
done-text text out n exit e = go (leb (length text) (length out)) refl
  where
    go : (t : Bool) → leb (length text) (length out) ≡ t → take n exit ≡ text
    go true t =
        let d : left (Ok n) exit ≡ left (Ok (length text)) (text ++ drop (length text) out) = e ∙ rw t in
        (λ i. take (written_by (d i).answer) (d i).out) ∙ take_at text (drop (length text) out) (length text) refl
    go false t =
        let d : left (Ok n) exit ≡ left (Err (Room (need text))) out = e ∙ rw t in
        absurd (false≢true (sym (ap (λ (l : Left). is_wrote l.answer) d)))

wrap-text : (wrap : ℕ) (text out : List ℕ) (n : ℕ) (exit : List ℕ) → left (Ok n) exit ≡ wrapped wrap text out → (0 < wrap) × (take n exit ≡ text)
unfolding wrapped
wrap-text wrap text out n exit e = go (eqb wrap 0) refl
  where
    go : (t : Bool) → eqb wrap 0 ≡ t → (0 < wrap) × (take n exit ≡ text)
    go true t =
        let d : left (Ok n) exit ≡ left (Err Wrap) out = e ∙ rw t in
        absurd (false≢true (sym (ap (λ (l : Left). is_wrote l.answer) d)))
    go false t = (let ne = eqb-false wrap 0 t in omega arith, done-text text out n exit (e ∙ rw t))

-- The calls: what they wrote of a record that stands in the bytes reads back.
module _ (X : List ℕ) (start : ℕ) (r : Rec) (ends : List ℕ) (s : Stands X start r ends) (out : List ℕ) (n : ℕ) (exit : List ℕ) where
  pub write-in-back : GoodHead (head_of r) → GoodSeq (seq_of r) → WriteIn X start ends out (Ok n) exit → ReadsBack (take n exit) (head_of r) (seq_of r)
  write-in-back g w p =
      let e = done-text (record_text (head_of r) (seq_lines r)) out n exit (p ∙ write-is X start r ends s out) in
      rw e (write-back r g w)

  pub write-wrap-in-back : (wrap : ℕ) → GoodHead (head_of r) → GoodSeq (seq_of r) → WriteWrapIn X start ends wrap out (Ok n) exit
      → ReadsBack (take n exit) (head_of r) (seq_of r)
  write-wrap-in-back wrap g w p =
      let e = wrap-text wrap (record_wrap_text (head_of r) (seq_lines r) wrap) out n exit (p ∙ write-wrap-is X start r ends s wrap out) in
      rw e.1 (write-wrap-back r wrap e.0 g w)

  pub write-unchanged-in-back : (input : List ℕ) (before behind : List Rec) → meaning input ≡ records (before ++ r ∷ behind)
      → WriteUnchangedIn X start ends out (Ok n) exit → ReadsBack (take n exit) (head_of r) (seq_of r)
  write-unchanged-in-back input before behind m p =
      let e = done-text (unchanged_text (copy_of r)) out n exit (p ∙ write-unchanged-is X start r ends s out) in
      rw e (unchanged-back input before r behind m)
