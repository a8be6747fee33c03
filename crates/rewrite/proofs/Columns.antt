-- Laws of the one-pass form of wrapped lines: bytes behind others, a piece up to the next cut, what is still to be put in a loop (`Due`), and
-- that the form is the text of `write_wrap_seq_iter`, with its length. Assumes nothing.
use Prim.Native.Nat.{ℕ, zero, suc, ◌+◌, ◌-◌, ◌≤◌, ◌<◌}
use native.Mathlib.Decide.{dec_le}
use native.Mathlib.Omega.{arith}
use mathlib.Core.Bool.{Bool, true, false, cond}
use mathlib.Core.List.{List, [], ◌∷◌, ◌++◌, append_assoc, append-nil}
use mathlib.Core.Path.{◌≡◌, refl, sym, ap, subst, ◌∙◌}
use mathlib.Core.Logic.{◌⊎◌, inl, inr}
use lib.ListN.{length, take, drop, drop_of_length-le, take-append-drop}
use lib.Seq.{take_all, length-take-le, append_snoc}
use lib.Dec.{eqb}
use borrow.Author.Tests.{eq-eqb, ne_eqb, eqb-false}
use Rattle.meaning.specs.Parts.{joined}
use Rattle.scan.specs.Move.{pasted}
use Rattle.scan.proofs.Paste.{pasted-none}
use Rattle.write.specs.Put.{Fits, Put}
use Rattle.write.specs.Text.{seq_text, wrap_seq_text, wrap_seq_iter_text}
use Rattle.write.proofs.Lengths.{lines_none, lines-some, wrap-length}
use Rattle.write.proofs.Putting.{first_fits, second_fits, fits-as, put_as, put_both}
use Rattle.write.proofs.ReadBack.{no_bytes}
use Rattle.write.proofs.Wrap.{wrap-none, wrap-line, by_lines}
use Rattle.rewrite.specs.Wrap.{wrap_on, column_on, Goes, Piece, Lays, Reached, Ends, Ended, wrap_len}
use Rattle.rewrite.specs.declared.column.Column.{Column}
use Rattle.rewrite.proofs.Cases.{put-at}

module _ (wrap : ℕ) where
  -- the clauses: a byte that fills its line, and any other
  on-full : (col x : ℕ) (xs : List ℕ) → suc col ≡ wrap → wrap_on wrap col (x ∷ xs) ≡ x ∷ 10 ∷ wrap_on wrap 0 xs
  unfolding wrap_on
  on-full col x xs e = rw (eq-eqb (suc col) wrap e)

  on-more : (col x : ℕ) (xs : List ℕ) → (suc col ≡ wrap → ⊥) → wrap_on wrap col (x ∷ xs) ≡ x ∷ wrap_on wrap (suc col) xs
  unfolding wrap_on
  on-more col x xs ne = rw (ne_eqb (suc col) wrap ne)

  column-full : (col x : ℕ) (xs : List ℕ) → suc col ≡ wrap → column_on wrap col (x ∷ xs) ≡ column_on wrap 0 xs
  unfolding column_on
  column-full col x xs e = rw (eq-eqb (suc col) wrap e, column_on)

  column-more : (col x : ℕ) (xs : List ℕ) → (suc col ≡ wrap → ⊥) → column_on wrap col (x ∷ xs) ≡ column_on wrap (suc col) xs
  unfolding column_on
  column-more col x xs ne = rw (ne_eqb (suc col) wrap ne, column_on)

  -- bytes behind others go on where those end
  on-append : (a b : List ℕ) (col : ℕ) → wrap_on wrap col (a ++ b) ≡ wrap_on wrap col a ++ wrap_on wrap (column_on wrap col a) b
  unfolding wrap_on column_on
  on-append [] b col = refl
  on-append (x ∷ a) b col = go (eqb (suc col) wrap) refl (on-append a b 0) (on-append a b (suc col))
    where
      go : (t : Bool) → eqb (suc col) wrap ≡ t
          → wrap_on wrap 0 (a ++ b) ≡ wrap_on wrap 0 a ++ wrap_on wrap (column_on wrap 0 a) b
          → wrap_on wrap (suc col) (a ++ b) ≡ wrap_on wrap (suc col) a ++ wrap_on wrap (column_on wrap (suc col) a) b
          → wrap_on wrap col ((x ∷ a) ++ b) ≡ wrap_on wrap col (x ∷ a) ++ wrap_on wrap (column_on wrap col (x ∷ a)) b
      go true t zero' on = rw (t, wrap_on, column_on) (ap (λ (l : List ℕ). x ∷ 10 ∷ l) zero')
      go false t zero' on = rw (t, wrap_on, column_on) (ap (λ (l : List ℕ). x ∷ l) on)

  column-append : (a b : List ℕ) (col : ℕ) → column_on wrap col (a ++ b) ≡ column_on wrap (column_on wrap col a) b
  unfolding column_on
  column-append [] b col = refl
  column-append (x ∷ a) b col = go (eqb (suc col) wrap) refl (column-append a b 0) (column-append a b (suc col))
    where
      go : (t : Bool) → eqb (suc col) wrap ≡ t
          → column_on wrap 0 (a ++ b) ≡ column_on wrap (column_on wrap 0 a) b
          → column_on wrap (suc col) (a ++ b) ≡ column_on wrap (column_on wrap (suc col) a) b
          → column_on wrap col ((x ∷ a) ++ b) ≡ column_on wrap (column_on wrap col (x ∷ a)) b
      go true t zero' on = rw (t, column_on) zero'
      go false t zero' on = rw (t, column_on) on

  -- a column stays inside its line
  pub column-inside : (a : List ℕ) (col : ℕ) → col < wrap → column_on wrap col a < wrap
  unfolding column_on
  column-inside [] col h = h
  column-inside (x ∷ a) col h = go (eqb (suc col) wrap) refl (column-inside a 0) (column-inside a (suc col))
    where
      go : (t : Bool) → eqb (suc col) wrap ≡ t → (0 < wrap → column_on wrap 0 a < wrap) → (suc col < wrap → column_on wrap (suc col) a < wrap)
          → column_on wrap col (x ∷ a) < wrap
      go true t zero' on = rw (t, column_on) (zero' (omega arith))
      go false t zero' on = rw (t, column_on) (on (let ne = eqb-false (suc col) wrap t in omega arith))

  -- a piece that ends before the next cut, and one that ends there
  short_on : (a : List ℕ) (col : ℕ) → col + length a < wrap → (wrap_on wrap col a ≡ a) × (column_on wrap col a ≡ col + length a)
  unfolding wrap_on column_on
  short_on [] col h = (refl, omega arith)
  short_on (x ∷ a) col h =
      let ih = short_on a (suc col) (omega arith) in
      let ne : suc col ≡ wrap → ⊥ = λ e. omega arith in
      (on-more col x a ne ∙ ap (λ (l : List ℕ). x ∷ l) ih.0, column-more col x a ne ∙ ih.1 ∙ omega arith)

  full-on : (a : List ℕ) (col : ℕ) → 0 < length a → col + length a ≡ wrap → (wrap_on wrap col a ≡ seq_text a) × (column_on wrap col a ≡ 0)
  unfolding wrap_on column_on
  full-on [] col k h = absurd (omega arith)
  full-on (x ∷ []) col k h = (on-full col x [] (omega arith), column-full col x [] (omega arith))
  full-on (x ∷ y ∷ a) col k h =
      let ih = full-on (y ∷ a) (suc col) (omega arith) (omega arith) in
      let ne : suc col ≡ wrap → ⊥ = λ e. omega arith in
      (on-more col x (y ∷ a) ne ∙ ap (λ (l : List ℕ). x ∷ l) ih.0, column-more col x (y ∷ a) ne ∙ ih.1)

-- a text laid behind another
lays-both : {a b : List ℕ} {k k' : ℕ} {c mid new : Column} → Fits c.at (a ++ b) c.out.now → Lays a k c mid → Lays b k' mid new → Lays (a ++ b) k' c new
lays-both fits p q = record { put = put_both fits p.put q.put; column = q.column; wrap = q.wrap ∙ p.wrap; same = q.same ∙ p.same }

lays-as : {a b : List ℕ} {k k' : ℕ} {c new : Column} → a ≡ b → k ≡ k' → Lays b k' c new → Lays a k c new
lays-as e f p = record { put = put_as e p.put; column = p.column ∙ sym f; wrap = p.wrap; same = p.same }

-- what the output holds when the column is gone
pub left_by : {text exit : List ℕ} {k : ℕ} {c new : Column} → Lays text k c new → exit ≡ new.out.now → Put c.at text c.out.now new.at exit
left_by p e = record { place = p.put.place; holds = e ∙ p.put.holds }

-- a piece put, and the `\n` behind one that fills its line
pub piece-short : {c new : Column} (piece : List ℕ) → c.col + length piece < c.wrap → Lays piece (c.col + length piece) c new → Reached piece c new
piece-short {c} piece h p = let on = short_on c.wrap piece c.col h in lays-as on.0 on.1 p

pub piece-ends : {c : Column} (piece : List ℕ) {exit : List ℕ} → Piece piece c → c.col + length piece ≡ c.wrap → exit ≡ pasted c.at piece c.out.now
    → Fits (c.at + length piece) (10 ∷ []) exit
piece-ends {c} piece P h e =
    second_fits (10 ∷ []) (fits-as c.at c.out.now (full-on c.wrap piece c.col P.some h).0 P.goes.room) (put-at c.at piece c.out.now e)

pub piece-full : {k : ℕ} {c mid new : Column} (piece : List ℕ) → Piece piece c → c.col + length piece ≡ c.wrap → Ended mid new → Lays piece k c mid
    → Reached piece c new
piece-full {k} {c} piece P h q p =
    let on = full-on c.wrap piece c.col P.some h in
    lays-as on.0 on.1 (lays-both (fits-as c.at c.out.now on.0 P.goes.room) p q)

-- Of bytes that are to go on from `first`, the rest `seq` is still to be put at `c`.
pub record Due (all : List ℕ) (first : Column) (seq : List ℕ) (c : Column) : Type 0 where
  pub goes : Goes seq c
  pub reach : (new : Column) → Reached seq c new → Reached all first new

pub due_all : {seq : List ℕ} {c : Column} → Goes seq c → Due seq c seq c
due_all g = record { goes = g; reach = λ new p. p }

pub due-as : {all seq other : List ℕ} {first c : Column} → seq ≡ other → Due all first seq c → Due all first other c
due-as {all} {seq} {other} {first} {c} e d = subst (λ (s : List ℕ). Due all first s c) e d

-- there is room for its front
pub due-front : {all : List ℕ} {first c : Column} (a b : List ℕ) → Due all first (a ++ b) c → Goes a c
due-front {all} {first} {c} a b d =
    record {
      inside = d.goes.inside;
      room = first_fits c.at (wrap_on c.wrap c.col a) (wrap_on c.wrap (column_on c.wrap c.col a) b) c.out.now
          (fits-as c.at c.out.now (on-append c.wrap a b c.col) d.goes.room);
    }

-- its front is put
pub due-next : {all : List ℕ} {first c new : Column} (a b : List ℕ) → Due all first (a ++ b) c → Reached a c new → Due all first b new
due-next {all} {first} {c} {new} a b d p =
    let k = column_on c.wrap c.col a in
    let split = on-append c.wrap a b c.col in
    let fits = fits-as c.at c.out.now split d.goes.room in
    let on : wrap_on new.wrap new.col b ≡ wrap_on c.wrap k b = λ i. wrap_on (p.wrap i) (p.column i) b in
    let behind : column_on new.wrap new.col b ≡ column_on c.wrap k b = λ i. column_on (p.wrap i) (p.column i) b in
    record {
      goes = record {
        inside = omega (arith, p.column, p.wrap, column-inside c.wrap a c.col d.goes.inside);
        room = fits-as new.at new.out.now (sym on) (second_fits (wrap_on c.wrap k b) fits p.put);
      };
      reach = λ last q.
          d.reach last (lays-as split (column-append c.wrap a b c.col) (lays-both fits p (lays-as (sym on) (sym behind) q)));
    }

-- nothing is left
pub due-none : {all seq : List ℕ} {first c : Column} → Due all first seq c → length seq ≡ 0 → Reached all first c
unfolding wrap_on column_on
due-none {all} {seq} {first} {c} d e =
    let n = due-as (no_bytes seq e) d in
    n.reach c (record {
      put = record { place = omega arith; holds = sym (pasted-none c.at c.out.now (omega (arith, n.goes.room))) };
      column = refl;
      wrap = refl;
      same = refl;
    })

-- behind the last cut: a line that was begun is ended
abbrev ending : (col : ℕ) → List ℕ
ending zero = []
ending (suc col) = 10 ∷ []

-- a sequence in lines is the one-pass form, and the last line's `\n`
wrap-on : (wrap : ℕ) → 0 < wrap → (seq : List ℕ) → wrap_seq_text wrap seq ≡ wrap_on wrap 0 seq ++ ending (column_on wrap 0 seq)
unfolding wrap_on column_on
wrap-on wrap w =
    by_lines (λ (s : List ℕ). wrap_seq_text wrap s ≡ wrap_on wrap 0 s ++ ending (column_on wrap 0 s)) wrap w (wrap-none wrap)
    (λ s k ih. wrap-line wrap s w k ∙ go s k ih (dec_le wrap (length s)))
  where
    go : (s : List ℕ) → 0 < length s → wrap_seq_text wrap (drop wrap s) ≡ wrap_on wrap 0 (drop wrap s) ++ ending (column_on wrap 0 (drop wrap s))
        → Dec (wrap ≤ length s) → take wrap s ++ (10 ∷ wrap_seq_text wrap (drop wrap s)) ≡ wrap_on wrap 0 s ++ ending (column_on wrap 0 s)
    go s k ih (yes u) =
        let a = take wrap s in
        let b = drop wrap s in
        let n : length a ≡ wrap = length-take-le wrap s u in
        let whole = take-append-drop wrap s in
        let full = full-on wrap a 0 (omega arith) (omega arith) in
        let on : wrap_on wrap 0 s ≡ seq_text a ++ wrap_on wrap 0 b =
        ap (wrap_on wrap 0) (sym whole) ∙ on-append wrap a b 0 ∙ (λ i. full.0 i ++ wrap_on wrap (full.1 i) b) in
        let at : column_on wrap 0 s ≡ column_on wrap 0 b =
        ap (column_on wrap 0) (sym whole) ∙ column-append wrap a b 0 ∙ ap (λ (c : ℕ). column_on wrap c b) full.1 in
        ap (λ (l : List ℕ). a ++ (10 ∷ l)) ih
        ∙ sym (append_snoc a 10 (wrap_on wrap 0 b ++ ending (column_on wrap 0 b)))
        ∙ sym (append_assoc (seq_text a) (wrap_on wrap 0 b) (ending (column_on wrap 0 b)))
        ∙ (λ i. sym on i ++ ending (sym at i))
    go s k ih (no u) =
        let short = short_on wrap s 0 (omega arith) in
        let col : column_on wrap 0 s ≡ suc (length s - 1) = omega (arith, short.1) in
        let none : wrap_seq_text wrap (drop wrap s) ≡ [] = ap (wrap_seq_text wrap) (drop_of_length-le s {i = wrap} (omega arith)) ∙ wrap-none wrap in
        (λ i. take_all wrap s (omega arith) i ++ (10 ∷ none i)) ∙ (λ i. sym short.0 i ++ ending (sym col i))

-- the text of `write_wrap_seq_iter`: the same, but one `\n` for an empty sequence
abbrev iter : (wrap : ℕ) (seq : List ℕ) → List ℕ
iter wrap seq = cond (eqb (length seq) 0) (10 ∷ []) (wrap_seq_text wrap seq)

iter-more : (wrap x : ℕ) (s : List ℕ) → iter wrap (x ∷ s) ≡ wrap_seq_text wrap (x ∷ s)
iter-more wrap x s = rw (ne_eqb (length (x ∷ s)) 0 (λ e. omega arith))

abbrev closing : (n col : ℕ) → List ℕ
closing zero col = 10 ∷ []
closing (suc n) col = ending col

pub iter-parts : (wrap : ℕ) → 0 < wrap → (ls : List (List ℕ))
    → wrap_seq_iter_text wrap ls ≡ wrap_on wrap 0 (joined ls) ++ closing (length (joined ls)) (column_on wrap 0 (joined ls))
unfolding wrap_seq_iter_text wrap_on
iter-parts wrap w ls = go (joined ls)
  where
    go : (s : List ℕ) → iter wrap s ≡ wrap_on wrap 0 s ++ closing (length s) (column_on wrap 0 s)
    go [] = refl
    go (x ∷ s) = iter-more wrap x s ∙ wrap-on wrap w (x ∷ s)

-- where nothing was put there is nothing
nothing-on : (wrap col : ℕ) (seq : List ℕ) → length (wrap_on wrap col seq) ≡ 0 → length seq ≡ 0
unfolding wrap_on
nothing-on wrap col [] e = refl
nothing-on wrap col (x ∷ seq) e = absurd (omega arith)

module _ (wrap : ℕ) (w : 0 < wrap) (ls : List (List ℕ)) where
  -- its three ends: nothing was put, the last line is full, and it is not
  pub iter-nothing : length (wrap_on wrap 0 (joined ls)) ≡ 0 → wrap_seq_iter_text wrap ls ≡ seq_text (wrap_on wrap 0 (joined ls))
  iter-nothing e =
      let none = nothing-on wrap 0 (joined ls) e in
      iter-parts wrap w ls ∙ ap (λ (n : ℕ). wrap_on wrap 0 (joined ls) ++ closing n (column_on wrap 0 (joined ls))) none

  iter-some : (length (joined ls) ≡ 0 → ⊥) → wrap_seq_iter_text wrap ls ≡ wrap_on wrap 0 (joined ls) ++ ending (column_on wrap 0 (joined ls))
  iter-some ne =
      let n : length (joined ls) ≡ suc (length (joined ls) - 1) = omega arith in
      iter-parts wrap w ls ∙ ap (λ (n : ℕ). wrap_on wrap 0 (joined ls) ++ closing n (column_on wrap 0 (joined ls))) n

  pub iter-full : (length (wrap_on wrap 0 (joined ls)) ≡ 0 → ⊥) → column_on wrap 0 (joined ls) ≡ 0
      → wrap_seq_iter_text wrap ls ≡ wrap_on wrap 0 (joined ls)
  unfolding wrap_on
  iter-full ne e =
      iter-some (λ z. ne (ap length (ap (wrap_on wrap 0) (no_bytes (joined ls) z))))
      ∙ ap (λ (c : ℕ). wrap_on wrap 0 (joined ls) ++ ending c) e
      ∙ append-nil (wrap_on wrap 0 (joined ls))

  pub iter-open : (column_on wrap 0 (joined ls) ≡ 0 → ⊥) → wrap_seq_iter_text wrap ls ≡ seq_text (wrap_on wrap 0 (joined ls))
  unfolding column_on
  iter-open ne =
      let c = column_on wrap 0 (joined ls) in
      let col : c ≡ suc (c - 1) = omega arith in
      iter-some (λ z. ne (ap (column_on wrap 0) (no_bytes (joined ls) z)))
      ∙ ap (λ (k : ℕ). wrap_on wrap 0 (joined ls) ++ ending k) col

  -- its length
  pub iter-length : length (wrap_seq_iter_text wrap ls) ≡ wrap_len wrap (length (joined ls))
  unfolding wrap_seq_iter_text
  iter-length = go (joined ls)
    where
      go : (s : List ℕ) → length (iter wrap s) ≡ wrap_len wrap (length s)
      go [] = omega (arith, lines_none wrap w)
      go (x ∷ s) = omega (arith, ap length (iter-more wrap x s), wrap-length wrap (x ∷ s) w, lines-some wrap (length (x ∷ s)) w (omega arith))

  -- a width above its length makes one line
  pub iter-wide : length (joined ls) < wrap → wrap_seq_iter_text wrap ls ≡ seq_text (joined ls)
  unfolding wrap_seq_iter_text
  iter-wide = go (joined ls)
    where
      go : (s : List ℕ) → length s < wrap → iter wrap s ≡ seq_text s
      go [] h = refl
      go (x ∷ s) h =
          let l = x ∷ s in
          let none : wrap_seq_text wrap (drop wrap l) ≡ [] = ap (wrap_seq_text wrap) (drop_of_length-le l {i = wrap} (omega arith)) ∙ wrap-none wrap in
          iter-more wrap x s ∙ wrap-line wrap l w (omega arith) ∙ (λ i. take_all wrap l (omega arith) i ++ (10 ∷ none i))

-- room for the text is room for the one-pass form
pub iter-room : (ls : List (List ℕ)) {c : Column} → 0 < c.wrap → c.col ≡ 0 → Fits c.at (wrap_seq_iter_text c.wrap ls) c.out.now → Goes (joined ls) c
iter-room ls {c} w fresh fits =
    let s = joined ls in
    record {
      inside = omega arith;
      room = first_fits c.at (wrap_on c.wrap c.col s) (closing (length s) (column_on c.wrap 0 s)) c.out.now
          (fits-as c.at c.out.now (iter-parts c.wrap w ls ∙ ap (λ (k : ℕ). wrap_on c.wrap k s ++ closing (length s) (column_on c.wrap 0 s)) (sym fresh)) fits);
    }

-- What is put behind the lines: a `\n` if the last line was begun or nothing was put, and else nothing.
module _ (ls : List (List ℕ)) {c mid : Column} (w : 0 < c.wrap) (fresh : c.col ≡ 0) (p : Reached (joined ls) c mid) where
  begun : Lays (wrap_on c.wrap 0 (joined ls)) (column_on c.wrap 0 (joined ls)) c mid
  begun = subst (λ (k : ℕ). Lays (wrap_on c.wrap k (joined ls)) (column_on c.wrap k (joined ls)) c mid) fresh p

  pub iter-ends : (mid.col ≡ 0 → ⊥) ⊎ (mid.at ≡ c.at) → wrap_seq_iter_text c.wrap ls ≡ seq_text (wrap_on c.wrap 0 (joined ls))
  iter-ends (inl part) = iter-open c.wrap w ls (λ z. part (begun.column ∙ z))
  iter-ends (inr none) = iter-nothing c.wrap w ls (omega (arith, begun.put.place))

  pub iter-end-room : Fits c.at (wrap_seq_iter_text c.wrap ls) c.out.now → (mid.col ≡ 0 → ⊥) ⊎ (mid.at ≡ c.at) → Ends mid
  iter-end-room fits e = second_fits (10 ∷ []) (fits-as c.at c.out.now (iter-ends e) fits) begun.put

  pub iter-ended : {new : Column} → Fits c.at (wrap_seq_iter_text c.wrap ls) c.out.now → (mid.col ≡ 0 → ⊥) ⊎ (mid.at ≡ c.at) → Ended mid new
      → Lays (wrap_seq_iter_text c.wrap ls) 0 c new
  iter-ended fits e q = lays-as (iter-ends e) refl (lays-both (fits-as c.at c.out.now (iter-ends e) fits) begun q)

  pub iter-whole : mid.col ≡ 0 → (mid.at ≡ c.at → ⊥) → Lays (wrap_seq_iter_text c.wrap ls) 0 c mid
  iter-whole z some =
      lays-as (iter-full c.wrap w ls (λ n. some (begun.put.place ∙ omega (arith, n))) (sym begun.column ∙ z)) (sym z ∙ begun.column) begun
