-- Reading back what is written. Every text of a whole record is a head's line and then lines that each end in `\n`; where none of these
-- holds a `\n` or begins with `>`, the text's lines are those again, and they are one record. Assumes nothing.
use Prim.Native.Nat.{ℕ, zero, suc, ◌+◌, ◌≤◌, ◌<◌}
use native.Mathlib.Omega.{arith}
use native.Mathlib.Nat.{le_refl}
use mathlib.Core.Bool.{Bool, true, false}
use mathlib.Core.List.{List, [], ◌∷◌, ◌++◌, map, append-nil}
use mathlib.Core.Option.{Option, none, some}
use mathlib.Core.Path.{◌≡◌, refl, ap, ap₂, ◌∙◌, subst}
use lib.ListN.{length, get_or, take, drop, length-drop, take-append-drop}
use lib.Seq.{append_snoc}
use lib.Dec.{eqb}
use borrow.Author.Tests.{eqb-true, ne_eqb}
use Rattle.meaning.specs.Line.{pieces, line, lines, trim_cr}
use Rattle.meaning.specs.Input.{Rec, Split, split, begins, blank, records, led, meaning}
use Rattle.meaning.specs.Parts.{head_of, seq_lines, seq_of, joined, id_of, desc_of}
use Rattle.write.specs.Text.{head_text, id_desc, seq_text, ended, cuts, cut_in, wrap_seq_text, wrap_seq_iter_text, to_text, parts_text, wrap_text}
use Rattle.write.specs.ReadBack.{Without, GoodHead, GoodSeq, ReadsBack}

-- a line with its `\n`, in front of more
pieces-line : (a rest : List ℕ) → Without 10 a → pieces (a ++ (10 ∷ rest)) ≡ (a ++ (10 ∷ [])) ∷ pieces rest
unfolding pieces
pieces-line [] rest w = refl
pieces-line (x ∷ a) rest w = rw (ne_eqb x 10 w.0, pieces-line a rest w.1)

line_of : (a : List ℕ) → Without 10 a → line (a ++ (10 ∷ [])) ≡ a
unfolding line
line_of [] w = refl
line_of (x ∷ a) w = rw (ne_eqb x 10 w.0) (ap (λ (l : List ℕ). x ∷ l) (line_of a w.1))

-- lines of a body: no `\n`, no `\r`, no `>`
abbrev Body : List (List ℕ) → Type 0
Body [] = Unit {0}
Body (l ∷ ls) = GoodSeq l × Body ls

abbrev with_lf : List ℕ → List ℕ
with_lf l = l ++ (10 ∷ [])

body-pieces : (ls : List (List ℕ)) → Body ls → pieces (ended ls) ≡ map with_lf ls
body-pieces [] b = unfold pieces in refl
body-pieces (l ∷ ls) b = pieces-line l (ended ls) b.0.no_lf ∙ ap (λ (ps : List (List ℕ)). with_lf l ∷ ps) (body-pieces ls b.1)

no-begin : (l : List ℕ) → Without 62 l → begins (with_lf l) ≡ false
no-begin [] w = refl
no-begin (x ∷ l) w = ne_eqb x 62 w.0

-- a body is loose: no record begins in it
body-loose : (ls : List (List ℕ)) (n b : ℕ) → Body ls → split n b (map with_lf ls) ≡ record { loose = ended ls; recs = [] }
unfolding split
body-loose [] n b g = refl
body-loose (l ∷ ls) n b g =
    rw (no-begin l g.0.no_mark, body-loose ls (suc n) (b + length (with_lf l)) g.1, append_snoc l 10 (ended ls))

-- a line with no final `\r` is shown as it is
trim-none : (h : List ℕ) → ((front : List ℕ) → h ≡ front ++ (13 ∷ []) → ⊥) → trim_cr h ≡ h
unfolding trim_cr
trim-none [] n = refl
trim-none (x ∷ []) n = rw (ne_eqb x 13 (λ e. n [] (ap (λ (y : ℕ). y ∷ []) e)))
trim-none (x ∷ y ∷ r) n = ap (λ (l : List ℕ). x ∷ l) (trim-none (y ∷ r) (λ front e. n (x ∷ front) (ap (λ (l : List ℕ). x ∷ l) e)))

no-snoc : (b : ℕ) (front : List ℕ) → Without b (front ++ (b ∷ [])) → ⊥
no-snoc b [] w = w.0 refl
no-snoc b (x ∷ front) w = no-snoc b front w.1

trim-body : (ls : List (List ℕ)) → Body ls → map trim_cr ls ≡ ls
trim-body [] b = refl
trim-body (l ∷ ls) b =
    ap₂ (λ (k : List ℕ) (ks : List (List ℕ)). k ∷ ks)
    (trim-none l (λ front e. no-snoc 13 front (subst (Without 13) e b.0.no_cr)))
    (trim-body ls b.1)

line-body : (ls : List (List ℕ)) → Body ls → map line (map with_lf ls) ≡ ls
line-body [] b = refl
line-body (l ∷ ls) b = ap₂ (λ (k : List ℕ) (ks : List (List ℕ)). k ∷ ks) (line_of l b.0.no_lf) (line-body ls b.1)

not-blank : (h : List ℕ) → blank (62 ∷ h) ≡ false
not-blank [] = refl
not-blank (y ∷ h) = refl

-- a head's line and a body are one record
module _ (h : List ℕ) (g : GoodHead h) (ls : List (List ℕ)) (b : Body ls) where
  marked : Without 10 (62 ∷ h)
  marked = (λ e. omega arith, g.no_lf)

  text-pieces : pieces (head_text h ++ ended ls) ≡ head_text h ∷ map with_lf ls
  text-pieces =
      ap (λ (t : List ℕ). pieces (62 ∷ t)) (append_snoc h 10 (ended ls))
      ∙ pieces-line (62 ∷ h) (ended ls) marked
      ∙ ap (λ (ps : List (List ℕ)). head_text h ∷ ps) (body-pieces ls b)

  it : Rec
  it = record { line = 1; byte = 0; bytes = head_text h ++ ended ls }

  text-lines : lines (head_text h ++ ended ls) ≡ (62 ∷ h) ∷ ls
  unfolding lines
  text-lines = ap (map line) text-pieces ∙ ap₂ (λ (k : List ℕ) (ks : List (List ℕ)). k ∷ ks) (line_of (62 ∷ h) marked) (line-body ls b)

  text-meaning : meaning (head_text h ++ ended ls) ≡ records (it ∷ [])
  unfolding meaning led it
  text-meaning =
      rw (text-pieces, line_of (62 ∷ h) marked, not-blank h)
      (ap (λ (s : Split). records (record { line = 1; byte = 0; bytes = head_text h ++ s.loose } ∷ s.recs)) (body-loose ls 2 _ b))

  read_back : ReadsBack (head_text h ++ ended ls) h (joined ls)
  unfolding it head_of seq_of seq_lines
  read_back =
      record {
        it = it;
        one = text-meaning;
        head_is = ap (λ (k : List (List ℕ)). trim_cr (drop 1 (get_or k 0 []))) text-lines ∙ trim-none h g.no_final_cr;
        seq_is = ap (λ (k : List (List ℕ)). joined (map trim_cr (drop 1 k))) text-lines ∙ ap joined (trim-body ls b);
      }

-- what a sequence lacks, its parts lack
without-take : (b n : ℕ) (s : List ℕ) → Without b s → Without b (take n s)
without-take b zero s w = tt
without-take b (suc n) [] w = tt
without-take b (suc n) (x ∷ s) w = (w.0, without-take b n s w.1)

without-drop : (b n : ℕ) (s : List ℕ) → Without b s → Without b (drop n s)
without-drop b zero s w = w
without-drop b (suc n) [] w = tt
without-drop b (suc n) (x ∷ s) w = without-drop b n s w.1

good-part : (f : List ℕ → List ℕ) → ((b : ℕ) (s : List ℕ) → Without b s → Without b (f s)) → (s : List ℕ) → GoodSeq s → GoodSeq (f s)
good-part f w s g = record { no_lf = w 10 s g.no_lf; no_cr = w 13 s g.no_cr; no_mark = w 62 s g.no_mark }

-- the cuts of a sequence are lines of a body, and joined they are the sequence
cut-body : (steps wrap : ℕ) (s : List ℕ) → GoodSeq s → Body (cut_in steps wrap s)
unfolding cut_in
cut-body zero wrap s g = tt
cut-body (suc steps) wrap [] g = tt
cut-body (suc steps) wrap (x ∷ s) g = (
  good-part (take wrap) (λ b. without-take b wrap) (x ∷ s) g,
  cut-body steps wrap (drop wrap (x ∷ s)) (good-part (drop wrap) (λ b. without-drop b wrap) (x ∷ s) g),
)

cut-joined : (wrap : ℕ) → 0 < wrap → (steps : ℕ) (s : List ℕ) → length s ≤ steps → joined (cut_in steps wrap s) ≡ s
unfolding cut_in
cut-joined wrap h zero [] k = refl
cut-joined wrap h zero (x ∷ s) k = absurd (omega arith)
cut-joined wrap h (suc steps) [] k = refl
cut-joined wrap h (suc steps) (x ∷ s) k =
    ap (λ (r : List ℕ). take wrap (x ∷ s) ++ r) (cut-joined wrap h steps (drop wrap (x ∷ s)) (omega (arith, length-drop wrap (x ∷ s))))
    ∙ take-append-drop wrap (x ∷ s)

pub no_bytes : (s : List ℕ) → length s ≡ 0 → s ≡ []
no_bytes [] e = refl
no_bytes (x ∷ s) e = absurd (omega arith)

-- Each writer of a whole record, and write_head followed by a writer of a sequence.
module _ (h : List ℕ) (g : GoodHead h) where
  -- write_head and write_seq, and so write_to
  pub seq-back : (s : List ℕ) → GoodSeq s → ReadsBack (head_text h ++ seq_text s) h s
  seq-back s w = rw (append-nil s) at (read_back h g (s ∷ []) (w, tt))

  -- write_head and write_wrap_seq
  pub wrap-seq-back : (wrap : ℕ) → 0 < wrap → (s : List ℕ) → GoodSeq s → ReadsBack (head_text h ++ wrap_seq_text wrap s) h s
  unfolding wrap_seq_text
  wrap-seq-back wrap k s w =
      rw (cut-joined wrap k (length s) s (le_refl (length s))) at (read_back h g (cuts wrap s) (cut-body (length s) wrap s w))

  -- write_head and write_wrap_seq_iter, and so a record's write_wrap
  pub wrap-iter-back : (wrap : ℕ) → 0 < wrap → (ls : List (List ℕ)) → GoodSeq (joined ls) → ReadsBack (head_text h ++ wrap_seq_iter_text wrap ls) h (joined ls)
  unfolding wrap_seq_iter_text
  wrap-iter-back wrap k ls w = go (eqb (length (joined ls)) 0) refl
    where
      go : (t : Bool) → eqb (length (joined ls)) 0 ≡ t → ReadsBack (head_text h ++ wrap_seq_iter_text wrap ls) h (joined ls)
      go true e = rw (e, no_bytes (joined ls) (eqb-true (length (joined ls)) 0 e)) (seq-back [] (record { no_lf = tt; no_cr = tt; no_mark = tt }))
      go false e = rw e (wrap-seq-back wrap k (joined ls) w)

pub to_back : (h s : List ℕ) → GoodHead h → GoodSeq s → ReadsBack (to_text h s) h s
to_back h s g w = seq-back h g s w

pub parts-back : (id : List ℕ) (desc : Option (List ℕ)) (s : List ℕ) → GoodHead (id_desc id desc) → GoodSeq s → ReadsBack (parts_text id desc s) (id_desc id desc) s
parts-back id desc s g w = seq-back (id_desc id desc) g s w

pub wrap-back : (id : List ℕ) (desc : Option (List ℕ)) (s : List ℕ) (wrap : ℕ) → 0 < wrap → GoodHead (id_desc id desc) → GoodSeq s
    → ReadsBack (wrap_text id desc s wrap) (id_desc id desc) s
wrap-back id desc s wrap k g w = wrap-seq-back (id_desc id desc) g wrap k s w

-- and an id without a space comes back with its description
pub id-back : (id : List ℕ) (desc : Option (List ℕ)) → Without 32 id → id_of (id_desc id desc) ≡ id
unfolding id_of
id-back [] none w = refl
id-back [] (some d) w = refl
id-back (x ∷ id) none w = rw (ne_eqb x 32 w.0) (ap (λ (l : List ℕ). x ∷ l) (id-back id none w.1))
id-back (x ∷ id) (some d) w = rw (ne_eqb x 32 w.0) (ap (λ (l : List ℕ). x ∷ l) (id-back id (some d) w.1))

pub desc-back : (id : List ℕ) (desc : Option (List ℕ)) → Without 32 id → desc_of (id_desc id desc) ≡ desc
unfolding desc_of
desc-back [] none w = refl
desc-back [] (some d) w = refl
desc-back (x ∷ id) none w = rw (ne_eqb x 32 w.0) (desc-back id none w.1)
desc-back (x ∷ id) (some d) w = rw (ne_eqb x 32 w.0) (desc-back id (some d) w.1)
