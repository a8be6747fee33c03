-- The answers due in the one-pass form are those of the input's meaning, and each record among them stands in the input: its ends are those
-- of its lines, and a `>` is its first byte. Assumes nothing.
use Prim.Native.Nat.{ℕ, zero, suc, ◌+◌, ◌≤◌}
use mathlib.Core.Bool.{Bool, true, false, cond}
use mathlib.Core.List.{List, [], ◌∷◌, map}
use mathlib.Core.Option.{Option, none, some}
use mathlib.Core.Path.{◌≡◌, refl, sym, ap, subst, ◌∙◌}
use lib.ListN.{get_or, drop}
use lib.Dec.{eqb}
use borrow.Author.Tests.{eqb-true}
use Rattle.meaning.specs.Input.{Rec, records, records_from}
use Rattle.meaning.specs.Due.{Said, gives, ends, refuses, due, due_by}
use Rattle.meaning.specs.OnePass.{Mark, marks, Marked, good, lead_marks, judged_mark, place_mark, due_marks}
use Rattle.meaning.proofs.OnePass.{cut_out, marks-records, whole-meaning, Lead, nothing, refusal, start, whole-lead}
use Rattle.meaning.proofs.Marks.{All, Right, marks-right, lead-right}
use Rattle.meaning.proofs.Due.{said_of, due-gives, due-refuses, due-marks}
use Rattle.meaning.proofs.Places.{Stand, records-stand}
use Rattle.runs.specs.Demand.{front, place, due_from}
use Rattle.runs.proofs.Tells.{Dues, judge, at_sought, later}

-- a mark whose ends are right, at a `>` of X, on a line that refusal 5 allows there
pub record Fine (X : List ℕ) (m : Mark) : Type 0 where
  pub is_right : Right X m
  pub is_mark : get_or X m.byte 0 ≡ 62
  pub line_least : 1 ≤ m.line
  pub line_most : m.line ≤ m.byte + 1

abbrev pub IsFine : (X : List ℕ) → Said Mark → Type 0
IsFine X (gives m) = Fine X m
IsFine X ends = Unit {0}
IsFine X (refuses n vs) = Unit {0}

abbrev pub AllFine : (X : List ℕ) → Dues → Type 0
AllFine X [] = Unit {0}
AllFine X (a ∷ d) = IsFine X a × AllFine X d

pub fine-later : (X : List ℕ) (d : Dues) → AllFine X d → AllFine X (later d)
fine-later X [] f = f
fine-later X (a ∷ []) f = f
fine-later X (a ∷ b ∷ d) f = f.1

-- all but the last one gone, n times
unfoldable pub after : {A : Type 0} → ℕ → List A → List A
after zero d = d
after (suc n) d = later (after n d)

module _ (X : List ℕ) (C T : ℕ) where
  -- marks that are right, of records that stand in X
  fine-marks : (ms : List Mark) → All (Right X) ms → Stand X (map (cut_out X) ms) → All (Fine X) ms
  fine-marks [] rs st = tt
  fine-marks (m ∷ ms) rs st = (
    record { is_right = rs.0; is_mark = st.0.mark; line_least = st.0.line_least; line_most = st.0.line_most },
    fine-marks ms rs.1 st.1,
  )

  fine-judged : (ms : List Mark) → All (Fine X) ms → AllFine X (judge C T ms)
  unfolding due_by
  fine-judged [] fs = (tt, tt)
  fine-judged (m ∷ ms) fs = go (judged_mark C T m) refl (fine-judged ms fs.1)
    where
      go : (o : Option ℕ) → judged_mark C T m ≡ o → AllFine X (judge C T ms) → AllFine X (judge C T (m ∷ ms))
      go none o rest = subst (AllFine X) (sym (due-gives (judged_mark C T) place_mark m ms o)) (fs.0, rest)
      go (some n) o rest = subst (AllFine X) (sym (due-refuses (judged_mark C T) place_mark m ms n o)) (tt, tt)

  -- the records from a `>` on
  module _ (l b : ℕ) (xs : List ℕ) (e : drop b X ≡ 62 ∷ xs) (h : 1 ≤ l) (k : l ≤ suc b) where
    fine-from : AllFine X (judge C T (marks l b (suc b) [] xs false))
    fine-from =
        fine-judged (marks l b (suc b) [] xs false)
        (fine-marks (marks l b (suc b) [] xs false) (marks-right X l b xs e)
        (subst (Stand X) (sym (marks-records X l b xs e)) (records-stand X l b (62 ∷ xs) e h k)))

    said-from : map (said_of X) (judge C T (marks l b (suc b) [] xs false)) ≡ due C T (records (records_from l b (drop b X)))
    unfolding due_marks
    said-from =
        sym (due-marks X C T (good (marks l b (suc b) [] xs false)) (marks-right X l b xs e))
        ∙ ap (λ (rs : List Rec). due C T (records rs)) (marks-records X l b xs e ∙ ap (records_from l b) (sym e))

  fine-lead : {M : Marked} → Lead X M → AllFine X (due_marks C T M)
  unfolding due_marks due_by
  fine-lead nothing = (tt, tt)
  fine-lead (refusal l x) = (tt, (tt, tt))
  fine-lead (start l b xs e h k) = fine-from l b xs e h k

  -- at the front of the input
  pub fine-front : AllFine X (due_marks C T (lead_marks 1 0 X false))
  fine-front = fine-lead (whole-lead X)

  pub said-front : map (said_of X) (due_marks C T (lead_marks 1 0 X false)) ≡ due_from X C T front
  unfolding due_from
  said-front = sym (due-marks X C T (lead_marks 1 0 X false) (lead-right X (whole-lead X))) ∙ ap (due C T) (whole-meaning X)

  -- at a place sought
  pub fine-sought : (l b : ℕ) → 1 ≤ l → l ≤ suc b → AllFine X (at_sought C T l b (drop b X))
  fine-sought l b h k = go (drop b X) refl
    where
      mark : (x : ℕ) (xs : List ℕ) → drop b X ≡ x ∷ xs → (t : Bool) → eqb x 62 ≡ t
          → AllFine X (cond t (judge C T (marks l b (suc b) [] xs false)) (refuses 5 [] ∷ []))
      mark x xs e true t = fine-from l b xs (e ∙ ap (λ (y : ℕ). y ∷ xs) (eqb-true x 62 t)) h k
      mark x xs e false t = (tt, tt)

      go : (xs : List ℕ) → drop b X ≡ xs → AllFine X (at_sought C T l b xs)
      go [] e = (tt, tt)
      go (x ∷ xs) e = mark x xs e (eqb x 62) refl

  pub said-sought : (l b : ℕ) → 1 ≤ l → l ≤ suc b → map (said_of X) (at_sought C T l b (drop b X)) ≡ due_from X C T (place l b)
  unfolding due_from
  said-sought l b h k = go (drop b X) refl
    where
      mark : (x : ℕ) (xs : List ℕ) → drop b X ≡ x ∷ xs → (t : Bool) → eqb x 62 ≡ t
          → map (said_of X) (cond t (judge C T (marks l b (suc b) [] xs false)) (refuses 5 [] ∷ []))
          ≡ cond t (due C T (records (records_from l b (drop b X)))) (refuses 5 [] ∷ [])
      mark x xs e true t = said-from l b xs (e ∙ ap (λ (y : ℕ). y ∷ xs) (eqb-true x 62 t)) h k
      mark x xs e false t = refl

      go : (xs : List ℕ) → drop b X ≡ xs → map (said_of X) (at_sought C T l b xs) ≡ due_from X C T (place l b)
      go [] e = rw e
      go (x ∷ xs) e = mark x xs e (eqb x 62) refl ∙ rw e
