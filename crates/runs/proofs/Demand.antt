-- Demand 3, proved: in every run of a made reader, a read asks or answers what is due next, and shows it. Assumes nothing.
use Prim.Native.Nat.{ℕ, zero, suc}
use mathlib.Core.List.{List, [], ◌∷◌, map}
use mathlib.Core.Path.{◌≡◌, refl, sym, ap, subst, ◌∙◌}
use native.Mathlib.Omega.{arith}
use lib.ListN.{length, get_or}
use Rattle.growth.specs.Chain.{largest}
use Rattle.meaning.specs.Input.{Rec}
use Rattle.meaning.specs.Due as meant
use Rattle.meaning.specs.OnePass.{Mark}
use Rattle.meaning.proofs.Due.{said_of}
use Rattle.reader.specs.Read.{Said, asks, gives, ends, refuses}
use Rattle.runs.specs.Run.{State, reading, after_read, Event}
use Rattle.runs.specs.Run as run
use Rattle.runs.specs.Demand.{origin, answers, due_from, nth, Hears, Demand3}
use Rattle.runs.proofs.Tells.{Dues, due_to, Says, Goes, Answers, later}
use Rattle.runs.proofs.Fine.{IsFine, AllFine, after}
use Rattle.runs.proofs.Given as goal
use Rattle.runs.proofs.Reached.{Reached, step, reached-read, runs_on, reached-made}

after-later : {A : Type 0} (k : ℕ) (d : List A) → later (after k d) ≡ after k (later d)
unfolding after
after-later zero d = refl
after-later (suc k) d = ap later (after-later k d)

after_none : {A : Type 0} (k : ℕ) → ◌≡◌ {A = List A} (after k []) []
unfolding after
after_none zero = refl
after_none (suc k) = ap later (after_none k)

after_last : {A : Type 0} (k : ℕ) (a : A) → after k (a ∷ []) ≡ a ∷ []
unfolding after
after_last zero a = refl
after_last (suc k) a = ap later (after_last k a)

-- the first of two lists that are the same
first-same : {A : Type 0} (a b : A) (xs ys : List A) → a ∷ xs ≡ b ∷ ys → a ≡ b
first-same {A} a b xs ys e = ap (λ (l : List A). get_or l 0 a) e

-- the k-th answer is the first of those that are left after k
pub nth_after : (k : ℕ) (d : List (meant.Said Rec)) (a : meant.Said Rec) (rest : List (meant.Said Rec)) → after k d ≡ a ∷ rest → nth k d ≡ a
unfolding nth after
nth_after k [] a rest e = absurd (let z : 0 ≡ suc (length rest) = ap length (sym (after_none k) ∙ e) in omega arith)
nth_after k (x ∷ []) a rest e = first-same x a [] rest (sym (after_last k x) ∙ e)
nth_after zero (x ∷ y ∷ d) a rest e = first-same x a (y ∷ d) rest e
nth_after (suc k) (x ∷ y ∷ d) a rest e = nth_after k (y ∷ d) a rest (sym (after-later k (x ∷ y ∷ d)) ∙ e)

module _ (X : List ℕ) (C T : ℕ) (h : List Event) (s : State) (k : Reached X C T h s) where
  abbrev due : Dues
  due = due_to X C s.reader s.table

  then' : Reached X C T (run.read (reading s).said ∷ h) (after_read s)
  then' = reached-read X C T h s k

  -- the first that is due
  pub next-is : (a : meant.Said Mark) (rest : Dues) → due ≡ a ∷ rest → nth (answers h) (due_from X C T (origin h)) ≡ said_of X a
  next-is a rest is =
      nth_after (answers h) (due_from X C T (origin h)) (said_of X a) (map (said_of X) rest) (sym k.due_is ∙ ap (map (said_of X)) is)

  hears-said : (a : Said) (first : meant.Said Mark) → Says a first (reading s).reader (reading s).table → IsFine X first → Hears a (said_of X first) (after_read s)
  hears-said (asks p m o) first q f = absurd q
  hears-said (gives l b) (meant.gives m) q f = (
    q.0,
    (q.1.0, goal.gives X C (reading s).reader (reading s).window (reading s).table then'.tells m f q.1.1),
  )
  hears-said (gives l b) meant.ends q f = q
  hears-said (gives l b) (meant.refuses n vs) q f = q
  hears-said ends (meant.gives m) q f = q
  hears-said ends meant.ends q f = q
  hears-said ends (meant.refuses n vs) q f = q
  hears-said (refuses n vs) (meant.gives m) q f = q
  hears-said (refuses n vs) meant.ends q f = q
  hears-said (refuses n vs) (meant.refuses m us) q f = q

  hears-answer : (a : Said) → Answers a due X C (reading s).reader (reading s).table → Hears a (nth (answers h) (due_from X C T (origin h))) (after_read s)
  hears-answer a q =
      subst (λ (d : meant.Said Rec). Hears a d (after_read s)) (sym (next-is q.first q.rest q.due_is))
      (hears-said a q.first q.says (subst (AllFine X) q.due_is k.fine).0)

  pub hears : Hears (reading s).said (nth (answers h) (due_from X C T (origin h))) (after_read s)
  hears = go (reading s).said (step X C T h s k).goes
    where
      go : (a : Said) → Goes a due X C (reading s).reader (reading s).table → Hears a (nth (answers h) (due_from X C T (origin h))) (after_read s)
      go (asks p m o) q = tt
      go (gives l b) q = hears-answer (gives l b) q
      go ends q = hears-answer ends q
      go (refuses n vs) q = hears-answer (refuses n vs) q

pub demand3 : Demand3
demand3 X capacity policy start made h s r =
    let C = largest policy (length start.window) capacity in
    let T = length start.table in
    hears X C T h s
    (runs_on X C T start (reached-made X capacity policy start made) h s r)
