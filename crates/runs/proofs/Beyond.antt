-- What stands behind the last record of a set (01, module 6: "every record from the current place that is whole in the window, fits the set's tables and
-- meets no refusal"): what holds of the record that is due next, if one is. Assumes nothing.
use Prim.Native.Nat.{ℕ, ◌+◌, ◌-◌, ◌≤◌, ◌<◌}
use native.Mathlib.Omega.{arith}
use mathlib.Core.Bool.{Bool, false}
use mathlib.Core.List.{List, [], ◌∷◌}
use mathlib.Core.Logic.{◌⊎◌}
use mathlib.Core.Option.{Option, none, some}
use mathlib.Core.Path.{◌≡◌, refl, sym, ap, subst}
use lib.ListN.{length, drop}
use Rattle.meaning.specs.Due as meant
use Rattle.meaning.specs.Due.{due_by}
use Rattle.meaning.specs.OnePass.{Mark, marks, judged_mark, place_mark}
use Rattle.meaning.proofs.Due.{due-gives, due-refuses}
use Rattle.meaning.proofs.OnePass.{late}
use Rattle.window.specs.declared.fill.Fill.{Fill}
use Rattle.reader.specs.declared.state.Reader.{Reader}
use Rattle.reader.specs.Read.{refuses}
use Rattle.runs.proofs.Tells.{Dues, judge, unless_over, from_here, Says, Answers}
use Rattle.runs.proofs.SearchMarks.{first}

-- what holds of a record's mark, if one is due next
abbrev pub IfDue : Dues → (Mark → Type 0) → Type 0
IfDue [] P = Unit {0}
IfDue (meant.gives m ∷ d) P = P m
IfDue (meant.ends ∷ d) P = Unit {0}
IfDue (meant.refuses n vs ∷ d) P = Unit {0}

-- it is not whole in the filled bytes, and the input may go on
abbrev pub Cut : Fill → Mark → Type 0
Cut f m = (f.told ≡ false) × (f.base.0 + f.filled ≤ m.byte + m.len)

-- no room for it in the table of marks; or in that of ends; or it is not whole
abbrev pub Beyond : (marks ends count used : ℕ) → Fill → Dues → Type 0
Beyond marks ends count used f d = (marks < count + count + 2) ⊎ IfDue d (λ (m : Mark). (ends < used + length m.ends) ⊎ Cut f m)

module _ (P : Mark → Type 0) where
  pub if-as : {d o : Dues} → d ≡ o → IfDue o P → IfDue d P
  if-as is k = subst (λ (x : Dues). IfDue x P) (sym is) k

  pub if-more : (Q : Mark → Type 0) → ((m : Mark) → P m → Q m) → (d : Dues) → IfDue d P → IfDue d Q
  if-more Q f [] k = tt
  if-more Q f (meant.gives m ∷ d) k = f m k
  if-more Q f (meant.ends ∷ d) k = tt
  if-more Q f (meant.refuses n vs ∷ d) k = tt

  -- a refusal is due
  pub if-refused : (n : ℕ) (vs : List ℕ) (d : Dues) (X : List ℕ) (C : ℕ) (r : Reader) (e : List ℕ) → Answers (refuses n vs) d X C r e → IfDue d P
  if-refused n vs d X C r e q = if-as q.due_is (go q.first q.says)
    where
      go : (a : meant.Said Mark) → Says (refuses n vs) a r e → IfDue (a ∷ q.rest) P
      go (meant.gives m) k = absurd k
      go meant.ends k = absurd k
      go (meant.refuses i us) k = tt

  -- the first of some records
  if-first : (C T : ℕ) (m : Mark) (ms : List Mark) → P m → IfDue (judge C T (m ∷ ms)) P
  unfolding due_by
  if-first C T m ms k = go (judged_mark C T m) refl
    where
      go : (o : Option ℕ) → judged_mark C T m ≡ o → IfDue (judge C T (m ∷ ms)) P
      go none o = if-as (due-gives (judged_mark C T) place_mark m ms o) k
      go (some n) o = if-as (due-refuses (judged_mark C T) place_mark m ms n o) tt

  -- the record at byte b, of which one pass has seen the bytes up to p
  module _ (C T l b p : ℕ) (E : List ℕ) (k : (m : Mark) → m.byte ≡ b → p - b ≤ m.len → P m) where
    pub if-passed : (xs : List ℕ) (held : Bool) → late held ≤ p → IfDue (judge C T (marks l b p E xs held)) P
    if-passed xs held h =
        let g = first xs held l b p 0 E (omega arith) in
        if-as (ap (judge C T) g.are) (if-first C T g.head g.tail (k g.head g.byte_is g.len_least))

    pub if_here : (X : List ℕ) → IfDue (from_here X C T l b p E) P
    if_here X = go (drop b X)
      where
        go : (xs : List ℕ) → IfDue (unless_over xs (judge C T (marks l b p E (drop p X) false))) P
        go [] = tt
        go (x ∷ xs) = if-passed (drop p X) false (omega arith)
