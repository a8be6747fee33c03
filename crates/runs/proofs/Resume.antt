-- Resuming: what `position` reports is the place of a record of the reading, since it was given or refused there; and from such a place on the
-- input has the same records again. Assumes nothing.
use Prim.Native.Nat.{ℕ, zero, suc, ◌+◌, ◌≤◌}
use native.Mathlib.Omega.{arith}
use mathlib.Core.Bool.{Bool, true, false, cond, ◌&&◌, ◌||◌, false≢true}
use mathlib.Core.List.{List, [], ◌∷◌, ◌++◌}
use mathlib.Core.Option.{Option, none, some}
use mathlib.Core.Path.{◌≡◌, refl, sym, ap, subst, ◌∙◌}
use lib.ListN.{length, get_or, drop}
use lib.Seq.{drop-cons}
use lib.Dec.{eqb, ltb}
use borrow.Author.Tests.{ne_eqb, le-ltb}
use Rattle.growth.specs.declared.Policy.{Policy}
use Rattle.growth.specs.Chain.{largest}
use Rattle.meaning.specs.Input.{Rec, begins, Meaning, records, refused, records_from, meaning}
use Rattle.meaning.specs.Due as meant
use Rattle.meaning.specs.Due.{due, due_by, judged}
use Rattle.meaning.proofs.Due.{due-gives, due-refuses}
use Rattle.meaning.proofs.Places.{Stands, Stand, records-stand, stand-at, stands}
use Rattle.window.specs.Fill.{most, holds}
use Rattle.reader.specs.declared.state.Reader.{Reader}
use Rattle.reader.specs.declared.state.Phase.{Phase}
use Rattle.reader.specs.declared.state.Phase.TheVariants as phase
use Rattle.reader.specs.State.{Sane, byte_of}
use Rattle.reader.specs.Read.{Said, asks, gives, ends, refuses}
use Rattle.reader.specs.Calls.{Place, at, nowhere, unknown, Left, misplaced, shown_in, place_of, seek_of}
use Rattle.reader.proofs.Sanity.{sane-true, sane-byte}
use Rattle.reader.proofs.CallLaws.{place-shown, seek-in, seek-out}
use Rattle.runs.specs.Run.{State, Made, reading, after_read, setting, Event, read, collected, Run, begun, by_read, by-set, by_report, by_seek, by_refused_report, by_refused_seek}
use Rattle.runs.specs.Demand.{Origin, front, place, origin, answers, due_from, nth, Hears}
use Rattle.runs.specs.Position.{last_given, named, place_due, next_record, position_after}
use Rattle.set.specs.Read as set
use Rattle.runs.proofs.SetCall.{refused-read}
use Rattle.runs.specs.Resume.{recs, records_of, Reported, Resumes}
use Rattle.runs.proofs.Calls.{seeks}
use Rattle.runs.proofs.Reached.{Reached, runs_on, reached-made}
use Rattle.runs.proofs.Demand.{hears, demand3}
use Rattle.runs.proofs.Position.{positions}

-- an answer that names a place: a record that is given, and refusals 3 and 4
abbrev Names : meant.Said Rec → (l b : ℕ) → Type 0
Names (meant.gives r) l b = (r.line ≡ l) × (r.byte ≡ b)
Names meant.ends l b = ⊥
Names (meant.refuses n vs) l b = named n vs ≡ at l b

-- a record of a list, at a place
record Among (rs : List Rec) (l b : ℕ) : Type 0 where
  before : List Rec
  it : Rec
  behind : List Rec
  same : rs ≡ before ++ it ∷ behind
  line_is : it.line ≡ l
  byte_is : it.byte ≡ b

among-more : (r : Rec) (rs : List Rec) (l b : ℕ) → Among rs l b → Among (r ∷ rs) l b
among-more r rs l b k =
    record {
      before = r ∷ k.before;
      it = k.it;
      behind = k.behind;
      same = ap (λ (q : List Rec). r ∷ q) k.same;
      line_is = k.line_is;
      byte_is = k.byte_is;
    }

among_first : (r : Rec) (rs : List Rec) → Among (r ∷ rs) r.line r.byte
among_first r rs = record { before = []; it = r; behind = rs; same = refl; line_is = refl; byte_is = refl }

-- the parts of a place
abbrev line_at : Place → ℕ
line_at (at l b) = l
line_at nowhere = 0
line_at (unknown n) = 0

abbrev byte_at : Place → ℕ
byte_at (at l b) = b
byte_at nowhere = 0
byte_at (unknown n) = 0

abbrev is_at : Place → Bool
is_at (at l b) = true
is_at nowhere = false
is_at (unknown n) = false

-- a refusal that names a place names its values
named-values : (n l b k c : ℕ) → named n (k ∷ c ∷ []) ≡ at l b → (k ≡ l) × (c ≡ b)
named-values n l b k c is = go (eqb n 3 || eqb n 4) is
  where
    go : (t : Bool) → cond t (at k c) nowhere ≡ at l b → (k ≡ l) × (c ≡ b)
    go true e = (ap line_at e, ap byte_at e)
    go false e = absurd (false≢true (ap is_at e))

module _ (C T : ℕ) where
  abbrev dues_of : List Rec → List (meant.Said Rec)
  dues_of rs = due_by (judged C T) meant.place rs

  -- the list of answers due is not empty
  nth-first : (a : meant.Said Rec) (rs : List Rec) → nth 0 (a ∷ dues_of rs) ≡ a
  unfolding nth due_by
  nth-first a [] = refl
  nth-first a (r ∷ rs) = go (judged C T r) refl
    where
      go : (o : Option ℕ) → judged C T r ≡ o → nth 0 (a ∷ dues_of (r ∷ rs)) ≡ a
      go none o = rw (due-gives (judged C T) meant.place r rs o)
      go (some n) o = rw (due-refuses (judged C T) meant.place r rs n o)

  nth-next : (k : ℕ) (a : meant.Said Rec) (rs : List Rec) → nth (suc k) (a ∷ dues_of rs) ≡ nth k (dues_of rs)
  unfolding nth due_by
  nth-next k a [] = refl
  nth-next k a (r ∷ rs) = go (judged C T r) refl
    where
      go : (o : Option ℕ) → judged C T r ≡ o → nth (suc k) (a ∷ dues_of (r ∷ rs)) ≡ nth k (dues_of (r ∷ rs))
      go none o = rw (due-gives (judged C T) meant.place r rs o)
      go (some n) o = rw (due-refuses (judged C T) meant.place r rs n o)

  -- an answer due that names a place names that of a record
  names-record : (rs : List Rec) (k l b : ℕ) → Names (nth k (dues_of rs)) l b → Among rs l b
  unfolding nth due_by
  names-record [] k l b is = absurd is
  names-record (r ∷ rs) k l b is = go (judged C T r) refl k is (λ j. names-record rs j l b)
    where
      first : (r.line ≡ l) × (r.byte ≡ b) → Among (r ∷ rs) l b
      first q = subst (λ (n : ℕ). Among (r ∷ rs) n b) q.0 (subst (λ (n : ℕ). Among (r ∷ rs) r.line n) q.1 (among_first r rs))

      go : (o : Option ℕ) → judged C T r ≡ o → (k : ℕ) → Names (nth k (dues_of (r ∷ rs))) l b → ((j : ℕ) → Names (nth j (dues_of rs)) l b → Among rs l b) → Among (r ∷ rs) l b
      go none o zero q on =
          first (subst (λ (a : meant.Said Rec). Names a l b) (ap (nth 0) (due-gives (judged C T) meant.place r rs o) ∙ nth-first (meant.gives r) rs) q)
      go none o (suc k) q on =
          among-more r rs l b
          (on k (subst (λ (a : meant.Said Rec). Names a l b) (ap (nth (suc k)) (due-gives (judged C T) meant.place r rs o) ∙ nth-next k (meant.gives r) rs) q))
      go (some n) o k q on =
          let said : nth k (dues_of (r ∷ rs)) ≡ meant.refuses n (meant.place r) = ap (nth k) (due-refuses (judged C T) meant.place r rs n o) in
          first (named-values n l b r.line r.byte (subst (λ (a : meant.Said Rec). Names a l b) said q))

  names-due : (M : Meaning) (k l b : ℕ) → Names (nth k (due C T M)) l b → Among (recs M) l b
  unfolding due nth
  names-due (records rs) k l b is = names-record rs k l b is
  names-due (refused line first) zero l b is = absurd (false≢true (ap is_at is))
  names-due (refused line first) (suc k) l b is = absurd is

  names-from : (X : List ℕ) (o : Origin) (k l b : ℕ) → Names (nth k (due_from X C T o)) l b → Among (records_of X o) l b
  unfolding due_from nth
  names-from X front k l b is = names-due (meaning X) k l b is
  names-from X (place line byte) k l b is = go (begins (drop byte X)) is
    where
      go : (t : Bool) → Names (nth k (cond t (due C T (records (records_from line byte (drop byte X)))) (meant.refuses 5 [] ∷ []))) l b
          → Among (records_from line byte (drop byte X)) l b
      go true q = names-due (records (records_from line byte (drop byte X))) k l b q
      go false q = absurd (false≢true (ap is_at q))

-- a place that was sought lies within the bounds of refusal 5
abbrev Bound : Origin → Type 0
Bound front = Unit {0}
Bound (place l b) = (1 ≤ l) × (l ≤ suc b)

-- what was heard names the places of records of the reading
module _ (X : List ℕ) (C T : ℕ) (start : State) (made : Reached X C T [] start) where
  record Heard (h : List Event) : Type 0 where
    last-given : (l b : ℕ) → last_given h ≡ at l b → Among (records_of X (origin h)) l b
    position : (l b : ℕ) → position_after X C T h ≡ at l b → Among (records_of X (origin h)) l b

  nothing-at : {A : Type 0} {l b : ℕ} → nowhere ≡ at l b → A
  nothing-at e = absurd (false≢true (ap is_at e))

  heard-read : (h : List Event) (s : State) → Reached X C T h s → Heard h → Heard (read (reading s).said ∷ h)
  unfolding last_given position_after origin
  heard-read h s k before = go (reading s).said (nth (answers h) (due_from X C T (origin h))) refl (hears X C T h s k)
    where
      go : (a : Said) (d : meant.Said Rec) → nth (answers h) (due_from X C T (origin h)) ≡ d → Hears a d (after_read s) → Heard (read a ∷ h)
      go (asks p m o) d is q = record { last-given = before.last-given; position = λ l b e. nothing-at e }
      go (gives line byte) (meant.gives r) is q =
          let here : (l b : ℕ) → at line byte ≡ at l b → Among (records_of X (origin h)) l b =
          λ l b e.
          names-from C T X (origin h) (answers h) l b
          (subst (λ (a : meant.Said Rec). Names a l b) (sym is) (sym q.0 ∙ ap line_at e, sym q.1.0 ∙ ap byte_at e)) in
          record { last-given = here; position = here }
      go (gives line byte) meant.ends is q = absurd q
      go (gives line byte) (meant.refuses n vs) is q = absurd q
      go ends d is q = record { last-given = before.last-given; position = before.last-given }
      go (refuses n vs) (meant.gives r) is q = absurd q
      go (refuses n vs) meant.ends is q = absurd q
      go (refuses n vs) (meant.refuses m us) is q =
          record {
            last-given = before.last-given;
            position =
                λ l b e.
                names-from C T X (origin h) (answers h) l b
                (subst (λ (a : meant.Said Rec). Names a l b) (sym is) ((λ i. named (sym q.0 i) (sym q.1 i)) ∙ e));
          }

  -- a set call: where it shows the next record, that is one of the reading
  names-next : (h : List Event) (l b : ℕ) → next_record X C T h ≡ at l b → Among (records_of X (origin h)) l b
  names-next h l b is = names-from C T X (origin h) (answers h) l b (go (nth (answers h) (due_from X C T (origin h))) is)
    where
      go : (a : meant.Said Rec) → place_due a ≡ at l b → Names a l b
      go (meant.gives r) e = (ap line_at e, ap byte_at e)
      go meant.ends e = absurd (false≢true (ap is_at e))
      go (meant.refuses n vs) e = e

  heard-set : (short : Bool) (a : set.Said) (h : List Event) → Heard h
      → ((n : ℕ) (vs : List ℕ) → a ≡ set.refuses n vs → eqb n 11 ≡ false → eqb n 12 ≡ false → (l b : ℕ) → named n vs ≡ at l b → Among (records_of X (origin h)) l b)
      → Heard (collected short a ∷ h)
  unfolding last_given position_after origin answers
  heard-set short (set.asks p m o) h before own = record { last-given = before.last-given; position = λ l b e. nothing-at e }
  heard-set short (set.holds k filled) h before own =
      record { last-given = λ l b e. nothing-at e; position = λ l b e. names-next (collected short (set.holds k filled) ∷ h) l b e }
  heard-set short set.ends h before own = record { last-given = before.last-given; position = before.last-given }
  heard-set short (set.refuses n vs) h before own =
      record { last-given = before.last-given; position = λ l b e. go (eqb n 11) refl (eqb n 12) refl short l b e }
    where
      go : (u : Bool) → eqb n 11 ≡ u → (v : Bool) → eqb n 12 ≡ v → (x : Bool) (l b : ℕ)
          → cond (u || (v && x)) (position_after X C T h) (cond v (next_record X C T h) (named n vs)) ≡ at l b → Among (records_of X (origin h)) l b
      go true u v x s l b e = before.position l b e
      go false u true x true l b e = before.position l b e
      go false u true x false l b e = names-next h l b e
      go false u false x s l b e = own n vs refl u x l b e

  heard-run : (h : List Event) (s : State) → Run X start h s → Heard h
  unfolding last_given position_after origin
  heard-run h s begun = record { last-given = λ l b e. nothing-at e; position = λ l b e. nothing-at e }
  heard-run h s (by_read h₁ s₁ q) = heard-read h₁ s₁ (runs_on X C T start made h₁ s₁ q) (heard-run h₁ s₁ q)
  heard-run h s (by-set t B M E h₁ s₁ q) =
      let k = runs_on X C T start made h₁ s₁ q in
      let before = heard-run h₁ s₁ q in
      heard-set (ltb (length B) (length s₁.window)) (setting t B M E s₁).said h₁ before
      (λ n vs is other more l b e.
      let said = refused-read X C s₁.reader s₁.window s₁.table k.tells t B M E n vs is other more in
      (subst (λ (a : Said). Heard (read a ∷ h₁)) said (heard-read h₁ s₁ k before)).position l b e)
  heard-run h s (by_report n w h₁ s₁ q is b) =
      let before = heard-run h₁ s₁ q in record { last-given = before.last-given; position = before.position }
  heard-run h s (by_seek line byte h₁ s₁ q is) = record { last-given = λ l b e. nothing-at e; position = λ l b e. nothing-at e }
  heard-run h s (by_refused_report n number h₁ s₁ q is) =
      let before = heard-run h₁ s₁ q in record { last-given = before.last-given; position = before.position }
  heard-run h s (by_refused_seek line byte number h₁ s₁ q is) =
      let before = heard-run h₁ s₁ q in record { last-given = before.last-given; position = before.position }

  bounded : (h : List Event) (s : State) → Run X start h s → Bound (origin h)
  unfolding origin
  bounded h s begun = tt
  bounded h s (by_read h₁ s₁ q) = bounded h₁ s₁ q
  bounded h s (by-set t B M E h₁ s₁ q) = bounded h₁ s₁ q
  bounded h s (by_report n w h₁ s₁ q is b) = bounded h₁ s₁ q
  bounded h s (by_seek line byte h₁ s₁ q is) =
      let f = (seeks X C s₁.reader s₁.window s₁.table (runs_on X C T start made h₁ s₁ q).tells line byte is).1 in (
        omega (arith, f.tells.is_good.is-sane.line_least, f.line_is),
        omega (arith, f.tells.is_good.is-sane.line_most, f.line_is, f.byte_is),
      )
  bounded h s (by_refused_report n number h₁ s₁ q is) = bounded h₁ s₁ q
  bounded h s (by_refused_seek line byte number h₁ s₁ q is) = bounded h₁ s₁ q

-- a reading with records has a meaning that is records
recs-are : (M : Meaning) (before : List Rec) (it : Rec) (behind : List Rec) → recs M ≡ before ++ it ∷ behind → M ≡ records (before ++ it ∷ behind)
recs-are (records rs) before it behind e = ap records e
recs-are (refused l x) before it behind e = absurd (none before e)
  where
    none : (q : List Rec) → [] ≡ q ++ it ∷ behind → ⊥
    none [] e = let z : 0 ≡ suc (length behind) = ap length e in omega arith
    none (x ∷ q) e = let z : 0 ≡ suc (length (q ++ it ∷ behind)) = ap length e in omega arith

-- a record of a reading stands in the input before those behind it
stands-there : (X : List ℕ) (o : Origin) (l b : ℕ) → Bound o → (p : Reported X o l b) → Stands X p.it p.behind
stands-there X front l b k p = stands X p.before p.it p.behind (recs-are (meaning X) p.before p.it p.behind p.same)
stands-there X (place line byte) l b k p =
    stand-at X p.before p.it p.behind (subst (Stand X) p.same (records-stand X line byte (drop byte X) refl k.0 k.1))

-- a place that the reader shows is no farther than 2^62
shown-byte : (r : Reader) → Sane r → (l b : ℕ) → place_of r ≡ at l b → b ≤ most
shown-byte r s l b is = go r.phase (sym (place-shown r (sane-true r s) r.phase refl) ∙ is)
  where
    there : at r.mark.line (byte_of r) ≡ at l b → b ≤ most
    there e = let z : byte_of r ≡ b = ap byte_at e in omega (arith, sane-byte r s)

    go : (p : Phase) → shown_in p r ≡ at l b → b ≤ most
    go phase.Lead e = absurd (false≢true (ap is_at e))
    go phase.Sought e = absurd (false≢true (ap is_at e))
    go phase.Searching e = absurd (false≢true (ap is_at e))
    go phase.Current e = there e
    go phase.Ended e = there e
    go phase.Over e = absurd (false≢true (ap is_at e))
    go phase.Window e = there e
    go phase.Table e = there e
    go phase.Astray e = absurd (false≢true (ap is_at e))
    go phase.Ahead e = there e

-- a seek to a place within the bounds of refusal 5 is accepted
accepts : (r : Reader) → Sane r → (l b : ℕ) → 1 ≤ l → l ≤ b + 1 → b ≤ most → (seek_of l b r).refusal ≡ none
unfolding misplaced
accepts r s l b h k m = go (holds b r.fill) refl
  where
    fine : misplaced l b ≡ false
    fine = rw (ne_eqb l 0 (λ z. omega arith), le-ltb (b + 1) l k, le-ltb most b m)

    go : (t : Bool) → holds b r.fill ≡ t → (seek_of l b r).refusal ≡ none
    go true t = ap (λ (x : Left). x.refusal) (seek-in r l b (sane-true r s) fine t)
    go false t = ap (λ (x : Left). x.refusal) (seek-out r l b (sane-true r s) fine t)

-- what is due from such a place on
due-there : (X : List ℕ) (C T l b : ℕ) (it : Rec) (behind : List Rec) → Stands X it behind → it.line ≡ l → it.byte ≡ b
    → due_from X C T (place l b) ≡ due C T (records (it ∷ behind))
unfolding due_from
due-there X C T l b it behind s line byte =
    let mark : drop b X ≡ 62 ∷ drop (suc b) X =
    drop-cons X b 0 (omega (arith, s.there, byte)) ∙ ap (λ (x : ℕ). x ∷ drop (suc b) X) (ap (λ (n : ℕ). get_or X n 0) (sym byte) ∙ s.mark) in
    let same : records_from l b (drop b X) ≡ it ∷ behind = (λ i. records_from (sym line i) (sym byte i) (drop (sym byte i) X)) ∙ s.again in
    ap (λ (t : Bool). cond t (due C T (records (records_from l b (drop b X)))) (meant.refuses 5 [] ∷ [])) (ap begins mark)
    ∙ ap (λ (rs : List Rec). due C T (records rs)) same

pub resumes : Resumes
resumes X capacity policy start made h s r l b is = (reported, λ capacity₂ policy₂ start₂ made₂. (accepted capacity₂ policy₂ start₂ made₂, follows capacity₂ policy₂ start₂ made₂))
  where
    reach : Reached X (largest policy (length start.window) capacity) (length start.table) [] start
    reach = reached-made X capacity policy start made

    here : Reached X (largest policy (length start.window) capacity) (length start.table) h s
    here = runs_on X _ _ start reach h s r

    found : Among (records_of X (origin h)) l b
    found = (heard-run X _ _ start reach h s r).position l b (sym (positions X capacity policy start made h s r) ∙ is)

    reported : Reported X (origin h) l b
    reported =
        record { before = found.before; it = found.it; behind = found.behind; same = found.same; line_is = found.line_is; byte_is = found.byte_is }

    stand : Stands X found.it found.behind
    stand = stands-there X (origin h) l b (bounded X _ _ start reach h s r) reported

    accepted : (capacity₂ : ℕ) (policy₂ : Policy) (start₂ : State) → Made capacity₂ policy₂ start₂ → (seek_of l b start₂.reader).refusal ≡ none
    accepted capacity₂ policy₂ start₂ made₂ =
        accepts start₂.reader (reached-made X capacity₂ policy₂ start₂ made₂).tells.is_good.is-sane l b
        (omega (arith, stand.line_least, found.line_is)) (omega (arith, stand.line_most, found.line_is, found.byte_is))
        (shown-byte s.reader here.tells.is_good.is-sane l b is)

    follows :
        (capacity₂ : ℕ) (policy₂ : Policy) (start₂ : State) → Made capacity₂ policy₂ start₂ →
        (h₂ : List Event) (s₂ : State) → Run X start₂ h₂ s₂ → origin h₂ ≡ place l b →
        Hears (reading s₂).said
        (nth (answers h₂) (due (largest policy₂ (length start₂.window) capacity₂) (length start₂.table) (records (found.it ∷ found.behind))))
        (after_read s₂)
    follows capacity₂ policy₂ start₂ made₂ h₂ s₂ r₂ at_place =
        subst (λ (d : List (meant.Said Rec)). Hears (reading s₂).said (nth (answers h₂) d) (after_read s₂))
        (ap (due_from X (largest policy₂ (length start₂.window) capacity₂) (length start₂.table)) at_place
        ∙ due-there X (largest policy₂ (length start₂.window) capacity₂) (length start₂.table) l b found.it found.behind stand found.line_is found.byte_is)
        (demand3 X capacity₂ policy₂ start₂ made₂ h₂ s₂ r₂)
