-- Where a run stands: what is still due to the reader is what is left of the answers due since the run's origin. Setup begins so, and every call
-- keeps it. Assumes nothing.
use Prim.Native.Nat.{ℕ, zero, suc, ◌+◌, ◌≤◌}
use native.Mathlib.Omega.{arith}
use mathlib.Core.Bool.{Bool, true, false, false≢true}
use mathlib.Core.List.{List, [], ◌∷◌, map}
use mathlib.Core.Option.{none, some, none-ne-some, some-injective}
use mathlib.Core.Path.{◌≡◌, refl, sym, ap, subst, ◌∙◌}
use lib.ListN.{length, drop}
use Rattle.growth.specs.declared.Policy.{Policy}
use Rattle.growth.specs.Chain.{largest}
use Rattle.meaning.proofs.Due.{said_of}
use Rattle.reader.specs.declared.state.Reader.{Reader}
use Rattle.reader.specs.declared.state.Phase.{Phase}
use Rattle.reader.specs.State.{Good}
use Rattle.reader.specs.Read.{Said, asks, gives, ends, refuses}
use Rattle.reader.specs.Calls.{Left, setup_refused, setup_of, made, report_of, seek_of}
use Rattle.reader.proofs.CallLaws.{test-fitting, setup-made}
use Rattle.reader.proofs.Kept.{is_searching}
use Rattle.reader.proofs.NeverState.{kept-made}
use Rattle.runs.specs.Run.{State, state, Made, reading, after_read, Brings, setting, after_set, Event, read, collected, brought, sought, Run, begun, by_read, by-set, by_report, by_seek, by_refused_report, by_refused_seek}
use Rattle.runs.specs.Run as run
use Rattle.runs.specs.Demand.{origin, counts, answers, due_from}
use Rattle.set.specs.declared.state.Set.{Set}
use Rattle.set.specs.Read as set
use Rattle.set.specs.Read.{Called}
use Rattle.meaning.specs.Due as meant
use Rattle.meaning.specs.Input.{Rec}
use Rattle.meaning.specs.OnePass.{Mark}
use mathlib.Core.Logic.{inl, inr}
use lib.Dec.{ltb}
use borrow.Author.Tests.{eq-eqb, ne_eqb}
use Rattle.runs.proofs.Tells.{Dues, due_in, due_to, at_sought, Tells, is_window, is_table, Rests, later, Goes, Answers, Step}
use Rattle.runs.proofs.Step.{steps, still-tells}
use Rattle.runs.proofs.Calls.{taken, tells-report, due-report, rests-report, Sought, seeks, report-refused, seek-refused}
use Rattle.runs.proofs.Back.{Fresh, read-backs, fresh-report, fresh-other}
use Rattle.runs.proofs.Gather.{Closed, closed-due, closed-then, later-record, records_then}
use Rattle.runs.proofs.SetCall.{Holds, SetGoes, Sets, sets}
use Rattle.runs.proofs.Fine.{AllFine, fine-later, after, fine-front, said-front, fine-sought, said-sought}

pub map-later : {A B : Type 0} (f : A → B) (d : List A) → map f (later d) ≡ later (map f d)
map-later f [] = refl
map-later f (a ∷ []) = refl
map-later f (a ∷ b ∷ d) = refl

-- answers after others
pub after-add : {A : Type 0} (k n : ℕ) (d : List A) → after (k + n) d ≡ after k (after n d)
unfolding after
after-add zero n d = let z : 0 + n ≡ n = omega arith in ap (λ (i : ℕ). after i d) z
after-add (suc k) n d = let z : suc k + n ≡ suc (k + n) = omega arith in ap (λ (i : ℕ). after i d) z ∙ ap later (after-add k n d)

pub after_first : {A : Type 0} (k : ℕ) (d : List A) → after (suc k) d ≡ after k (later d)
unfolding after
after_first zero d = refl
after_first (suc k) d = ap later (after_first k d)

-- some records, and what is due behind them
module _ (X : List ℕ) where
  pub after-records : (ms : List Mark) (d : Dues) → Closed d → after (length ms) (map (said_of X) (records_then ms d)) ≡ map (said_of X) d
  unfolding after
  after-records [] d c = refl
  after-records (m ∷ ms) d c =
      after_first (length ms) (map (said_of X) (records_then (m ∷ ms) d))
      ∙ ap (after (length ms)) (sym (map-later (said_of X) (records_then (m ∷ ms) d)) ∙ ap (map (said_of X)) (later-record m (records_then ms d) (closed-then (m ∷ ms) d c)))
      ∙ after-records ms d c

  pub fine-records : (ms : List Mark) (d : Dues) → AllFine X (records_then ms d) → AllFine X d
  fine-records [] d f = f
  fine-records (m ∷ ms) d f = fine-records ms d f.1

pub record Reached (X : List ℕ) (C T : ℕ) (h : List Event) (s : State) : Type 0 where
  pub tells : Tells X C s.reader s.window s.table
  pub slots_are : s.reader.slots ≡ T
  pub due_is : map (said_of X) (due_to X C s.reader s.table) ≡ after (answers h) (due_from X C T (origin h))
  pub fine : AllFine X (due_to X C s.reader s.table)
  pub rests : Rests s.reader
  pub fresh : Fresh X C s.reader s.table

module _ (X : List ℕ) (C T : ℕ) where
  -- a read
  module _ (h : List Event) (s : State) (k : Reached X C T h s) where
    pub step : Step X C s.reader (due_to X C s.reader s.table) (reading s)
    step = steps X C s.reader s.window s.table k.tells

    reached-with :
        (a : Said) →
        map (said_of X) (due_to X C (reading s).reader (reading s).table) ≡ after (answers (read a ∷ h)) (due_from X C T (origin h)) →
        AllFine X (due_to X C (reading s).reader (reading s).table) →
        Reached X C T (read a ∷ h) (after_read s)
    unfolding origin
    reached-with a due_is fine =
        record {
          tells = still-tells X C s.reader s.window s.table k.tells;
          slots_are = step.same.slots_are ∙ k.slots_are;
          due_is = due_is;
          fine = fine;
          rests = step.rests k.rests;
          fresh = (read-backs X C s.reader s.window s.table k.tells k.fresh).fresh;
        }

    -- an answer takes one of those due
    reached-answer :
        (a : Said) →
        answers (read a ∷ h) ≡ suc (answers h) →
        Answers a (due_to X C s.reader s.table) X C (reading s).reader (reading s).table →
        Reached X C T (read a ∷ h) (after_read s)
    unfolding after
    reached-answer a one q =
        reached-with a
        (ap (map (said_of X)) q.then_due
        ∙ map-later (said_of X) (due_to X C s.reader s.table)
        ∙ ap later k.due_is
        ∙ ap (λ (n : ℕ). after n (due_from X C T (origin h))) (sym one))
        (subst (AllFine X) (sym q.then_due) (fine-later X (due_to X C s.reader s.table) k.fine))

    pub reached-read : Reached X C T (read (reading s).said ∷ h) (after_read s)
    unfolding answers
    reached-read = go (reading s).said step.goes
      where
        go : (a : Said) → Goes a (due_to X C s.reader s.table) X C (reading s).reader (reading s).table → Reached X C T (read a ∷ h) (after_read s)
        go (asks p m o) q = reached-with (asks p m o) (ap (map (said_of X)) q.0 ∙ k.due_is) (subst (AllFine X) (sym q.0) k.fine)
        go (gives l b) q = reached-answer (gives l b) refl q
        go ends q = reached-answer ends refl q
        go (refuses n vs) q = reached-answer (refuses n vs) refl q

  -- a report
  reached-report :
      (n : ℕ) (w : List ℕ) (h : List Event) (s : State) → Reached X C T h s → (report_of n s.reader).refusal ≡ none → Brings X n s w →
      Reached X C T (brought n ∷ h) (state (report_of n s.reader).reader w s.table)
  unfolding answers origin
  reached-report n w h s k is b =
      let r = s.reader in
      let took = taken X C r s.window s.table k.tells n is in
      subst (λ (l : Left). Reached X C T (brought n ∷ h) (state l.reader w s.table)) (sym took.reader_is)
      (record {
        tells = tells-report X C r s.window s.table k.tells n w took b;
        slots_are = k.slots_are;
        due_is = ap (map (said_of X)) (due-report X C r s.window s.table k.tells n w took b) ∙ k.due_is;
        fine = subst (AllFine X) (sym (due-report X C r s.window s.table k.tells n w took b)) k.fine;
        rests = rests-report X C r s.window s.table k.tells n w took b k.rests;
        fresh = fresh-report X C n r s.table k.fresh;
      })

  -- a seek: what is due begins anew
  reached-seek :
      (line byte : ℕ) (h : List Event) (s : State) → Reached X C T h s → (seek_of line byte s.reader).refusal ≡ none →
      Reached X C T (sought line byte ∷ h) (state (seek_of line byte s.reader).reader s.window s.table)
  unfolding answers origin after
  reached-seek line byte h s k is =
      let found = seeks X C s.reader s.window s.table k.tells line byte is in
      go found.0 found.1
    where
      go : (q : Reader) → Sought X C s.reader s.window s.table k.tells line byte q
          → Reached X C T (sought line byte ∷ h) (state (seek_of line byte s.reader).reader s.window s.table)
      go q f =
          let slots : q.slots ≡ T = f.slots_are ∙ k.slots_are in
          let due' : due_to X C q s.table ≡ at_sought C T line byte (drop byte X) =
          ap (λ (p : Phase). due_in p X C q s.table) f.in-phase
          ∙ (λ i. at_sought C (slots i) (f.line_is i) (f.byte_is i) (drop (f.byte_is i) X)) in
          let least : 1 ≤ line = omega (arith, f.tells.is_good.is-sane.line_least, f.line_is) in
          let most : line ≤ suc byte = omega (arith, f.tells.is_good.is-sane.line_most, f.line_is, f.byte_is) in
          subst (λ (l : Left). Reached X C T (sought line byte ∷ h) (state l.reader s.window s.table)) (sym f.done_is)
          (record {
            tells = f.tells;
            slots_are = slots;
            due_is = ap (map (said_of X)) due' ∙ said-sought X C T line byte least most;
            fine = subst (AllFine X) (sym due') (fine-sought X C T line byte least most);
            rests =
                record {
                  at_front = λ is. absurd (false≢true (ap is_window (sym f.in-phase) ∙ is));
                  all_slots = λ is. absurd (false≢true (ap is_table (sym f.in-phase) ∙ is));
                };
            fresh = fresh-other X C q s.table (ap is_searching f.in-phase);
          })

  -- a call that is refused changes nothing
  same-state : (h : List Event) (s : State) (q : Reader) (n : ℕ) → q ≡ s.reader → Reached X C T h s → Reached X C T (run.refused n ∷ h) (state q s.window s.table)
  unfolding answers origin
  same-state h s q n is k =
      subst (λ (o : Reader). Reached X C T (run.refused n ∷ h) (state o s.window s.table)) (sym is)
      (record { tells = k.tells; slots_are = k.slots_are; due_is = k.due_is; fine = k.fine; rests = k.rests; fresh = k.fresh })

  -- a set call
  module _ (t : Set) (B M E : List ℕ) (h : List Event) (s : State) (k : Reached X C T h s) where
    abbrev called : Called
    called = setting t B M E s

    abbrev then_at : State
    then_at = after_set t B M E s

    call : Sets X C s.reader (due_to X C s.reader s.table) M E called
    call = sets X C s.reader s.window s.table k.tells t B M E k.fresh

    abbrev L : List (meant.Said Rec)
    L = due_from X C T (origin h)

    reached-called :
        (a : set.Said) (short : Bool) (n : ℕ) → counts a (answers h) ≡ n → map (said_of X) (due_to X C called.reader called.table) ≡ after n L →
        AllFine X (due_to X C called.reader called.table) → Reached X C T (collected short a ∷ h) then_at
    unfolding answers origin
    reached-called a short n as_many due_is fine =
        record {
          tells = call.tells;
          slots_are = call.slots_are ∙ k.slots_are;
          due_is = due_is ∙ ap (λ (i : ℕ). after i L) (sym as_many);
          fine = fine;
          rests = call.rests k.rests;
          fresh = call.fresh;
        }

    -- the same is due
    as_before : (a : set.Said) (short : Bool) → counts a (answers h) ≡ answers h → due_to X C called.reader called.table ≡ due_to X C s.reader s.table
        → Reached X C T (collected short a ∷ h) then_at
    as_before a short as_many same =
        reached-called a short (answers h) as_many (ap (map (said_of X)) same ∙ k.due_is) (subst (AllFine X) (sym same) k.fine)

    -- one answer more was heard
    one_more : (a : set.Said) (short : Bool) → counts a (answers h) ≡ suc (answers h)
        → due_to X C called.reader called.table ≡ later (due_to X C s.reader s.table) → Reached X C T (collected short a ∷ h) then_at
    unfolding after
    one_more a short as_many same =
        reached-called a short (suc (answers h)) as_many
        (ap (map (said_of X)) same ∙ map-later (said_of X) (due_to X C s.reader s.table) ∙ ap later k.due_is)
        (subst (AllFine X) (sym same) (fine-later X (due_to X C s.reader s.table) k.fine))

    -- each record of a set is one
    its-records : (n filled : ℕ) (short : Bool) → Holds X C n filled (due_to X C s.reader s.table) called → Reached X C T (collected short (set.holds n filled) ∷ h) then_at
    its-records n filled short q =
        let rest = due_to X C called.reader called.table in
        let closed = closed-due called.reader.phase X C called.reader called.table in
        reached-called (set.holds n filled) short (n + answers h) refl
        (sym (after-records X q.marks_are rest closed)
        ∙ ap (λ (d : Dues). after (length q.marks_are) (map (said_of X) d)) (sym q.due_is)
        ∙ (λ i. after (q.as_many i) (k.due_is i))
        ∙ sym (after-add n (answers h) L))
        (fine-records X q.marks_are rest (subst (AllFine X) q.due_is k.fine))

    refused-with : (n : ℕ) (vs : List ℕ) (short : Bool) → SetGoes (set.refuses n vs) (due_to X C s.reader s.table) X C called
        → Reached X C T (collected short (set.refuses n vs) ∷ h) then_at
    refused-with n vs short (inl (inl is, same)) = as_before (set.refuses n vs) short (rw (eq-eqb n 11 is)) same
    refused-with n vs short (inl (inr is, same)) = as_before (set.refuses n vs) short (rw (ne_eqb n 11 (λ e. omega arith), eq-eqb n 12 is)) same
    refused-with n vs short (inr (few, same)) =
        one_more (set.refuses n vs) short (rw (ne_eqb n 11 (λ e. omega arith), ne_eqb n 12 (λ e. omega arith))) same

    reached-set : (short : Bool) → Reached X C T (collected short called.said ∷ h) then_at
    reached-set short = go called.said call.goes
      where
        go : (a : set.Said) → SetGoes a (due_to X C s.reader s.table) X C called → Reached X C T (collected short a ∷ h) then_at
        go (set.asks p m o) q = as_before (set.asks p m o) short refl q
        go (set.holds n filled) q = its-records n filled short q
        go set.ends q = one_more set.ends short refl q
        go (set.refuses n vs) q = refused-with n vs short q

  -- any run
  pub runs_on : (start : State) → Reached X C T [] start → (h : List Event) (s : State) → Run X start h s → Reached X C T h s
  runs_on start k h s begun = k
  runs_on start k h s (by_read h₁ s₁ q) = reached-read h₁ s₁ (runs_on start k h₁ s₁ q)
  runs_on start k h s (by-set t B M E h₁ s₁ q) = reached-set t B M E h₁ s₁ (runs_on start k h₁ s₁ q) (ltb (length B) (length s₁.window))
  runs_on start k h s (by_report n w h₁ s₁ q is b) = reached-report n w h₁ s₁ (runs_on start k h₁ s₁ q) is b
  runs_on start k h s (by_seek line byte h₁ s₁ q is) = reached-seek line byte h₁ s₁ (runs_on start k h₁ s₁ q) is
  runs_on start k h s (by_refused_report n number h₁ s₁ q is) =
      let before = runs_on start k h₁ s₁ q in
      same-state h₁ s₁ _ number (report-refused X C s₁.reader s₁.window s₁.table before.tells n number is) before
  runs_on start k h s (by_refused_seek line byte number h₁ s₁ q is) =
      let before = runs_on start k h₁ s₁ q in
      same-state h₁ s₁ _ number (seek-refused X C s₁.reader s₁.window s₁.table before.tells line byte number is) before

-- the reader that setup made
pub made-is : (capacity : ℕ) (p : Policy) (window slots : ℕ) (r : Reader) → setup_of capacity p window slots ≡ some r → made capacity p window slots ≡ r
unfolding setup_of
made-is capacity p window slots r is = go (setup_refused capacity window slots) refl
  where
    go : (t : Bool) → setup_refused capacity window slots ≡ t → made capacity p window slots ≡ r
    go true t = let refused : setup_of capacity p window slots ≡ none = rw t in absurd (none-ne-some r (sym refused ∙ is))
    go false t =
        some-injective (made capacity p window slots) r (sym (setup-made capacity window slots p (test-fitting capacity window slots t)) ∙ is)

-- where setup begins
module _ (X : List ℕ) (capacity : ℕ) (policy : Policy) (s : State) (is : Made capacity policy s) where
  abbrev C : ℕ
  C = largest policy (length s.window) capacity

  abbrev T : ℕ
  T = length s.table

  same : made capacity policy (length s.window) T ≡ s.reader
  same = made-is capacity policy (length s.window) T s.reader is

  good : Good (made capacity policy (length s.window) T) s.window s.table
  good =
      subst (λ (r : Reader). Good r s.window s.table) (sym same)
      (kept-made {own = true} capacity policy s.reader s.window s.table is).is_good

  pub reached-made : Reached X C T [] s
  unfolding answers origin after
  reached-made =
      subst (λ (r : Reader). Reached X C T [] (state r s.window s.table)) same
      (record {
        tells =
            record {
              is_good = good;
              is_behind = λ q. absurd (false≢true q);
              sought_inside = λ q. absurd (false≢true q);
              text = refl;
              told = λ q. absurd (false≢true q);
              largest_is = refl;
            };
        slots_are = refl;
        due_is = said-front X C T;
        fine = fine-front X C T;
        rests = record { at_front = λ q. absurd (false≢true q); all_slots = λ q. absurd (false≢true q) };
        fresh = fresh-other X C (made capacity policy (length s.window) T) s.table refl;
      })
