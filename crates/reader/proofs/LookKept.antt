-- A look and a record put back keep the invariant of Kept.antt, and a look at a reader that keeps it does not refuse
-- the state. Assumes nothing.
use Prim.Native.Nat.{ℕ, ◌≤◌, ◌<◌}
use native.Mathlib.Decide.{dec_le}
use native.Mathlib.Nat.{le_trans}
use native.Mathlib.Omega.{arith}
use mathlib.Core.Bool.{Bool, true, false, ◌&&◌, false≢true}
use mathlib.Core.List.{List}
use mathlib.Core.Path.{◌≡◌, refl, sym, ap, subst, ◌∙◌}
use lib.Dec.{eqb}
use borrow.Author.Tests.{eqb-true}
use Rattle.scan.specs.Search.{Recorded}
use Rattle.scan.specs.declared.ends.Stop.{Stop}
use Rattle.scan.specs.declared.ends.Stop.TheVariants as stop
use Rattle.window.specs.Fill.{ready}
use Rattle.reader.specs.declared.state.Reader.{Reader}
use Rattle.reader.specs.declared.state.Phase.TheVariants as phase
use Rattle.reader.specs.State.{Good, is_current, with_mark, in_phase, mark_at}
use Rattle.reader.specs.Read.{reached, searches, passed, begins_at}
use Rattle.reader.specs.Look.{Seen, whole, unfinished, over, denied, Looked, left_ahead, shut, looked_to, looks_on, looks_behind, look_of, put_back_of}
use Rattle.reader.proofs.Sanity.{and-true}
use Rattle.reader.proofs.ReadLaws.{hunt-good, phase-good, begins-good, passed-good}
use Rattle.reader.proofs.LookLaws.{shut-full, shut-more, to-told, to-not, on-found, look-over, look-waits, look-goes, look_none, look-behind, put-none, put-current}
use Rattle.reader.proofs.Kept.{Behind, Kept, not-over, begun-behind, kept-begun, kept-searched, kept-phase, kept-closed, found-behind, found-has-end, found_inside, kept-sane, kept-lent}

-- a look that refuses the state
abbrev pub is_denied : Seen → Bool
is_denied (whole l b) = false
is_denied unfinished = false
is_denied over = false
is_denied (denied n) = eqb n 11

-- what a look sees and leaves, if it keeps the invariant
record Keeps (own : Bool) (w : List ℕ) (d : Looked) : Type 0 where
  is_kept : Kept own d.reader w d.table
  not_state : is_denied d.seen ≡ false

as_seen : {own : Bool} {w : List ℕ} {d o : Looked} → d ≡ o → Keeps own w o → Keeps own w d
as_seen {own} {w} is k = subst (Keeps own w) (sym is) k

-- a record that is searched, by where its search stopped
module _ {own : Bool} (r : Reader) (w e : List ℕ) (g : Good r w e) (h : Behind own r.mark e) where
  keeps-left : Keeps own w (left_ahead r e)
  keeps-left =
      record {
        is_kept = kept-searched (in_phase phase.Ahead r) w e (phase-good r w e g phase.Ahead (λ c. absurd (false≢true c))) h;
        not_state = refl;
      }

  keeps-shut : r.mark.start.0 < r.mark.search.0 → Keeps own w (shut r e)
  keeps-shut behind' = go (dec_le r.slots r.mark.count)
    where
      go : Dec (r.slots ≤ r.mark.count) → Keeps own w (shut r e)
      go (yes u) = as_seen (shut-full r e u) keeps-left
      go (no u) = as_seen (shut-more r e (omega arith)) (record { is_kept = kept-closed r w e g h behind' (omega arith); not_state = refl })

  keeps-to :
      (s : Stop) →
      (s ≡ stop.Record → 1 ≤ r.mark.count) →
      (r.fill.told ≡ true → r.mark.start.0 < r.mark.search.0) →
      Keeps own w (looked_to s r e)
  keeps-to stop.Record has behind' =
      record { is_kept = kept-phase r w e (kept-searched r w e g h) phase.Current refl (λ c. has refl); not_state = refl }
  keeps-to stop.Full has behind' = keeps-left
  keeps-to stop.Filled has behind' = go r.fill.told refl
    where
      go : (t : Bool) → r.fill.told ≡ t → Keeps own w (looked_to stop.Filled r e)
      go true t = as_seen (to-told r e t) (keeps-shut (behind' t))
      go false t = as_seen (to-not r e t) keeps-left

module _ {own : Bool} (r : Reader) (w e : List ℕ) (g : Good r w e) (h : Behind own r.mark e) where
  abbrev found : Recorded
  found = searches r w e

  keeps_on : (r.fill.told ≡ true → r.mark.start.0 < r.fill.filled) → Keeps own w (looks_on r w e)
  keeps_on inside =
      as_seen (on-found r w e found refl)
      (keeps-to (reached found.out.at found.out.count r) w found.ends (hunt-good r w e g found.out found.ends refl)
      (found-behind r w e g h) found.out.stop (found-has-end r w e g h) (λ told. found_inside r w e g h (inside told)))

module _ {own : Bool} (r : Reader) (w e : List ℕ) (k : Kept own r w e) where
  g : Good r w e
  g = k.is_good

  keeps-behind : Keeps own w (looks_behind r w e)
  keeps-behind = go (r.fill.told && eqb r.mark.search.0 r.fill.filled) refl (ready r.fill) refl
    where
      next : Good (passed r) w e
      next = passed-good r w e g

      none_yet : Behind own (passed r).mark e
      none_yet = begun-behind (passed r) w e refl

      go :
          (t : Bool) → (r.fill.told && eqb r.mark.search.0 r.fill.filled) ≡ t → (u : Bool) → ready r.fill ≡ u →
          Keeps own w (looks_behind r w e)
      go true t u full =
          let both = and-true r.fill.told (eqb r.mark.search.0 r.fill.filled) t in
          as_seen (look-over r w e both.0 (eqb-true r.mark.search.0 r.fill.filled both.1))
          (record { is_kept = kept-phase r w e k phase.Over refl (λ c. absurd (false≢true c)); not_state = refl })
      go false t false full = as_seen (look-waits r w e t full) (keeps-left (passed r) w e next none_yet)
      go false t true full =
          as_seen (look-goes r w e t full)
          (keeps_on (passed r) w e next none_yet
          (λ told. not-over r.fill.told r.mark.search.0 r.fill.filled told t g.is-sane.search_filled))

  keeps-look : Keeps own w (look_of r w e)
  keeps-look = go (is_current r.phase) refl
    where
      go : (t : Bool) → is_current r.phase ≡ t → Keeps own w (look_of r w e)
      go true t = as_seen (look-behind r w e (kept-sane r w e k) (kept-lent r w e k) t) keeps-behind
      go false t = as_seen (look_none r w e (kept-sane r w e k) (kept-lent r w e k) t) (record { is_kept = k; not_state = refl })

  -- a look keeps the invariant, and does not refuse the state
  pub kept-look : Kept own (look_of r w e).reader w (look_of r w e).table
  kept-look = keeps-look.is_kept

  pub look-not-state : (look_of r w e).seen ≡ denied 11 → ⊥
  look-not-state is = false≢true (sym keeps-look.not_state ∙ ap is_denied is)

  -- so does a record put back
  pub kept-put-back : Kept own (put_back_of r) w e
  kept-put-back = go (is_current r.phase) refl
    where
      go : (t : Bool) → is_current r.phase ≡ t → Kept own (put_back_of r) w e
      go true t =
          subst (λ (x : Reader). Kept own x w e) (sym (put-current r (kept-sane r w e k) t))
          (kept-begun (in_phase phase.Ahead (with_mark (mark_at r.mark.start.0 r.mark.start.0 0 r.mark.line) r)) w e
          (phase-good (begins_at r.mark.start.0 r.mark.line r) w e
          (begins-good r w e g r.mark.start.0 r.mark.line (le_trans g.is-sane.start_search g.is-sane.search_filled) g.is-sane.line_least g.is-sane.line_most)
          phase.Ahead (λ c. absurd (false≢true c)))
          refl)
      go false t = subst (λ (x : Reader). Kept own x w e) (sym (put-none r (kept-sane r w e k) t)) k
