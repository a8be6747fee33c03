-- No call refuses a state (11) that setup made and calls left, whatever their arguments: by the invariant of
-- Kept.antt. Assumes nothing.
use Prim.Native.Nat.{ℕ}
use mathlib.Core.Bool.{Bool, true, false, false≢true}
use mathlib.Core.List.{List, []}
use mathlib.Core.Option.{Option, none, some, none-ne-some, some-injective}
use mathlib.Core.Path.{◌≡◌, refl, sym, ap, subst, ◌∙◌}
use lib.ListN.{length}
use lib.Dec.{eqb}
use borrow.Author.Tests.{eqb-true, eqb-false}
use Rattle.std.proofs.Common.{arith}
use Rattle.std.proofs.lemmas.Bool.Decides.{nat_tests}
use Rattle.growth.specs.declared.Policy.{Policy}
use Rattle.window.specs.Fill.{reported, holds}
use Rattle.window.specs.declared.fill.Fill.{Fill}
use Rattle.reader.specs.declared.state.Phase.{Phase}
use Rattle.reader.specs.declared.state.Phase.TheVariants as phase
use Rattle.reader.specs.declared.state.Reader.{Reader}
use Rattle.reader.specs.State.{Sane, sane, lent_as, is_current, ends_rise}
use Rattle.reader.specs.Read.{Did, refuses, read_of}
use Rattle.reader.specs.Look.{Looked, denied, look_of, put_back_of}
use Rattle.reader.specs.Calls.{Left, done, setup_refused, setup_of, made, misplaced, report_of, took_over, seek_of, sought_in, sought_out, Place, at, nowhere, unknown, shown_in, place_of, Held, held, missing, current_of}
use Rattle.reader.proofs.ReadLaws.{unlent-window, unlent-table, read-unlent}
use Rattle.reader.proofs.LookLaws.{look-unlent}
use Rattle.reader.proofs.CallLaws.{test-fitting, setup-made, report-sane, seek-misplaced, seek-in, seek-out, place-shown, current-none, current-held}
use Rattle.reader.proofs.Made.{sane-made, sane-report, sane-seek}
use Rattle.reader.proofs.Kept.{Kept, kept-begun, kept-sane, kept-rising, kept_read, read-not-state}
use Rattle.reader.proofs.LookKept.{kept-look, look-not-state, kept-put-back}

-- A reader with its window and its table as calls left them: set up over them, then read, told of bytes, and sought,
-- its next record looked at and its current one put back, in any order and by any arguments, a read or a look over a
-- window or a table of another length too. Between calls the caller may put any bytes into the window, and anything
-- into the table where that is not the reader's own.
pub data Calls (own : Bool) : Reader → (w e : List ℕ) → Type 0 where
  by_setup : (capacity : ℕ) (p : Policy) (r : Reader) (w e : List ℕ) → setup_of capacity p (length w) (length e) ≡ some r → Calls own r w e
  by_read : (r : Reader) (w e : List ℕ) → Calls own r w e → Calls own (read_of r w e).reader (read_of r w e).window (read_of r w e).table
  by_misread :
      (r : Reader) (w e w' e' : List ℕ) →
      (length w' ≡ length w → length e' ≡ length e → ⊥) →
      Calls own r w e →
      Calls own (read_of r w' e').reader w e
  by_refill : (r : Reader) (w e w' : List ℕ) → length w' ≡ length w → Calls own r w e → Calls own r w' e
  by_alter : own ≡ false → (r : Reader) (w e e' : List ℕ) → length e' ≡ length e → Calls own r w e → Calls own r w e'
  by_report : (count : ℕ) (r : Reader) (w e : List ℕ) → Calls own r w e → Calls own (report_of count r).reader w e
  by_seek : (line byte : ℕ) (r : Reader) (w e : List ℕ) → Calls own r w e → Calls own (seek_of line byte r).reader w e
  by-look : (r : Reader) (w e : List ℕ) → Calls own r w e → Calls own (look_of r w e).reader w (look_of r w e).table
  by_mislook :
      (r : Reader) (w e w' e' : List ℕ) →
      (length w' ≡ length w → length e' ≡ length e → ⊥) →
      Calls own r w e →
      Calls own (look_of r w' e').reader w e
  by_put_back : (r : Reader) (w e : List ℕ) → Calls own r w e → Calls own (put_back_of r) w e

-- The reader passes the test, so no call over the lent lengths answers 11. A read also tests the ends, as views of
-- the current record do: these rise in a table that is the reader's own.
pub record NeverState (own : Bool) (r : Reader) (w e : List ℕ) : Type 0 where
  pub is-sane : sane r ≡ true
  pub in_read : own ≡ true → (read_of r w e).said ≡ refuses 11 [] → ⊥
  pub in_report : (count : ℕ) → (report_of count r).refusal ≡ some 11 → ⊥
  pub in_seek : (line byte : ℕ) → (seek_of line byte r).refusal ≡ some 11 → ⊥
  pub in_position : place_of r ≡ unknown 11 → ⊥
  pub in_current : current_of (length w) (length e) r ≡ missing 11 → ⊥
  pub in_look : (look_of r w e).seen ≡ denied 11 → ⊥
  pub in_ends : own ≡ true → ends_rise r e ≡ true

-- a reader that was set up
pub kept-made : {own : Bool} (capacity : ℕ) (p : Policy) (r : Reader) (w e : List ℕ) → setup_of capacity p (length w) (length e) ≡ some r → Kept own r w e
unfolding setup_of
kept-made {own} capacity p r w e is = go (setup_refused capacity (length w) (length e)) refl
  where
    go : (t : Bool) → setup_refused capacity (length w) (length e) ≡ t → Kept own r w e
    go true t =
        let refused : setup_of capacity p (length w) (length e) ≡ none = rw t in
        absurd (none-ne-some r (sym refused ∙ is))
    go false t =
        let same = some-injective _ r (sym (setup-made capacity (length w) (length e) p (test-fitting capacity (length w) (length e) t)) ∙ is) in
        subst (λ (o : Reader). Kept own o w e) same
        (kept-begun (made capacity p (length w) (length e)) w e
        (record { is-sane = sane-made capacity p (length w) (length e) t; window_lent = refl; table_lent = refl })
        refl)

-- a report leaves the lent length
lent-reported : (count : ℕ) (f g : Fill) → reported count f ≡ some g → g.lent ≡ f.lent
unfolding reported
lent-reported count f g is = grind (arith, nat_tests)

-- an answer 11, of each kind
abbrev is_refused : Option ℕ → Bool
is_refused none = false
is_refused (some n) = eqb n 11

abbrev is_unknown : Place → Bool
is_unknown (at l b) = false
is_unknown nowhere = false
is_unknown (unknown n) = eqb n 11

abbrev is_missing : Held → Bool
is_missing (held s f c) = false
is_missing (missing n) = eqb n 11

-- what a report or a seek says and leaves, if it keeps the invariant
record Leaves (own : Bool) (w e : List ℕ) (l : Left) : Type 0 where
  is_kept : Kept own l.reader w e
  not_state : is_refused l.refusal ≡ false

module _ {own : Bool} (r : Reader) (w e : List ℕ) (k : Kept own r w e) where
  -- of the window only its length matters
  pub kept-refilled : (w' : List ℕ) → length w' ≡ length w → Kept own r w' e
  kept-refilled w' same =
      record {
        is_good =
            record {
              is-sane = k.is_good.is-sane;
              window_lent = k.is_good.window_lent ∙ sym same;
              table_lent = k.is_good.table_lent;
            };
        ends-rise = k.ends-rise;
        is_behind = k.is_behind;
      }

  -- and of the table, where it is not the reader's own
  kept-altered : own ≡ false → (e' : List ℕ) → length e' ≡ length e → Kept own r w e'
  kept-altered o e' same =
      record {
        is_good =
            record {
              is-sane = k.is_good.is-sane;
              window_lent = k.is_good.window_lent;
              table_lent = k.is_good.table_lent ∙ sym same;
            };
        ends-rise = λ q. absurd (false≢true (sym o ∙ q));
        is_behind = λ s. record { count_behind = (k.is_behind s).count_behind; ends_behind = λ q. absurd (false≢true (sym o ∙ q)) };
      }

  -- a read or a look over other lengths changes nothing
  unlent : (w' e' : List ℕ) → (length w' ≡ length w → length e' ≡ length e → ⊥) → lent_as r (length w') (length e') ≡ false
  unlent w' e' other = go (eqb r.fill.lent (length w')) refl
    where
      go : (t : Bool) → eqb r.fill.lent (length w') ≡ t → lent_as r (length w') (length e') ≡ false
      go false t = unlent-window r w' e' (eqb-false r.fill.lent (length w') t)
      go true t =
          let same-window = sym (eqb-true r.fill.lent (length w') t) ∙ k.is_good.window_lent in
          unlent-table r w' e' (λ is. other same-window (sym is ∙ k.is_good.table_lent))

  pub kept-misread : (w' e' : List ℕ) → (length w' ≡ length w → length e' ≡ length e → ⊥) → Kept own (read_of r w' e').reader w e
  kept-misread w' e' other =
      subst (λ (o : Reader). Kept own o w e) (sym (ap (λ (x : Did). x.reader) (read-unlent r w' e' (unlent w' e' other)))) k

  kept-mislook : (w' e' : List ℕ) → (length w' ≡ length w → length e' ≡ length e → ⊥) → Kept own (look_of r w' e').reader w e
  kept-mislook w' e' other =
      subst (λ (o : Reader). Kept own o w e) (sym (ap (λ (x : Looked). x.reader) (look-unlent r w' e' (unlent w' e' other)))) k

  leaves-report : (count : ℕ) → Leaves own w e (report_of count r)
  leaves-report count = subst (Leaves own w e) (sym taken) (go (reported count r.fill) refl)
    where
      taken : report_of count r ≡ took_over (reported count r.fill) r
      taken = report-sane r count (kept-sane r w e k)

      go : (o : Option Fill) → reported count r.fill ≡ o → Leaves own w e (took_over o r)
      go none q = record { is_kept = k; not_state = refl }
      go (some f) q =
          record {
            is_kept =
                record {
                  is_good =
                      record {
                        is-sane =
                            subst (λ (l : Left). Sane l.reader) (taken ∙ ap (λ (o : Option Fill). took_over o r) q)
                            (sane-report r k.is_good.is-sane count);
                        window_lent = lent-reported count r.fill f q ∙ k.is_good.window_lent;
                        table_lent = k.is_good.table_lent;
                      };
                  ends-rise = k.ends-rise;
                  is_behind = k.is_behind;
                };
            not_state = refl;
          }

  leaves-seek : (line byte : ℕ) → Leaves own w e (seek_of line byte r)
  leaves-seek line byte = go (misplaced line byte) refl (holds byte r.fill) refl
    where
      fine : sane r ≡ true
      fine = kept-sane r w e k

      begun : (x : Reader) → seek_of line byte r ≡ done x → x.fill.lent ≡ r.fill.lent → x.slots ≡ r.slots → x.mark.count ≡ 0 → Leaves own w e (seek_of line byte r)
      begun x is lent slots z =
          subst (Leaves own w e) (sym is)
          (record {
            is_kept =
                kept-begun x w e
                (record {
                  is-sane = subst (λ (l : Left). Sane l.reader) is (sane-seek r k.is_good.is-sane line byte);
                  window_lent = lent ∙ k.is_good.window_lent;
                  table_lent = slots ∙ k.is_good.table_lent;
                })
                z;
            not_state = refl;
          })

      go : (t : Bool) → misplaced line byte ≡ t → (u : Bool) → holds byte r.fill ≡ u → Leaves own w e (seek_of line byte r)
      go true m u h = subst (Leaves own w e) (sym (seek-misplaced r line byte fine m)) (record { is_kept = k; not_state = refl })
      go false m true h = begun (sought_in line byte r) (seek-in r line byte fine m h) refl refl refl
      go false m false h = begun (sought_out line byte r) (seek-out r line byte fine m h) refl refl refl

  -- the calls that change nothing
  known : is_unknown (place_of r) ≡ false
  known = ap is_unknown (place-shown r (kept-sane r w e k) r.phase refl) ∙ go r.phase
    where
      go : (p : Phase) → is_unknown (shown_in p r) ≡ false
      go phase.Lead = refl
      go phase.Sought = refl
      go phase.Searching = refl
      go phase.Current = refl
      go phase.Ended = refl
      go phase.Over = refl
      go phase.Window = refl
      go phase.Table = refl
      go phase.Astray = refl
      go phase.Ahead = refl

  present : is_missing (current_of (length w) (length e) r) ≡ false
  present = go (is_current r.phase) refl
    where
      go : (t : Bool) → is_current r.phase ≡ t → is_missing (current_of (length w) (length e) r) ≡ false
      go true t = ap is_missing (current-held r (length w) (length e) (kept-sane r w e k) k.is_good.window_lent k.is_good.table_lent t)
      go false t = ap is_missing (current-none r (length w) (length e) (kept-sane r w e k) k.is_good.window_lent k.is_good.table_lent t)

  pub kept-report : (count : ℕ) → Kept own (report_of count r).reader w e
  kept-report count = (leaves-report count).is_kept

  pub kept-seek : (line byte : ℕ) → Kept own (seek_of line byte r).reader w e
  kept-seek line byte = (leaves-seek line byte).is_kept

  kept-never : NeverState own r w e
  kept-never =
      record {
        is-sane = kept-sane r w e k;
        in_read = read-not-state r w e k;
        in_report = λ count is. false≢true (sym (leaves-report count).not_state ∙ ap is_refused is);
        in_seek = λ line byte is. false≢true (sym (leaves-seek line byte).not_state ∙ ap is_refused is);
        in_position = λ is. false≢true (sym known ∙ ap is_unknown is);
        in_current = λ is. false≢true (sym present ∙ ap is_missing is);
        in_look = look-not-state r w e k;
        in_ends = kept-rising r w e k;
      }

-- setup and any calls keep the invariant
pub calls-kept : {own : Bool} {r : Reader} {w e : List ℕ} → Calls own r w e → Kept own r w e
calls-kept (by_setup capacity p r w e is) = kept-made capacity p r w e is
calls-kept (by_read r w e c) = kept_read r w e (calls-kept c)
calls-kept (by_misread r w e w' e' other c) = kept-misread r w e (calls-kept c) w' e' other
calls-kept (by_refill r w e w' same c) = kept-refilled r w e (calls-kept c) w' same
calls-kept (by_alter o r w e e' same c) = kept-altered r w e (calls-kept c) o e' same
calls-kept (by_report count r w e c) = kept-report r w e (calls-kept c) count
calls-kept (by_seek line byte r w e c) = kept-seek r w e (calls-kept c) line byte
calls-kept (by-look r w e c) = kept-look r w e (calls-kept c)
calls-kept (by_mislook r w e w' e' other c) = kept-mislook r w e (calls-kept c) w' e' other
calls-kept (by_put_back r w e c) = kept-put-back r w e (calls-kept c)

-- so none refuses the state
pub never-state : {own : Bool} {r : Reader} {w e : List ℕ} → Calls own r w e → NeverState own r w e
never-state {own} {r} {w} {e} c = kept-never r w e (calls-kept c)
