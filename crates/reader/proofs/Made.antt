-- A reader that was set up passes refusal 11, and a report and a seek leave it so. Assumes nothing.
use Prim.Native.Nat.{ℕ, ◌+◌, ◌≤◌, ◌<◌}
use native.Mathlib.Omega.{arith}
use mathlib.Core.Bool.{Bool, true, false}
use mathlib.Core.Option.{Option, none, some}
use mathlib.Core.Path.{◌≡◌, refl, sym, subst}
use Rattle.std.proofs.lemmas.Bool.Decides.{nat_tests}
use Rattle.growth.specs.declared.Policy.{Policy}
use Rattle.window.specs.Fill.{reported, unasked, holds}
use Rattle.window.specs.declared.fill.Fill.{Fill}
use Rattle.window.proofs.Laws.{sound-unfilled, sound-reported, sound-not-asking, sound-emptied}
use Rattle.reader.specs.declared.state.Reader.{Reader}
use Rattle.reader.specs.State.{Sane, with_fill}
use Rattle.reader.specs.Calls.{Left, setup_refused, made, misplaced, report_of, took_over, seek_of, sought_in, sought_out}
use Rattle.reader.proofs.Sanity.{sane-true}
use Rattle.reader.proofs.CallLaws.{Placed, test-fitting, test-placed, report-sane, seek-misplaced, seek-in, seek-out}

pub sane-made :
    (capacity : ℕ) (p : Policy) (window slots : ℕ) →
    setup_refused capacity window slots ≡ false →
    Sane (made capacity p window slots)
sane-made capacity p window slots e =
    let s = test-fitting capacity window slots e in
    record {
      capacity_least = s.capacity_least;
      window_sound = sound-unfilled capacity p window s.capacity_fits;
      start_search = omega arith;
      search_filled = omega arith;
      count_slots = omega arith;
      count_search = omega arith;
      current_has_end = λ is. cc;
      line_least = omega arith;
      line_most = omega arith;
    }

module _ (r : Reader) (s : Sane r) where
  sane-filled : (count : ℕ) (g : Fill) → reported count r.fill ≡ some g → Sane (with_fill g r)
  unfolding reported unasked
  sane-filled count g e =
      let a = s.capacity_least in
      let b = s.search_filled in
      let h = s.line_most in
      record {
        capacity_least = grind (arith, nat_tests);
        window_sound = sound-reported r.fill s.window_sound count g e;
        start_search = s.start_search;
        search_filled = grind (arith, nat_tests);
        count_slots = s.count_slots;
        count_search = s.count_search;
        current_has_end = s.current_has_end;
        line_least = s.line_least;
        line_most = grind (arith, nat_tests);
      }

  pub sane-report : (count : ℕ) → Sane (report_of count r).reader
  sane-report count =
      subst (λ (l : Left). Sane l.reader) (sym (report-sane r count (sane-true r s))) (go (reported count r.fill) refl)
    where
      go : (o : Option Fill) → reported count r.fill ≡ o → Sane (took_over o r).reader
      go none e = s
      go (some g) e = sane-filled count g e

  module _ (line byte : ℕ) (p : Placed line byte) where
    sane-in : holds byte r.fill ≡ true → Sane (sought_in line byte r)
    sane-in h =
        let low : r.fill.base.0 ≤ byte = grind (arith, nat_tests) in
        let high : byte < r.fill.base.0 + r.fill.filled = grind (arith, nat_tests) in
        let least = p.line_least in
        let top = p.line_most in
        record {
          capacity_least = s.capacity_least;
          window_sound = sound-not-asking r.fill s.window_sound;
          start_search = omega arith;
          search_filled = omega arith;
          count_slots = omega arith;
          count_search = omega arith;
          current_has_end = λ is. cc;
          line_least = omega arith;
          line_most = omega arith;
        }

    sane-out : Sane (sought_out line byte r)
    sane-out =
        let least = p.line_least in
        let top = p.line_most in
        record {
          capacity_least = s.capacity_least;
          window_sound = sound-emptied r.fill s.window_sound byte p.byte_most;
          start_search = omega arith;
          search_filled = omega arith;
          count_slots = omega arith;
          count_search = omega arith;
          current_has_end = λ is. cc;
          line_least = omega arith;
          line_most = omega arith;
        }

  pub sane-seek : (line byte : ℕ) → Sane (seek_of line byte r).reader
  sane-seek line byte = go (misplaced line byte) refl (holds byte r.fill) refl
    where
      by : (l : Left) → seek_of line byte r ≡ l → Sane l.reader → Sane (seek_of line byte r).reader
      by l e k = subst (λ (x : Left). Sane x.reader) (sym e) k

      go : (t : Bool) → misplaced line byte ≡ t → (u : Bool) → holds byte r.fill ≡ u → Sane (seek_of line byte r).reader
      go true m u h = by _ (seek-misplaced r line byte (sane-true r s) m) s
      go false m true h = by _ (seek-in r line byte (sane-true r s) m h) (sane-in line byte (test-placed line byte m) h)
      go false m false h = by _ (seek-out r line byte (sane-true r s) m h) (sane-out line byte (test-placed line byte m))
