-- Reports and seeks keep the relation: a report that brings the input's bytes leaves what is due, a seek makes due what stands at its place.
-- Assumes nothing.
use Prim.Native.Nat.{ℕ, zero, suc, ◌+◌, ◌-◌, ◌≤◌, ◌<◌}
use native.Mathlib.Decide.{dec_le}
use native.Mathlib.Omega.{arith}
use mathlib.Core.Bool.{Bool, true, false, false≢true}
use mathlib.Core.List.{List, ◌++◌, append_assoc}
use mathlib.Core.Option.{Option, none, some, none-ne-some}
use mathlib.Core.Path.{◌≡◌, refl, sym, ap, subst, ◌∙◌}
use lib.ListN.{take, drop, take-append-drop}
use lib.Seq.{drop-drop, take-add}
use lib.Dec.{leb, ltb}
use borrow.Author.Tests.{leb-true, ltb-true}
use Rattle.window.specs.Fill.{most, took, ended, reported, holds}
use Rattle.window.specs.declared.fill.Fill.{Fill}
use Rattle.window.proofs.Laws.{Asked, reported-refused, reported-end, reported-more}
use Rattle.reader.specs.declared.state.Reader.{Reader}
use Rattle.reader.specs.declared.state.Phase.{Phase}
use Rattle.reader.specs.declared.state.Phase.TheVariants as phase
use Rattle.reader.specs.State.{Good, Sane, sane, with_fill}
use Rattle.reader.specs.Calls.{Left, done, misplaced, report_of, took_over, seek_of, sought_in, sought_out}
use Rattle.reader.proofs.Sanity.{and-true, sane-true}
use Rattle.reader.proofs.CallLaws.{report-sane, seek-misplaced, seek-in, seek-out}
use Rattle.reader.proofs.Made.{sane-report, sane-seek}
use Rattle.runs.specs.Run.{state, Brings}
use Rattle.runs.proofs.Tells.{due_in, due_to, Tells, Rests}

-- a report of no bytes tells the end
abbrev pub filled_by : ℕ → Fill → Fill
filled_by zero f = ended f
filled_by (suc n) f = took (suc n) f

-- a report that is taken
pub record Took (n : ℕ) (r : Reader) : Type 0 where
  pub is_asked : Asked r.fill n
  pub reader_is : report_of n r ≡ done (with_fill (filled_by n r.fill) r)

-- what is due does not depend on how far the window is filled
due-filled : (p : Phase) (X : List ℕ) (C n : ℕ) (r : Reader) (e : List ℕ) → due_in p X C (with_fill (filled_by n r.fill) r) e ≡ due_in p X C r e
due-filled p X C zero r e = go p
  where
    go : (p : Phase) → due_in p X C (with_fill (ended r.fill) r) e ≡ due_in p X C r e
    go phase.Lead = refl
    go phase.Sought = refl
    go phase.Searching = refl
    go phase.Current = refl
    go phase.Ended = refl
    go phase.Over = refl
    go phase.Window = refl
    go phase.Table = refl
    go phase.Astray = refl
    go phase.Ahead = refl
due-filled p X C (suc n) r e = go p
  where
    go : (p : Phase) → due_in p X C (with_fill (took (suc n) r.fill) r) e ≡ due_in p X C r e
    go phase.Lead = refl
    go phase.Sought = refl
    go phase.Searching = refl
    go phase.Current = refl
    go phase.Ended = refl
    go phase.Over = refl
    go phase.Window = refl
    go phase.Table = refl
    go phase.Astray = refl
    go phase.Ahead = refl

module _ (X : List ℕ) (C : ℕ) (r : Reader) (w e : List ℕ) (t : Tells X C r w e) where
  reports : (n : ℕ) → report_of n r ≡ took_over (reported n r.fill) r
  reports n = report-sane r n (sane-true r t.is_good.is-sane)

  -- a count that was asked for is taken
  pub takes : (n : ℕ) → Asked r.fill n → Took n r
  takes n a = record { is_asked = a; reader_is = reports n ∙ ap (λ (o : Option Fill). took_over o r) (fills n a) }
    where
      fills : (n : ℕ) → Asked r.fill n → reported n r.fill ≡ some (filled_by n r.fill)
      fills zero a = reported-end r.fill 0 a refl
      fills (suc n) a = reported-more r.fill (suc n) a (λ z. omega arith)

  -- and no other
  pub taken : (n : ℕ) → (report_of n r).refusal ≡ none → Took n r
  taken n is =
      takes n
      (go r.fill.asking refl (dec_le n (r.fill.capacity - r.fill.filled)) (dec_le (r.fill.base.0 + r.fill.filled + n) most))
    where
      shut : {A : Type 0} → (Asked r.fill n → ⊥) → A
      shut no' =
          let refused : (report_of n r).refusal ≡ some 6 =
          ap (λ (l : Left). l.refusal) (reports n ∙ ap (λ (o : Option Fill). took_over o r) (reported-refused r.fill n no')) in
          absurd (none-ne-some 6 (sym is ∙ refused))

      go :
          (a : Bool) → r.fill.asking ≡ a → Dec (n ≤ r.fill.capacity - r.fill.filled) → Dec (r.fill.base.0 + r.fill.filled + n ≤ most) →
          Asked r.fill n
      go false a u v = shut (λ k. false≢true (sym a ∙ k.is_open))
      go true a (no u) v = shut (λ k. u k.has_room)
      go true a (yes u) (no v) = shut (λ k. v k.input_has_room)
      go true a (yes u) (yes v) = record { is_open = a; has_room = u; input_has_room = v }

  -- a report that brings bytes of X keeps the relation
  module _ (n : ℕ) (w' : List ℕ) (k : Took n r) (b : Brings X n (state r w e) w') where
    abbrev base : ℕ
    base = r.fill.base.0

    abbrev filled : ℕ
    filled = r.fill.filled

    good : Good (with_fill (filled_by n r.fill) r) w' e
    good =
        record {
          is-sane = subst (λ (l : Left). Sane l.reader) k.reader_is (sane-report r t.is_good.is-sane n);
          window_lent = lent n ∙ t.is_good.window_lent ∙ sym b.same_length;
          table_lent = t.is_good.table_lent;
        }
      where
        lent : (n : ℕ) → (filled_by n r.fill).lent ≡ r.fill.lent
        lent zero = refl
        lent (suc n) = refl

    -- n bytes more, as they stand in X
    more : drop base X ≡ take (filled + n) w' ++ drop (base + (filled + n)) X
    more =
        let same : base + filled + n ≡ base + (filled + n) = omega arith in
        let rest : drop (base + filled) X ≡ take n (drop filled w') ++ drop (base + (filled + n)) X =
        sym (take-append-drop n (drop (base + filled) X))
        ∙ ap (λ (l : List ℕ). l ++ drop n (drop (base + filled) X)) (sym b.brought)
        ∙ ap (λ (l : List ℕ). take n (drop filled w') ++ l) (drop-drop n (base + filled) X ∙ ap (λ (m : ℕ). drop m X) same) in
        t.text
        ∙ ap (λ (l : List ℕ). l ++ drop (base + filled) X) (sym b.before)
        ∙ ap (λ (l : List ℕ). take filled w' ++ l) rest
        ∙ sym (append_assoc (take filled w') (take n (drop filled w')) (drop (base + (filled + n)) X))
        ∙ ap (λ (l : List ℕ). l ++ drop (base + (filled + n)) X) (sym (take-add filled n w'))

    pub tells-report : Tells X C (with_fill (filled_by n r.fill) r) w' e
    tells-report = go n refl good more
      where
        open' : filled < r.fill.capacity
        open' = t.is_good.is-sane.window_sound.ask_has_room k.is_asked.is_open

        quiet : r.fill.told ≡ true → ⊥
        quiet is = false≢true (sym (t.told is).is_quiet ∙ k.is_asked.is_open)

        go :
            (m : ℕ) → n ≡ m → Good (with_fill (filled_by m r.fill) r) w' e → drop base X ≡ take (filled + m) w' ++ drop (base + (filled + m)) X →
            Tells X C (with_fill (filled_by m r.fill) r) w' e
        go zero z g text =
            let same : filled + 0 ≡ filled = omega arith in
            record {
              is_good = g;
              is_behind = t.is_behind;
              sought_inside = t.sought_inside;
              text = rw same at text;
              told = λ is. record { is_all = b.zero_at_end z; has_room = open'; is_quiet = refl };
              largest_is = t.largest_is;
            }
        go (suc m) z g text =
            record {
              is_good = g;
              is_behind = t.is_behind;
              sought_inside = t.sought_inside;
              text = text;
              told = λ is. absurd (quiet is);
              largest_is = t.largest_is;
            }

    pub due-report : due_to X C (with_fill (filled_by n r.fill) r) e ≡ due_to X C r e
    due-report = due-filled r.phase X C n r e

    pub rests-report : Rests r → Rests (with_fill (filled_by n r.fill) r)
    rests-report rs = record { at_front = rs.at_front; all_slots = rs.all_slots }

  -- a seek that is accepted
  pub record Sought (line byte : ℕ) (q : Reader) : Type 0 where
    pub done_is : seek_of line byte r ≡ done q
    pub tells : Tells X C q w e
    pub in-phase : q.phase ≡ phase.Sought
    pub line_is : q.mark.line ≡ line
    pub byte_is : q.fill.base.0 + q.mark.start.0 ≡ byte
    pub slots_are : q.slots ≡ r.slots

  pub seeks : (line byte : ℕ) → (seek_of line byte r).refusal ≡ none → (q : Reader) × Sought line byte q
  seeks line byte is = go (misplaced line byte) refl (holds byte r.fill) refl
    where
      fine : sane r ≡ true
      fine = sane-true r t.is_good.is-sane

      good : (q : Reader) → seek_of line byte r ≡ done q → q.fill.lent ≡ r.fill.lent → q.slots ≡ r.slots → Good q w e
      good q done' lent slots =
          record {
            is-sane = subst (λ (l : Left). Sane l.reader) done' (sane-seek r t.is_good.is-sane line byte);
            window_lent = lent ∙ t.is_good.window_lent;
            table_lent = slots ∙ t.is_good.table_lent;
          }

      go : (u : Bool) → misplaced line byte ≡ u → (v : Bool) → holds byte r.fill ≡ v → (q : Reader) × Sought line byte q
      go true m v h = absurd (none-ne-some 5 (sym is ∙ ap (λ (l : Left). l.refusal) (seek-misplaced r line byte fine m)))
      go false m true h =
          let both = and-true (leb r.fill.base.0 byte) (ltb byte (r.fill.base.0 + r.fill.filled)) h in
          let low = leb-true r.fill.base.0 byte both.0 in
          let high = ltb-true byte (r.fill.base.0 + r.fill.filled) both.1 in
          let fits = t.is_good.is-sane.window_sound.filled_fits in
          let q = sought_in line byte r in
          let done' = seek-in r line byte fine m h in (
            q,
            record {
              done_is = done';
              tells =
                  record {
                    is_good = good q done' refl refl;
                    is_behind = λ s. absurd (false≢true s);
                    sought_inside = λ s. omega arith;
                    text = t.text;
                    told = λ is. let k = t.told is in record { is_all = k.is_all; has_room = k.has_room; is_quiet = refl };
                    largest_is = t.largest_is;
                  };
              in-phase = refl;
              line_is = refl;
              byte_is = omega arith;
              slots_are = refl;
            },
          )
      go false m false h =
          let q = sought_out line byte r in
          let done' = seek-out r line byte fine m h in
          let same : byte + 0 ≡ byte = omega arith in
          let least = t.is_good.is-sane.capacity_least in (
            q,
            record {
              done_is = done';
              tells =
                  record {
                    is_good = good q done' refl refl;
                    is_behind = λ s. absurd (false≢true s);
                    sought_inside = λ s. omega arith;
                    text = ap (λ (k : ℕ). drop k X) (sym same);
                    told = λ is. absurd (false≢true is);
                    largest_is = t.largest_is;
                  };
              in-phase = refl;
              line_is = refl;
              byte_is = same;
              slots_are = refl;
            },
          )

  -- a call that is refused changes nothing
  pub report-refused : (n number : ℕ) → (report_of n r).refusal ≡ some number → (report_of n r).reader ≡ r
  report-refused n number is = go (reported n r.fill) refl
    where
      go : (o : Option Fill) → reported n r.fill ≡ o → (report_of n r).reader ≡ r
      go none o = ap (λ (l : Left). l.reader) (reports n ∙ ap (λ (f : Option Fill). took_over f r) o)
      go (some f) o =
          absurd (none-ne-some number (sym (ap (λ (l : Left). l.refusal) (reports n ∙ ap (λ (f : Option Fill). took_over f r) o)) ∙ is))

  pub seek-refused : (line byte number : ℕ) → (seek_of line byte r).refusal ≡ some number → (seek_of line byte r).reader ≡ r
  seek-refused line byte number is = go (misplaced line byte) refl (holds byte r.fill) refl
    where
      fine : sane r ≡ true
      fine = sane-true r t.is_good.is-sane

      other : (q : Reader) → seek_of line byte r ≡ done q → (seek_of line byte r).reader ≡ r
      other q done' = absurd (none-ne-some number (sym (ap (λ (l : Left). l.refusal) done') ∙ is))

      go : (u : Bool) → misplaced line byte ≡ u → (v : Bool) → holds byte r.fill ≡ v → (seek_of line byte r).reader ≡ r
      go true m v h = ap (λ (l : Left). l.reader) (seek-misplaced r line byte fine m)
      go false m true h = other (sought_in line byte r) (seek-in r line byte fine m h)
      go false m false h = other (sought_out line byte r) (seek-out r line byte fine m h)
