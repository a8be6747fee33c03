-- A read keeps what refusal 11 asks of a reader, and of a record that is still searched that its ends rise below the place where its search
-- goes on: of any reader that passes 11, not of made ones alone. Assumes nothing.
use Prim.Native.Nat.{ℕ, ◌+◌}
use native.Mathlib.Nat.{le_trans}
use mathlib.Core.Bool.{Bool, true, false, not, ◌&&◌, false≢true}
use mathlib.Core.List.{List}
use mathlib.Core.Path.{◌≡◌, refl, sym, ap, subst, ◌∙◌}
use lib.ListN.{length, get_or, take, drop}
use lib.Dec.{eqb, ltb}
use borrow.Author.Tests.{not-true, eqb-true, eqb-false, ltb-true}
use Rattle.scan.specs.Search.{lead_at}
use Rattle.scan.specs.declared.line.Blank.{Blank}
use Rattle.window.specs.Fill.{ready}
use Rattle.reader.specs.declared.state.Reader.{Reader}
use Rattle.reader.specs.declared.state.Phase.{Phase}
use Rattle.reader.specs.declared.state.Phase.TheVariants as phase
use Rattle.reader.specs.State.{Good, sane, lent_as}
use Rattle.reader.specs.Read.{Did, hunted, led, led_to, sought_at, behind, passed, begins_at, when_ready, lasts, read_in, read_of}
use Rattle.reader.proofs.Sanity.{and-true, sane-true}
use Rattle.reader.proofs.ReadLaws.{waits, is-ready, led-by, led_on, led-mark, led-refused, lead-over, lead-asks, lead-in, lead-begins, begins-good, sought-mark, sought-astray, behind-ended, behind-next, passed-good, lent-true, read-repeats, read_goes}
use Rattle.reader.proofs.Kept.{is_searching, Behind, Kept, Keeps, kept-begun, kept-searched, keeps-ready, keeps-begun, kept_read}

-- what a read left, if it is a record that is still searched, has its ends below the place of the search
abbrev pub Searched : Did → Type 0
Searched d = is_searching d.reader.phase ≡ true → Behind true d.reader.mark d.table

as-searched : {d o : Did} → d ≡ o → Searched o → Searched d
as-searched is s = subst Searched (sym is) s

kept : {d : Did} → Keeps true d → Searched d
kept k = k.is_kept.is_behind

module _ (r : Reader) (w e : List ℕ) (g : Good r w e) (h : is_searching r.phase ≡ true → Behind true r.mark e) where
  -- a reader that waits is as it was, but for the ask
  waiting : (f : Reader → List ℕ → List ℕ → Did) → (ready r.fill ≡ true → Searched (f r w e)) → Searched (when_ready f r w e)
  waiting f then' = go (ready r.fill) refl
    where
      go : (t : Bool) → ready r.fill ≡ t → Searched (when_ready f r w e)
      go true t = as-searched (is-ready f r w e t) (then' t)
      go false t = as-searched (waits f r w e t) h

  by-lead : is_searching r.phase ≡ false → Searched (led r w e)
  by-lead not_yet = as-searched (led-by r w e b refl) (go b.undecided refl r.fill.told refl (eqb (get_or w b.at 0) 62) refl)
    where
      b : Blank
      b = lead_at (drop r.mark.start.0 (take r.fill.filled w)) r.mark.start.0 0

      go :
          (t : Bool) → b.undecided ≡ t → (u : Bool) → r.fill.told ≡ u → (v : Bool) → eqb (get_or w b.at 0) 62 ≡ v → Searched (led_to b r w e)
      go true t true u v x = as-searched (led_on r w e b t ∙ lead-over r w e b u) (λ s. absurd (false≢true s))
      go true t false u v x = as-searched (led_on r w e b t ∙ lead-asks r w e b u) (λ s. absurd (false≢true (sym not_yet ∙ s)))
      go false t u told true x =
          as-searched (led-mark r w e b t (eqb-true (get_or w b.at 0) 62 x))
          (kept (keeps-begun (begins_at b.at (r.mark.line + b.lines) r) w e (lead-begins r w e g b (lead-in r w e g b refl)) refl))
      go false t u told false x =
          as-searched (led-refused r w e b t (eqb-false (get_or w b.at 0) 62 x)) (λ s. absurd (false≢true s))

  by-sought : Searched (sought_at r w e)
  by-sought = go (ltb r.mark.start.0 r.fill.filled && eqb (get_or w r.mark.start.0 0) 62) refl
    where
      go : (t : Bool) → (ltb r.mark.start.0 r.fill.filled && eqb (get_or w r.mark.start.0 0) 62) ≡ t → Searched (sought_at r w e)
      go true t =
          let both = and-true (ltb r.mark.start.0 r.fill.filled) (eqb (get_or w r.mark.start.0 0) 62) t in
          let m = g.is-sane in
          as-searched (sought-mark r w e (ltb-true r.mark.start.0 r.fill.filled both.0) (eqb-true (get_or w r.mark.start.0 0) 62 both.1))
          (kept (keeps-begun (begins_at r.mark.start.0 r.mark.line r) w e
          (begins-good r w e g r.mark.start.0 r.mark.line (le_trans m.start_search m.search_filled) m.line_least m.line_most)
          refl))
      go false t = as-searched (sought-astray r w e t) (λ s. absurd (false≢true s))

  by-behind : Searched (behind r w e)
  by-behind = go (r.fill.told && eqb r.mark.search.0 r.fill.filled) refl
    where
      next : Good (passed r) w e
      next = passed-good r w e g

      go : (t : Bool) → (r.fill.told && eqb r.mark.search.0 r.fill.filled) ≡ t → Searched (behind r w e)
      go true t =
          let both = and-true r.fill.told (eqb r.mark.search.0 r.fill.filled) t in
          as-searched (behind-ended r w e both.0 (eqb-true r.mark.search.0 r.fill.filled both.1)) (λ s. absurd (false≢true s))
      go false t =
          as-searched (behind-next r w e t)
          (kept (keeps-ready (passed r) w e hunted (kept-begun (passed r) w e next refl) (λ full. keeps-begun (passed r) w e next refl)))

  -- a reader that searches keeps all
  searching : is_searching r.phase ≡ true → Kept true r w e
  searching is = kept-searched r w e g (h is)

  sane' : sane r ≡ true
  sane' = sane-true r g.is-sane

  lent' : lent_as r (length w) (length e) ≡ true
  lent' = lent-true r w e g.window_lent g.table_lent

  pub by_read : Searched (read_of r w e)
  by_read = go (not (lasts r.phase) && r.fill.asking) refl
    where
      in-phase : (p : Phase) → r.phase ≡ p → read_of r w e ≡ read_in p r w e → Searched (read_of r w e)
      in-phase phase.Lead is goes = as-searched goes (waiting led (λ full. by-lead (ap is_searching is)))
      in-phase phase.Sought is goes = as-searched goes (waiting sought_at (λ full. by-sought))
      in-phase phase.Searching is goes = (kept_read r w e (searching (ap is_searching is))).is_behind
      in-phase phase.Current is goes = as-searched goes by-behind
      in-phase phase.Ended is goes = as-searched goes h
      in-phase phase.Over is goes = as-searched goes h
      in-phase phase.Window is goes = as-searched goes h
      in-phase phase.Table is goes = as-searched goes h
      in-phase phase.Astray is goes = as-searched goes h
      in-phase phase.Ahead is goes = (kept_read r w e (searching (ap is_searching is))).is_behind

      go : (t : Bool) → (not (lasts r.phase) && r.fill.asking) ≡ t → Searched (read_of r w e)
      go true t =
          let both = and-true (not (lasts r.phase)) r.fill.asking t in
          as-searched (read-repeats r w e sane' lent' (not-true (lasts r.phase) both.0) both.1) h
      go false t = in-phase r.phase refl (read_goes r w e sane' lent' t)

  -- what refusal 11 asks
  pub read-good : Good (read_of r w e).reader (read_of r w e).window (read_of r w e).table
  read-good =
      (kept_read {own = false} r w e
      (record {
        is_good = g;
        ends-rise = λ o. absurd (false≢true o);
        is_behind = λ s. record { count_behind = (h s).count_behind; ends_behind = λ o. absurd (false≢true o) };
      })).is_good
