-- A record that is current, by its mark, stands in the window with the ends of its lines: so `position` is its place, and the views show it as
-- the input's meaning has it. Assumes nothing.
use Prim.Native.Nat.{ℕ, ◌+◌, ◌≤◌}
use native.Mathlib.Omega.{arith}
use mathlib.Core.Bool.{true}
use mathlib.Core.List.{List, []}
use mathlib.Core.Option.{Option, some}
use mathlib.Core.Path.{◌≡◌, sym, ap, subst, ◌∙◌}
use lib.ListN.{length, get_or, take, drop}
use lib.Seq.{length-take-le}
use Rattle.meaning.specs.Input.{Rec}
use Rattle.meaning.specs.Parts.{head_of, seq_lines, seq_of, id_of, desc_of}
use Rattle.meaning.specs.OnePass.{Mark}
use Rattle.meaning.proofs.OnePass.{cut_out}
use Rattle.reader.specs.declared.state.Reader.{Reader}
use Rattle.reader.specs.declared.state.Phase.TheVariants as phase
use Rattle.reader.specs.State.{is_current}
use Rattle.reader.specs.Calls.{Held, held, at, current_of}
use Rattle.reader.proofs.Sanity.{sane-true}
use Rattle.reader.proofs.CallLaws.{place-shown, current-held}
use Rattle.view.specs.View.{Shown, head_in, id_in, desc_in, line_in, line_count}
use Rattle.view.specs.Full.{Left, left, full_in, picked}
use Rattle.view.specs.Full as full
use Rattle.view.specs.Shows.{Shows}
use Rattle.view.specs.Current.{of_held, of_current, refused, are}
use Rattle.view.specs.Current as current
use Rattle.view.proofs.Meaning.{Stands, count_is}
use Rattle.view.proofs.Within.{head-wider, id-wider, desc-wider, line-wider, full-wider}
use Rattle.runs.specs.Run.{state}
use Rattle.runs.specs.Demand.{Gives}
use Rattle.runs.proofs.Tells.{Tells, Holds}
use Rattle.runs.proofs.Fine.{Fine}
use Rattle.runs.proofs.Stood.{stands}

module _ (X : List ℕ) (C : ℕ) (r : Reader) (w e : List ℕ) (t : Tells X C r w e) (m : Mark) (f : Fine X m) (k : Holds m r e) where
  abbrev filled : ℕ
  filled = r.fill.filled

  abbrev F : List ℕ
  F = take filled w

  abbrev start : ℕ
  start = r.mark.start.0

  abbrev es : List ℕ
  es = take r.mark.count e

  abbrev rec : Rec
  rec = cut_out X m

  is-here : is_current r.phase ≡ true
  is-here = ap is_current k.is-current

  some_end : 1 ≤ r.mark.count
  some_end = t.is_good.is-sane.current_has_end is-here

  fits : r.fill.filled ≤ length w
  fits = let v = t.is_good.is-sane.window_sound in omega (arith, v.filled_fits, v.capacity_fits, t.is_good.window_lent)

  long : length F ≡ r.fill.filled
  long = length-take-le r.fill.filled w fits

  some_byte : 1 ≤ m.len
  some_byte = omega (arith, k.len_is, some_end, t.is_good.is-sane.count_search)

  inside : start + m.len ≤ length F
  inside = omega (arith, k.len_is, long, t.is_good.is-sane.search_filled, t.is_good.is-sane.start_search)

  is-standing : Stands F start rec es
  is-standing = stands X r.fill.base.0 F (drop (r.fill.base.0 + r.fill.filled) X) t.text m f start es k.byte_is k.ends_are some_byte inside

  shown : current_of (length w) (length e) r ≡ held start r.fill.filled r.mark.count
  shown =
      current-held r (length w) (length e) (sane-true r t.is_good.is-sane) t.is_good.window_lent t.is_good.table_lent is-here

  -- what a view shows of the filled bytes, it shows of the current record
  by-view : (v : List ℕ → ℕ → List ℕ → Shown) (text : Option (List ℕ)) → Shows w (v F start es) text → Shows w (of_current r w e v refused) text
  by-view v text s = subst (λ (h : Held). Shows w (of_held w e v refused h) text) (sym shown) s

  pub gives : Gives (cut_out X m) (state r w e)
  gives =
      record {
        position =
            place-shown r (sane-true r t.is_good.is-sane) phase.Current k.is-current
            ∙ (λ i. at (sym k.line_is i) (sym k.byte_is i));
        head = by-view head_in (some (head_of rec)) (head-wider filled w start rec es fits is-standing);
        id = by-view id_in (some (id_of (head_of rec))) (id-wider filled w start rec es fits is-standing);
        desc = by-view desc_in (desc_of (head_of rec)) (desc-wider filled w start rec es fits is-standing);
        lines = ap (of_held w e (λ bytes start es. are (line_count es)) current.refuses) shown ∙ ap are (count_is F start rec es is-standing);
        line =
            λ i h.
            by-view (λ bytes start es. line_in bytes start es i) (some (get_or (seq_lines rec) i [])) (line-wider filled w start rec es fits is-standing i h);
        sequence =
            λ scratch room.
            let is = ap (of_held w e (λ bytes start es. full_in bytes start es scratch) (λ n. left (full.refuses n []) scratch)) shown in
            subst (λ (o : Left). picked w o.scratch o.answer ≡ seq_of rec) (sym is) (full-wider filled w start rec es fits is-standing scratch room);
      }
