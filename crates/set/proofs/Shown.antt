-- A record that stands in the filled bytes of a set, by its start and its ends, is shown by the set's views and
-- written by its writers as the input's meaning has it, and its position is its place in the input. Assumes nothing.
use Prim.Native.Nat.{ℕ, ◌+◌, ◌-◌, ◌≤◌}
use mathlib.Core.List.{List, []}
use mathlib.Core.Option.{Option, some}
use mathlib.Core.Path.{◌≡◌, sym, ap, subst, ◌∙◌}
use lib.ListN.{length, get_or, take, drop}
use Rattle.meaning.specs.Input.{Rec}
use Rattle.meaning.specs.Parts.{head_of, seq_lines, seq_of, id_of, desc_of}
use Rattle.reader.specs.Calls.{at}
use Rattle.reader.proofs.CallLaws.{Placed}
use Rattle.view.specs.View.{Shown, head_in, id_in, desc_in, line_in, line_count}
use Rattle.view.specs.Full as full
use Rattle.view.specs.Full.{Left, full_in, picked}
use Rattle.view.specs.Shows.{Shows}
use Rattle.view.specs.Current.{refused, are, refuses}
use Rattle.view.proofs.Meaning.{Stands, count_is}
use Rattle.view.proofs.Within.{head-wider, id-wider, desc-wider, line-wider, full-wider}
use Rattle.rewrite.specs.Rewrite as rewrite
use Rattle.rewrite.specs.Rewrite.{written_in, wrapped_in, unchanged_in}
use Rattle.rewrite.proofs.Meaning.{write-is, write-wrap-is, write-unchanged-is}
use Rattle.set.specs.declared.state.Set.{Set}
use Rattle.set.specs.Set.{Record, held, record_of, of_held, of_record}
use Rattle.set.specs.Record.{place_held}
use Rattle.set.specs.Shown.{ShowsAt, WritesAt}
use Rattle.set.proofs.Numbers.{filled-inside, placed_is}

module _ (s : Set) (bytes marks ends : List ℕ) (i : ℕ) (start filled from to : ℕ)
    (is : record_of s (length bytes) marks (length ends) i ≡ held start filled from to) (r : Rec) where
  fits : filled ≤ length bytes
  fits = filled-inside s (length bytes) marks (length ends) i start filled from to is

  abbrev es : List ℕ
  es = take (to - from) (drop from ends)

  -- what a view shows of its parts, it shows of the record
  by-view :
      (v : List ℕ → ℕ → List ℕ → Shown) (text : Option (List ℕ)) → Shows bytes (v (take filled bytes) start es) text →
      Shows bytes (of_record s bytes marks ends i v refused) text
  by-view v text h = subst (λ (q : Record). Shows bytes (of_held bytes ends v refused q) text) (sym is) h

  pub shows-at : Stands (take filled bytes) start r es → ShowsAt s bytes marks ends i r
  shows-at stands =
      record {
        head = by-view head_in (some (head_of r)) (head-wider filled bytes start r es fits stands);
        id = by-view id_in (some (id_of (head_of r))) (id-wider filled bytes start r es fits stands);
        desc = by-view desc_in (desc_of (head_of r)) (desc-wider filled bytes start r es fits stands);
        lines =
            ap (of_held bytes ends (λ w start es. are (line_count es)) refuses) is
            ∙ ap are (count_is (take filled bytes) start r es stands);
        line =
            λ n h.
            by-view (λ w start es. line_in w start es n) (some (get_or (seq_lines r) n []))
            (line-wider filled bytes start r es fits stands n h);
        sequence =
            λ scratch room.
            let e =
            ap (of_held bytes ends (λ w start es. full_in w start es scratch)
            (λ n. full.left (full.refuses n []) scratch)) is in
            subst (λ (o : Left). picked bytes o.scratch o.answer ≡ seq_of r) (sym e)
            (full-wider filled bytes start r es fits stands scratch room);
      }

  pub writes_at : Stands (take filled bytes) start r es → WritesAt s bytes marks ends i r
  writes_at stands =
      record {
        write =
            λ out.
            ap (of_held bytes ends (λ w start es. written_in w start es out) (λ n. rewrite.refused n out)) is
            ∙ write-is (take filled bytes) start r es stands out;
        write-wrap =
            λ wrap out.
            ap (of_held bytes ends (λ w start es. wrapped_in w start es wrap out) (λ n. rewrite.refused n out)) is
            ∙ write-wrap-is (take filled bytes) start r es stands wrap out;
        write-unchanged =
            λ out.
            ap (of_held bytes ends (λ w start es. unchanged_in w start es out) (λ n. rewrite.refused n out)) is
            ∙ write-unchanged-is (take filled bytes) start r es stands out;
      }

  -- its position, where line and byte are the record's
  pub placed-there : s.line + from ≡ r.line → s.base.0 + start ≡ r.byte → Placed r.line r.byte
      → place_held s (record_of s (length bytes) marks (length ends) i) ≡ at r.line r.byte
  placed-there l b p =
      ap (place_held s) is
      ∙ rw (l, b) (placed_is r.line r.byte p)
