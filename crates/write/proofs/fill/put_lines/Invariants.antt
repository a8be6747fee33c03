-- The loop of `put_lines`: the lines that the iterator has left are what is still to be put (`Rest`).
use Rattle.std.proofs.Common.{◌≡◌}
use Rattle.std.specs.Slice.Iter.{chunks_rest, chunks_size}
use Rattle.write.specs.Text.{wrap_seq_text}
use Rattle.write.proofs.Putting.{Rest}
use Rattle.write.proofs.fill.put_lines.Given as goal

abbrev pub invariant-loop-line : goal.invariant-loop-line
invariant-loop-line l =
    record {
      can_next : (goal.iterator-loop-line).can_next l.line-iterator;
      is_finite : (goal.iterator-loop-line).is_finite l.line-iterator;
      width : chunks_size l.line-iterator ≡ l.wrap;
      rest : Rest l.at (wrap_seq_text l.wrap l.seq) l.initial.out l.behind (wrap_seq_text l.wrap (chunks_rest l.line-iterator)) l.out;
    }
