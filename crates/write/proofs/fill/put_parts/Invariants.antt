-- The loop of `put_parts`: the parts from the next one on are what is still to be put (`Rest`).
use Rattle.std.proofs.Common.{drop}
use Rattle.write.specs.Put.{text_of}
use Rattle.write.proofs.Putting.{Rest}
use Rattle.write.proofs.fill.put_parts.Given as goal

abbrev pub invariant-loop-part : goal.invariant-loop-part
invariant-loop-part l =
    Rest l.at (text_of l.parts) l.initial.out l.behind (text_of (drop l.part-index l.parts)) l.out
