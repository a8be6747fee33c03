-- The loop of `parts_len`: the length of the parts so far.
use Rattle.std.proofs.Common.{◌≡◌, length, take}
use Rattle.write.specs.Put.{text_of}
use Rattle.write.specs.Output.{cut}
use Rattle.write.proofs.fill.parts_len.Given as goal

abbrev pub invariant-loop-part : goal.invariant-loop-part
invariant-loop-part l = l.len ≡ cut (length (text_of (take l.part-index l.parts)))
