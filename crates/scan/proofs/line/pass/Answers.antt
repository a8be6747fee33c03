-- Blocks without a `\n` are passed; where one is left, its end is near.
use Rattle.std.proofs.Common.{ℕ, List, ◌≡◌, ◌+◌, ◌-◌, sym, ap, ◌∙◌, arith}
use Rattle.std.specs.Prelude.{take, drop}
use Rattle.scan.proofs.LineLaws.{line-end-within, line-end-behind, line-end-inside}
use Rattle.scan.proofs.line.pass.Goals as goal

-- the block from a place up to another
block : (s : List ℕ) (i n : ℕ) → take (i + n - i) (drop i s) ≡ take n (drop i s)
block s i n = let count : i + n - i ≡ n = omega arith in ap (λ (k : ℕ). take k (drop i s)) count

pub loop-i-preserved : goal.loop-i-preserved
loop-i-preserved g c =
    let s = c.args.bytes.now in
    let i = c.loop-i.i in
    c.loop-i.invariant ∙ line-end-behind s i g.row.N _ (block s i g.row.N) (omega arith) (sym c.if-not-contains.ensures.value)

pub returns-else-not-contains-clause-near : goal.returns-else-not-contains-clause-near
returns-else-not-contains-clause-near g c =
    let s = c.args.bytes.now in
    let i = c.loop-i.i in
    line-end-inside s i g.row.N _ (block s i g.row.N) (omega arith) (sym c.if-not-contains.ensures.value)

pub returns-after-loop-i-clause-near : goal.returns-after-loop-i-clause-near
returns-after-loop-i-clause-near g c = omega (arith, line-end-within c.args.bytes.now c.loop-i.i)
