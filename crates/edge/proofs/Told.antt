-- What the writers answer, told as numbers, and a description that is told by a flag. Assumes nothing.
use Rattle.std.proofs.Common.{ℕ, List, ◌≡◌, refl, ap, ◌∙◌, Bool, true, false, Bor}
use Rattle.std.specs.Prelude as rattle
use Rattle.std.specs.Bool.{then_some}
use Rattle.std.specs.Prelude.{Result, Ok, Err}
use Rattle.write.specs.Output as free
use Rattle.write.specs.declared.error.WriteError.{WriteError}
use Rattle.rewrite.specs.Refused as refused
use Rattle.rewrite.specs.Rewrite as rewrites
use Rattle.rewrite.specs.declared.error.RewriteError.{RewriteError}
use Rattle.edge.specs.Edge.{told, told_by}

pub told-write : (r : Result ℕ WriteError) (exit : List ℕ) → told_by free.number_of free.need_of r exit ≡ told (free.left r exit)
told-write (Ok n) exit = refl
told-write (Err e) exit = refl

pub told-rewrite : (r : Result ℕ RewriteError) (exit : List ℕ) → told_by refused.number_of refused.need_of r exit ≡ told (rewrites.left r exit)
told-rewrite (Ok n) exit = refl
told-rewrite (Err e) exit = refl

-- a description that is there where the flag says so
pub described-by :
    (with : Bool) (desc : Bor (List ℕ)) (given : rattle.Option (Bor (List ℕ))) →
    given ≡ then_some with desc →
    free.bytes_of given ≡ free.described with desc.now
described-by with desc given is = ap free.bytes_of is ∙ go with
  where
    go : (t : Bool) → free.bytes_of (then_some t desc) ≡ free.described t desc.now
    go true = refl
    go false = refl
