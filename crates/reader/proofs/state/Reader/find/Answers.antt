-- A search keeps refusal 11's facts, and the end closes what it found. Assumes nothing.
use Rattle.std.proofs.Common.{sym, ap, subst, ◌∙◌}
use Rattle.reader.specs.declared.state.Reader.{Reader}
use Rattle.reader.specs.Read.{closed_to}
use Rattle.reader.proofs.FoundLaws.{Usable, found-usable, found-by}
use Rattle.reader.proofs.state.Reader.find.Goals as goal

pub returns : goal.returns
returns c =
    let found = c.search_in-found in
    let same = c.close.ensures ∙ ap (λ (r : Reader). closed_to found.result.stop r found.new.ends) c.reach.ensures in
    let usable = subst (Usable c.args.window.now) (sym same) (found-usable _ _ _ c.requires _ _ found.ensures) in
    record { found = same ∙ found-by _ _ _ _ found.ensures; place = usable.place; going = usable.going }
