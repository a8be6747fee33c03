-- Any two answers that one promise of a `RefRecord` allows are the same: what is made is said whole, and what is shown is what a view of a
-- reader's current record shows, which is one (crate view, Unique.antt). Assumes nothing.
use Prim.Native.Nat.{ℕ}
use mathlib.Core.List.{List}
use mathlib.Core.Path.{◌≡◌, sym, ◌∙◌}
use denote.Ref.{Bor}
use Rattle.reader.specs.declared.state.Reader.{Reader}
use Rattle.view.specs.Current.{Head, Id, Desc, Seq}
use Rattle.view.specs.View.{Viewed}
use Rattle.view.proofs.Unique.{current-head-unique, current-id-unique, current-desc-unique, current-seq-unique, current-line-unique, shown-unique as part-unique}
use Rattle.refrecord.specs.Record.{New, Of, LineOf, ShownOf}
use Rattle.refrecord.specs.declared.RefRecord.{RefRecord}

pub new-unique : (reader : Reader) (window ends : Bor (List ℕ)) (r s : RefRecord) → New reader window ends r → New reader window ends s → r ≡ s
new-unique reader window ends r s p q = p ∙ sym q

pub head-unique : (d : RefRecord) (r s : Viewed) → Of Head d r → Of Head d s → r ≡ s
head-unique d = current-head-unique d.reader d.window.now d.ends.now

pub id-unique : (d : RefRecord) (r s : Viewed) → Of Id d r → Of Id d s → r ≡ s
id-unique d = current-id-unique d.reader d.window.now d.ends.now

pub desc-unique : (d : RefRecord) (r s : Viewed) → Of Desc d r → Of Desc d s → r ≡ s
desc-unique d = current-desc-unique d.reader d.window.now d.ends.now

pub seq-unique : (d : RefRecord) (r s : Viewed) → Of Seq d r → Of Seq d s → r ≡ s
seq-unique d = current-seq-unique d.reader d.window.now d.ends.now

pub line-unique : (d : RefRecord) (i : ℕ) (r s : Viewed) → LineOf d i r → LineOf d i s → r ≡ s
line-unique d = current-line-unique d.reader d.window.now d.ends.now

pub shown-unique : (d : RefRecord) (view : Viewed) (r s : List ℕ) → ShownOf d view r → ShownOf d view s → r ≡ s
shown-unique d view = part-unique view d.window.now
