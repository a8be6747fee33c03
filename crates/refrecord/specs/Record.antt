-- A record that borrows window and line ends (01, module 8) is the reader and the two slices that it was made of. What its functions answer
-- is said by the views of a reader's current record (crate view, Current.antt). Assumes nothing.
use Rattle.std.specs.Prelude.{ℕ, List, ◌≡◌}
use Rattle.std.specs.Borrow.{Bor}
use Rattle.reader.specs.declared.state.Reader.{Reader}
use Rattle.view.specs.Current.{Line}
use Rattle.view.specs.View.{Viewed, ShownIn}
use Rattle.refrecord.specs.declared.RefRecord.{RefRecord}

abbrev pub borrowing : Reader → (window ends : Bor (List ℕ)) → RefRecord
borrowing reader window ends = record { reader = reader; window = window; ends = ends }

-- the promises: of what is made, and of what a view P of a reader's current record shows of it
abbrev pub New : Reader → (window ends : Bor (List ℕ)) → RefRecord → Type 0
New reader window ends r = r ≡ borrowing reader window ends

abbrev pub Of : (P : Reader → (w ends : List ℕ) → Viewed → Type 0) → RefRecord → Viewed → Type 0
Of P r = P r.reader r.window.now r.ends.now

abbrev pub LineOf : RefRecord → (i : ℕ) → Viewed → Type 0
LineOf r i = Line r.reader r.window.now r.ends.now i

abbrev pub ShownOf : RefRecord → Viewed → List ℕ → Type 0
ShownOf r view = ShownIn view r.window.now
