-- Views of a record (01, module 5). The record is given in bytes w by the place of its `>` (start) and its recorded ends, the head's end
-- first. A view answers the extent of a part; what it shows is the bytes there. Assumes nothing.
use Rattle.std.specs.Prelude.{ℕ, suc, ◌+◌, ◌-◌, cond, ◌&&◌, List, [], ◌∷◌, ◌≡◌, length, get_or, take, drop, ltb, leb, Option, Some, None, Result, Ok, Err}
use Rattle.std.proofs.Math.Option.{Option as Maybe, none as without, some}
use Rattle.meaning.specs.Line.{trim_cr}
use Rattle.meaning.specs.Parts.{id_of, desc_of}
use Rattle.view.specs.Rising.{rising}
use Rattle.view.specs.declared.Extent.{Extent}
use Rattle.view.specs.declared.Record.{Record}
use Rattle.view.specs.declared.error.ViewError.{ViewError}
use Rattle.view.specs.Refused.{number_of_view}

-- what a view says: the part from one place up to another, that there is none, or a refusal by its number with its values
pub data Shown : Type 0 where
  part : (from to : ℕ) → Shown
  none : Shown
  refuses : (number : ℕ) (values : List ℕ) → Shown

-- a `View`, since antt has no name for an alias
abbrev pub Viewed : Type 0
Viewed = Result (Option Extent) ViewError

abbrev pub says : Viewed → Shown
says (Ok (Some extent)) = part extent.from extent.to
says (Ok None) = none
says (Err error) = refuses (number_of_view error) []

-- refusal 11, unless the ends that the call uses are rising between start and the bytes' length
unfoldable pub if_rising : (w : List ℕ) (start : ℕ) (used : List ℕ) → Shown → Shown
if_rising w start used s = cond (rising start used (length w)) s (refuses 11 [])

-- the line from a up to e, without one trailing `\r`
abbrev pub line_of : (w : List ℕ) (a e : ℕ) → List ℕ
line_of w a e = trim_cr (take (e - a) (drop a w))

-- its extent
abbrev pub extent : (w : List ℕ) (a e : ℕ) → Shown
extent w a e = part a (a + length (line_of w a e))

-- the head: the first line, without `>`
unfoldable pub head_in : (w : List ℕ) (start : ℕ) (ends : List ℕ) → Shown
unfolding if_rising
head_in w start [] = refuses 11 []
head_in w start (e ∷ es) = if_rising w start (e ∷ []) (extent w (suc start) e)

-- the id: the head up to its first space
unfoldable pub id_in : (w : List ℕ) (start : ℕ) (ends : List ℕ) → Shown
unfolding if_rising
id_in w start [] = refuses 11 []
id_in w start (e ∷ es) =
    if_rising w start (e ∷ []) (part (suc start) (suc start + length (id_of (line_of w (suc start) e))))

-- the description: all after that space, or none without a space
abbrev pub after : (place : ℕ) → Maybe (List ℕ) → Shown
after place without = none
after place (some desc) = part place (place + length desc)

unfoldable pub desc_in : (w : List ℕ) (start : ℕ) (ends : List ℕ) → Shown
unfolding if_rising
desc_in w start [] = refuses 11 []
desc_in w start (e ∷ es) =
    let head = line_of w (suc start) e in
    if_rising w start (e ∷ []) (after (suc (suc start + length (id_of head))) (desc_of head))

-- the last of some ends, of which e is the first
abbrev pub last_of : (e : ℕ) → List ℕ → ℕ
last_of e [] = e
last_of e (f ∷ es) = last_of f es

-- the raw sequence: from behind the first end to the last, one final `\r` trimmed; empty without lines
unfoldable pub seq_in : (w : List ℕ) (start : ℕ) (ends : List ℕ) → Shown
unfolding if_rising
seq_in w start [] = refuses 11 []
seq_in w start (e ∷ []) = if_rising w start (e ∷ []) (part e e)
seq_in w start (e ∷ f ∷ es) = if_rising w start (e ∷ last_of f es ∷ []) (extent w (suc e) (last_of f es))

-- sequence line i: from behind end i up to end i + 1; refusal 8 if i is not below their count
unfoldable pub line_in : (w : List ℕ) (start : ℕ) (ends : List ℕ) (i : ℕ) → Shown
unfolding if_rising
line_in w start [] i = refuses 11 []
line_in w start (e ∷ es) i =
    let a = get_or (e ∷ es) i 0 in
    let b = get_or es i 0 in
    cond (ltb i (length es)) (if_rising w start (a ∷ b ∷ []) (extent w (suc a) b)) (refuses 8 [])

-- the number of sequence lines: the head's end is none of theirs
abbrev pub line_count : (ends : List ℕ) → ℕ
line_count ends = length ends - 1

-- the bytes from a up to e, empty where they do not lie in w
unfoldable pub between : (w : List ℕ) (a e : ℕ) → List ℕ
between w a e = cond (leb a e && leb e (length w)) (take (e - a) (drop a w)) []

-- the part itself, empty on a refusal and where there is none
unfoldable pub shown_in : (w : List ℕ) → Shown → List ℕ
unfolding between
shown_in w (part a e) = between w a e
shown_in w none = []
shown_in w (refuses number values) = []

-- the promises; one of bytes, start and ends as one of a record
abbrev pub Of : {A : Type 0} → (P : (w : List ℕ) (start : ℕ) (ends : List ℕ) → A → Type 0) → Record → A → Type 0
Of P r = P r.bytes.now r.start r.ends.now

abbrev pub HeadIn : (w : List ℕ) (start : ℕ) (ends : List ℕ) → Viewed → Type 0
HeadIn w start ends r = says r ≡ head_in w start ends

abbrev pub IdIn : (w : List ℕ) (start : ℕ) (ends : List ℕ) → Viewed → Type 0
IdIn w start ends r = says r ≡ id_in w start ends

abbrev pub DescIn : (w : List ℕ) (start : ℕ) (ends : List ℕ) → Viewed → Type 0
DescIn w start ends r = says r ≡ desc_in w start ends

abbrev pub SeqIn : (w : List ℕ) (start : ℕ) (ends : List ℕ) → Viewed → Type 0
SeqIn w start ends r = says r ≡ seq_in w start ends

abbrev pub LineIn : (w : List ℕ) (start : ℕ) (ends : List ℕ) (i : ℕ) → Viewed → Type 0
LineIn w start ends i r = says r ≡ line_in w start ends i

abbrev pub NumberOfLines : (ends : List ℕ) (r : ℕ) → Type 0
NumberOfLines ends r = r ≡ line_count ends

abbrev pub ShownIn : Viewed → (w r : List ℕ) → Type 0
ShownIn view w r = r ≡ shown_in w (says view)
