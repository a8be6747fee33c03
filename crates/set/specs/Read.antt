-- What a set call answers and leaves (01, module 6 and refusal 12): "the filled bytes are copied, with start and line
-- ends per record, for every record from the current place that is whole in the window, fits the set's tables and
-- meets no refusal; at least one. The rest is read next. An ask, the end or a refusal leaves the set untouched with
-- count 0." Order: 11, its byte length, then 2 to 5, then its tables. Assumes nothing.
use Rattle.std.specs.Prelude.{ℕ, zero, suc, ◌+◌, ◌-◌, Bool, true, false, ◌&&◌, eqb, ltb, leb, ◌≡◌}
use Rattle.std.specs.Prelude.{List, [], ◌∷◌, length, take, set}
use Rattle.std.proofs.Math.Bool.{cond}
use Rattle.scan.specs.Move.{pasted}
use Rattle.reader.specs.declared.state.Reader.{Reader}
use Rattle.reader.specs.State.{sane, lent_as}
use Rattle.reader.specs.Read as read
use Rattle.reader.specs.Read.{Did, read_of}
use Rattle.reader.specs.Look.{Seen, Looked, whole, unfinished, over, denied, look_of, put_back_of}
use Rattle.set.specs.declared.gather.Tables.{Tables}
use Rattle.set.specs.declared.state.Set.{Set}
use Rattle.set.specs.declared.state.Filled.{Filled}
use Rattle.set.specs.declared.state.Filled.TheVariants as filled
use Rattle.set.specs.declared.state.NextSet.{NextSet}
use Rattle.set.specs.Set.{sound}

-- what is said: an ask, a set of so many records and bytes, the end, or a refusal by its number with its values
pub data Said : Type 0 where
  asks : (place room offset : ℕ) → Said
  holds : (count filled : ℕ) → Said
  ends : Said
  refuses : (number : ℕ) (values : List ℕ) → Said

-- a reader on its way through the window, and the tables so far: `count` records with `used` ends
pub record Gathered : Type 0 where
  pub reader : Reader
  pub table : List ℕ
  pub count : ℕ
  pub used : ℕ
  pub marks : List ℕ
  pub ends : List ℕ

abbrev pub gathered : Reader → (table : List ℕ) (count used : ℕ) (marks es : List ℕ) → Gathered
gathered r e count used marks es =
    record { reader = r; table = e; count = count; used = used; marks = marks; ends = es }

abbrev pub gathered_by : Reader → (table : List ℕ) → Gathered → Gathered
gathered_by r e g = gathered r e g.count g.used g.marks g.ends

-- the ends of the current record fit the table
abbrev pub fits : Gathered → Bool
fits g = leb (g.used + g.reader.mark.count) (length g.ends)

-- how many records a table of marks has room for
abbrev pub pairs : List ℕ → ℕ
pairs [] = 0
pairs (x ∷ []) = 0
pairs (x ∷ y ∷ ms) = suc (pairs ms)

-- the tables have room for the current record
abbrev pub has_room : Gathered → Bool
has_room g = ltb g.count (pairs g.marks) && fits g

-- the same of the tables as they are lent
abbrev pub gathered_in : Reader → (table : List ℕ) → Tables → Gathered
gathered_in r e t = gathered r e t.count t.used t.marks.now t.ends.now

-- the current record behind those that the set has
abbrev pub put : Gathered → Gathered
put g =
    let k = g.count in
    let n = g.used + g.reader.mark.count in
    record {
      reader = g.reader;
      table = g.table;
      count = suc k;
      used = n;
      marks = set (set g.marks (k + k) g.reader.mark.start.0) (k + k + 1) n;
      ends = pasted g.used (take g.reader.mark.count g.table) g.ends;
    }

abbrev pub put_if : Bool → Gathered → Gathered
put_if true g = put g
put_if false g = g

-- a record that does not fit is found again by the next call
abbrev pub back : Gathered → Gathered
back g = gathered_by (put_back_of g.reader) g.table g

abbrev pub is_whole : Seen → Bool
is_whole (whole l b) = true
is_whole unfinished = false
is_whole over = false
is_whole (denied n) = false

-- by what a look saw: a whole record goes on, any other is left to the next call
abbrev pub by_look : (more : Gathered → Gathered) → Gathered → Looked → Gathered
by_look more g k =
    let q = gathered_by k.reader k.table g in
    elim k.seen [ whole l b ↦ more q | unfinished ↦ q | over ↦ q | denied n ↦ q ]

-- More records, of which the table has room for so many: as long as the next one is whole in the window and fits.
unfoldable pub gather : (room : ℕ) (w : List ℕ) → Gathered → Gathered
unfolding look_of put_back_of
gather zero w g = by_look (λ (q : Gathered). back q) g (look_of g.reader w g.table)
gather (suc room) w g =
    by_look (λ (q : Gathered). elim (fits q) [ true ↦ gather room w (put q) | false ↦ back q ]) g
    (look_of g.reader w g.table)

-- as many as the table of marks has room for
abbrev pub gather_all : (w : List ℕ) → Gathered → Gathered
gather_all w g = gather (pairs g.marks - g.count) w g

-- what a set call says and leaves
pub record Called : Type 0 where
  pub said : Said
  pub reader : Reader
  pub window : List ℕ
  pub table : List ℕ
  pub set : Set
  pub bytes : List ℕ
  pub marks : List ℕ
  pub ends : List ℕ

-- the set with count 0
abbrev pub emptied : Set → Set
emptied s = record { filled = s.filled; count = 0; line = s.line; base = s.base }

-- a set of the gathered records; the reader stood at the first
abbrev pub holding : Reader → Gathered → (w bytes : List ℕ) → Called
holding first g w bytes =
    record {
      said = holds g.count first.fill.filled;
      reader = g.reader;
      window = w;
      table = g.table;
      set = record { filled = first.fill.filled; count = g.count; line = first.mark.line; base = first.fill.base };
      bytes = bytes;
      marks = g.marks;
      ends = g.ends;
    }

module _ (s : Set) (bytes marks es : List ℕ) where
  -- the set's slices untouched
  abbrev pub leaves : Said → Reader → (w e : List ℕ) → Set → Called
  leaves a r w e t =
      record { said = a; reader = r; window = w; table = e; set = t; bytes = bytes; marks = marks; ends = es }

  -- 12: "set untouched, count 0"
  abbrev pub refused12 : Reader → (w e : List ℕ) → Called
  refused12 r w e = leaves (refuses 12 []) r w e (emptied s)

  -- the filled bytes are copied, and the tables are as they were gathered; d is what the read of the first record left
  abbrev pub filled_with : Did → Gathered → Called
  filled_with d g = holding d.reader g d.window (pasted 0 (take d.reader.fill.filled d.window) bytes)

  -- behind the first record, of which the table of marks has room for so many: "the next record doesn't fit its
  -- tables .. the next read gives that record"
  abbrev pub collected_in : (room : ℕ) → Did → Called
  collected_in zero d = refused12 (put_back_of d.reader) d.window d.table
  collected_in (suc room) d =
      let g = gathered d.reader d.table 0 0 marks es in
      cond (fits g) (filled_with d (gather room d.window (put g))) (refused12 (put_back_of d.reader) d.window d.table)

  -- what follows the read of the next record, by what it said; 11 changes nothing, the set's count neither
  abbrev pub after_read : read.Said → Did → Called
  after_read (read.asks p m o) d = leaves (asks p m o) d.reader d.window d.table (emptied s)
  after_read (read.gives l b) d = collected_in (pairs marks) d
  after_read read.ends d = leaves ends d.reader d.window d.table (emptied s)
  after_read (read.refuses n vs) d = leaves (refuses n vs) d.reader d.window d.table (cond (eqb n 11) s (emptied s))

  -- the call: 11, its byte length, the read, its tables
  unfoldable pub set_of : Reader → (w e : List ℕ) → Called
  unfolding sane lent_as sound read_of gather put_back_of pasted
  set_of r w e =
      let d = read_of r w e in
      cond (sane r && lent_as r (length w) (length e) && sound s (length bytes) (length marks))
      (cond (ltb (length bytes) (length w)) (refused12 r w e) (after_read d.said d))
      (leaves (refuses 11 []) r w e s)

-- what is said by an answer, with 01's numbers
abbrev pub said_by : Filled → Said
said_by (filled.Ask a) = asks a.place.0 a.room a.offset.0
said_by (filled.Records count n) = holds count n
said_by filled.End = ends
said_by (filled.Start l x) = refuses 2 (l ∷ x ∷ [])
said_by (filled.Window p) = refuses 3 (p.line ∷ p.byte.0 ∷ [])
said_by (filled.Table p) = refuses 4 (p.line ∷ p.byte.0 ∷ [])
said_by filled.Place = refuses 5 []
said_by filled.State = refuses 11 []
said_by filled.Room = refuses 12 []

abbrev pub called : NextSet → (w e bytes marks es : List ℕ) → Called
called n w e bytes marks es =
    record {
      said = said_by n.answer;
      reader = n.reader;
      window = w;
      table = e;
      set = n.set;
      bytes = bytes;
      marks = marks;
      ends = es;
    }

-- the promise of `next_set`
abbrev pub SetIs :
    Set → (bytes marks es : List ℕ) → Reader → (w e : List ℕ) → NextSet → (w' e' bytes' marks' es' : List ℕ) → Type 0
SetIs s bytes marks es r w e n w' e' bytes' marks' es' =
    called n w' e' bytes' marks' es' ≡ set_of s bytes marks es r w e
