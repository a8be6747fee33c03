-- `position` by what was called and heard, proved (01, "The window and its refills"; specs/Position.antt): an invariant of the reader's own
-- numbers, which setup begins with and every call keeps. A record that is searched stands in the window, so the end is never said in its
-- place: where the end is said, the reader still holds the last record given, or none was given. Assumes nothing.
use Prim.Native.Nat.{ℕ, zero, suc, ◌+◌, ◌≤◌, ◌<◌}
use native.Mathlib.Decide.{dec_le}
use native.Mathlib.Nat.{eq-or-lt_of_le}
use native.Mathlib.Omega.{arith}
use mathlib.Core.Bool.{Bool, true, false, cond, not, ◌&&◌, false≢true}
use mathlib.Core.List.{List, [], ◌∷◌, map}
use mathlib.Core.Logic.{⊎_elim, inl, inr}
use mathlib.Core.Option.{Option, none, some}
use mathlib.Core.Path.{◌≡◌, refl, sym, ap, subst, ◌∙◌}
use lib.ListN.{length, get_or, take, drop}
use lib.Dec.{eqb, ltb}
use borrow.Author.Tests.{eqb-true, eqb-false, ne_eqb, ltb-true}
use Rattle.growth.specs.declared.Policy.{Policy}
use Rattle.growth.specs.Chain.{largest}
use Rattle.scan.specs.Search.{Recorded, lead_at}
use Rattle.scan.specs.declared.ends.Stop.{Stop}
use Rattle.scan.specs.declared.ends.Stop.TheVariants as stop
use Rattle.scan.specs.declared.line.Blank.{Blank}
use Rattle.scan.proofs.SearchLaws.{Stopped}
use Rattle.window.specs.Fill.{Sound, asking, ready, slid, of_capacity, widened_to, wider}
use Rattle.window.specs.declared.fill.Fill.{Fill}
use Rattle.window.proofs.Laws.{sound-slid}
use Rattle.reader.specs.declared.state.Reader.{Reader}
use Rattle.reader.specs.declared.state.Phase.{Phase}
use Rattle.reader.specs.declared.state.Phase.TheVariants as phase
use Rattle.reader.specs.State.{Good, byte_of, sane, lent_as, with_fill, in_phase, is_current}
use Rattle.reader.specs.Read.{Said, asks, gives, ends, refuses, Did, does, asked, placed, given, too_long, too_many, reached, moved_to_front, makes_room, closed, stopped, searches, hunted, begins_at, passed, when_ready, behind, sought_at, onward, led, led_to, lead_dropped, lasts, read_in, read_of}
use Rattle.reader.specs.Calls.{Left, Place, at, nowhere, unknown, shown_in, report_of, seek_of}
use Rattle.reader.proofs.Sanity.{and-true, sane-true}
use Rattle.reader.proofs.ReadLaws.{closed-full, closed-more, room-moves, room-wider, room-none, hunt-goes, filled-told, filled-not, waits, is-ready, behind-ended, behind-next, sought-mark, sought-astray, onward-waits, onward-goes, on-rising, searching-good, led-by, led_on, led-mark, led-refused, lead-over, lead-asks, lead-in, lead-begins, begins-good, passed-good, lent-true, neither, read-repeats, read_goes}
use Rattle.reader.proofs.CallLaws.{place-shown}
use Rattle.reader.proofs.Kept.{is_searching, Behind, begun-behind, filled-bytes, stops, kept-searched, kept-rising}
use Rattle.runs.specs.Run.{State, state, Made, reading, setting, after_set, Event, read, collected, Run, begun, by_read, by-set, by_report, by_seek, by_refused_report, by_refused_seek}
use Rattle.runs.specs.Position.{last_given, named, place_due, next_record, by_set, position_after, Positions}
use Rattle.runs.specs.Demand.{origin, answers, due_from}
use Rattle.meaning.specs.Due as meant
use Rattle.meaning.proofs.Due.{said_of}
use Rattle.reader.specs.Look.{put_back_of}
use Rattle.reader.proofs.LookLaws.{put-current}
use Rattle.set.specs.declared.state.Set.{Set}
use Rattle.set.specs.Set.{sound}
use Rattle.set.specs.Read as set
use Rattle.set.specs.Read.{Gathered, Called, fits, put, gather, pairs, refused12, filled_with, collected_in, after_read}
use Rattle.runs.proofs.Step.{still-tells}
use Rattle.runs.proofs.Gather.{Given}
use Rattle.runs.proofs.SetCall.{unsound, short, reads, first, begun as begun-set, going, same-fill, few}
use Rattle.runs.proofs.SetPlace.{Ends, back-ahead, gather-ends, First, first-searched}
use Rattle.runs.proofs.Demand.{nth_after}
use Rattle.runs.proofs.Tells.{Tells, due_in, due_to}
use Rattle.runs.proofs.Calls.{filled_by, taken, seeks, report-refused, seek-refused}
use Rattle.runs.proofs.Reached.{Reached, runs_on, reached-made, made-is}

abbrev is_at : Place → Bool
is_at (at l b) = true
is_at nowhere = false
is_at (unknown n) = false

-- the phases in which a read may say the end
abbrev may_end : Phase → Bool
may_end phase.Lead = true
may_end phase.Sought = false
may_end phase.Searching = false
may_end phase.Current = true
may_end phase.Ended = true
may_end phase.Over = true
may_end phase.Window = false
may_end phase.Table = false
may_end phase.Astray = false
may_end phase.Ahead = false

-- A record that is searched stands in the window. So does the one behind a current record, unless the end was told.
abbrev Inside : Phase → Reader → Type 0
Inside phase.Lead r = Unit {0}
Inside phase.Sought r = Unit {0}
Inside phase.Searching r = r.mark.start.0 < r.fill.filled
Inside phase.Current r = r.fill.told ≡ false → r.mark.search.0 < r.fill.filled
Inside phase.Ended r = Unit {0}
Inside phase.Over r = Unit {0}
Inside phase.Window r = Unit {0}
Inside phase.Table r = Unit {0}
Inside phase.Astray r = Unit {0}
Inside phase.Ahead r = r.mark.start.0 < r.fill.filled

-- What a reader shows is `now`, and where the end may be said, that is `last`, the last record given. While an ask is open, it shows none.
record Shows (p : Phase) (now last : Place) (r : Reader) : Type 0 where
  shown : shown_in p r ≡ now
  last-given : may_end p ≡ true → shown_in p r ≡ last
  inside : Inside p r
  asking_none : r.fill.asking ≡ true → shown_in p r ≡ nowhere

-- a place is not none
at-nowhere : {l b : ℕ} → at l b ≡ nowhere → ⊥
at-nowhere e = false≢true (sym (ap is_at e))

-- by a read's answer
abbrev place_read : Said → (last : Place) → Place
place_read (asks p m o) last = nowhere
place_read (gives l b) last = at l b
place_read ends last = last
place_read (refuses n vs) last = named n vs

abbrev last_read : Said → (last : Place) → Place
last_read (asks p m o) last = last
last_read (gives l b) last = at l b
last_read ends last = last
last_read (refuses n vs) last = last

-- after a read
abbrev After : (last : Place) → Did → Type 0
After last d = Shows d.reader.phase (place_read d.said last) (last_read d.said last) d.reader

as-after : (last : Place) {d o : Did} → d ≡ o → After last o → After last d
as-after last is k = subst (After last) (sym is) k

-- the same reader in the phase that it has
in-phase : {now last : Place} (r : Reader) (p : Phase) → r.phase ≡ p → Shows p now last r → Shows r.phase now last r
in-phase {now} {last} r p is k = subst (λ (q : Phase). Shows q now last r) (sym is) k

-- each answer, by what it leaves
module _ (last : Place) (r : Reader) (w e : List ℕ) where
  asked-lead : r.phase ≡ phase.Lead → nowhere ≡ last → After last (asked r w e)
  asked-lead is none-given =
      in-phase (with_fill (asking true r.fill) r) phase.Lead is (record { shown = refl; last-given = λ q. none-given; inside = tt; asking_none = λ q. refl })

  asked-sought : r.phase ≡ phase.Sought → After last (asked r w e)
  asked-sought is =
      in-phase (with_fill (asking true r.fill) r) phase.Sought is
      (record { shown = refl; last-given = λ q. absurd (false≢true q); inside = tt; asking_none = λ q. refl })

  asked-searching : r.phase ≡ phase.Searching → r.mark.start.0 < r.fill.filled → After last (asked r w e)
  asked-searching is here =
      in-phase (with_fill (asking true r.fill) r) phase.Searching is
      (record { shown = refl; last-given = λ q. absurd (false≢true q); inside = here; asking_none = λ q. refl })

  -- the end, where no record was given; refusals 2 and 5
  over-ends : nowhere ≡ last → After last (does ends (in_phase phase.Over r) w e)
  over-ends none-given = record { shown = none-given; last-given = λ q. none-given; inside = tt; asking_none = λ q. refl }

  over-refused : (l x : ℕ) → nowhere ≡ last → After last (does (refuses 2 (l ∷ x ∷ [])) (in_phase phase.Over r) w e)
  over-refused l x none-given = record { shown = refl; last-given = λ q. none-given; inside = tt; asking_none = λ q. refl }

  astray : After last (does (refuses 5 []) (in_phase phase.Astray r) w e)
  astray = record { shown = refl; last-given = λ q. absurd (false≢true q); inside = tt; asking_none = λ q. refl }

  -- what shows a record asks nothing
  module _ (quiet : r.fill.asking ≡ false) where
    not-asking : {A : Type 0} → r.fill.asking ≡ true → A
    not-asking q = absurd (false≢true (sym quiet ∙ q))

    shows-given : (r.fill.told ≡ false → r.mark.search.0 < r.fill.filled) → After last (given r w e)
    shows-given here = record { shown = refl; last-given = λ q. refl; inside = here; asking_none = not-asking }

    shows-long : After last (too_long r w e)
    shows-long = record { shown = refl; last-given = λ q. absurd (false≢true q); inside = tt; asking_none = not-asking }

    shows-many : After last (too_many r w e)
    shows-many = record { shown = refl; last-given = λ q. absurd (false≢true q); inside = tt; asking_none = not-asking }

    shows-ended : at r.mark.line (byte_of r) ≡ last → After last (does ends (in_phase phase.Ended r) w e)
    shows-ended same = record { shown = same; last-given = λ q. same; inside = tt; asking_none = not-asking }

-- a search that came somewhere, of a record that stands in the window
module _
    (last : Place) (r : Reader) (w e : List ℕ) (sound : Sound r.fill) (is : r.phase ≡ phase.Searching) (quiet : r.fill.asking ≡ false)
    (here : r.mark.start.0 < r.fill.filled)
  where
    -- the record moves to the front: it still stands in what is left
    by_move : 0 < r.mark.start.0 → After last (makes_room r w e)
    by_move pos =
        let start = r.mark.start.0 in
        let left : 0 < (slid start r.fill).filled = rw (sound-slid r.fill sound start (omega arith)) (omega arith) in
        as-after last (room-moves r w e pos) (asked-searching last (moved_to_front r) w e is left)

    -- the record moves, the window grows, or the record is refused
    by-room : After last (makes_room r w e)
    by-room = go (dec_le r.mark.start.0 0)
      where
        grows : r.mark.start.0 ≤ 0 → (o : Option ℕ) → widened_to r.fill ≡ o → After last (makes_room r w e)
        grows z none q = as-after last (room-none r w e z (sym (ap (λ (o : Option ℕ). wider o r.fill) q))) (shows-long last r w e quiet)
        grows z (some c) q =
            as-after last (room-wider r w e z (of_capacity c r.fill) (sym (ap (λ (o : Option ℕ). wider o r.fill) q)))
            (asked-searching last (with_fill (of_capacity c r.fill) r) w e is here)

        go : Dec (r.mark.start.0 ≤ 0) → After last (makes_room r w e)
        go (yes z) = grows z (widened_to r.fill) refl
        go (no z) = by_move (omega arith)

    -- the end closes the record
    by_end : r.fill.told ≡ true → After last (closed r.mark.search.0 r w e)
    by_end told = go (dec_le r.slots r.mark.count)
      where
        go : Dec (r.slots ≤ r.mark.count) → After last (closed r.mark.search.0 r w e)
        go (yes u) = as-after last (closed-full r w e r.mark.search.0 u) (shows-many last (reached r.mark.search.0 r.mark.count r) w e quiet)
        go (no u) =
            as-after last (closed-more r w e r.mark.search.0 (omega arith))
            (shows-given last (reached r.fill.filled (r.mark.count + 1) r) w e quiet (λ no'. absurd (false≢true (sym no' ∙ told))))

    by-stop : (s : Stop) → (s ≡ stop.Record → r.mark.search.0 < r.fill.filled) → After last (stopped s r w e)
    by-stop stop.Record next = shows-given last r w e quiet (λ no'. next refl)
    by-stop stop.Full next = shows-many last r w e quiet
    by-stop stop.Filled next = go r.fill.told refl
      where
        go : (t : Bool) → r.fill.told ≡ t → After last (stopped stop.Filled r w e)
        go true t = as-after last (filled-told r w e t) (by_end t)
        go false t = as-after last (filled-not r w e t) by-room

-- a search
module _
    (last : Place) (r : Reader) (w e : List ℕ) (g : Good r w e) (b : Behind true r.mark e) (is : r.phase ≡ phase.Searching)
    (quiet : r.fill.asking ≡ false) (here : r.mark.start.0 < r.fill.filled)
  where
    abbrev found : Recorded
    found = searches r w e

    -- a search that stopped at a `>` stopped in the window
    at_mark : found.out.stop ≡ stop.Record → found.out.at < r.fill.filled
    at_mark q =
        let marked = subst (Stopped (take r.fill.filled w) r.mark.count r.slots 62 found.out found.ends) q (stops r w e g b) in
        omega (arith, marked.inside, filled-bytes r w e g)

    by-hunt : After last (hunted r w e)
    by-hunt =
        let other : r.mark.start.0 ≡ r.fill.filled → ⊥ = λ same. omega arith in
        as-after last
        (hunt-goes r w e
        (neither r.fill.told (eqb r.mark.start.0 r.fill.filled) (inr (ne_eqb r.mark.start.0 r.fill.filled other)))
        found refl)
        (by-stop last (reached found.out.at found.out.count r) w found.ends g.is-sane.window_sound is quiet here found.out.stop at_mark)

-- a record that begins in the window
by-begun :
    (last : Place) (r : Reader) (w e : List ℕ) (start line : ℕ) → Good (begins_at start line r) w e → r.fill.asking ≡ false → start < r.fill.filled →
    After last (hunted (begins_at start line r) w e)
by-begun last r w e start line g quiet here = by-hunt last (begins_at start line r) w e g (begun-behind (begins_at start line r) w e refl) refl quiet here

-- a read, no ask being open
module _ (last : Place) (r : Reader) (w e : List ℕ) (g : Good r w e) (quiet : r.fill.asking ≡ false) where
  by-lead : r.phase ≡ phase.Lead → nowhere ≡ last → After last (led r w e)
  by-lead is none-given = as-after last (led-by r w e b refl) (go b.undecided refl r.fill.told refl (eqb (get_or w b.at 0) 62) refl)
    where
      b : Blank
      b = lead_at (drop r.mark.start.0 (take r.fill.filled w)) r.mark.start.0 0

      go :
          (t : Bool) → b.undecided ≡ t → (u : Bool) → r.fill.told ≡ u → (v : Bool) → eqb (get_or w b.at 0) 62 ≡ v → After last (led_to b r w e)
      go true t true u v x = as-after last (led_on r w e b t ∙ lead-over r w e b u) (over-ends last r w e none-given)
      go true t false u v x = as-after last (led_on r w e b t ∙ lead-asks r w e b u) (asked-lead last (lead_dropped b r) w e is none-given)
      go false t u told true x =
          let i = lead-in r w e g b refl in
          as-after last (led-mark r w e b t (eqb-true (get_or w b.at 0) 62 x))
          (by-begun last r w e b.at (r.mark.line + b.lines) (lead-begins r w e g b i) quiet (i.decided t))
      go false t u told false x =
          as-after last (led-refused r w e b t (eqb-false (get_or w b.at 0) 62 x)) (over-refused last r w e (r.mark.line + b.lines) (get_or w b.at 0) none-given)

  by-sought : After last (sought_at r w e)
  by-sought = go (ltb r.mark.start.0 r.fill.filled && eqb (get_or w r.mark.start.0 0) 62) refl
    where
      go : (t : Bool) → (ltb r.mark.start.0 r.fill.filled && eqb (get_or w r.mark.start.0 0) 62) ≡ t → After last (sought_at r w e)
      go true t =
          let both = and-true (ltb r.mark.start.0 r.fill.filled) (eqb (get_or w r.mark.start.0 0) 62) t in
          let here = ltb-true r.mark.start.0 r.fill.filled both.0 in
          let m = g.is-sane in
          as-after last (sought-mark r w e here (eqb-true (get_or w r.mark.start.0 0) 62 both.1))
          (by-begun last r w e r.mark.start.0 r.mark.line
          (begins-good r w e g r.mark.start.0 r.mark.line (omega arith) m.line_least m.line_most) quiet here)
      go false t = as-after last (sought-astray r w e t) (astray last r w e)

  -- behind a current record
  by-behind :
      at r.mark.line (byte_of r) ≡ last → (r.fill.told ≡ false → r.mark.search.0 < r.fill.filled) → After last (behind r w e)
  by-behind same next = go r.fill.told refl (eqb r.mark.search.0 r.fill.filled) refl
    where
      goes-on : (r.fill.told && eqb r.mark.search.0 r.fill.filled) ≡ false → r.mark.search.0 < r.fill.filled → After last (behind r w e)
      goes-on t here = as-after last (behind-next r w e t) (waiting (ready r.fill) refl)
        where
          waiting : (u : Bool) → ready r.fill ≡ u → After last (when_ready hunted (passed r) w e)
          waiting true u =
              as-after last (is-ready hunted (passed r) w e u)
              (by-begun last r w e r.mark.search.0 (r.mark.line + r.mark.count) (passed-good r w e g) quiet here)
          waiting false u = as-after last (waits hunted (passed r) w e u) (asked-searching last (passed r) w e refl here)

      go : (t : Bool) → r.fill.told ≡ t → (u : Bool) → eqb r.mark.search.0 r.fill.filled ≡ u → After last (behind r w e)
      go true t true u =
          as-after last (behind-ended r w e t (eqb-true r.mark.search.0 r.fill.filled u)) (shows-ended last r w e quiet same)
      go true t false u =
          goes-on (neither r.fill.told (eqb r.mark.search.0 r.fill.filled) (inr u))
          (⊎_elim (λ q. absurd (eqb-false r.mark.search.0 r.fill.filled u q)) (λ less. less) (eq-or-lt_of_le g.is-sane.search_filled))
      go false t u q = goes-on (rw t) (next t)

-- a read
module _ (X : List ℕ) (C : ℕ) (now last : Place) (r : Reader) (w e : List ℕ) (t : Tells X C r w e) (k : Shows r.phase now last r) where
  g : Good r w e
  g = t.is_good

  -- it waits for a full window or the end
  waiting : (f : Reader → List ℕ → List ℕ → Did) → After last (asked r w e) → After last (f r w e) → After last (when_ready f r w e)
  waiting f ask then' = go (ready r.fill) refl
    where
      go : (u : Bool) → ready r.fill ≡ u → After last (when_ready f r w e)
      go true u = as-after last (is-ready f r w e u) then'
      go false u = as-after last (waits f r w e u) ask

  abbrev on : Reader
  on = in_phase phase.Searching r

  -- a record that is searched on
  by-onward : is_searching r.phase ≡ true → r.fill.asking ≡ false → r.mark.start.0 < r.fill.filled → After last (onward r w e)
  by-onward is quiet here = go (ready r.fill) refl
    where
      go : (u : Bool) → ready r.fill ≡ u → After last (onward r w e)
      go true u =
          let b = t.is_behind is in
          as-after last (onward-goes r w e u ∙ on-rising r w e (kept-rising r w e (kept-searched r w e g b) refl))
          (by-hunt last on w e (searching-good r w e g) b refl quiet here)
      go false u = as-after last (onward-waits r w e u) (asked-searching last on w e refl here)

  -- a reader at rest says the same again
  rests : (p : Phase) (s : Said) → r.phase ≡ p → Shows p now last r → shown_in p r ≡ place_read s last → last_read s last ≡ last → After last (does s r w e)
  rests p s is k' shown same =
      in-phase r p is (record { shown = shown; last-given = λ q. k'.last-given q ∙ sym same; inside = k'.inside; asking_none = k'.asking_none })

  by-phase : (p : Phase) → r.phase ≡ p → Shows p now last r → (lasts p ≡ false → r.fill.asking ≡ false) → After last (read_in p r w e)
  by-phase phase.Lead is k' quiet =
      waiting led (asked-lead last r w e is (k'.last-given refl)) (by-lead last r w e g (quiet refl) is (k'.last-given refl))
  by-phase phase.Sought is k' quiet = waiting sought_at (asked-sought last r w e is) (by-sought last r w e g (quiet refl))
  by-phase phase.Searching is k' quiet = by-onward (ap is_searching is) (quiet refl) k'.inside
  by-phase phase.Current is k' quiet = by-behind last r w e g (quiet refl) (k'.last-given refl) k'.inside
  by-phase phase.Ended is k' quiet = rests phase.Ended ends is k' (k'.last-given refl) refl
  by-phase phase.Over is k' quiet = rests phase.Over ends is k' (k'.last-given refl) refl
  by-phase phase.Window is k' quiet = rests phase.Window (refuses 3 (placed r)) is k' refl refl
  by-phase phase.Table is k' quiet = rests phase.Table (refuses 4 (placed r)) is k' refl refl
  by-phase phase.Astray is k' quiet = rests phase.Astray (refuses 5 []) is k' refl refl
  by-phase phase.Ahead is k' quiet = by-onward (ap is_searching is) (quiet refl) k'.inside

  after-read : After last (read_of r w e)
  after-read = go r.fill.asking refl (lasts r.phase) refl
    where
      sane' : sane r ≡ true
      sane' = sane-true r g.is-sane

      lent' : lent_as r (length w) (length e) ≡ true
      lent' = lent-true r w e g.window_lent g.table_lent

      goes : (not (lasts r.phase) && r.fill.asking) ≡ false → (lasts r.phase ≡ false → r.fill.asking ≡ false) → After last (read_of r w e)
      goes q quiet = as-after last (read_goes r w e sane' lent' q) (by-phase r.phase refl k quiet)

      go : (a : Bool) → r.fill.asking ≡ a → (l : Bool) → lasts r.phase ≡ l → After last (read_of r w e)
      go true a false l =
          as-after last (read-repeats r w e sane' lent' l a)
          (record { shown = k.asking_none a; last-given = k.last-given; inside = k.inside; asking_none = k.asking_none })
      go true a true l = goes (rw l) (λ q. absurd (false≢true (sym q ∙ l)))
      go false a l q = goes (neither (not (lasts r.phase)) r.fill.asking (inr a)) (λ q. a)

-- a fill with the same base that holds as much
module _ (r : Reader) (f : Fill) (based : f.base ≡ r.fill.base) where
  shown-fill : (p : Phase) → shown_in p (with_fill f r) ≡ shown_in p r
  shown-fill phase.Lead = refl
  shown-fill phase.Sought = refl
  shown-fill phase.Searching = refl
  shown-fill phase.Current = λ i. at r.mark.line ((based i).0 + r.mark.start.0)
  shown-fill phase.Ended = λ i. at r.mark.line ((based i).0 + r.mark.start.0)
  shown-fill phase.Over = refl
  shown-fill phase.Window = λ i. at r.mark.line ((based i).0 + r.mark.start.0)
  shown-fill phase.Table = λ i. at r.mark.line ((based i).0 + r.mark.start.0)
  shown-fill phase.Astray = refl
  shown-fill phase.Ahead = λ i. at r.mark.line ((based i).0 + r.mark.start.0)

  module _ (more : r.fill.filled ≤ f.filled) (told : f.told ≡ false → r.fill.told ≡ false) where
    inside-fill : (p : Phase) → Inside p r → Inside p (with_fill f r)
    inside-fill phase.Lead k = tt
    inside-fill phase.Sought k = tt
    inside-fill phase.Searching k = omega arith
    inside-fill phase.Current k = λ q. let next = k (told q) in omega arith
    inside-fill phase.Ended k = tt
    inside-fill phase.Over k = tt
    inside-fill phase.Window k = tt
    inside-fill phase.Table k = tt
    inside-fill phase.Astray k = tt
    inside-fill phase.Ahead k = omega arith

    shows-fill : (now last : Place) → f.asking ≡ false → Shows r.phase now last r → Shows r.phase now last (with_fill f r)
    shows-fill now last quiet k =
        record {
          shown = shown-fill r.phase ∙ k.shown;
          last-given = λ q. shown-fill r.phase ∙ k.last-given q;
          inside = inside-fill r.phase k.inside;
          asking_none = λ q. absurd (false≢true (sym quiet ∙ q));
        }

-- the calls beside reads
module _ (X : List ℕ) (C : ℕ) (now last : Place) (r : Reader) (w e : List ℕ) (t : Tells X C r w e) (k : Shows r.phase now last r) where
  after-report : (n : ℕ) → (report_of n r).refusal ≡ none → Shows (report_of n r).reader.phase now last (report_of n r).reader
  after-report n is =
      subst (λ (l : Left). Shows l.reader.phase now last l.reader) (sym (taken X C r w e t n is).reader_is) (go n)
    where
      go : (m : ℕ) → Shows r.phase now last (with_fill (filled_by m r.fill) r)
      go zero = shows-fill r (filled_by 0 r.fill) refl (omega arith) (λ q. absurd (false≢true (sym q))) now last refl k
      go (suc m) = shows-fill r (filled_by (suc m) r.fill) refl (omega arith) (λ q. q) now last refl k

  after-seek : (line byte : ℕ) → (seek_of line byte r).refusal ≡ none → Shows (seek_of line byte r).reader.phase nowhere nowhere (seek_of line byte r).reader
  after-seek line byte is =
      let found = seeks X C r w e t line byte is in
      subst (λ (l : Left). Shows l.reader.phase nowhere nowhere l.reader) (sym found.1.done_is)
      (in-phase found.0 phase.Sought found.1.in-phase
      (record { shown = refl; last-given = λ q. absurd (false≢true q); inside = tt; asking_none = λ q. refl }))

  -- a call that is refused changes nothing
  after-refused : (q : Reader) → q ≡ r → Shows q.phase now last q
  after-refused q is =
      subst (λ (o : Reader). Shows o.phase now last o) (sym is)
      (record { shown = k.shown; last-given = k.last-given; inside = k.inside; asking_none = k.asking_none })

-- a set call
module _ (X : List ℕ) (C T : ℕ) (h : List Event) (s : State) (kR : Reached X C T h s)
    (k : Shows s.reader.phase (position_after X C T h) (last_given h) s.reader) (t : Set) (B M E : List ℕ)
    (kR' : Reached X C T (collected (ltb (length B) (length s.window)) (setting t B M E s).said ∷ h) (after_set t B M E s)) where
  abbrev r : Reader
  r = s.reader

  abbrev w : List ℕ
  w = s.window

  abbrev e : List ℕ
  e = s.table

  abbrev tests : Bool
  tests = ltb (length B) (length w)

  abbrev d : Did
  d = read_of r w e

  abbrev Set-after : (short : Bool) → Called → Type 0
  Set-after short o =
      Shows o.reader.phase (position_after X C T (collected short o.said ∷ h)) (last_given (collected short o.said ∷ h)) o.reader

  read-after : After (last_given h) d
  read-after = after-read X C (position_after X C T h) (last_given h) r w e kR.tells k

  -- the first of what is due names the place due
  due-place : {h' : List Event} {s' : State} → Reached X C T h' s' → {p : Place} → First X (due_to X C s'.reader s'.table) p → next_record X C T h' ≡ p
  due-place {h'} {s'} kR'' {p} f =
      ap place_due
      (nth_after (answers h') (due_from X C T (origin h')) (said_of X f.said) (map (said_of X) f.rest) (sym kR''.due_is ∙ ap (map (said_of X)) f.are))
      ∙ f.place_is

  -- the next record was gave
  module _ (l b : ℕ) (is : d.said ≡ gives l b) (long : tests ≡ false) where
    abbrev gave : Given X C l b (due_to X C r e) d.reader d.table
    gave = first X C r w e kR.tells t B M E l b is

    now-current : d.reader.phase ≡ phase.Current
    now-current = gave.holds.is-current

    shows-current : Shows phase.Current (at l b) (at l b) d.reader
    shows-current =
        subst (λ (p : Phase). Shows p (at l b) (at l b) d.reader) now-current
        (subst (λ (a : Said). Shows d.reader.phase (place_read a (last_given h)) (last_read a (last_given h)) d.reader) is read-after)

    -- no ask is open
    quiet : {A : Type 0} → d.reader.fill.asking ≡ true → A
    quiet q = absurd (at-nowhere (shows-current.asking_none q))

    tells-now : Tells X C d.reader d.window d.table
    tells-now = still-tells X C r w e kR.tells

    not-fitting : Set-after tests (refused12 t B M E (put_back_of d.reader) d.window d.table)
    unfolding position_after last_given
    not-fitting =
        let x = d.reader in
        let same = put-current x (sane-true x tells-now.is_good.is-sane) (ap is_current now-current) in
        let m = gave.mark in
        let next : next_record X C T h ≡ at x.mark.line (byte_of x) =
        due-place kR (record { said = meant.gives m; rest = due_to X C x d.table; are = gave.due_is; place_is = λ i. at (gave.holds.line_is i) (gave.holds.byte_is i) }) in
        subst (λ (o : Reader). Shows o.phase (by_set X C T tests 12 [] (next_record X C T h) (position_after X C T h)) (last_given h) o) (sym same)
        (record {
          shown = sym (ap (λ (u : Bool). by_set X C T u 12 [] (next_record X C T h) (position_after X C T h)) long ∙ next);
          last-given = λ q. absurd (false≢true q);
          inside = subst (λ (o : Reader). o.mark.start.0 < o.fill.filled) same (back-ahead x d.window d.table tells-now.is_good now-current).1;
          asking_none = λ q. quiet q;
        })

    -- the set is filled
    module _ (room : ℕ) (left : pairs M ≡ suc room) (fit : fits (begun-set X C r w e kR.tells t B M E l b is) ≡ true)
        (c-is : setting t B M E s ≡ filled_with t B M E d (gather room d.window (put (begun-set X C r w e kR.tells t B M E l b is)))) where
      abbrev all : Gathered
      all = gather room d.window (put (begun-set X C r w e kR.tells t B M E l b is))

      then-reached : Reached X C T (collected tests (set.holds all.count d.reader.fill.filled) ∷ h) (state all.reader d.window all.table)
      then-reached = subst (λ (o : Called). Reached X C T (collected tests o.said ∷ h) (state o.reader o.window o.table)) c-is kR'

      quiet' : {A : Type 0} → all.reader.fill.asking ≡ true → A
      quiet' q = quiet (sym (ap (λ (x : Fill). x.asking) (same-fill X C r w e kR.tells t B M E l b is room left fit)) ∙ q)

      by-ends : Ends all.reader → Set-after tests (filled_with t B M E d all)
      unfolding position_after last_given
      by-ends (inl (ahead, here)) =
          let f = first-searched X C all.reader d.window all.table then-reached.tells here in
          let due : First X (due_to X C all.reader all.table) (at all.reader.mark.line (byte_of all.reader)) =
          record { said = f.said; rest = f.rest; are = ap (λ (p : Phase). due_in p X C all.reader all.table) ahead ∙ f.are; place_is = f.place_is } in
          in-phase all.reader phase.Ahead ahead
          (record { shown = sym (due-place then-reached due); last-given = λ q. absurd (false≢true q); inside = here; asking_none = λ q. quiet' q })
      by-ends (inr over') =
          let due : First X (due_to X C all.reader all.table) nowhere =
          record { said = meant.ends; rest = []; are = ap (λ (p : Phase). due_in p X C all.reader all.table) over'; place_is = refl } in
          in-phase all.reader phase.Over over'
          (record { shown = sym (due-place then-reached due); last-given = λ q. refl; inside = tt; asking_none = λ q. refl })

      is-filled : Set-after tests (filled_with t B M E d all)
      is-filled =
          by-ends
          (gather-ends X C d.window d.reader.fill d.reader.slots d.reader.mark.line (due_to X C r e) room
          (put (begun-set X C r w e kR.tells t B M E l b is)) _ (going X C r w e kR.tells t B M E l b is room left fit)
          shows-current.inside)

    collects : (room : ℕ) → pairs M ≡ room → setting t B M E s ≡ collected_in t B M E room d → Set-after tests (collected_in t B M E room d)
    collects zero left c-is = not-fitting
    collects (suc room) left c-is = go (fits (begun-set X C r w e kR.tells t B M E l b is)) refl
      where
        go : (u : Bool) → fits (begun-set X C r w e kR.tells t B M E l b is) ≡ u → Set-after tests (collected_in t B M E (suc room) d)
        go true u =
            let picks = ap (λ (v : Bool). cond v (filled_with t B M E d (gather room d.window (put (begun-set X C r w e kR.tells t B M E l b is)))) (refused12 t B M E (put_back_of d.reader) d.window d.table)) u in
            subst (Set-after tests) (sym picks) (is-filled room left u (c-is ∙ picks))
        go false u =
            let picks = ap (λ (v : Bool). cond v (filled_with t B M E d (gather room d.window (put (begun-set X C r w e kR.tells t B M E l b is)))) (refused12 t B M E (put_back_of d.reader) d.window d.table)) u in
            subst (Set-after tests) (sym picks) not-fitting

  by-read-said : (a : Said) → d.said ≡ a → tests ≡ false → setting t B M E s ≡ after_read t B M E a d → Set-after tests (after_read t B M E a d)
  unfolding position_after last_given
  by-read-said (asks p m o) is long c-is = subst (λ (a : Said). Shows d.reader.phase (place_read a (last_given h)) (last_read a (last_given h)) d.reader) is read-after
  by-read-said (gives l b) is long c-is = collects l b is long (pairs M) refl c-is
  by-read-said ends is long c-is = subst (λ (a : Said). Shows d.reader.phase (place_read a (last_given h)) (last_read a (last_given h)) d.reader) is read-after
  by-read-said (refuses n vs) is long c-is =
      let small = few X C r w e kR.tells t B M E n vs is in
      rw (ne_eqb n 11 (λ q. omega arith), ne_eqb n 12 (λ q. omega arith))
      (subst (λ (a : Said). Shows d.reader.phase (place_read a (last_given h)) (last_read a (last_given h)) d.reader) is read-after)

  after-set : Set-after tests (setting t B M E s)
  unfolding position_after last_given
  after-set = go (sound t (length B) (length M)) refl tests refl
    where
      go : (u : Bool) → sound t (length B) (length M) ≡ u → (v : Bool) → tests ≡ v → Set-after tests (setting t B M E s)
      go false u v x = subst (Set-after tests) (sym (unsound X C r w e kR.tells t B M E u)) k
      go true u true x = subst (Set-after tests) (sym (short X C r w e kR.tells t B M E u x)) (rw x k)
      go true u false x =
          let c-is = reads X C r w e kR.tells t B M E u x in
          subst (Set-after tests) (sym c-is) (by-read-said d.said refl x c-is)

module _ (X : List ℕ) (capacity : ℕ) (policy : Policy) (start : State) (is : Made capacity policy start) where
  abbrev C : ℕ
  C = largest policy (length start.window) capacity

  abbrev T : ℕ
  T = length start.table

  reached-by : (h : List Event) (s : State) → Run X start h s → Reached X C T h s
  reached-by h s q = runs_on X C T start (reached-made X capacity policy start is) h s q

  abbrev ShowsAfter : List Event → State → Type 0
  ShowsAfter h s = Shows s.reader.phase (position_after X C T h) (last_given h) s.reader

  shows-made : ShowsAfter [] start
  unfolding position_after last_given
  shows-made =
      subst (λ (r : Reader). Shows r.phase nowhere nowhere r) (made-is capacity policy (length start.window) (length start.table) start.reader is)
      (record { shown = refl; last-given = λ q. refl; inside = tt; asking_none = λ q. refl })

  -- a read, by its answer
  shows-read : (a : Said) (h : List Event) (r : Reader) → Shows r.phase (place_read a (last_given h)) (last_read a (last_given h)) r → Shows r.phase (position_after X C T (read a ∷ h)) (last_given (read a ∷ h)) r
  unfolding position_after last_given
  shows-read (asks p m o) h r k = k
  shows-read (gives l b) h r k = k
  shows-read ends h r k = k
  shows-read (refuses n vs) h r k = k

  shows-on : (h : List Event) (s : State) → Run X start h s → ShowsAfter h s
  unfolding position_after last_given
  shows-on h s begun = shows-made
  shows-on h s (by_read h₁ s₁ q) =
      shows-read (reading s₁).said h₁ (reading s₁).reader
      (after-read X C (position_after X C T h₁) (last_given h₁) s₁.reader s₁.window s₁.table (reached-by h₁ s₁ q).tells (shows-on h₁ s₁ q))
  shows-on h s (by-set t B M E h₁ s₁ q) =
      after-set X C T h₁ s₁ (reached-by h₁ s₁ q) (shows-on h₁ s₁ q) t B M E (reached-by h s (by-set t B M E h₁ s₁ q))
  shows-on h s (by_report n w h₁ s₁ q done b) =
      after-report X C (position_after X C T h₁) (last_given h₁) s₁.reader s₁.window s₁.table (reached-by h₁ s₁ q).tells (shows-on h₁ s₁ q) n done
  shows-on h s (by_seek line byte h₁ s₁ q done) =
      after-seek X C (position_after X C T h₁) (last_given h₁) s₁.reader s₁.window s₁.table (reached-by h₁ s₁ q).tells (shows-on h₁ s₁ q) line byte done
  shows-on h s (by_refused_report n number h₁ s₁ q no') =
      let t = (reached-by h₁ s₁ q).tells in
      after-refused X C (position_after X C T h₁) (last_given h₁) s₁.reader s₁.window s₁.table t (shows-on h₁ s₁ q) _
      (report-refused X C s₁.reader s₁.window s₁.table t n number no')
  shows-on h s (by_refused_seek line byte number h₁ s₁ q no') =
      let t = (reached-by h₁ s₁ q).tells in
      after-refused X C (position_after X C T h₁) (last_given h₁) s₁.reader s₁.window s₁.table t (shows-on h₁ s₁ q) _
      (seek-refused X C s₁.reader s₁.window s₁.table t line byte number no')

pub positions : Positions
positions X capacity policy start is h s q =
    let sane' = sane-true s.reader (reached-by X capacity policy start is h s q).tells.is_good.is-sane in
    place-shown s.reader sane' s.reader.phase refl ∙ (shows-on X capacity policy start is h s q).shown
