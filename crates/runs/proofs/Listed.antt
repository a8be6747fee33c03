-- Over any served run the program's text is that of the whole input's meaning: by demand 3 each read says what is due next and the views show it, so
-- each row is that of the record due, and what is due behind it is listed next. Assumes nothing.
use Prim.Native.Nat.{ℕ, zero, suc, ◌+◌, ◌-◌, ◌≤◌, ◌<◌}
use native.Mathlib.Omega.{arith}
use native.Mathlib.Nat.{le_refl}
use mathlib.Core.Bool.{Bool, true, false}
use mathlib.Core.List.{List, [], ◌∷◌, ◌++◌}
use mathlib.Core.Option.{Option, none, some}
use mathlib.Core.Path.{◌≡◌, refl, sym, ap, subst, ◌∙◌}
use lib.ListN.{length, take, drop, length-append, length-take, length-drop}
use lib.Seq.{length-take-le, take_at}
use Rattle.growth.specs.declared.Policy.{Policy}
use Rattle.growth.specs.Chain.{largest}
use Rattle.meaning.specs.Input.{Rec, Meaning, records, refused, meaning}
use Rattle.meaning.specs.Parts.{head_of, seq_of, id_of}
use Rattle.meaning.specs.Due as meant
use Rattle.meaning.specs.Due.{due, due_by, judged, place}
use Rattle.scan.specs.Move.{pasted}
use Rattle.scan.proofs.Paste.{pasted-room, length-pasted}
use Rattle.write.specs.Listing.{row_of, row, refused_text, listing}
use Rattle.reader.specs.Read.{Said, asks, gives, ends, refuses}
use Rattle.reader.specs.Calls.{Held, held, missing, current_of}
use Rattle.view.specs.View.{Shown, part, shown_in, line_of}
use Rattle.view.specs.View as view
use Rattle.view.specs.Full.{Left, left, window, filled, joined_at, whole_at, full_in, picked}
use Rattle.view.specs.Full as full
use Rattle.view.specs.Rising.{Rising, rising}
use Rattle.view.specs.Shows.{Shows}
use Rattle.view.specs.Current.{of_held}
use Rattle.view.proofs.Rises.{rising-rises}
use Rattle.view.proofs.Heads.{trim-within}
use Rattle.view.proofs.Cases.{between_in}
use Rattle.view.proofs.Joins.{filled-room, filled-done, others-are, full-some}
use Rattle.rows.specs.Rows.{length_of, last_text}
use Rattle.runs.specs.Run.{State, Made, reading, after_read, Event, read, brought, Run, begun, by_read, by-set, by_report, by_seek, by_refused_report, by_refused_seek}
use Rattle.runs.specs.Demand.{front as fromFront, origin, answers, due_from, nth, Gives, Hears}
use Rattle.runs.specs.Served.{Follows, Closed}
use Rattle.runs.specs.Listed.{Stops, row_at, Lists, asked, reported, listed, stopped, Listed, Writes, Written}
use Rattle.runs.proofs.Demand.{demand3}
use Rattle.runs.proofs.Served.{served}

-- the id
shown-is : (w : List ℕ) (v : Shown) (text : List ℕ) → Shows w v (some text) → shown_in w v ≡ text
unfolding shown_in
shown-is w (part from to) text h = h
shown-is w view.none text h = absurd h
shown-is w (view.refuses number values) text h = absurd h

-- A full sequence that is picked out of any scratch with room, by the form of its answer: its length is what is answered without scratch.
abbrev Picks : (w text : List ℕ) → (List ℕ → Left) → Type 0
Picks w text x = (scratch : List ℕ) → length text ≤ length scratch → picked w (x scratch).scratch (x scratch).answer ≡ text

refused-length : (w text : List ℕ) (x : List ℕ → Left) (n : ℕ) → Picks w text x → ((scratch : List ℕ) → x scratch ≡ left (full.refuses n []) scratch)
    → length_of (x []).answer ≡ length text
unfolding picked
refused-length w text x n f is =
    ap (λ (l : Left). length_of l.answer) (is [])
    ∙ ap length (sym (ap (λ (l : Left). picked w l.scratch l.answer) (is text)) ∙ f text (le_refl (length text)))

window-length : (w text : List ℕ) (x : List ℕ → Left) (a b : ℕ) → Picks w text x → ((scratch : List ℕ) → x scratch ≡ left (window a b) scratch)
    → a ≤ b → b ≤ length w → length_of (x []).answer ≡ length text
unfolding picked
window-length w text x a b f is h k =
    let there : b - a ≤ length (drop a w) = omega (arith, length-drop a w) in
    ap (λ (l : Left). length_of l.answer) (is [])
    ∙ sym (ap length (between_in w a b h k) ∙ length-take-le (b - a) (drop a w) there)
    ∙ ap length (sym (ap (λ (l : Left). picked w l.scratch l.answer) (is text)) ∙ f text (le_refl (length text)))

no-scratch : (t : List ℕ) → length_of (filled t []).answer ≡ length t
no-scratch [] = ap (λ (l : Left). length_of l.answer) (filled-done [] [] (omega arith))
no-scratch (y ∷ t) = ap (λ (l : Left). length_of l.answer) (filled-room (y ∷ t) [] (omega arith))

filled-picks : (w t scratch : List ℕ) → length t ≤ length scratch → picked w (filled t scratch).scratch (filled t scratch).answer ≡ t
unfolding picked
filled-picks w t scratch h =
    let n : length (pasted 0 t scratch) ≡ length scratch = length-pasted 0 t scratch (omega arith) in
    let z : length t - 0 ≡ length t = omega arith in
    ap (λ (l : Left). picked w l.scratch l.answer) (filled-done t scratch h)
    ∙ between_in (pasted 0 t scratch) 0 (length t) (omega arith) (omega arith)
    ∙ ap (λ (k : ℕ). take k (pasted 0 t scratch)) z
    ∙ ap (take (length t)) (pasted-room 0 t scratch (omega arith))
    ∙ take_at t (drop (0 + length t) scratch) (length t) refl

filled-length : (w text : List ℕ) (x : List ℕ → Left) (t : List ℕ) → Picks w text x → ((scratch : List ℕ) → x scratch ≡ filled t scratch)
    → length_of (x []).answer ≡ length text
filled-length w text x t f is =
    let s = t ++ text in
    let long = length-append t text in
    ap (λ (l : Left). length_of l.answer) (is [])
    ∙ no-scratch t
    ∙ ap length
    (sym (filled-picks w t s (omega arith))
    ∙ sym (ap (λ (l : Left). picked w l.scratch l.answer) (is s))
    ∙ f s (omega arith))

-- the lines behind a head that ends at e
whole_length : (w bytes : List ℕ) (e : ℕ) (es text : List ℕ) → length bytes ≤ length w → Rising e es (length bytes)
    → Picks w text (λ (scratch : List ℕ). whole_at bytes (suc e) es scratch)
    → length_of (whole_at bytes (suc e) es []).answer ≡ length text
unfolding whole_at
whole_length w bytes e [] text h k f = filled-length w text (λ (scratch : List ℕ). filled [] scratch) [] f (λ scratch. refl)
whole_length w bytes e (y ∷ []) text h k f =
    let line = take (y - suc e) (drop (suc e) bytes) in
    let n = trim-within line in
    let m = length-take (y - suc e) (drop (suc e) bytes) in
    let b = suc e + length (line_of bytes (suc e) y) in
    window-length w text (λ (scratch : List ℕ). left (window (suc e) b) scratch) (suc e) b f (λ scratch. refl)
    (omega arith) (omega (arith, n, m, k.0, k.1.0))
whole_length w bytes e (y ∷ z ∷ es) text h k f =
    filled-length w text (λ (scratch : List ℕ). whole_at bytes (suc e) (y ∷ z ∷ es) scratch) (joined_at bytes (suc e) (y ∷ z ∷ es)) f (λ scratch. refl)

full-length : (w bytes : List ℕ) (start : ℕ) (es text : List ℕ) → length bytes ≤ length w
    → Picks w text (λ (scratch : List ℕ). full_in bytes start es scratch)
    → length_of (full_in bytes start es []).answer ≡ length text
unfolding full_in
full-length w bytes start [] text h f = refused-length w text (λ (scratch : List ℕ). left (full.refuses 11 []) scratch) 11 f (λ scratch. refl)
full-length w bytes start (e ∷ es) text h f = go (rising start (e ∷ es) (length bytes)) refl
  where
    go : (t : Bool) → rising start (e ∷ es) (length bytes) ≡ t → length_of (full_in bytes start (e ∷ es) []).answer ≡ length text
    go true t =
        let is : (scratch : List ℕ) → full_in bytes start (e ∷ es) scratch ≡ whole_at bytes (suc e) es scratch =
        λ scratch. full-some bytes start (e ∷ es) scratch (omega arith) t ∙ ap (λ (l : List ℕ). whole_at bytes (suc e) l scratch) (others-are e es) in
        ap (λ (l : Left). length_of l.answer) (is [])
        ∙ whole_length w bytes e es text h (rising-rises start (e ∷ es) (length bytes) t).1.1
        (λ scratch k. sym (ap (λ (l : Left). picked w l.scratch l.answer) (is scratch)) ∙ f scratch k)
    go false t = refused-length w text (λ (scratch : List ℕ). full_in bytes start (e ∷ es) scratch) 11 f (λ scratch. rw t)

abbrev full_at : Held → (w e scratch : List ℕ) → Left
full_at h w e scratch = of_held w e (λ bytes start es. full_in bytes start es scratch) (λ n. left (full.refuses n []) scratch) h

held-length : (h : Held) (w e text : List ℕ) → Picks w text (full_at h w e) → length_of (full_at h w e []).answer ≡ length text
held-length (held start count n) w e text f =
    full-length w (take count w) start (take n e) text (omega (arith, length-take count w)) f
held-length (missing number) w e text f = refused-length w text (full_at (missing number) w e) number f (λ scratch. refl)

-- the row of a record that is given
gives_row : (r : Rec) (s : State) (l b : ℕ) → l ≡ r.line → b ≡ r.byte → Gives r s → row_at l b s ≡ row r
unfolding row
gives_row r s l b line byte g =
    let id = shown-is s.window _ (id_of (head_of r)) g.id in
    let long = held-length (current_of (length s.window) (length s.table) s.reader) s.window s.table (seq_of r) g.sequence in
    λ i. row_of (line i) (byte i) (id i) (long i)

-- what is due ends with an answer that is no record
abbrev LastStops : List (meant.Said Rec) → Type 0
LastStops [] = ⊥
LastStops (meant.gives r ∷ []) = ⊥
LastStops (meant.ends ∷ []) = Unit {0}
LastStops (meant.refuses n vs ∷ []) = Unit {0}
LastStops (a ∷ b ∷ rest) = LastStops (b ∷ rest)

stops-behind : (a : meant.Said Rec) (D : List (meant.Said Rec)) → LastStops D → LastStops (a ∷ D)
stops-behind a [] h = absurd h
stops-behind a (b ∷ rest) h = h

by-stops : (judge : Rec → Option ℕ) (rs : List Rec) → LastStops (due_by judge place rs)
unfolding due_by
by-stops judge [] = tt
by-stops judge (r ∷ rs) = go (judge r) (by-stops judge rs)
  where
    go : (j : Option ℕ) → LastStops (due_by judge place rs)
        → LastStops (elim j [ none ↦ meant.gives r ∷ due_by judge place rs | some number ↦ meant.refuses number (place r) ∷ [] ])
    go none h = stops-behind (meant.gives r) (due_by judge place rs) h
    go (some number) h = tt

due-stops : (C T : ℕ) (m : Meaning) → LastStops (due C T m)
unfolding due
due-stops C T (records rs) = by-stops (judged C T) rs
due-stops C T (refused l x) = tt

some-due : (D : List (meant.Said Rec)) → LastStops D → 0 < length D
some-due [] h = absurd h
some-due (a ∷ D) h = omega arith

at-nth : (k : ℕ) (D : List (meant.Said Rec)) → k < length D → drop k D ≡ nth k D ∷ drop (suc k) D
unfolding nth
at-nth k [] h = absurd (omega arith)
at-nth zero (a ∷ []) h = refl
at-nth (suc k) (a ∷ []) h = absurd (omega arith)
at-nth zero (a ∷ b ∷ rest) h = refl
at-nth (suc k) (a ∷ b ∷ rest) h = at-nth k (b ∷ rest) (omega arith)

abbrev NoRecord : meant.Said Rec → Type 0
NoRecord (meant.gives r) = ⊥
NoRecord meant.ends = Unit {0}
NoRecord (meant.refuses n vs) = Unit {0}

-- behind a record something is due
gives_more : (k : ℕ) (D : List (meant.Said Rec)) (r : Rec) → LastStops D → nth k D ≡ meant.gives r → suc k < length D
unfolding nth
gives_more k [] r h e = absurd h
gives_more k (meant.gives m ∷ []) r h e = absurd h
gives_more k (meant.ends ∷ []) r h e = absurd (subst NoRecord e tt)
gives_more k (meant.refuses n vs ∷ []) r h e = absurd (subst NoRecord e tt)
gives_more zero (a ∷ b ∷ rest) r h e = omega arith
gives_more (suc k) (a ∷ b ∷ rest) r h e = let u = gives_more k (b ∷ rest) r h e in omega (arith, u)

module _ (X : List ℕ) (capacity : ℕ) (policy : Policy) (start : State) (made : Made capacity policy start) where
  abbrev D : List (meant.Said Rec)
  D = due (largest policy (length start.window) capacity) (length start.table) (meaning X)

  stops-last : LastStops D
  stops-last = due-stops (largest policy (length start.window) capacity) (length start.table) (meaning X)

  heard : (h : List Event) (s : State) → Run X start h s → origin h ≡ fromFront → Hears (reading s).said (nth (answers h) D) (after_read s)
  unfolding due_from
  heard h s r o =
      subst (λ from. Hears (reading s).said (nth (answers h) (due_from X (largest policy (length start.window) capacity) (length start.table) from)) (after_read s)) o
      (demand3 X capacity policy start made h s r)

  -- a record that is heard is the next one listed
  record-listed : (k l b : ℕ) (s : State) (text : List ℕ) (d : meant.Said Rec) → k < length D → nth k D ≡ d → Hears (gives l b) d s
      → (suc k < length D → text ≡ listing (drop (suc k) D)) → row_at l b s ++ text ≡ listing (drop k D)
  unfolding listing
  record-listed k l b s text (meant.gives r) h e (line, (byte, g)) rest =
      (λ i. gives_row r s l b line byte g i ++ rest (gives_more k D r stops-last e) i)
      ∙ sym (ap listing (at-nth k D h ∙ ap (λ (d : meant.Said Rec). d ∷ drop (suc k) D) e))
  record-listed k l b s text meant.ends h e q rest = absurd q
  record-listed k l b s text (meant.refuses n vs) h e q rest = absurd q

  last-listed : (k : ℕ) (a : Said) (s : State) (d : meant.Said Rec) → k < length D → nth k D ≡ d → Stops a → Hears a d s
      → last_text a ≡ listing (drop k D)
  unfolding listing
  last-listed k (asks p m o) s d h e stop q = absurd stop
  last-listed k (gives l b) s d h e stop q = absurd stop
  last-listed k ends s (meant.gives r) h e stop q = absurd q
  last-listed k ends s meant.ends h e stop q = sym (ap listing (at-nth k D h ∙ ap (λ (d : meant.Said Rec). d ∷ drop (suc k) D) e))
  last-listed k ends s (meant.refuses n vs) h e stop q = absurd q
  last-listed k (refuses n vs) s (meant.gives r) h e stop q = absurd q
  last-listed k (refuses n vs) s meant.ends h e stop q = absurd q
  last-listed k (refuses n vs) s (meant.refuses m us) h e stop q =
      ap refused_text q.0 ∙ sym (ap listing (at-nth k D h ∙ ap (λ (d : meant.Said Rec). d ∷ drop (suc k) D) e))

  lists-on : (h : List Event) (s : State) (text : List ℕ) → Run X start h s → origin h ≡ fromFront → answers h < length D → Lists X s text
      → text ≡ listing (drop (answers h) D)
  unfolding origin answers
  lists-on h _ _ r o k (asked s p m at text said rest) =
      let run = subst (λ (a : Said). Run X start (read a ∷ h) (after_read s)) said (by_read h s r) in
      lists-on (read (asks p m at) ∷ h) (after_read s) text run o k rest
  lists-on h _ _ r o k (reported s n w text taken brings rest) =
      lists-on (brought n ∷ h) _ text (by_report n w h s r taken brings) o k rest
  lists-on h _ _ r o k (listed s l b more said rest) =
      let run = subst (λ (a : Said). Run X start (read a ∷ h) (after_read s)) said (by_read h s r) in
      let is : row_at l b (after_read s) ++ more ≡ listing (drop (answers h) D) =
      record-listed (answers h) l b (after_read s) more (nth (answers h) D) k refl
      (subst (λ (a : Said). Hears a (nth (answers h) D) (after_read s)) said (heard h s r o))
      (λ u. lists-on (read (gives l b) ∷ h) (after_read s) more run o u rest) in
      cc is
  lists-on h _ _ r o k (stopped s stop) = last-listed (answers h) (reading s).said (after_read s) (nth (answers h) D) k refl stop (heard h s r o)

pub whole-listed : Listed
unfolding origin answers
whole-listed X capacity policy start made text l =
    lists-on X capacity policy start made [] start text begun refl (some-due (D X capacity policy start made) (stops-last X capacity policy start made)) l

-- A run without seeks and refusals, from which on something is written, writes it from its start on.
module _ (X : List ℕ) (wish : List Event → ℕ) (start : State) where
  one_more : (s : State) (a : Said) → (reading s).said ≡ a → Writes X (after_read s) → Writes X s
  one_more s (asks p m o) e t = record { text = t.text; is_listed = asked s p m o t.text e t.is_listed }
  one_more s (gives l b) e t = record { text = _; is_listed = listed s l b t.text e t.is_listed }
  one_more s ends e t = record { text = last_text (reading s).said; is_listed = stopped s (subst Stops (sym e) tt) }
  one_more s (refuses n vs) e t = record { text = last_text (reading s).said; is_listed = stopped s (subst Stops (sym e) tt) }

  from-start : (h : List Event) (s : State) → Run X start h s → Follows X wish h → Writes X s → Writes X start
  from-start _ _ begun f t = t
  from-start _ _ (by_read h s r) f t = from-start h s r f (one_more s (reading s).said refl t)
  from-start _ _ (by_report n w h s r taken brings) f t =
      from-start h s r f.1 (record { text = t.text; is_listed = reported s n w t.text taken brings t.is_listed })
  from-start _ _ (by-set t' bytes marks es h s r) f t = elim f [ ]
  from-start _ _ (by_seek l b h s r e) f t = absurd f
  from-start _ _ (by_refused_report n number h s r e) f t = absurd f
  from-start _ _ (by_refused_seek l b number h s r e) f t = absurd f

  -- the last that was heard is the end or a refusal, so it is written there
  closed-stops : (a : Said) (h : List Event) → Closed (read a ∷ h) → Stops a
  closed-stops (asks p m o) h c = absurd c
  closed-stops (gives l b) h c = absurd c
  closed-stops ends h c = tt
  closed-stops (refuses n vs) h c = tt

  all-written : (h : List Event) (s : State) → Run X start h s → Follows X wish h → Closed h → Writes X start
  all-written _ _ begun f c = absurd c
  all-written _ _ (by_read h s r) f c =
      from-start h s r f (record { text = last_text (reading s).said; is_listed = stopped s (closed-stops (reading s).said h c) })
  all-written _ _ (by_report n w h s r taken brings) f c = absurd c
  all-written _ _ (by-set t bytes marks es h s r) f c = elim c [ ]
  all-written _ _ (by_seek l b h s r e) f c = absurd c
  all-written _ _ (by_refused_report n number h s r e) f c = absurd c
  all-written _ _ (by_refused_seek l b number h s r e) f c = absurd c

pub written : Written
written X few capacity policy start made =
    let wish : List Event → ℕ = λ h. 0 in
    let t = served X few capacity policy start made wish in
    all-written X wish start t.history t.last t.is_run t.follows t.closed
