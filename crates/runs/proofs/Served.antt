-- Demand 3 is not empty: a caller that brings what it chooses of the bytes asked for hears an answer, since each report takes one of the chances of
-- Waiting.antt; so it hears all that are due, one after the other. Assumes nothing.
use Prim.Native.Nat.{ℕ, zero, suc, ◌+◌, ◌-◌, ◌≤◌, ◌<◌}
use native.Mathlib.Omega.{arith}
use native.Mathlib.Nat.{le_refl}
use mathlib.Core.Bool.{Bool, true, false, false≢true}
use mathlib.Core.List.{List, [], ◌∷◌, ◌++◌}
use mathlib.Core.Option.{Option, none, some}
use mathlib.Core.Path.{◌≡◌, refl, sym, ap, subst, ◌∙◌}
use lib.ListN.{length, take, drop, length-drop}
use lib.Seq.{length-take-le, take_at, drop_at}
use Rattle.growth.specs.Chain.{largest}
use Rattle.meaning.specs.Input.{Rec, Meaning, records, refused, meaning}
use Rattle.meaning.specs.Due as meant
use Rattle.meaning.specs.Due.{due, due_by, judged}
use Rattle.meaning.proofs.Due.{due-gives, due-refuses}
use Rattle.scan.specs.Move.{pasted}
use Rattle.scan.proofs.Paste.{pasted-room, length-pasted}
use Rattle.window.specs.Fill.{most}
use Rattle.window.proofs.Laws.{Asked}
use Rattle.reader.specs.declared.state.Reader.{Reader}
use Rattle.reader.specs.State.{with_fill}
use Rattle.reader.specs.Read.{Said, asks, gives, ends, refuses}
use Rattle.reader.specs.Calls.{Left}
use Rattle.runs.specs.Run.{State, state, reading, after_read, offset, Brings, Event, read, brought, Run, begun, by_read, by_report}
use Rattle.runs.specs.Demand.{front, origin, answers, due_from, nth, Hears}
use Rattle.runs.specs.Progress.{left, is_ask}
use Rattle.runs.specs.Served.{count, Follows, Closed, Serves, Served}
use Rattle.runs.proofs.Tells.{Tells, due_to, Goes}
use Rattle.runs.proofs.Calls.{filled_by, Took, takes}
use Rattle.runs.proofs.Waiting.{chances, told-answers, chances-read, chances-report, no-chance}
use Rattle.runs.proofs.Reached.{Reached, step, runs_on, reached-made}
use Rattle.runs.proofs.Demand.{hears}

-- no bytes
none_left : {A : Type 0} (l : List A) → length l ≡ 0 → l ≡ []
none_left [] z = refl
none_left (x ∷ l) z = absurd (omega arith)

-- what a caller brings to an open ask: the bytes of X at the place asked, the others as they were
module _ (X : List ℕ) (C : ℕ) (s : State) (t : Tells X C s.reader s.window s.table) (open' : s.reader.fill.asking ≡ true) where
  abbrev r : Reader
  r = s.reader

  abbrev room : ℕ
  room = r.fill.capacity - r.fill.filled

  has_room : r.fill.filled < r.fill.capacity
  has_room = t.is_good.is-sane.window_sound.ask_has_room open'

  module _ (n : ℕ) (fits : n ≤ room) (there : n ≤ left X s) where
    abbrev bytes : List ℕ
    bytes = take n (drop (offset s) X)

    as_many : length bytes ≡ n
    as_many = length-take-le n (drop (offset s) X) there

    inside : r.fill.filled + n ≤ length s.window
    inside = let v = t.is_good.is-sane.window_sound in omega (arith, has_room, v.capacity_fits, t.is_good.window_lent)

    abbrev brings_to : List ℕ
    brings_to = pasted r.fill.filled bytes s.window

    is-pasted : brings_to ≡ take r.fill.filled s.window ++ (bytes ++ drop (r.fill.filled + length bytes) s.window)
    is-pasted = pasted-room r.fill.filled bytes s.window (omega (arith, inside, as_many))

    before-is : length (take r.fill.filled s.window) ≡ r.fill.filled
    before-is = length-take-le r.fill.filled s.window (omega (arith, inside))

    pub brings : (n ≡ 0 → drop (offset s) X ≡ []) → Brings X n s brings_to
    brings zero_at_end =
        let rest = bytes ++ drop (r.fill.filled + length bytes) s.window in
        record {
          same_length = length-pasted r.fill.filled bytes s.window (omega (arith, inside, as_many));
          before = ap (take r.fill.filled) is-pasted ∙ take_at (take r.fill.filled s.window) rest r.fill.filled before-is;
          brought =
              ap (λ (w : List ℕ). take n (drop r.fill.filled w)) is-pasted
              ∙ ap (take n) (drop_at (take r.fill.filled s.window) rest r.fill.filled before-is)
              ∙ take_at bytes (drop (r.fill.filled + length bytes) s.window) n as_many;
          in_input = there;
          zero_at_end = zero_at_end;
        }

    pub is_asked : length X ≤ most → Asked r.fill n
    is_asked short =
        let v = t.is_good.is-sane.window_sound in
        record { is_open = open'; has_room = fits; input_has_room = omega (arith, v.input_fits, length-drop (offset s) X) }

-- the counts that are chosen are admissible
count_room : (wish room left : ℕ) → count wish room left ≤ room
count_room wish room left = omega arith

count_left : (wish room left : ℕ) → count wish room left ≤ left
count_left wish room left = omega arith

count-zero : (wish room left : ℕ) → 0 < room → count wish room left ≡ 0 → left ≡ 0
count-zero wish room left h z = omega arith

abbrev is_record : meant.Said Rec → Bool
is_record (meant.gives r) = true
is_record meant.ends = false
is_record (meant.refuses n vs) = false

-- what an ask asks for
abbrev room_asked : Said → ℕ
room_asked (asks p m o) = m
room_asked (gives l b) = 0
room_asked ends = 0
room_asked (refuses n vs) = 0

abbrev offset_asked : Said → ℕ
offset_asked (asks p m o) = o
offset_asked (gives l b) = 0
offset_asked ends = 0
offset_asked (refuses n vs) = 0

module _ (X : List ℕ) (short : length X ≤ most) (C T : ℕ) (wish : List Event → ℕ) (start : State) (made : Reached X C T [] start) where
  -- a run that followed the choice so far
  record Going (h : List Event) (s : State) : Type 0 where
    is_run : Run X start h s
    follows : Follows X wish h
    at_front : origin h ≡ front

  reached : (h : List Event) (s : State) → Going h s → Reached X C T h s
  reached h s g = runs_on X C T start made h s g.is_run

  -- after an ask the caller brings what it chose
  module _ (h : List Event) (s : State) (g : Going h s) (p m o : ℕ) (is : (reading s).said ≡ asks p m o) where
    abbrev s₁ : State
    s₁ = after_read s

    abbrev h₁ : List Event
    h₁ = read (asks p m o) ∷ h

    asked-run : Run X start h₁ s₁
    asked-run = subst (λ (a : Said). Run X start (read a ∷ h) s₁) is (by_read h s g.is_run)

    tells : Tells X C s₁.reader s₁.window s₁.table
    tells = (runs_on X C T start made h₁ s₁ asked-run).tells

    goes : Goes (asks p m o) (due_to X C s.reader s.table) X C s₁.reader s₁.table
    goes =
        subst (λ (a : Said). Goes a (due_to X C s.reader s.table) X C s₁.reader s₁.table) is
        (step X C T h s (reached h s g)).goes

    abbrev free : ℕ
    free = room X C s₁ tells goes.1.0

    abbrev n : ℕ
    n = count (wish h₁) free (left X s₁)

    fits : n ≤ free
    fits = count_room (wish h₁) free (left X s₁)

    there : n ≤ left X s₁
    there = count_left (wish h₁) free (left X s₁)

    abbrev w : List ℕ
    w = brings_to X C s₁ tells goes.1.0 n fits there

    took : Took n s₁.reader
    took = takes X C s₁.reader s₁.window s₁.table tells n (is_asked X C s₁ tells goes.1.0 n fits there short)

    brought-so : Brings X n s₁ w
    brought-so =
        brings X C s₁ tells goes.1.0 n fits there
        (λ z.
        none_left (drop (offset s₁) X)
        (count-zero (wish h₁) free (left X s₁) (omega (arith, has_room X C s₁ tells goes.1.0)) z))

    abbrev s₂ : State
    s₂ = state (with_fill (filled_by n s₁.reader.fill) s₁.reader) w s₁.table

    served-run : Run X start (brought n ∷ h₁) s₂
    served-run =
        subst (λ (l : Left). Run X start (brought n ∷ h₁) (state l.reader w s₁.table)) took.reader_is
        (by_report n w h₁ s₁ asked-run (ap (λ (l : Left). l.refusal) took.reader_is) brought-so)

    chosen : n ≡ count (wish h₁) m (length (drop o X))
    chosen =
        λ i. count (wish h₁) (sym (ap room_asked goes.1.1) i) (length (drop (sym (ap offset_asked goes.1.1) i) X))

    serves : Going (brought n ∷ h₁) s₂
    unfolding origin
    serves = record { is_run = served-run; follows = (chosen, g.follows); at_front = g.at_front }

    fewer : suc (chances X s₂) ≤ chances X s
    fewer =
        omega (arith, chances-report X C s₁ tells n w took brought-so, chances-read X C s (reached h s g).tells)

  -- a read that answers, after k answers
  record Answered (k : ℕ) : Type 0 where
    history : List Event
    last : State
    going : Going history last
    so_far : answers history ≡ k
    no_ask : is_ask (reading last).said ≡ false

  here : (h : List Event) (s : State) → Going h s → is_ask (reading s).said ≡ false → Answered (answers h)
  here h s g no' = record { history = h; last = s; going = g; so_far = refl; no_ask = no' }

  -- with so many chances left, it comes
  next : (n : ℕ) (h : List Event) (s : State) → Going h s → chances X s ≤ n → Answered (answers h)
  unfolding answers
  next zero h s g few = here h s g (told-answers X C s (reached h s g).tells (no-chance X s (omega arith)))
  next (suc n) h s g few = go (reading s).said refl (λ h' s' g' few'. next n h' s' g' few')
    where
      go :
          (a : Said) → (reading s).said ≡ a → ((h' : List Event) (s' : State) → Going h' s' → chances X s' ≤ n → Answered (answers h')) →
          Answered (answers h)
      go (asks p m o) is on = on _ (s₂ h s g p m o is) (serves h s g p m o is) (omega (arith, fewer h s g p m o is))
      go (gives l b) is on = here h s g (ap is_ask is)
      go ends is on = here h s g (ap is_ask is)
      go (refuses k vs) is on = here h s g (ap is_ask is)

  answered-counts : (a : Said) (h : List Event) → is_ask a ≡ false → answers (read a ∷ h) ≡ suc (answers h)
  unfolding answers
  answered-counts (asks p m o) h no' = absurd (false≢true (sym no'))
  answered-counts (gives l b) h no' = refl
  answered-counts ends h no' = refl
  answered-counts (refuses n vs) h no' = refl

  -- k answers and one more
  many : (k : ℕ) → Answered k
  unfolding answers origin
  many zero =
      next (chances X start) [] start (record { is_run = begun; follows = tt; at_front = refl }) (le_refl (chances X start))
  many (suc k) =
      let q = many k in
      let a = (reading q.last).said in
      let g : Going (read a ∷ q.history) (after_read q.last) =
      record {
        is_run = by_read q.history q.last q.going.is_run;
        follows = q.going.follows;
        at_front = q.going.at_front;
      } in
      subst Answered (answered-counts a q.history q.no_ask ∙ ap suc q.so_far)
      (next (chances X (after_read q.last)) (read a ∷ q.history) (after_read q.last) g (le_refl (chances X (after_read q.last))))

  -- the last of those due is no record
  closes : (a : Said) (d : meant.Said Rec) (s : State) (h : List Event) → is_ask a ≡ false → Hears a d s → is_record d ≡ false → Closed (read a ∷ h)
  closes (asks p m o) d s h no' heard last = absurd (false≢true (sym no'))
  closes (gives l b) (meant.gives r) s h no' heard last = absurd (false≢true (sym last))
  closes (gives l b) meant.ends s h no' heard last = absurd heard
  closes (gives l b) (meant.refuses n vs) s h no' heard last = absurd heard
  closes ends d s h no' heard last = tt
  closes (refuses n vs) d s h no' heard last = tt

  all : (k : ℕ) → length (due_from X C T front) ≡ suc k → is_record (nth k (due_from X C T front)) ≡ false → Serves X C T wish start
  all k long last =
      let q = many k in
      let a = (reading q.last).said in
      let heard = hears X C T q.history q.last (reached q.history q.last q.going) in
      let due_is : nth (answers q.history) (due_from X C T (origin q.history)) ≡ nth k (due_from X C T front) =
      λ i. nth (q.so_far i) (due_from X C T (q.going.at_front i)) in
      record {
        history = read a ∷ q.history;
        last = after_read q.last;
        is_run = by_read q.history q.last q.going.is_run;
        follows = q.going.follows;
        all_heard = answered-counts a q.history q.no_ask ∙ ap suc q.so_far ∙ sym long;
        closed = closes a (nth k (due_from X C T front)) (after_read q.last) q.history q.no_ask
            (subst (λ (d : meant.Said Rec). Hears a d (after_read q.last)) due_is heard) last;
      }

-- of the answers due there is a last one, the end or a refusal
record LastOf (d : List (meant.Said Rec)) : Type 0 where
  index : ℕ
  long : length d ≡ suc index
  no_record : is_record (nth index d) ≡ false

one : (a : meant.Said Rec) → is_record a ≡ false → LastOf (a ∷ [])
unfolding nth
one a is = record { index = 0; long = refl; no_record = is }

another : (a : meant.Said Rec) (d : List (meant.Said Rec)) → LastOf d → LastOf (a ∷ d)
unfolding nth
another a [] q = absurd (omega (arith, q.long))
another a (b ∷ d) q = record { index = suc q.index; long = ap suc q.long; no_record = q.no_record }

last-by : (C T : ℕ) (rs : List Rec) → LastOf (due_by (judged C T) meant.place rs)
unfolding due_by
last-by C T [] = one meant.ends refl
last-by C T (r ∷ rs) = go (judged C T r) refl (last-by C T rs)
  where
    go : (o : Option ℕ) → judged C T r ≡ o → LastOf (due_by (judged C T) meant.place rs) → LastOf (due_by (judged C T) meant.place (r ∷ rs))
    go none o q = subst LastOf (sym (due-gives (judged C T) meant.place r rs o)) (another (meant.gives r) (due_by (judged C T) meant.place rs) q)
    go (some n) o q = subst LastOf (sym (due-refuses (judged C T) meant.place r rs n o)) (one (meant.refuses n (meant.place r)) refl)

last-due : (C T : ℕ) (M : Meaning) → LastOf (due C T M)
unfolding due nth
last-due C T (records rs) = last-by C T rs
last-due C T (refused l x) = another (meant.refuses 2 (l ∷ x ∷ [])) (meant.ends ∷ []) (one meant.ends refl)

pub served : Served
unfolding due_from
served X short capacity policy start made wish =
    let C = largest policy (length start.window) capacity in
    let T = length start.table in
    let q = last-due C T (meaning X) in
    all X short C T wish start (reached-made X capacity policy start made) q.index q.long q.no_record
