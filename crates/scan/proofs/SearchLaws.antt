-- Laws of a search: what it does at one place, that it goes from a place to the end of the line there at once, and what its answer is.
-- Assumes nothing.
use Prim.Native.Nat.{ℕ, zero, suc, ◌+◌, ◌-◌, ◌≤◌, ◌<◌}
use native.Mathlib.Decide.{dec_le}
use native.Mathlib.Nat.{eq-or-lt_of_le}
use native.Mathlib.Numerals.{add-one}
use native.Mathlib.Omega.{arith}
use mathlib.Core.Bool.{Bool, true, false, ◌||◌}
use mathlib.Core.List.{List, [], ◌∷◌, ◌++◌, append_assoc, append-nil}
use mathlib.Core.Logic.{◌⊎◌, inl, inr, ⊎_elim}
use mathlib.Core.Path.{◌≡◌, refl, sym, ap, subst, ◌∙◌}
use lib.ListN.{length, take, drop, get_or, set, drop_of_length-le, length-set}
use lib.Seq.{drop-cons, take-suc-set, get_or-set_same}
use lib.Dec.{eqb, leb}
use borrow.Author.Tests.{eq-eqb, ne_eqb, le-leb, lt-leb, eqb-true, eqb-false}
use Rattle.scan.specs.declared.ends.Searched.{Searched}
use Rattle.scan.specs.declared.ends.Stop.{Stop}
use Rattle.scan.specs.declared.ends.Stop.TheVariants as stop
use Rattle.scan.specs.Scan.{line_end}
use Rattle.scan.specs.Search.{Recorded, Search, stop_at, searched}
use Rattle.scan.proofs.LineLaws.{one, two, along, line-end-past, line-end-found, line-end-next, line-end-at}

-- ends that rise strictly, none below `lo`, each below `hi`
unfoldable pub Rises : (lo : ℕ) → List ℕ → (hi : ℕ) → Type 0
Rises lo [] hi = lo ≤ hi
Rises lo (e ∷ es) hi = (lo ≤ e) × Rises (suc e) es hi

pub rises-lower : (lo mid : ℕ) (es : List ℕ) (hi : ℕ) → lo ≤ mid → Rises mid es hi → Rises lo es hi
unfolding Rises
rises-lower lo mid [] hi h r = omega arith
rises-lower lo mid (e ∷ es) hi h (k, r) = (omega arith, r)

pub rises-append : (lo : ℕ) (es : List ℕ) (mid : ℕ) (fs : List ℕ) (hi : ℕ) → Rises lo es mid → Rises mid fs hi → Rises lo (es ++ fs) hi
unfolding Rises
rises-append lo [] mid fs hi h r = rises-lower lo mid fs hi h r
rises-append lo (e ∷ es) mid fs hi (k, h) r = (k, rises-append (suc e) es mid fs hi h r)

pub rises-count : (lo : ℕ) (es : List ℕ) (hi : ℕ) → Rises lo es hi → lo + length es ≤ hi
unfolding Rises
rises-count lo [] hi r = omega arith
rises-count lo (e ∷ es) hi (k, r) = omega (arith, rises-count (suc e) es hi r)

-- what a search inside its bounds answers: `fresh` are the ends that it recorded
pub record Found (bytes : List ℕ) (from count limit : ℕ) (ends : List ℕ) (r : Searched) (exit : List ℕ) : Type 0 where
  pub fresh : List ℕ
  pub counted : r.count ≡ count + length fresh
  pub limited : r.count ≤ limit
  pub apart : from + length fresh ≤ r.at
  pub within : r.at ≤ length bytes
  pub same_length : length exit ≡ length ends
  pub recorded : take r.count exit ≡ take count ends ++ fresh
  pub rising : Rises from fresh r.at

-- where a search stopped at a mark
pub record AtMark (bytes : List ℕ) (count mark : ℕ) (r : Searched) (exit : List ℕ) : Type 0 where
  pub inside : r.at < length bytes
  pub is_mark : get_or bytes r.at 0 ≡ mark
  pub new : count < r.count
  pub last : get_or exit (r.count - 1) 0 + 1 ≡ r.at

-- at an end without a slot
pub record AtFull (bytes : List ℕ) (limit : ℕ) (r : Searched) : Type 0 where
  pub no_slot : r.count ≡ limit
  pub behind : r.at + 1 < length bytes

abbrev pub Stopped : (bytes : List ℕ) (count limit mark : ℕ) (r : Searched) (exit : List ℕ) → Stop → Type 0
Stopped bytes count limit mark r exit stop.Record = AtMark bytes count mark r exit
Stopped bytes count limit mark r exit stop.Full = AtFull bytes limit r
Stopped bytes count limit mark r exit stop.Filled = length bytes ≤ r.at + 1

-- the same answer over the same table
pub answered : {r o : Searched} (e : List ℕ) → r ≡ o → ◌≡◌ {A = Recorded} (record { out = r; ends = e }) (record { out = o; ends = e })
answered e is = λ i. record { out = is i; ends = e }

-- no slot is left, or one is
full-test : (limit n l : ℕ) → (limit ≤ n) ⊎ (l ≤ n) → (leb limit n || leb l n) ≡ true
full-test limit n l (inl h) = rw (le-leb limit n h)
full-test limit n l (inr h) = go (leb limit n)
  where
    go : (t : Bool) → (t || leb l n) ≡ true
    go true = refl
    go false = le-leb l n h

room-test : (limit n l : ℕ) → n < limit → n < l → (leb limit n || leb l n) ≡ false
room-test limit n l h k = rw (lt-leb limit n h, lt-leb l n k)

module _ (mark limit : ℕ) (s : List ℕ) where
  -- the search at place i with n ends recorded in e
  abbrev at : (i n : ℕ) (e : List ℕ) → Recorded
  at i n e = searched mark limit (drop i s) i n e

  resume :
      (i n : ℕ) (e : List ℕ) →
      i + 1 < length s →
      searched mark limit (get_or s (i + 1) 0 ∷ drop (suc (i + 1)) s) (suc i) n e ≡ at (i + 1) n e
  resume i n e h = rw (drop-cons s (i + 1) 0 h, add-one i)

  pub search-past : (i n : ℕ) (e : List ℕ) → length s ≤ i → at i n e ≡ stop_at i n stop.Filled e
  unfolding searched
  search-past i n e h = rw (drop_of_length-le s {i = i} h)

  search-last : (i n : ℕ) (e : List ℕ) → i + 1 ≡ length s → get_or s i 0 ≡ 10 → at i n e ≡ stop_at i n stop.Filled e
  unfolding searched
  search-last i n e h x = rw (one s i h, eq-eqb (get_or s i 0) 10 x, searched)

  search-full :
      (i n : ℕ) (e : List ℕ) →
      i + 1 < length s →
      get_or s i 0 ≡ 10 →
      (limit ≤ n) ⊎ (length e ≤ n) →
      at i n e ≡ stop_at i n stop.Full e
  unfolding searched
  search-full i n e h x f = rw (two s i h, eq-eqb (get_or s i 0) 10 x, searched, full-test limit n (length e) f)

  search-record :
      (i n : ℕ) (e : List ℕ) →
      i + 1 < length s →
      get_or s i 0 ≡ 10 →
      n < limit →
      n < length e →
      get_or s (i + 1) 0 ≡ mark →
      at i n e ≡ stop_at (i + 1) (n + 1) stop.Record (set e n i)
  unfolding searched
  search-record i n e h x f g y =
      rw (two s i h, eq-eqb (get_or s i 0) 10 x, searched, room-test limit n (length e) f g, eq-eqb (get_or s (i + 1) 0) mark y, add-one i, add-one n)

  search-line :
      (i n : ℕ) (e : List ℕ) →
      i + 1 < length s →
      get_or s i 0 ≡ 10 →
      n < limit →
      n < length e →
      (get_or s (i + 1) 0 ≡ mark → ⊥) →
      at i n e ≡ at (i + 1) (n + 1) (set e n i)
  unfolding searched
  search-line i n e h x f g y =
      ap (λ (l : List ℕ). searched mark limit l i n e) (two s i h)
      ∙ rw (eq-eqb (get_or s i 0) 10 x, searched, room-test limit n (length e) f g, ne_eqb (get_or s (i + 1) 0) mark y)
      (resume i (suc n) (set e n i) h ∙ ap (λ (m : ℕ). at (i + 1) m (set e n i)) (sym (add-one n)))

  search-other : (i n : ℕ) (e : List ℕ) → i < length s → (get_or s i 0 ≡ 10 → ⊥) → at i n e ≡ at (i + 1) n e
  unfolding searched
  search-other i n e h x =
      let k : i + 1 ≤ length s = omega arith in
      ⊎_elim tip inner (eq-or-lt_of_le k)
    where
      tip : i + 1 ≡ length s → at i n e ≡ at (i + 1) n e
      tip q = rw (one s i q, drop_of_length-le s {i = i + 1} (omega arith), ne_eqb (get_or s i 0) 10 x, searched, add-one i)

      inner : i + 1 < length s → at i n e ≡ at (i + 1) n e
      inner q =
          ap (λ (l : List ℕ). searched mark limit l i n e) (two s i q)
          ∙ rw (ne_eqb (get_or s i 0) 10 x, searched) (resume i n e q)

  -- up to the end of its line a search goes on unchanged
  search-jump : (n : ℕ) (e : List ℕ) (i : ℕ) → i ≤ length s → at i n e ≡ at (line_end s i) n e
  search-jump n e =
      along s (λ i. i ≤ length s → at i n e ≡ at (line_end s i) n e)
      (λ i h k. let q : i ≡ length s = omega arith in rw (line-end-past s i h, q))
      (λ i h x k. rw (line-end-found s i h x))
      (λ i h x ih k. rw (line-end-next s i h x) (search-other i n e h x ∙ ih (omega arith)))

  -- a turn of the loop: from a place to the end of its line, and on from there
  module _ (i n : ℕ) (e : List ℕ) (end : ℕ) (inside : i < length s) (is : end ≡ line_end s i) where
    to_end : at i n e ≡ at end n e
    to_end = search-jump n e i (omega arith) ∙ ap (λ (k : ℕ). at k n e) (sym is)

    newline : end < length s → get_or s end 0 ≡ 10
    newline h = rw is (line-end-at s i (omega arith))

    pub turn-filled : length s ≤ end + 1 → at i n e ≡ stop_at end n stop.Filled e
    turn-filled h = to_end ∙ go (dec_le (length s) end)
      where
        go : Dec (length s ≤ end) → at end n e ≡ stop_at end n stop.Filled e
        go (yes u) = search-past end n e u
        go (no u) = search-last end n e (omega arith) (newline (omega arith))

    module _ (h : end + 1 < length s) where
      pub turn-full : (limit ≤ n) ⊎ (length e ≤ n) → at i n e ≡ stop_at end n stop.Full e
      turn-full f = to_end ∙ search-full end n e h (newline (omega arith)) f

      module _ (f : n < limit) (g : n < length e) where
        pub turn-record : get_or s (end + 1) 0 ≡ mark → at i n e ≡ stop_at (end + 1) (n + 1) stop.Record (set e n end)
        turn-record y = to_end ∙ search-record end n e h (newline (omega arith)) f g y

        pub turn-line : (get_or s (end + 1) 0 ≡ mark → ⊥) → at i n e ≡ at (end + 1) (n + 1) (set e n end)
        turn-line y = to_end ∙ search-line end n e h (newline (omega arith)) f g y

  -- A fact of answers holds of every search if it holds of each answer given at once, and goes back over each step.
  module _
      (P : (i n : ℕ) → List ℕ → Recorded → Type 0)
      (past : (i n : ℕ) (e : List ℕ) → length s ≤ i → P i n e (stop_at i n stop.Filled e))
      (last : (i n : ℕ) (e : List ℕ) → i + 1 ≡ length s → P i n e (stop_at i n stop.Filled e))
      (full : (i n : ℕ) (e : List ℕ) → i + 1 < length s → (limit ≤ n) ⊎ (length e ≤ n) → P i n e (stop_at i n stop.Full e))
      (marked :
      (i n : ℕ) (e : List ℕ) →
      i + 1 < length s →
      n < length e →
      n < limit →
      get_or s (i + 1) 0 ≡ mark →
      P i n e (stop_at (i + 1) (n + 1) stop.Record (set e n i)))
      (line :
      (i n : ℕ) (e : List ℕ) (r : Recorded) →
      i + 1 < length s →
      n < length e →
      n < limit →
      P (i + 1) (n + 1) (set e n i) r →
      P i n e r)
      (other : (i n : ℕ) (e : List ℕ) (r : Recorded) → i < length s → P (i + 1) n e r → P i n e r)
    where
      search-along : (i n : ℕ) (e : List ℕ) → P i n e (at i n e)
      search-along i n e = within (length s) i n e (omega arith)
        where
          Here : (i n : ℕ) (e : List ℕ) → Type 0
          Here i n e = P i n e (at i n e)

          -- at a `\n` with bytes behind it
          ended :
              (i n : ℕ) (e : List ℕ) →
              i + 1 < length s →
              get_or s i 0 ≡ 10 →
              Dec (limit ≤ n) →
              Dec (length e ≤ n) →
              (t : Bool) →
              eqb (get_or s (i + 1) 0) mark ≡ t →
              ((n : ℕ) (e : List ℕ) → Here (i + 1) n e) →
              Here i n e
          ended i n e h x (yes u) _ t y next = rw (search-full i n e h x (inl u)) (full i n e h (inl u))
          ended i n e h x (no u) (yes v) t y next = rw (search-full i n e h x (inr v)) (full i n e h (inr v))
          ended i n e h x (no u) (no v) true y next =
              let z = eqb-true (get_or s (i + 1) 0) mark y in
              rw (search-record i n e h x (omega arith) (omega arith) z) (marked i n e h (omega arith) (omega arith) z)
          ended i n e h x (no u) (no v) false y next =
              rw (search-line i n e h x (omega arith) (omega arith) (eqb-false (get_or s (i + 1) 0) mark y))
              (line i n e _ h (omega arith) (omega arith) (next (n + 1) (set e n i)))

          turn :
              (i n : ℕ) (e : List ℕ) →
              Dec (length s ≤ i) →
              Dec (length s ≤ i + 1) →
              (t : Bool) →
              eqb (get_or s i 0) 10 ≡ t →
              ((n : ℕ) (e : List ℕ) → Here (i + 1) n e) →
              Here i n e
          turn i n e (yes u) _ t x next = rw (search-past i n e u) (past i n e u)
          turn i n e (no u) _ false x next =
              let y = eqb-false (get_or s i 0) 10 x in
              rw (search-other i n e (omega arith) y) (other i n e _ (omega arith) (next n e))
          turn i n e (no u) (yes v) true x next =
              rw (search-last i n e (omega arith) (eqb-true (get_or s i 0) 10 x)) (last i n e (omega arith))
          turn i n e (no u) (no v) true x next =
              ended i n e (omega arith) (eqb-true (get_or s i 0) 10 x) (dec_le limit n) (dec_le (length e) n) (eqb (get_or s (i + 1) 0) mark) refl next

          within : (k i n : ℕ) (e : List ℕ) → length s ≤ k + i → Here i n e
          within zero i n e h = rw (search-past i n e (omega arith)) (past i n e (omega arith))
          within (suc k) i n e h =
              turn i n e (dec_le (length s) i) (dec_le (length s) (i + 1)) (eqb (get_or s i 0) 10) refl
              (λ n e. within k (i + 1) n e (omega arith))

module _ (bytes : List ℕ) (mark limit : ℕ) where
  abbrev Finds : (i n : ℕ) → List ℕ → Recorded → Type 0
  Finds i n e r = Found bytes i n limit e r.out r.ends × Stopped bytes n limit mark r.out r.ends r.out.stop

  -- nothing is recorded
  here :
      (i n : ℕ) (e : List ℕ) (s : Stop) →
      i ≤ length bytes →
      n ≤ limit →
      Found bytes i n limit e (stop_at i n s e).out e
  unfolding Rises
  here i n e s h k =
      record {
        fresh = [];
        counted = omega arith;
        limited = k;
        apart = omega arith;
        within = h;
        same_length = refl;
        recorded = sym (append-nil (take n e));
        rising = omega arith;
      }

  -- one end is recorded, and then others
  behind :
      (i n : ℕ) (e : List ℕ) (r : Searched) (exit : List ℕ) →
      n < length e →
      Found bytes (i + 1) (n + 1) limit (set e n i) r exit →
      Found bytes i n limit e r exit
  unfolding Rises
  behind i n e r exit h f =
      let stored : take (n + 1) (set e n i) ≡ take n e ++ (i ∷ []) = rw (add-one n) (take-suc-set e n i h) in
      record {
        fresh = i ∷ f.fresh;
        counted = omega arith;
        limited = f.limited;
        apart = omega arith;
        within = f.within;
        same_length = f.same_length ∙ length-set e n i;
        recorded =
            f.recorded
            ∙ ap (λ (l : List ℕ). l ++ f.fresh) stored
            ∙ append_assoc (take n e) (i ∷ []) f.fresh;
        rising = (omega arith, rw (← add-one i) f.rising);
      }

  -- a byte is passed
  over :
      (i n : ℕ) (e : List ℕ) (r : Searched) (exit : List ℕ) →
      Found bytes (i + 1) n limit e r exit →
      Found bytes i n limit e r exit
  over i n e r exit f =
      record {
        fresh = f.fresh;
        counted = f.counted;
        limited = f.limited;
        apart = omega arith;
        within = f.within;
        same_length = f.same_length;
        recorded = f.recorded;
        rising = rises-lower i (i + 1) f.fresh r.at (omega arith) f.rising;
      }

  fewer :
      (n : ℕ) (r : Searched) (exit : List ℕ) (s : Stop) →
      Stopped bytes (n + 1) limit mark r exit s →
      Stopped bytes n limit mark r exit s
  fewer n r exit stop.Record w = record { inside = w.inside; is_mark = w.is_mark; new = omega arith; last = w.last }
  fewer n r exit stop.Full w = w
  fewer n r exit stop.Filled w = w

  at_mark :
      (i n : ℕ) (e : List ℕ) →
      i + 1 < length bytes →
      n < length e →
      get_or bytes (i + 1) 0 ≡ mark →
      AtMark bytes n mark (stop_at (i + 1) (n + 1) stop.Record (set e n i)).out (set e n i)
  at_mark i n e h f y =
      let less : n + 1 - 1 ≡ n = omega arith in
      record { inside = h; is_mark = y; new = omega arith; last = rw (less, get_or-set_same e n i 0 f) }

  finds :
      (i n : ℕ) (e : List ℕ) →
      i ≤ length bytes →
      n ≤ limit →
      limit ≤ length e →
      Finds i n e (searched mark limit (drop i bytes) i n e)
  finds =
      search-along mark limit bytes (λ i n e r. i ≤ length bytes → n ≤ limit → limit ≤ length e → Finds i n e r)
      (λ i n e h a b c. (here i n e stop.Filled a b, omega arith))
      (λ i n e h a b c. (here i n e stop.Filled a b, omega arith))
      (λ i n e h f a b c.
      (here i n e stop.Full a b, record { no_slot = ⊎_elim (λ u. omega arith) (λ u. omega arith) f; behind = h }))
      (λ i n e h f g y a b c.
      (behind i n e _ _ f (here (i + 1) (n + 1) (set e n i) stop.Record (omega arith) (omega arith)), at_mark i n e h f y))
      (λ i n e r h f g ih a b c.
      let found = ih (omega arith) (omega arith) (rw (length-set e n i) c) in
      (behind i n e r.out r.ends f found.0, fewer n r.out r.ends r.out.stop found.1))
      (λ i n e r h ih a b c.
      let found = ih (omega arith) b c in
      (over i n e r.out r.ends found.0, found.1))

  module _
      (from count : ℕ) (ends : List ℕ) (r : Searched) (exit : List ℕ)
      (inside : from ≤ length bytes) (room : count ≤ limit) (slots : limit ≤ length ends)
      (is : Search bytes from count limit mark ends r exit)
    where
      both : Finds from count ends (record { out = r; ends = exit })
      both = subst (Finds from count ends) (sym is) (finds from count ends inside room slots)

      -- what `search` answers inside its bounds
      pub search-found : Found bytes from count limit ends r exit
      search-found = both.0

      pub search-stopped : Stopped bytes count limit mark r exit r.stop
      search-stopped = both.1
