-- A search of the window against the one pass over the input: from the place where the search goes on, one pass finds what the search's
-- answer says. At a mark it finds the record that ends there; at an end without a slot, a record that has this end; at the end of the filled
-- bytes it goes on from there. Places in the window are places of the input less `base`. Assumes nothing.
use Prim.Native.Nat.{ℕ, zero, suc, pred, ◌+◌, ◌-◌, ◌≤◌, ◌<◌}
use native.Mathlib.Nat.{add-suc, le_of_suc-le-suc}
use native.Mathlib.Omega.{arith}
use mathlib.Core.Bool.{Bool, true, false, ◌||◌}
use mathlib.Core.List.{List, [], ◌∷◌, ◌++◌, map, append_assoc}
use mathlib.Core.Path.{◌≡◌, refl, sym, ap, subst₂, ◌∙◌}
use lib.ListN.{length, get_or, take, drop, set, length-map, length-set, length-append}
use lib.Seq.{length-take-le, take-suc-set, get_or-append_seam, get_or-append-add}
use lib.Dec.{eqb, leb}
use borrow.Author.Tests.{eqb-true, leb-false}
use Rattle.meaning.specs.OnePass.{Mark, marks}
use Rattle.meaning.proofs.OnePass.{at-cons, late}
use Rattle.scan.specs.Search.{Recorded, stop_at, searched}
use Rattle.scan.specs.declared.ends.Stop.{Stop}
use Rattle.scan.specs.declared.ends.Stop.TheVariants as stop

-- The first record that one pass finds from place p on: it is the one that the pass is in; its ends are those so far and fresh ones, none of
-- them before q; it reaches p at least.
pub record First (l b p q : ℕ) (E : List ℕ) (ms : List Mark) : Type 0 where
  pub head : Mark
  pub tail : List Mark
  pub are : ms ≡ head ∷ tail
  pub line_is : head.line ≡ l
  pub byte_is : head.byte ≡ b
  pub len_least : p - b ≤ head.len
  pub fresh : List ℕ
  pub ends_are : head.ends ≡ E ++ fresh
  pub fresh_late : (k : ℕ) → k < length fresh → q ≤ get_or fresh k 0

-- behind the ends so far, none stands before q
pub first-late : (l b p q : ℕ) (E : List ℕ) (ms : List Mark) (f : First l b p q E ms) (k : ℕ) → length E ≤ k → k < length f.head.ends → q ≤ get_or f.head.ends k 0
first-late l b p q E ms f k h u =
    let j = k - length E in
    let sum : length E + j ≡ k = omega arith in
    let inside : j < length f.fresh = omega (arith, ap length f.ends_are, length-append E f.fresh) in
    let is : get_or f.head.ends k 0 ≡ get_or f.fresh j 0 =
    (λ i. get_or (f.ends_are i) (sym sum i) 0) ∙ get_or-append-add E f.fresh j 0 in
    omega (arith, f.fresh_late j inside)

-- a record that ends at p, with one end more
first-last : (l b p q z : ℕ) (E : List ℕ) (ms : List Mark) → q ≤ z → First l b p q E (record { line = l; byte = b; len = p - b; ends = E ++ (z ∷ []) } ∷ ms)
first-last l b p q z E ms h =
    record {
      head = record { line = l; byte = b; len = p - b; ends = E ++ (z ∷ []) };
      tail = ms;
      are = refl;
      line_is = refl;
      byte_is = refl;
      len_least = omega arith;
      fresh = z ∷ [];
      ends_are = refl;
      fresh_late = one;
    }
  where
    one : (k : ℕ) → k < length (z ∷ []) → q ≤ get_or (z ∷ []) k 0
    one zero u = h
    one (suc k) u = absurd (omega arith)

-- a byte is passed, with an end recorded or without one
first_past : (l b p q : ℕ) (E : List ℕ) (ms : List Mark) → First l b (suc p) q E ms → First l b p q E ms
first_past l b p q E ms f =
    record {
      head = f.head;
      tail = f.tail;
      are = f.are;
      line_is = f.line_is;
      byte_is = f.byte_is;
      len_least = omega (arith, f.len_least);
      fresh = f.fresh;
      ends_are = f.ends_are;
      fresh_late = f.fresh_late;
    }

first_ended : (l b p q z : ℕ) (E : List ℕ) (ms : List Mark) → q ≤ z → First l b p q (E ++ (z ∷ [])) ms → First l b p q E ms
first_ended l b p q z E ms h f =
    record {
      head = f.head;
      tail = f.tail;
      are = f.are;
      line_is = f.line_is;
      byte_is = f.byte_is;
      len_least = f.len_least;
      fresh = z ∷ f.fresh;
      ends_are = f.ends_are ∙ append_assoc E (z ∷ []) f.fresh;
      fresh_late = more;
    }
  where
    more : (k : ℕ) → k < length (z ∷ f.fresh) → q ≤ get_or (z ∷ f.fresh) k 0
    more zero u = h
    more (suc k) u = f.fresh_late k (le_of_suc-le-suc u)

pub late-least : (t : Bool) → late t ≤ 1
late-least true = omega arith
late-least false = omega arith

pub first : (xs : List ℕ) (held : Bool) (l b p q : ℕ) (E : List ℕ) → q + late held ≤ p → First l b p q E (marks l b p E xs held)
unfolding marks
first [] false l b p q E h = first-last l b p q p E [] (omega arith)
first [] true l b p q E h = first-last l b p q (pred p) E [] (omega arith)
first (x ∷ xs) false l b p q E h =
    first_past l b p q E (marks l b (suc p) E xs (eqb x 10))
    (first xs (eqb x 10) l b (suc p) q E (omega (arith, late-least (eqb x 10))))
first (x ∷ xs) true l b p q E h =
    go (eqb x 62) refl (first xs (eqb x 10) l b (suc p) q (E ++ (pred p ∷ [])) (omega (arith, late-least (eqb x 10))))
  where
    before : q ≤ pred p
    before = omega arith

    go : (t : Bool) → eqb x 62 ≡ t → First l b (suc p) q (E ++ (pred p ∷ [])) (marks l b (suc p) (E ++ (pred p ∷ [])) xs (eqb x 10))
        → First l b p q E (marks l b p E (x ∷ xs) true)
    go true t on = rw (t, marks) (first-last l b p q (pred p) E (marks (l + suc (length E)) p (suc p) [] xs false) before)
    go false t on =
        rw (t, marks)
        (first_past l b p q E (marks l b (suc p) (E ++ (pred p ∷ [])) xs (eqb x 10))
        (first_ended l b (suc p) q (pred p) E (marks l b (suc p) (E ++ (pred p ∷ [])) xs (eqb x 10)) before on))

-- the steps of one pass over a byte inside a line, and over a `\n` by the byte behind it
module _ (l b p : ℕ) (E : List ℕ) (x : ℕ) where
  pub pass-other : (xs : List ℕ) → eqb x 10 ≡ false → marks l b p E (x ∷ xs) false ≡ marks l b (suc p) E xs false
  unfolding marks
  pass-other xs t = rw t

  pass-held : (xs : List ℕ) → eqb x 10 ≡ true → marks l b p E (x ∷ xs) false ≡ marks l b (suc p) E xs true
  unfolding marks
  pass-held xs t = rw t

  pub pass-mark : (y : ℕ) (xs : List ℕ) → eqb x 10 ≡ true → eqb y 62 ≡ true
      → marks l b p E (x ∷ y ∷ xs) false
      ≡ record { line = l; byte = b; len = suc p - b; ends = E ++ (p ∷ []) } ∷ marks (l + suc (length E)) (suc p) (suc (suc p)) [] xs false
  unfolding marks
  pass-mark y xs t u = pass-held (y ∷ xs) t ∙ rw (u, marks)

  pub pass-line : (y : ℕ) (xs : List ℕ) → eqb x 10 ≡ true → eqb y 62 ≡ false
      → marks l b p E (x ∷ y ∷ xs) false ≡ marks l b (suc p) (E ++ (p ∷ [])) (y ∷ xs) false
  unfolding marks
  pass-line y xs t u = pass-held (y ∷ xs) t ∙ rw (u, marks)

-- the same steps of a search
module _ (T x y : ℕ) (r : List ℕ) (i n : ℕ) (e : List ℕ) where
  search-other : eqb x 10 ≡ false → searched 62 T (x ∷ y ∷ r) i n e ≡ searched 62 T (y ∷ r) (suc i) n e
  unfolding searched
  search-other t = rw (t, searched)

  search-full : eqb x 10 ≡ true → (leb T n || leb (length e) n) ≡ true → searched 62 T (x ∷ y ∷ r) i n e ≡ stop_at i n stop.Full e
  unfolding searched
  search-full t u = rw (t, u, searched)

  search-mark : eqb x 10 ≡ true → (leb T n || leb (length e) n) ≡ false → eqb y 62 ≡ true
      → searched 62 T (x ∷ y ∷ r) i n e ≡ stop_at (suc i) (suc n) stop.Record (set e n i)
  unfolding searched
  search-mark t u v = rw (t, u, v, searched)

  search-line : eqb x 10 ≡ true → (leb T n || leb (length e) n) ≡ false → eqb y 62 ≡ false
      → searched 62 T (x ∷ y ∷ r) i n e ≡ searched 62 T (y ∷ r) (suc i) (suc n) (set e n i)
  unfolding searched
  search-line t u v = rw (t, u, v, searched)

search-tip : (T x i n : ℕ) (e : List ℕ) → eqb x 10 ≡ true → searched 62 T (x ∷ []) i n e ≡ stop_at i n stop.Filled e
unfolding searched
search-tip T x i n e t = rw (t, searched)

search-past : (T x i n : ℕ) (e : List ℕ) → eqb x 10 ≡ false → searched 62 T (x ∷ []) i n e ≡ stop_at (suc i) n stop.Filled e
unfolding searched
search-past T x i n e t = rw (t, searched)

search-nil : (T i n : ℕ) (e : List ℕ) → searched 62 T [] i n e ≡ stop_at i n stop.Filled e
unfolding searched
search-nil T i n e = refl

-- the first n ends of a table, as places of the input
abbrev pub ends_in : (base n : ℕ) → List ℕ → List ℕ
ends_in base n e = map (λ (x : ℕ). base + x) (take n e)

map_snoc : (base : ℕ) (es : List ℕ) (z : ℕ) → map (λ (x : ℕ). base + x) (es ++ (z ∷ [])) ≡ map (λ (x : ℕ). base + x) es ++ ((base + z) ∷ [])
map_snoc base [] z = refl
map_snoc base (x ∷ es) z = ap (λ (r : List ℕ). (base + x) ∷ r) (map_snoc base es z)

-- one end more
pub ends_more : (base n : ℕ) (e : List ℕ) (i : ℕ) → n < length e → ends_in base (suc n) (set e n i) ≡ ends_in base n e ++ ((base + i) ∷ [])
ends_more base n e i h = ap (map (λ (x : ℕ). base + x)) (take-suc-set e n i h) ∙ map_snoc base (take n e) i

pub ends-count : (base n : ℕ) (e : List ℕ) → n ≤ length e → length (ends_in base n e) ≡ n
ends-count base n e h = length-map (take n e) (λ (x : ℕ). base + x) ∙ length-take-le n e h

-- a slot is left
slot-left : (T n k : ℕ) → (leb T n || leb k n) ≡ false → n < k
slot-left T n k t = go (leb T n) t
  where
    go : (u : Bool) → (u || leb k n) ≡ false → n < k
    go true v = absurd (let z : ◌≡◌ {A = ℕ} 0 1 = cc in omega arith)
    go false v = leb-false k n v

-- Over an input X, in a record at byte b on line l, in a window from `base` on that is filled up to `top`: what one pass finds where a
-- search is begun, by what the search answers.
module _ (X : List ℕ) (base top l b : ℕ) where
  -- the records found from place i of the window on, with the first n ends of e
  abbrev pub found_at : (i n : ℕ) → List ℕ → List Mark
  found_at i n e = marks l b (base + i) (ends_in base n e) (drop (base + i) X) false

  -- the search stopped at a mark: the record ends before it, and the next one begins there
  pub record SeesMark (ms : List Mark) (s : Recorded) : Type 0 where
    pub are :
        ms
        ≡ record { line = l; byte = b; len = base + s.out.at - b; ends = ends_in base s.out.count s.ends }
        ∷ marks (l + s.out.count) (base + s.out.at) (suc (base + s.out.at)) [] (drop (suc (base + s.out.at)) X) false
    pub stands : drop (base + s.out.at) X ≡ 62 ∷ drop (suc (base + s.out.at)) X

  -- at an end without a slot: one pass goes on there; the record has this end behind those of the table
  pub record SeesFull (ms : List Mark) (s : Recorded) : Type 0 where
    pub head : Mark
    pub tail : List Mark
    pub are : ms ≡ head ∷ tail
    pub line_is : head.line ≡ l
    pub byte_is : head.byte ≡ b
    pub still : ms ≡ found_at s.out.at s.out.count s.ends
    pub more : s.out.count < length head.ends
    pub this : get_or head.ends s.out.count 0 ≡ base + s.out.at

  -- at the end of the filled bytes: one pass goes on there; it has passed all of them where a last `\n` is held
  pub record SeesEnd (ms : List Mark) (s : Recorded) : Type 0 where
    pub are : ms ≡ found_at s.out.at s.out.count s.ends
    pub held : Bool
    pub near : s.out.at + late held ≡ top
    pub all : ms ≡ marks l b (base + top) (ends_in base s.out.count s.ends) (drop (base + top) X) held

  abbrev pub SeesBy : Stop → List Mark → Recorded → Type 0
  SeesBy stop.Record ms s = SeesMark ms s
  SeesBy stop.Full ms s = SeesFull ms s
  SeesBy stop.Filled ms s = SeesEnd ms s

  abbrev pub Sees : List Mark → Recorded → Type 0
  Sees ms s = SeesBy s.out.stop ms s

  sees-as : {ms ns : List Mark} {s t : Recorded} → ms ≡ ns → s ≡ t → Sees ns t → Sees ms s
  sees-as p q k = subst₂ Sees (sym p) (sym q) k

  -- the place behind i, over the byte that stands at i
  module _ (i x : ℕ) (xs : List ℕ) (is : drop (base + i) X ≡ x ∷ xs) where
    next_place : suc (base + i) ≡ base + suc i
    next_place = sym (add-suc base i)

    next-bytes : drop (base + suc i) X ≡ xs
    next-bytes = ap (λ (k : ℕ). drop k X) (sym next_place) ∙ (at-cons X (base + i) x xs is).next

    found-other : (n : ℕ) (e : List ℕ) → eqb x 10 ≡ false → found_at i n e ≡ found_at (suc i) n e
    found-other n e t =
        ap (λ (ys : List ℕ). marks l b (base + i) (ends_in base n e) ys false) is
        ∙ pass-other l b (base + i) (ends_in base n e) x xs t
        ∙ (λ k. marks l b (next_place k) (ends_in base n e) (sym next-bytes k) false)

    found-held : (n : ℕ) (e : List ℕ) → eqb x 10 ≡ true → found_at i n e ≡ marks l b (base + suc i) (ends_in base n e) xs true
    found-held n e t =
        ap (λ (ys : List ℕ). marks l b (base + i) (ends_in base n e) ys false) is
        ∙ pass-held l b (base + i) (ends_in base n e) x xs t
        ∙ ap (λ (p : ℕ). marks l b p (ends_in base n e) xs true) next_place

  -- the search stopped at the end of the filled bytes, on a last `\n` or behind the last byte
  end-behind : (i n : ℕ) (e : List ℕ) → i ≡ top → SeesEnd (found_at i n e) (stop_at i n stop.Filled e)
  end-behind i n e h = record { are = refl; held = false; near = omega arith; all = ap (λ (k : ℕ). marks l b (base + k) (ends_in base n e) (drop (base + k) X) false) h }

  end_on : (x i n : ℕ) (e : List ℕ) → drop (base + i) X ≡ x ∷ drop (base + top) X → suc i ≡ top → eqb x 10 ≡ true
      → SeesEnd (found_at i n e) (stop_at i n stop.Filled e)
  end_on x i n e is h t =
      record {
        are = refl;
        held = true;
        near = omega arith;
        all = found-held i x (drop (base + top) X) is n e t ∙ ap (λ (k : ℕ). marks l b (base + k) (ends_in base n e) (drop (base + top) X) true) h;
      }

  -- at a `\n` with a byte y behind it
  module _ (x y : ℕ) (xs : List ℕ) (i n : ℕ) (e : List ℕ) (is : drop (base + i) X ≡ x ∷ y ∷ xs) (lf : eqb x 10 ≡ true) where
    from-here : found_at i n e ≡ marks l b (base + i) (ends_in base n e) (x ∷ y ∷ xs) false
    from-here = ap (λ (ys : List ℕ). marks l b (base + i) (ends_in base n e) ys false) is

    -- a record with this end
    full_by : (m : Mark) (ms : List Mark) (fresh : List ℕ) → n ≤ length e → found_at i n e ≡ m ∷ ms → m.line ≡ l → m.byte ≡ b
        → m.ends ≡ ends_in base n e ++ ((base + i) ∷ fresh) → SeesFull (found_at i n e) (stop_at i n stop.Full e)
    full_by m ms fresh h are line byte ends =
        let c : length (ends_in base n e) ≡ n = ends-count base n e h in
        record {
          head = m;
          tail = ms;
          are = are;
          line_is = line;
          byte_is = byte;
          still = refl;
          more = omega (arith, ap length ends, length-append (ends_in base n e) ((base + i) ∷ fresh), c);
          this =
              ap (λ (k : ℕ). get_or m.ends k 0) (sym c)
              ∙ ap (λ (es : List ℕ). get_or es (length (ends_in base n e)) 0) ends
              ∙ get_or-append_seam (ends_in base n e) (base + i) fresh 0;
        }

    sees-full : n ≤ length e → SeesFull (found_at i n e) (stop_at i n stop.Full e)
    sees-full h = go (eqb y 62) refl
      where
        go : (t : Bool) → eqb y 62 ≡ t → SeesFull (found_at i n e) (stop_at i n stop.Full e)
        go true t = full_by _ _ [] h (from-here ∙ pass-mark l b (base + i) (ends_in base n e) x y xs lf t) refl refl refl
        go false t =
            let f = first (y ∷ xs) false l b (suc (base + i)) 0 (ends_in base n e ++ ((base + i) ∷ [])) (omega arith) in
            full_by f.head f.tail f.fresh h (from-here ∙ pass-line l b (base + i) (ends_in base n e) x y xs lf t ∙ f.are) f.line_is f.byte_is
            (f.ends_are ∙ append_assoc (ends_in base n e) ((base + i) ∷ []) f.fresh)

    sees-mark : n < length e → eqb y 62 ≡ true → SeesMark (found_at i n e) (stop_at (suc i) (suc n) stop.Record (set e n i))
    sees-mark h t =
        let q : drop (base + suc i) X ≡ y ∷ xs = next-bytes i x (y ∷ xs) is in
        let z : y ≡ 62 = eqb-true y 62 t in
        let behind : drop (suc (base + suc i)) X ≡ xs = (at-cons X (base + suc i) y xs q).next in
        let c : suc (length (ends_in base n e)) ≡ suc n = ap suc (ends-count base n e (omega arith)) in
        let place : suc (base + i) ≡ base + suc i = next_place i x (y ∷ xs) is in
        record {
          are =
              from-here
              ∙ pass-mark l b (base + i) (ends_in base n e) x y xs lf t
              ∙ (λ k.
              record { line = l; byte = b; len = place k - b; ends = sym (ends_more base n e i h) k }
              ∷ marks (l + c k) (place k) (suc (place k)) [] (sym behind k) false);
          stands = q ∙ (λ k. z k ∷ sym behind k);
        }

    found-line : n < length e → eqb y 62 ≡ false → found_at i n e ≡ found_at (suc i) (suc n) (set e n i)
    found-line h t =
        from-here
        ∙ pass-line l b (base + i) (ends_in base n e) x y xs lf t
        ∙ (λ k. marks l b (next_place i x (y ∷ xs) is k) (sym (ends_more base n e i h) k) (sym (next-bytes i x (y ∷ xs) is) k) false)

  pub sees : (T : ℕ) (ys : List ℕ) (i n : ℕ) (e : List ℕ) → drop (base + i) X ≡ ys ++ drop (base + top) X → i + length ys ≡ top → n ≤ length e
      → Sees (found_at i n e) (searched 62 T ys i n e)
  sees T [] i n e is h k = sees-as refl (search-nil T i n e) (end-behind i n e (omega arith))
  sees T (x ∷ []) i n e is h k = go (eqb x 10) refl
    where
      go : (t : Bool) → eqb x 10 ≡ t → Sees (found_at i n e) (searched 62 T (x ∷ []) i n e)
      go true t = sees-as refl (search-tip T x i n e t) (end_on x i n e is (omega arith) t)
      go false t = sees-as (found-other i x (drop (base + top) X) is n e t) (search-past T x i n e t) (end-behind (suc i) n e (omega arith))
  sees T (x ∷ y ∷ r) i n e is h k =
      go (eqb x 10) refl (leb T n || leb (length e) n) refl (eqb y 62) refl
      (λ n e k. sees T (y ∷ r) (suc i) n e (next-bytes i x ((y ∷ r) ++ drop (base + top) X) is) (omega arith) k)
    where
      go :
          (t : Bool) →
          eqb x 10 ≡ t →
          (u : Bool) →
          (leb T n || leb (length e) n) ≡ u →
          (v : Bool) →
          eqb y 62 ≡ v →
          ((n : ℕ) (e : List ℕ) → n ≤ length e → Sees (found_at (suc i) n e) (searched 62 T (y ∷ r) (suc i) n e)) →
          Sees (found_at i n e) (searched 62 T (x ∷ y ∷ r) i n e)
      go false t u f v m on = sees-as (found-other i x ((y ∷ r) ++ drop (base + top) X) is n e t) (search-other T x y r i n e t) (on n e k)
      go true t true f v m on = sees-as refl (search-full T x y r i n e t f) (sees-full x y (r ++ drop (base + top) X) i n e is t k)
      go true t false f true m on =
          sees-as refl (search-mark T x y r i n e t f m) (sees-mark x y (r ++ drop (base + top) X) i n e is t (slot-left T n (length e) f) m)
      go true t false f false m on =
          let s : n < length e = slot-left T n (length e) f in
          sees-as (found-line x y (r ++ drop (base + top) X) i n e is t s m) (search-line T x y r i n e t f m)
          (on (suc n) (set e n i) (omega (arith, length-set e n i)))

-- where the input ends with the filled bytes, the record ends with them; its last end is where the search stopped
pub closes : (l b base at top : ℕ) (E : List ℕ) (held : Bool) → at + late held ≡ top
    → marks l b (base + top) E [] held ≡ record { line = l; byte = b; len = base + top - b; ends = E ++ ((base + at) ∷ []) } ∷ []
unfolding marks
closes l b base at top E false h =
    let z : base + top ≡ base + at = omega arith in
    ap (λ (k : ℕ). record { line = l; byte = b; len = base + top - b; ends = E ++ (k ∷ []) } ∷ []) z
closes l b base at top E true h =
    let z : pred (base + top) ≡ base + at = omega arith in
    ap (λ (k : ℕ). record { line = l; byte = b; len = base + top - b; ends = E ++ (k ∷ []) } ∷ []) z
