-- What each step of a look comes to, by the tests that lead there: the definitions of Look.antt, clause by clause.
-- Assumes nothing.
use Prim.Native.Nat.{ℕ, ◌+◌, ◌≤◌, ◌<◌}
use native.Mathlib.Numerals.{add-one}
use mathlib.Core.Bool.{true, false, ◌&&◌}
use mathlib.Core.List.{List}
use mathlib.Core.Logic.{inr}
use mathlib.Core.Path.{◌≡◌, sym, ap}
use lib.ListN.{length, set}
use lib.Dec.{eqb}
use borrow.Author.Tests.{le-leb, lt-leb, eq-eqb}
use Rattle.scan.specs.Search.{Recorded}
use Rattle.scan.specs.declared.ends.Stop.TheVariants as stop
use Rattle.window.specs.Fill.{ready}
use Rattle.reader.specs.declared.state.Reader.{Reader}
use Rattle.reader.specs.declared.state.Phase.TheVariants as phase
use Rattle.reader.specs.State.{sane, lent_as, is_current, with_mark, in_phase, mark_at}
use Rattle.reader.specs.Read.{reached, searches, passed}
use Rattle.reader.specs.Look.{over, denied, sees, looked_at, left_ahead, shut, looked_to, looks_on, looks_behind, look_of, put_back_of}
use Rattle.reader.proofs.ReadLaws.{neither}

module _ (r : Reader) (e : List ℕ) where
  -- the end closes a record, with a slot or without
  pub shut-full : r.slots ≤ r.mark.count → shut r e ≡ left_ahead r e
  unfolding shut
  shut-full h = rw (le-leb r.slots r.mark.count h)

  pub shut-more : r.mark.count < r.slots → shut r e ≡ looked_at (reached r.fill.filled (r.mark.count + 1) r) (set e r.mark.count r.mark.search.0)
  unfolding shut
  shut-more h = rw (lt-leb r.slots r.mark.count h, add-one r.mark.count)

  -- a search that came to the end of the filled bytes
  pub to-told : r.fill.told ≡ true → looked_to stop.Filled r e ≡ shut r e
  to-told t = rw t

  pub to-not : r.fill.told ≡ false → looked_to stop.Filled r e ≡ left_ahead r e
  to-not t = rw t

module _ (r : Reader) (w e : List ℕ) where
  pub on-found : (s : Recorded) → s ≡ searches r w e → looks_on r w e ≡ looked_to s.out.stop (reached s.out.at s.out.count r) s.ends
  unfolding looks_on
  on-found s p = ap (λ (q : Recorded). looked_to q.out.stop (reached q.out.at q.out.count r) q.ends) (sym p)

  -- behind a current record
  pub look-over : r.fill.told ≡ true → r.mark.search.0 ≡ r.fill.filled → looks_behind r w e ≡ sees over (in_phase phase.Over r) e
  unfolding looks_behind
  look-over t h = rw (t, eq-eqb r.mark.search.0 r.fill.filled h)

  module _ (t : (r.fill.told && eqb r.mark.search.0 r.fill.filled) ≡ false) where
    pub look-waits : ready r.fill ≡ false → looks_behind r w e ≡ left_ahead (passed r) e
    unfolding looks_behind
    look-waits u = rw (t, u)

    pub look-goes : ready r.fill ≡ true → looks_behind r w e ≡ looks_on (passed r) w e
    unfolding looks_behind
    look-goes u = rw (t, u)

  -- the tests before
  look-denied : (sane r && lent_as r (length w) (length e)) ≡ false → look_of r w e ≡ sees (denied 11) r e
  unfolding look_of
  look-denied t = rw t

  pub look-unlent : lent_as r (length w) (length e) ≡ false → look_of r w e ≡ sees (denied 11) r e
  look-unlent t = look-denied (neither (sane r) (lent_as r (length w) (length e)) (inr t))

  module _ (t : sane r ≡ true) (u : lent_as r (length w) (length e) ≡ true) where
    pub look_none : is_current r.phase ≡ false → look_of r w e ≡ sees (denied 7) r e
    unfolding look_of
    look_none p = rw (t, u, p)

    pub look-behind : is_current r.phase ≡ true → look_of r w e ≡ looks_behind r w e
    unfolding look_of
    look-behind p = rw (t, u, p)

module _ (r : Reader) where
  pub put-none : sane r ≡ true → is_current r.phase ≡ false → put_back_of r ≡ r
  unfolding put_back_of
  put-none t u = rw (t, u)

  pub put-current : sane r ≡ true → is_current r.phase ≡ true → put_back_of r ≡ in_phase phase.Ahead (with_mark (mark_at r.mark.start.0 r.mark.start.0 0 r.mark.line) r)
  unfolding put_back_of
  put-current t u = rw (t, u)
