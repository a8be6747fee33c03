-- What `current` tells of the lent window and table: the filled bytes and the ends that it names lie in them.
-- Assumes nothing.
use Prim.Native.Nat.{ℕ, ◌≤◌}
use native.Mathlib.Omega.{arith}
use mathlib.Core.Bool.{Bool, true, false, ◌&&◌}
use mathlib.Core.List.{List}
use mathlib.Core.Path.{◌≡◌, refl, sym, ap, subst, ◌∙◌}
use lib.ListN.{length, take}
use lib.Seq.{length-take-le}
use lib.Dec.{eqb}
use borrow.Author.Tests.{eqb-true}
use Rattle.reader.specs.declared.state.Reader.{Reader}
use Rattle.reader.specs.declared.state.Current.{Current}
use Rattle.reader.specs.declared.error.RecordError.{RecordError}
use Rattle.std.specs.Prelude.{Result, Ok}
use Rattle.reader.specs.State.{sane, lent_as, is_current}
use Rattle.reader.specs.Calls.{Held, held, missing, current_of, held_by, CurrentIs}
use Rattle.reader.proofs.Sanity.{true-sane, and-true}

abbrev Inside : (window ends : ℕ) → Held → Type 0
Inside window ends (held start filled count) = (filled ≤ window) × (count ≤ ends)
Inside window ends (missing number) = Unit {0}

module _ (window ends : ℕ) (r : Reader) where
  passed-inside : (sane r && lent_as r window ends) ≡ true → (r.fill.filled ≤ window) × (r.mark.count ≤ ends)
  unfolding lent_as
  passed-inside e =
      let a = and-true (sane r) (lent_as r window ends) e in
      let l = and-true (eqb r.fill.lent window) (eqb r.slots ends) a.1 in
      let s = true-sane r a.0 in
      let v = s.window_sound in
      let p = eqb-true r.fill.lent window l.0 in
      let q = eqb-true r.slots ends l.1 in
      (omega (arith, v.filled_fits, v.capacity_fits, p), omega (arith, s.count_slots, q))

  current-inside : Inside window ends (current_of window ends r)
  unfolding current_of
  current-inside = go (sane r && lent_as r window ends) refl (is_current r.phase) refl
    where
      go : (t : Bool) → (sane r && lent_as r window ends) ≡ t → (u : Bool) → is_current r.phase ≡ u
          → Inside window ends (current_of window ends r)
      go false et u eu = rw (et, current_of) tt
      go true et false eu = rw (et, eu, current_of) tt
      go true et true eu = rw (et, eu, current_of) (passed-inside et)

module _ (r : Reader) (w ends : List ℕ) {now : Result Current RecordError} (is : CurrentIs (length w) (length ends) r now) where
  told : {c : Result Current RecordError} → now ≡ c → held_by c ≡ current_of (length w) (length ends) r
  told e = ap held_by (sym e) ∙ is

  inside : {c : Current} → now ≡ Ok c → (c.filled ≤ length w) × (c.count ≤ length ends)
  inside e = subst (Inside (length w) (length ends)) (sym (told e)) (current-inside (length w) (length ends) r)

  -- the parts that a view is handed
  pub window-part : {c : Current} → now ≡ Ok c → c.filled ≡ length (take c.filled w)
  window-part {c} e = sym (length-take-le c.filled w (inside e).0)

  pub ends-part : {c : Current} → now ≡ Ok c → c.count ≡ length (take c.count ends)
  ends-part {c} e = sym (length-take-le c.count ends (inside e).1)
