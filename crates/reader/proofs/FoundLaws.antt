-- What a search and the told end come to (`found_in`) says what a read and a look come to. Assumes nothing.
use Rattle.std.proofs.Common.{ℕ, suc, ◌≤◌, ◌&&◌, Bool, true, false, List, set, ◌≡◌, refl, sym, ap, subst, ◌∙◌}
use lib.Dec.{eqb, leb}
use Rattle.scan.specs.Search.{Recorded}
use Rattle.scan.specs.declared.ends.Searched.{Searched}
use Rattle.scan.specs.declared.ends.Stop.{Stop}
use Rattle.scan.specs.declared.ends.Stop.TheVariants as stop
use Rattle.window.specs.Fill.{most}
use Rattle.reader.specs.declared.state.Reader.{Reader}
use Rattle.reader.specs.State.{Good, byte_of}
use Rattle.reader.specs.Read.{Did, given, too_many, makes_room, reached, searches, SearchIs, closed, stopped, hunted, Found, closed_to, found_in}
use Rattle.reader.specs.Look.{Looked, looked_at, left_ahead, shut, looked_to, looks_on}
use Rattle.reader.proofs.Sanity.{sane-byte}
use Rattle.reader.proofs.ReadLaws.{hunt-good, hunt-over, hunt-goes}
use Rattle.reader.proofs.LookLaws.{on-found}

-- a read and a look, by where it stopped
abbrev pub read_at : Stop → Reader → (w e : List ℕ) → Did
read_at stop.Record r w e = given r w e
read_at stop.Full r w e = too_many r w e
read_at stop.Filled r w e = makes_room r w e

abbrev pub seen_at : Stop → Reader → (e : List ℕ) → Looked
seen_at stop.Record r e = looked_at r e
seen_at stop.Full r e = left_ahead r e
seen_at stop.Filled r e = left_ahead r e

module _ (r : Reader) (e : List ℕ) where
  stopped-closed : (w : List ℕ) (s : Stop) → let f = closed_to s r e in stopped s r w e ≡ read_at f.stop f.reader w f.table
  unfolding closed
  stopped-closed w stop.Record = refl
  stopped-closed w stop.Full = refl
  stopped-closed w stop.Filled = go r.fill.told refl (leb r.slots r.mark.count) refl
    where
      go : (t : Bool) → r.fill.told ≡ t → (u : Bool) → leb r.slots r.mark.count ≡ u
          → let f = closed_to stop.Filled r e in stopped stop.Filled r w e ≡ read_at f.stop f.reader w f.table
      go true p true q = rw (p, q) refl
      go true p false q = rw (p, q) refl
      go false p u q = rw p refl

  looked-closed : (s : Stop) → let f = closed_to s r e in looked_to s r e ≡ seen_at f.stop f.reader f.table
  unfolding shut
  looked-closed stop.Record = refl
  looked-closed stop.Full = refl
  looked-closed stop.Filled = go r.fill.told refl (leb r.slots r.mark.count) refl
    where
      go : (t : Bool) → r.fill.told ≡ t → (u : Bool) → leb r.slots r.mark.count ≡ u
          → let f = closed_to stop.Filled r e in looked_to stop.Filled r e ≡ seen_at f.stop f.reader f.table
      go true p true q = rw (p, q) refl
      go true p false q = rw (p, q) refl
      go false p u q = rw p refl

-- what a call may go on from: the record has a place, and one that may still grow passes refusal 11
pub record Usable (w : List ℕ) (f : Found) : Type 0 where
  pub place : byte_of f.reader ≤ most
  pub going : f.stop ≡ stop.Filled → Good f.reader w f.table

pub closed-usable : (r : Reader) (w e : List ℕ) → Good r w e → (s : Stop) → Usable w (closed_to s r e)
closed-usable r w e g s = go s
  where
    h : byte_of r ≤ most
    h = sane-byte r g.is-sane

    go : (s : Stop) → Usable w (closed_to s r e)
    go stop.Record = record { place = h; going = λ is. g }
    go stop.Full = record { place = h; going = λ is. g }
    go stop.Filled = by r.fill.told refl (leb r.slots r.mark.count) refl
      where
        by : (t : Bool) → r.fill.told ≡ t → (u : Bool) → leb r.slots r.mark.count ≡ u → Usable w (closed_to stop.Filled r e)
        by true p true q =
            let same : closed_to stop.Filled r e ≡ record { reader = r; stop = stop.Full; table = e } = rw (p, q) in
            subst (Usable w) (sym same) (record { place = h; going = λ is. g })
        by true p false q =
            let same : closed_to stop.Filled r e ≡ record { reader = reached r.fill.filled (suc r.mark.count) r; stop = stop.Record; table = set e r.mark.count r.mark.search.0 } = rw (p, q) in
            subst (Usable w) (sym same) (record { place = h; going = λ is. cc })
        by false p u q =
            let same : closed_to stop.Filled r e ≡ record { reader = r; stop = stop.Filled; table = e } = rw p in
            subst (Usable w) (sym same) (record { place = h; going = λ is. g })

module _ (r : Reader) (w e : List ℕ) where
  pub found-usable : Good r w e → (s : Searched) (x : List ℕ) → SearchIs r w e s x → Usable w (closed_to s.stop (reached s.at s.count r) x)
  found-usable g s x is = closed-usable (reached s.at s.count r) w x (hunt-good r w e g s x is) s.stop

  pub found-by : (s : Recorded) → s ≡ searches r w e → closed_to s.out.stop (reached s.out.at s.out.count r) s.ends ≡ found_in r w e
  unfolding found_in
  found-by s p = ap (λ (q : Recorded). closed_to q.out.stop (reached q.out.at q.out.count r) q.ends) p

  pub hunt-found : (r.fill.told && eqb r.mark.start.0 r.fill.filled) ≡ false → let f = found_in r w e in hunted r w e ≡ read_at f.stop f.reader w f.table
  unfolding found_in
  hunt-found t =
      let s = searches r w e in
      hunt-goes r w e t s refl ∙ stopped-closed (reached s.out.at s.out.count r) s.ends w s.out.stop

  pub look-found : let f = found_in r w e in looks_on r w e ≡ seen_at f.stop f.reader f.table
  unfolding found_in
  look-found =
      let s = searches r w e in
      on-found r w e s refl ∙ looked-closed (reached s.out.at s.out.count r) s.ends s.out.stop

-- what each step after a search cites
pub ruleset founds = (hunt-over, hunt-found, look-found)
