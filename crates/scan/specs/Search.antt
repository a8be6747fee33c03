-- What a search records and where it stops, and where the blank lead ends (01, "The window and its refills"). Assumes nothing.
use Rattle.std.specs.Prelude.{ℕ, suc, Bool, true, false, ◌&&◌, ◌||◌, List, [], ◌∷◌, ◌≡◌, length, drop, set, eqb, leb}
use Rattle.scan.specs.declared.ends.Stop.{Stop}
use Rattle.scan.specs.declared.ends.Stop.TheVariants as stop
use Rattle.scan.specs.declared.ends.Searched.{Searched}
use Rattle.scan.specs.declared.line.Blank.{Blank}

-- what a search answers, and what it leaves in the table
pub record Recorded : Type 0 where
  pub out : Searched
  pub ends : List ℕ

abbrev pub stopped_at : (i n : ℕ) → Stop → Searched
stopped_at i n s = record { at = i; count = n; stop = s }

abbrev pub stop_at : (i n : ℕ) → Stop → List ℕ → Recorded
stop_at i n s e = record { out = stopped_at i n s; ends = e }

-- A search at place i with n ends recorded in e, over the bytes from i on. "A `\n` that is the last filled byte is not recorded until a
-- byte or the end follows. Every other one is recorded, and search goes on behind it"; a mark behind it is the next record's.
unfoldable pub searched : (mark limit : ℕ) → List ℕ → (i n : ℕ) (e : List ℕ) → Recorded
searched mark limit [] i n e = stop_at i n stop.Filled e
searched mark limit (x ∷ []) i n e = elim (eqb x 10) [ true ↦ stop_at i n stop.Filled e | false ↦ stop_at (suc i) n stop.Filled e ]
searched mark limit (x ∷ y ∷ r) i n e =
    elim (eqb x 10) [
      | false ↦ searched mark limit (y ∷ r) (suc i) n e
      | true ↦ elim (leb limit n || leb (length e) n) [
        | true ↦ stop_at i n stop.Full e
        | false ↦ elim (eqb y mark) [
          | true ↦ stop_at (suc i) (suc n) stop.Record (set e n i)
          | false ↦ searched mark limit (y ∷ r) (suc i) (suc n) (set e n i)
        ]
      ]
    ]

-- The lead at place i behind n blank lines: "lines that are empty or exactly `\r` are skipped".
abbrev pub blank : (i n : ℕ) (undecided : Bool) → Blank
blank i n o = record { at = i; lines = n; undecided = o }

unfoldable pub lead_at : List ℕ → (i n : ℕ) → Blank
lead_at [] i n = blank i n true
lead_at (x ∷ []) i n =
    elim (eqb x 10) [ true ↦ blank (suc i) (suc n) true | false ↦ blank i n (eqb x 13) ]
lead_at (x ∷ y ∷ r) i n =
    elim (eqb x 10) [
      | true ↦ lead_at (y ∷ r) (suc i) (suc n)
      | false ↦ elim (eqb x 13 && eqb y 10) [ true ↦ lead_at r (suc (suc i)) (suc n) | false ↦ blank i n false ]
    ]

-- the promises of `search` and `lead`
abbrev pub Search : (bytes : List ℕ) (from count limit mark : ℕ) (ends : List ℕ) → Searched → (exit : List ℕ) → Type 0
Search bytes from count limit mark ends r exit = record { out = r; ends = exit } ≡ searched mark limit (drop from bytes) from count ends

abbrev pub Lead : (bytes : List ℕ) (from : ℕ) → Blank → Type 0
Lead bytes from r = r ≡ lead_at (drop from bytes) from 0
