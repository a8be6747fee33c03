-- A record set (01, module 6): the filled bytes of a window, copied, with start and line ends per record. The table
-- `marks` has two numbers for each record: where it starts in the bytes, and how many ends there are up to its last.
-- The ends of all records stand in `ends`, one after the other, so they rise through the whole set. Assumes nothing.
use Rattle.std.specs.Prelude.{ℕ, zero, suc, ◌+◌, ◌-◌, Bool, cond, ◌&&◌, List, length, get_or, take, drop, ltb, leb}
use Rattle.set.specs.declared.state.Set.{Set}

-- 11: a set's count or filled above its lent lengths
unfoldable pub sound : Set → (bytes marks : ℕ) → Bool
sound s bytes marks = leb s.filled bytes && leb (s.count + s.count) marks

-- how many ends the records before number i have
abbrev pub ends_before : (marks : List ℕ) → (i : ℕ) → ℕ
ends_before marks zero = 0
ends_before marks (suc i) = get_or marks (i + i + 1) 0

-- how many up to its last
abbrev pub ends_to : (marks : List ℕ) → (i : ℕ) → ℕ
ends_to marks i = get_or marks (i + i + 1) 0

abbrev pub start_of : (marks : List ℕ) → (i : ℕ) → ℕ
start_of marks i = get_or marks (i + i) 0

-- A record of a set by its number: its start, the filled bytes, and its ends, from one number up to another; or
-- refusal 11, then 7. A record without an end, or with ends that do not lie in the lent table, has ends that no call
-- can use: 11.
pub data Record : Type 0 where
  held : (start filled from to : ℕ) → Record
  missing : (number : ℕ) → Record

abbrev pub usable : (from to ends : ℕ) → Bool
usable from to ends = ltb from to && leb to ends

unfoldable pub record_of : Set → (bytes : ℕ) (marks : List ℕ) (ends i : ℕ) → Record
unfolding sound
record_of s bytes marks ends i =
    cond (sound s bytes (length marks))
    (cond (ltb i s.count)
    (cond (usable (ends_before marks i) (ends_to marks i) ends)
    (held (start_of marks i) s.filled (ends_before marks i) (ends_to marks i))
    (missing 11))
    (missing 7))
    (missing 11)

-- what is shown of the bytes, start and ends of a record; without one, what a refusal of that number is
abbrev pub of_held : {A : Type 0} → (bytes ends : List ℕ) → (List ℕ → ℕ → List ℕ → A) → (ℕ → A) → Record → A
of_held bytes ends shown refused (held start filled from to) =
    shown (take filled bytes) start (take (to - from) (drop from ends))
of_held bytes ends shown refused (missing number) = refused number

abbrev pub of_record :
    {A : Type 0} → Set → (bytes marks ends : List ℕ) (i : ℕ) → (List ℕ → ℕ → List ℕ → A) → (ℕ → A) → A
of_record s bytes marks ends i shown refused =
    of_held bytes ends shown refused (record_of s (length bytes) marks (length ends) i)
