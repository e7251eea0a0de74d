-- Where two scores part, and from where on they are the same. 01, "The shelf": "P is the lower position of the two at
-- the first index where they differ, or of the one that remains where the other has ended." 02, R-12: "the two scores'
-- records from that position on are the same". 02, R-6: "remove takes the first equal record".
-- Two records are the same if all their ten bytes are; so a different velocity of an off is a difference.
-- Wider than 01: defined for any two lists of bytes, over their whole records; `records_from` also keeps the 1 to 9
-- bytes after the last whole record, which an accepted score does not have. Definitions only.
use Rattle.std.specs.Prelude.{Bool, true, false, not, cond, List, ℕ, zero, suc, ◌-◌, ◌*◌, min, max, ltb, eqb, take, drop, None, Option, Some}
use Rattle.runs.specs.Runs.{first_passing}
use Rattle.words.specs.Words.{same}
use Rattle.score.specs.Record.{count_of, byte_at, position_at}
use Rattle.score.specs.Below.{count_below}

-- whether the first n bytes of record i of s and of record j of t are the same
unfoldable pub same_to : List ℕ → ℕ → List ℕ → ℕ → ℕ → Bool
same_to s i t j zero = true
same_to s i t j (suc n) = cond (eqb (byte_at s i n) (byte_at t j n)) (same_to s i t j n) false

abbrev pub same_record : List ℕ → ℕ → List ℕ → ℕ → Bool
same_record s i t j = same_to s i t j 10

-- ---- from the front
abbrev pub same_at : List ℕ → List ℕ → ℕ → Bool
same_at s t i = same_record s i t i

-- the first index where the records differ or one of the two lists has ended
abbrev pub first_index : List ℕ → List ℕ → ℕ
first_index s t = first_passing (λ (i : ℕ). not (same_at s t i)) (min (count_of s) (count_of t)) 0

-- the difference at that index: of a record in both lists, in one, or in none
abbrev pub difference_at : List ℕ → List ℕ → ℕ → Option ℕ
difference_at s t i =
    cond (ltb i (count_of s))
    (cond (ltb i (count_of t)) (Some (min (position_at s i) (position_at t i))) (Some (position_at s i)))
    (cond (ltb i (count_of t)) (Some (position_at t i)) None)

abbrev pub difference_of : List ℕ → List ℕ → Option ℕ
difference_of s t = difference_at s t (first_index s t)

-- ---- from the end
-- the index of the record that i records follow
abbrev pub from_end : List ℕ → ℕ → ℕ
from_end s i = count_of s - suc i

abbrev pub same_back : List ℕ → List ℕ → ℕ → Bool
same_back s t i = same_record s (from_end s i) t (from_end t i)

-- how many records at the end are the same
abbrev pub same_end : List ℕ → List ℕ → ℕ
same_end s t = first_passing (λ (i : ℕ). not (same_back s t i)) (min (count_of s) (count_of t)) 0

-- the last difference: i records follow it in each list. It has the higher position of the two records there, or that
-- of the one record where the other list has no more
abbrev pub last_difference_at : List ℕ → List ℕ → ℕ → Option ℕ
last_difference_at s t i =
    cond (ltb i (count_of s))
    (cond (ltb i (count_of t)) (Some (max (position_at s (from_end s i)) (position_at t (from_end t i)))) (Some (position_at s (from_end s i))))
    (cond (ltb i (count_of t)) (Some (position_at t (from_end t i))) None)

abbrev pub last_difference_of : List ℕ → List ℕ → Option ℕ
last_difference_of s t = last_difference_at s t (same_end s t)

-- ---- from a position on
-- the bytes of the records of an accepted score that are at position q or above it
abbrev pub records_from : List ℕ → ℕ → List ℕ
records_from s q = drop (count_below s q * 10) s

-- whether two accepted scores have the same records from position q on
unfoldable pub same_from : List ℕ → List ℕ → ℕ → Bool
same_from s t q = same (records_from s q) (records_from t q)

-- ---- one record sought in a score
-- the ten bytes of record i
abbrev pub bytes_at : List ℕ → ℕ → List ℕ
bytes_at s i = take 10 (drop (i * 10) s)

-- the index of the first record whose ten bytes are r, or the number of records where there is none
unfoldable pub first_equal : List ℕ → List ℕ → ℕ
first_equal s r = first_passing (λ (i : ℕ). same (bytes_at s i) r) (count_of s) 0
