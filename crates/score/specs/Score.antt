-- What a score is refused for. 01, "What a call says": number 1 "score length no multiple of 10, or above 4,096
-- records"; 2, 3 and 4 "wrong mark / kind / a field out of range or last byte not 0"; 5 "position below the record
-- before".
-- "In a score 1 first, then each record 2, 3, 4, 5. Place is the record's index, else 0." Definitions only.
use Rattle.std.specs.Prelude.{Bool, true, cond, ◌&&◌, List, [], ◌++◌, map, ◌≡◌, ℕ, zero, suc, ◌%◌, ◌≤◌, ◌<◌, length, get_or, leb, eqb, Err, Ok, Result}
use Rattle.answers.specs.Order.{unless, first_of}
use Rattle.answers.specs.Answer.{Answer}
use Rattle.answers.specs.declared.Refusal.TheVariants.{Score}
use Rattle.answers.specs.declared.ScoreFault.{ScoreFault}
use Rattle.answers.specs.declared.ScoreFault.TheVariants.{Length, Mark, Kind, Field, Order}
use Rattle.score.specs.declared.Record.{Record}
use Rattle.score.specs.Record.{count_of, byte_at, position_at, Valid, blank, encode_all}

-- ---- the tests of record i
unfoldable pub mark_right : List ℕ → ℕ → Bool
mark_right s i = eqb (byte_at s i 0) 0x56 && eqb (byte_at s i 1) 0x4E

unfoldable pub kind_right : List ℕ → ℕ → Bool
kind_right s i = leb 1 (byte_at s i 6) && leb (byte_at s i 6) 3

-- note and velocity are at most 127, of a reset at most 0
abbrev pub field_limit : ℕ → ℕ
field_limit kind = cond (eqb kind 3) 0 127

unfoldable pub fields_right : List ℕ → ℕ → Bool
fields_right s i = leb (byte_at s i 7) (field_limit (byte_at s i 6)) && leb (byte_at s i 8) (field_limit (byte_at s i 6)) && eqb (byte_at s i 9) 0

-- the tests of record i that look at no other record
abbrev pub all_right : List ℕ → ℕ → Bool
all_right s i = mark_right s i && kind_right s i && fields_right s i

-- the position of a record is at or above that of the record before
unfoldable pub in_order : List ℕ → ℕ → Bool
in_order s zero = true
in_order s (suc i) = leb (position_at s i) (position_at s (suc i))

-- ---- the faults, in 01's order
-- the faults of record i: 2, 3, 4, 5
unfoldable pub faults_at : List ℕ → ℕ → List ScoreFault
faults_at s i = unless (mark_right s i) (Mark i) ++ unless (kind_right s i) (Kind i) ++ unless (fields_right s i) (Field i) ++ unless (in_order s i) (Order i)

-- the faults of k records from record i on
unfoldable pub faults_from : List ℕ → ℕ → ℕ → List ScoreFault
faults_from s zero i = []
faults_from s (suc k) i = faults_at s i ++ faults_from s k (suc i)

-- the fault of the length first, then the faults record by record
unfoldable pub faults_of : List ℕ → List ScoreFault
faults_of s = unless (eqb (length s % 10) 0 && leb (count_of s) 4096) Length ++ faults_from s (count_of s) 0

-- the first fault, or the number of records
unfoldable pub verdict_of : List ℕ → Result ℕ ScoreFault
verdict_of s = first_of (faults_of s) Err (Ok (count_of s))

-- the answer of the check: no samples are written, so the count is 0
unfoldable pub answer_of : List ℕ → Answer
answer_of s = first_of (map Score (faults_of s)) Err (Ok 0)

-- ---- what a score is. 01, "The score": "At most 4,096 records, positions never falling"
-- s is the encoding of rs, and rs are valid and in order
pub record IsScore (s : List ℕ) (rs : List Record) : Type 0 where
  pub few : length rs ≤ 4096
  pub valid : (i : ℕ) → i < length rs → Valid (get_or rs i blank)
  pub rising : (i : ℕ) → suc i < length rs → (get_or rs i blank).position ≤ (get_or rs (suc i) blank).position
  pub encoded : encode_all rs ≡ s
