-- 01's own score, and its order of refusals by example, on the definitions that the contracts cite. Assumes nothing.
use Rattle.std.specs.Prelude.{Err, None, Ok, Some}
use mathlib.Core.Path.{◌≡◌, refl}
use mathlib.Core.List.{List, [], ◌∷◌, ◌++◌}
use mathlib.Core.Bool.{true, false}
use Prim.Native.Nat.{ℕ}
use Rattle.runs.specs.Runs.{first_passing}
use Rattle.answers.specs.declared.ScoreFault.TheVariants.{Length, Mark, Kind, Field, Order}
use Rattle.score.specs.declared.Kind.TheVariants.{On, Off}
use Rattle.score.specs.declared.Record.{Record}
use Rattle.score.specs.Record.{position_at, record_at, encode_all}
use Rattle.score.specs.Score.{mark_right, kind_right, fields_right, in_order, faults_at, faults_from, faults_of, verdict_of}
use Rattle.score.specs.Apart.{same_to, difference_of, last_difference_of, same_from}
use Rattle.score.specs.Below.{below, next_not_below}
use Rattle.words.specs.Words.{same}

-- 56 4E 00 00 00 00 01 45 7F 00 56 4E 64 00 00 00 02 45 00 00
abbrev pub example : List ℕ
example =
    0x56 ∷ 0x4E ∷ 0x00 ∷ 0x00 ∷ 0x00 ∷ 0x00 ∷ 0x01 ∷ 0x45 ∷ 0x7F ∷ 0x00
    ∷ 0x56 ∷ 0x4E ∷ 0x64 ∷ 0x00 ∷ 0x00 ∷ 0x00 ∷ 0x02 ∷ 0x45 ∷ 0x00 ∷ 0x00 ∷ []

abbrev note_on : ℕ → Record
note_on at = record { position = at; kind = On; note = 69; velocity = 127 }

abbrev note_off : ℕ → Record
note_off at = record { position = at; kind = Off; note = 69; velocity = 0 }

-- 01's score has the two records that 01's lister prints
pub example-accepted : (verdict_of example ≡ Ok 2) × (record_at example 0 ≡ note_on 0) × (record_at example 1 ≡ note_off 100) × (encode_all (note_on 0 ∷ note_off 100 ∷ []) ≡ example)
unfolding position_at mark_right kind_right fields_right in_order faults_at faults_from faults_of verdict_of
example-accepted = (refl, refl, refl, refl)

-- ten bytes: the mark, position 0, a kind, a note, a velocity and a last byte
abbrev ten : ℕ → ℕ → ℕ → ℕ → List ℕ
ten kind note velocity last = 0x56 ∷ 0x4E ∷ 0 ∷ 0 ∷ 0 ∷ 0 ∷ kind ∷ note ∷ velocity ∷ last ∷ []

pub record Refusals : Type 0 where
  pub nothing : verdict_of [] ≡ Ok 0
  pub nine_bytes : verdict_of (0 ∷ 0 ∷ 0 ∷ 0 ∷ 0 ∷ 0 ∷ 0 ∷ 0 ∷ 0 ∷ []) ≡ Err Length
  pub mark : verdict_of (0x56 ∷ 0x4F ∷ 0 ∷ 0 ∷ 0 ∷ 0 ∷ 7 ∷ 200 ∷ 0 ∷ 1 ∷ []) ≡ Err (Mark 0)
  pub kind_first : verdict_of (ten 7 0 0 0 ++ (0 ∷ 0 ∷ 0 ∷ 0 ∷ 0 ∷ 0 ∷ 1 ∷ 0 ∷ 0 ∷ 0 ∷ [])) ≡ Err (Kind 0)
  pub kind_none : verdict_of (ten 0 0 0 0) ≡ Err (Kind 0)
  pub note_127 : verdict_of (ten 1 127 0 0) ≡ Ok 1
  pub note_128 : verdict_of (ten 1 128 0 0) ≡ Err (Field 0)
  pub reset-velocity : verdict_of (ten 3 0 1 0) ≡ Err (Field 0)
  pub last_byte : verdict_of (ten 2 0 0 1) ≡ Err (Field 0)
  pub equal_positions : verdict_of (encode_all (note_on 5 ∷ note_off 5 ∷ [])) ≡ Ok 2
  pub falling : verdict_of (encode_all (note_on 5 ∷ note_off 4 ∷ [])) ≡ Err (Order 1)

pub refusals : Refusals
unfolding position_at mark_right kind_right fields_right in_order faults_at faults_from faults_of verdict_of
refusals =
    record {
      nothing = refl;
      nine_bytes = refl;
      mark = refl;
      kind_first = refl;
      kind_none = refl;
      note_127 = refl;
      note_128 = refl;
      reset-velocity = refl;
      last_byte = refl;
      equal_positions = refl;
      falling = refl;
    }

-- the lower of two positions; the position in the longer score; a difference in the velocity of an off alone
pub record Differences : Type 0 where
  pub lower-first : difference_of (encode_all (note_on 0 ∷ note_off 9 ∷ [])) (encode_all (note_on 0 ∷ note_off 7 ∷ [])) ≡ Some 7
  pub lower-second : difference_of (encode_all (note_on 0 ∷ note_off 7 ∷ [])) (encode_all (note_on 0 ∷ note_off 9 ∷ [])) ≡ Some 7
  pub remains : difference_of (encode_all (note_on 0 ∷ [])) (encode_all (note_on 0 ∷ note_off 8 ∷ [])) ≡ Some 8
  pub off-velocity : difference_of (ten 2 69 0 0) (ten 2 69 1 0) ≡ Some 0
  pub equal : difference_of example example ≡ None

pub differences : Differences
unfolding position_at same_to first_passing
differences = record { lower-first = refl; lower-second = refl; remains = refl; off-velocity = refl; equal = refl }

-- the higher of two positions at the last difference; the position in the longer score; the velocity of an off; records
-- added and taken away before the same end
pub record LastDifferences : Type 0 where
  pub higher-first : last_difference_of (encode_all (note_on 0 ∷ note_off 9 ∷ [])) (encode_all (note_on 0 ∷ note_off 7 ∷ [])) ≡ Some 9
  pub higher-second : last_difference_of (encode_all (note_on 0 ∷ note_off 7 ∷ [])) (encode_all (note_on 0 ∷ note_off 9 ∷ [])) ≡ Some 9
  pub remains : last_difference_of (encode_all (note_off 8 ∷ [])) (encode_all (note_on 5 ∷ note_off 8 ∷ [])) ≡ Some 5
  pub added-at_the_end : last_difference_of (encode_all (note_on 0 ∷ [])) (encode_all (note_on 0 ∷ note_off 8 ∷ [])) ≡ Some 8
  pub off-velocity : last_difference_of (ten 2 69 0 0) (ten 2 69 1 0) ≡ Some 0
  pub equal : last_difference_of example example ≡ None

pub last_differences : LastDifferences
unfolding position_at same_to first_passing
last_differences = record { higher-first = refl; higher-second = refl; remains = refl; added-at_the_end = refl; off-velocity = refl; equal = refl }

-- the records from q on take in those at q; the first record not below p, from record i on, and past the last record
pub record FromOn : Type 0 where
  pub takes_in : same_from (encode_all (note_on 0 ∷ note_off 8 ∷ [])) (encode_all (note_on 0 ∷ note_off 9 ∷ [])) 9 ≡ false
  pub above : same_from (encode_all (note_on 0 ∷ note_off 8 ∷ [])) (encode_all (note_on 0 ∷ note_off 9 ∷ [])) 10 ≡ true
  pub past_the_end : same_from (encode_all (note_on 0 ∷ [])) (encode_all (note_on 0 ∷ note_off 4294967295 ∷ [])) 4294967295 ≡ false
  pub at_it : next_not_below example 0 100 ≡ 1
  pub after_it : next_not_below example 0 101 ≡ 2
  pub from_it : next_not_below example 1 0 ≡ 1
  pub beyond : next_not_below example 7 0 ≡ 7

pub from_on : FromOn
unfolding position_at same_to first_passing next_not_below same_from same below
from_on = record { takes_in = refl; above = refl; past_the_end = refl; at_it = refl; after_it = refl; from_it = refl; beyond = refl }
