-- 01's own score is listed exactly as 01 prints it, and a note-on with velocity 0, which acts as a note-off, as "on"
-- (02, R-4), on the definition that the contract cites. Assumes nothing.
use mathlib.Core.Path.{◌≡◌, refl}
use mathlib.Core.List.{List, [], ◌∷◌, ◌++◌}
use Prim.Native.Nat.{ℕ}
use Rattle.score.specs.Record.{position_at}
use Rattle.score.specs.Score.{mark_right, kind_right, fields_right, in_order, faults_at, faults_from, faults_of}
use Rattle.score.proofs.Examples.{example}
use Rattle.listing.specs.Listing.{spelt, lines_to, listing_of}

-- "records 2", "0 on 69 127" and "100 off 69 0", each with its newline
abbrev printed : List ℕ
printed =
    (114 ∷ 101 ∷ 99 ∷ 111 ∷ 114 ∷ 100 ∷ 115 ∷ 32 ∷ 50 ∷ 10 ∷ [])
    ++ (48 ∷ 32 ∷ 111 ∷ 110 ∷ 32 ∷ 54 ∷ 57 ∷ 32 ∷ 49 ∷ 50 ∷ 55 ∷ 10 ∷ [])
    ++ (49 ∷ 48 ∷ 48 ∷ 32 ∷ 111 ∷ 102 ∷ 102 ∷ 32 ∷ 54 ∷ 57 ∷ 32 ∷ 48 ∷ 10 ∷ [])

pub example-listed : listing_of example ≡ printed
unfolding position_at mark_right kind_right fields_right in_order faults_at faults_from faults_of spelt lines_to
example-listed = refl

-- "records 1" and "0 on 60 0"
pub nought_listed :
    listing_of (0x56 ∷ 0x4E ∷ 0 ∷ 0 ∷ 0 ∷ 0 ∷ 1 ∷ 0x3C ∷ 0 ∷ 0 ∷ [])
    ≡ (114 ∷ 101 ∷ 99 ∷ 111 ∷ 114 ∷ 100 ∷ 115 ∷ 32 ∷ 49 ∷ 10 ∷ []) ++ (48 ∷ 32 ∷ 111 ∷ 110 ∷ 32 ∷ 54 ∷ 48 ∷ 32 ∷ 48 ∷ 10 ∷ [])
unfolding position_at mark_right kind_right fields_right in_order faults_at faults_from faults_of spelt lines_to
nought_listed = refl

-- a wrong mark in the first record gives `refused 2 0`
pub wrong_mark : listing_of (0 ∷ 0 ∷ 0 ∷ 0 ∷ 0 ∷ 0 ∷ 0 ∷ 0 ∷ 0 ∷ 0 ∷ []) ≡ 114 ∷ 101 ∷ 102 ∷ 117 ∷ 115 ∷ 101 ∷ 100 ∷ 32 ∷ 50 ∷ 32 ∷ 48 ∷ 10 ∷ []
unfolding position_at mark_right kind_right fields_right in_order faults_at faults_from faults_of spelt lines_to
wrong_mark = refl
