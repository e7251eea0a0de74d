-- The record of an edit, judged as a score of one record: its faults are those of the record alone, with the index of
-- the edit in place of 0. Assumes nothing.
use mathlib.Core.Path.{◌≡◌, refl, ap, ◌∙◌}
use mathlib.Core.Bool.{Bool, true, false}
use mathlib.Core.List.{List, [], ◌∷◌, ◌++◌, map}
use Prim.Native.Nat.{ℕ, ◌+◌, ◌*◌, ◌<◌}
use native.Mathlib.Omega.{arith}
use lib.ListN.{length, drop, length-drop}
use lib.Seq.{length-take-le}
use Rattle.answers.specs.Order.{unless}
use Rattle.answers.specs.declared.Refusal.{Refusal}
use Rattle.answers.specs.declared.Refusal.TheVariants.{Edit}
use Rattle.answers.specs.declared.ScoreFault.{ScoreFault}
use Rattle.answers.specs.declared.ScoreFault.TheVariants.{Mark, Kind, Field}
use Rattle.score.specs.Score.{mark_right, kind_right, fields_right, in_order, faults_at, faults_from, faults_of}
use Rattle.page.specs.Page.{edits_in, record_of, record_faults}
use Rattle.page.specs.Inner.{placed_at}

-- an edit that is there has a record of ten bytes
pub ten-bytes : (es : List ℕ) (i : ℕ) → i < edits_in es → length (record_of es i) ≡ 10
ten-bytes es i h = length-take-le 10 (drop (i * 14 + 4) es) (rw (length-drop (i * 14 + 4) es) (omega arith))

-- the faults of a score of one record
pub faults_placed : (r : List ℕ) (i : ℕ) → length r ≡ 10 → record_faults r i ≡ map (λ (f : ScoreFault). placed_at f i) (faults_of r)
unfolding record_faults faults_of faults_from faults_at in_order
faults_placed r i ten = rw ten (go (mark_right r 0) (kind_right r 0) (fields_right r 0))
  where
    go : (m k f : Bool) → unless m (Mark i) ++ unless k (Kind i) ++ unless f (Field i)
        ≡ map (λ (f : ScoreFault). placed_at f i) ([] ++ ((unless m (Mark 0) ++ unless k (Kind 0) ++ unless f (Field 0) ++ []) ++ []))
    go true true true = refl
    go true true false = refl
    go true false true = refl
    go true false false = refl
    go false true true = refl
    go false true false = refl
    go false false true = refl
    go false false false = refl

-- an accepted record has none, and the first of those of another is that of its score
map-twice : (i : ℕ) (fs : List ScoreFault) → map Edit (map (λ (f : ScoreFault). placed_at f i) fs) ≡ map (λ (f : ScoreFault). Edit (placed_at f i)) fs
map-twice i [] = refl
map-twice i (f ∷ fs) = ap (λ (xs : List Refusal). Edit (placed_at f i) ∷ xs) (map-twice i fs)

pub refused_as : (r : List ℕ) (i : ℕ) → length r ≡ 10 → map Edit (record_faults r i) ≡ map (λ (f : ScoreFault). Edit (placed_at f i)) (faults_of r)
refused_as r i ten = ap (map Edit) (faults_placed r i ten) ∙ map-twice i (faults_of r)
