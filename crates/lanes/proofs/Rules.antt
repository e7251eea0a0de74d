-- A lane beside the single form: the rule on where they may part, and that they do not for dt at most 0.5, where
-- t < dt ≤ 0.5 ≤ 1 - dt. Assumes nothing.
use Rattle.std.proofs.Common.{◌≡◌, Bool, true, false, cond, not, ◌&&◌, T, refl}
use lib.Dec.{not_T}
use lib.Ieee.{Float, binary64, of_bits, sub, lt, le}
use lib.Ieee.Fits.{and_l, and_r}
use lib.Ieee.Scale.{finite}
use Rattle.floats.specs.Range.{within}
use Rattle.floats.specs.Double.{◌⊖◌, ◌⊘◌, zero64, half, one}
use Rattle.floats.proofs.Order.{fle_trans, fle_refl, lt-le, lt_not_le, between-finite}
use Rattle.floats.proofs.Near.{sub_order}
use Rattle.polyblep.specs.declared.Side.TheVariants.{After, Before, Away}
use Rattle.polyblep.specs.Polyblep.{side_of, value_at, blep_after, blep_before, blamp_after, blamp_before, blep_of, blamp_of}
use Rattle.lanes.specs.Lanes.{lane_side, blep_lane, blamp_lane}
use Rattle.lanes.specs.Single.{both_hold, Rule, LaneAndSingle}

-- ---- the value at x after the step, at y before it, by the two tests: t < dt first, and t > 1 - dt last
module _ (after before : Float → Float) (x y : Float) where
  abbrev singly : Bool → Bool → Float
  singly a b = value_at after before (cond a (After x) (cond b (Before y) Away))

  abbrev laned : Bool → Bool → Float
  laned a b = value_at after before (cond b (Before y) (cond a (After x) Away))

  single-both : (a b : Bool) → T (a && b) → singly a b ≡ after x
  single-both true true t = refl
  single-both false b t = elim t [ ]
  single-both true false t = elim t [ ]

  lane-both : (a b : Bool) → T (a && b) → laned a b ≡ before y
  lane-both true true t = refl
  lane-both false b t = elim t [ ]
  lane-both true false t = elim t [ ]

  same_else : (a b : Bool) → T (not (a && b)) → laned a b ≡ singly a b
  same_else true true n = absurd n
  same_else true false n = refl
  same_else false true n = refl
  same_else false false n = refl

-- a lane works out one distance, of the side that t is taken to be on, and both values there, and chooses
pub chosen_is : (after before : Float → Float) (t dt : Float) → value_at (λ (x : Float). after (cond (lt (one ⊖ dt) t) (t ⊖ one) t ⊘ dt)) (λ (x : Float). before (cond (lt (one ⊖ dt) t) (t ⊖ one) t ⊘ dt)) (lane_side t dt) ≡ value_at after before (lane_side t dt)
chosen_is after before t dt = go (lt t dt) (lt (one ⊖ dt) t)
  where
    go : (a b : Bool) → laned (λ (x : Float). after (cond b (t ⊖ one) t ⊘ dt)) (λ (x : Float). before (cond b (t ⊖ one) t ⊘ dt)) (t ⊘ dt) ((t ⊖ one) ⊘ dt) a b ≡ laned after before (t ⊘ dt) ((t ⊖ one) ⊘ dt) a b
    go true true = refl
    go true false = refl
    go false true = refl
    go false false = refl

module _ (t dt : Float) where
  rule : (after before : Float → Float) → Rule t dt (after (t ⊘ dt)) (before ((t ⊖ one) ⊘ dt)) (value_at after before (side_of t dt)) (value_at after before (lane_side t dt))
  rule after before =
      record {
        single-is = single-both after before (t ⊘ dt) ((t ⊖ one) ⊘ dt) (lt t dt) (lt (one ⊖ dt) t);
        lane-is = lane-both after before (t ⊘ dt) ((t ⊖ one) ⊘ dt) (lt t dt) (lt (one ⊖ dt) t);
        elsewhere = same_else after before (t ⊘ dt) ((t ⊖ one) ⊘ dt) (lt t dt) (lt (one ⊖ dt) t);
      }

  pub blep_rule : Rule t dt (blep_after (t ⊘ dt)) (blep_before ((t ⊖ one) ⊘ dt)) (blep_of t dt) (blep_lane t dt)
  unfolding blep_of blep_lane
  blep_rule = rule blep_after blep_before

  pub blamp_rule : Rule t dt (blamp_after dt (t ⊘ dt)) (blamp_before dt ((t ⊖ one) ⊘ dt)) (blamp_of t dt) (blamp_lane t dt)
  unfolding blamp_of blamp_lane
  blamp_rule = rule (blamp_after dt) (blamp_before dt)

  -- ---- dt from 0 to 0.5
  module _ (r : T (within zero64 half dt)) where
    dt_finite : T (finite dt)
    dt_finite = between-finite zero64 dt half (unfold of_bits in tt) (unfold of_bits in tt) (and_l (le zero64 dt) (le dt half) r) (and_r (le zero64 dt) (le dt half) r)

    far : T (le half (one ⊖ dt))
    far =
        fle_trans half (one ⊖ half) (one ⊖ dt) (unfold of_bits in unfold sub in unfold le in tt)
        (sub_order binary64 one one half dt (unfold of_bits in tt) (unfold of_bits in tt) (unfold of_bits in tt) dt_finite (fle_refl one (unfold of_bits in tt)) (and_r (le zero64 dt) (le dt half) r))

    not-both : T (both_hold t dt) → ⊥
    not-both h =
        lt_not_le (one ⊖ dt) t (and_r (lt t dt) (lt (one ⊖ dt) t) h)
        (fle_trans t dt (one ⊖ dt) (lt-le t dt (and_l (lt t dt) (lt (one ⊖ dt) t) h)) (fle_trans dt half (one ⊖ dt) (and_r (le zero64 dt) (le dt half) r) far))

    pub never : T (not (both_hold t dt))
    never = not_T (both_hold t dt) not-both

    pub blep-same : blep_lane t dt ≡ blep_of t dt
    blep-same = blep_rule.elsewhere never

    pub blamp-same : blamp_lane t dt ≡ blamp_of t dt
    blamp-same = blamp_rule.elsewhere never

pub lane_and_single : (t dt : Float) → LaneAndSingle t dt
lane_and_single t dt =
    record {
      blep = blep_rule t dt;
      blamp = blamp_rule t dt;
      never_both = never t dt;
      same-blep = blep-same t dt;
      same-blamp = blamp-same t dt;
    }
