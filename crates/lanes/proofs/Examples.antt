-- Worked examples, computed on the definitions. Assumes nothing.
use Rattle.std.specs.Prelude.{Err}
use Rattle.std.proofs.Common.{◌≡◌, ℕ, true, List, [], ◌∷◌, map, refl}
use lib.Ieee.{Float, nan, inf, binary64, of_bits, neg, add, sub, mul, div, lt, le}
use Rattle.floats.specs.Double.{zero64, half, one, two, three, four}
use Rattle.floats.specs.Floor.{floor_of}
use Rattle.answers.specs.declared.Refusal.TheVariants.{Argument}
use Rattle.polyblep.specs.Polyblep.{blep_of, blamp_of}
use Rattle.lanes.specs.declared.Lanes.{Lanes}
use Rattle.lanes.specs.Lanes.{blep_lane, blamp_lane}
use Rattle.lanes.specs.Calls.{spread, poly_blep_simd_of, poly_blamp_simd_of, apply_polyblep_saw_of, apply_polyblep_square_of, apply_polyblep_pulse_of, apply_polyblamp_triangle_of}
use Rattle.lanes.specs.Single.{both_hold, done}

-- ---- where both tests hold
-- 02, R-10: "at t = 0.5, dt = 1 the lane gives +0.25 where the single form gives -0.25"
pub lane_mark : blep_lane half one ≡ of_bits binary64 0x3fd0_0000_0000_0000
unfolding blep_lane of_bits neg add sub mul div lt le
lane_mark = refl

pub single_mark : blep_of half one ≡ of_bits binary64 0xbfd0_0000_0000_0000
unfolding blep_of of_bits neg add sub mul div lt le
single_mark = refl

-- at a corner: -0.328125 in the lane, and -0.19270833333333334 in the single form, at t = 0.25, dt = 1
pub corner_lane : blamp_lane (of_bits binary64 0x3fd0_0000_0000_0000) one ≡ of_bits binary64 0xbfd5_0000_0000_0000
unfolding blamp_lane of_bits neg add sub mul div lt le
corner_lane = refl

pub corner_single : blamp_of (of_bits binary64 0x3fd0_0000_0000_0000) one ≡ of_bits binary64 0xbfc8_aaaa_aaaa_aaab
unfolding blamp_of of_bits neg add sub mul div lt le
corner_single = refl

-- just above 0.5 a corner parts already: at t = 0.5 - 2^-54, dt = 0.5 + 2^-53
pub near_corner : (blamp_lane (of_bits binary64 0x3fdf_ffff_ffff_ffff) (of_bits binary64 0x3fe0_0000_0000_0001) ≡ of_bits binary64 0xbfc5_5555_5555_5555) × (blamp_of (of_bits binary64 0x3fdf_ffff_ffff_ffff) (of_bits binary64 0x3fe0_0000_0000_0001) ≡ of_bits binary64 0xbfc5_5555_5555_5557)
unfolding blamp_lane blamp_of of_bits neg add sub mul div lt le
near_corner = (refl, refl)

-- both tests may hold and the bits be the same: +0 at t = 0.5, dt = 0.5 + 2^-53; and at a corner, t = 0.5 and dt = 1
pub same-zero : (both_hold half (of_bits binary64 0x3fe0_0000_0000_0001) ≡ true) × (blep_lane half (of_bits binary64 0x3fe0_0000_0000_0001) ≡ zero64) × (blep_of half (of_bits binary64 0x3fe0_0000_0000_0001) ≡ zero64)
unfolding blep_lane blep_of of_bits neg add sub mul div lt le
same-zero = (refl, refl, refl)

pub same_corner : (both_hold half one ≡ true) × (blamp_lane half one ≡ of_bits binary64 0xbfd2_aaaa_aaaa_aaaa) × (blamp_of half one ≡ of_bits binary64 0xbfd2_aaaa_aaaa_aaaa)
unfolding blamp_lane blamp_of of_bits neg add sub mul div lt le
same_corner = (refl, refl, refl)

-- ---- the calls, with four lanes that differ
abbrev floats : List ℕ → List Float
floats = map (of_bits binary64)

abbrev quarter : Float
quarter = of_bits binary64 0x3fd0_0000_0000_0000

-- 0.5625, 0, 0.9375 and 0.25
abbrev phases : List Float
phases = floats (0x3fe2_0000_0000_0000 ∷ 0x0000_0000_0000_0000 ∷ 0x3fee_0000_0000_0000 ∷ 0x3fd0_0000_0000_0000 ∷ [])

abbrev samples : List Float
samples = one ∷ two ∷ three ∷ four ∷ []

-- 2, 1, 0.25 and 0.5: with these both tests hold in the first lane alone
abbrev dts : List Float
dts = two ∷ one ∷ quarter ∷ half ∷ []

-- 0.6103515625, -1, 0.5625 and -0.25
pub bleps_of_four : poly_blep_simd_of phases dts ≡ done (floats (0x3fe3_8800_0000_0000 ∷ 0xbff0_0000_0000_0000 ∷ 0x3fe2_0000_0000_0000 ∷ 0xbfd0_0000_0000_0000 ∷ []))
unfolding blep_lane of_bits neg add sub mul div lt le
bleps_of_four = refl

-- -0.3487752278645833, 0, -0.048177083333333336 and -0.14583333333333331
pub blamps_of_four : poly_blamp_simd_of phases dts ≡ done (floats (0xbfd6_5255_5555_5555 ∷ 0x0000_0000_0000_0000 ∷ 0xbfa8_aaaa_aaaa_aaab ∷ 0xbfc2_aaaa_aaaa_aaaa ∷ []))
unfolding blamp_lane of_bits neg add sub mul div lt le
blamps_of_four = refl

-- with dt 0.25: 1, 3, 2.4375 and 4
pub saw_of-four : apply_polyblep_saw_of samples phases quarter ≡ done (floats (0x3ff0_0000_0000_0000 ∷ 0x4008_0000_0000_0000 ∷ 0x4003_8000_0000_0000 ∷ 0x4010_0000_0000_0000 ∷ []))
unfolding blep_lane of_bits neg add sub mul div lt le
saw_of-four = refl

-- 1.5625, 1, 3.5625 and 4
pub square_of-four : apply_polyblep_square_of samples phases quarter ≡ done (floats (0x3ff9_0000_0000_0000 ∷ 0x3ff0_0000_0000_0000 ∷ 0x400c_8000_0000_0000 ∷ 0x4010_0000_0000_0000 ∷ []))
unfolding blep_lane floor_of of_bits neg add sub mul div lt le
square_of-four = refl

-- at the duty 0.25: 1, 1, 3.5625 and 5
pub pulse_of-four : apply_polyblep_pulse_of samples phases quarter quarter ≡ done (floats (0x3ff0_0000_0000_0000 ∷ 0x3ff0_0000_0000_0000 ∷ 0x400c_8000_0000_0000 ∷ 0x4014_0000_0000_0000 ∷ []))
unfolding blep_lane floor_of of_bits neg add sub mul div lt le
pulse_of-four = refl

-- 1.3854166666666667, 2, 2.6145833333333335 and 4
pub triangle_of-four : apply_polyblamp_triangle_of samples phases quarter ≡ done (floats (0x3ff6_2aaa_aaaa_aaab ∷ 0x4000_0000_0000_0000 ∷ 0x4004_eaaa_aaaa_aaab ∷ 0x4010_0000_0000_0000 ∷ []))
unfolding blamp_lane floor_of of_bits neg add sub mul div lt le
triangle_of-four = refl

-- ---- the apply calls at dt 1, where both tests hold at each phase
-- 0.25, 0.5, 0.75 and 0.375
abbrev wide_phases : List Float
wide_phases = floats (0x3fd0_0000_0000_0000 ∷ 0x3fe0_0000_0000_0000 ∷ 0x3fe8_0000_0000_0000 ∷ 0x3fd8_0000_0000_0000 ∷ [])

-- 0.3, -0, 1 and 2
abbrev wide_samples : List Float
wide_samples = floats (0x3fd3_3333_3333_3333 ∷ 0x8000_0000_0000_0000 ∷ 0x3ff0_0000_0000_0000 ∷ 0x4000_0000_0000_0000 ∷ [])

-- 0.2375, -0.25, 0.4375 and 1.859375
pub wide-saw : apply_polyblep_saw_of wide_samples wide_phases one ≡ done (floats (0x3fce_6666_6666_6666 ∷ 0xbfd0_0000_0000_0000 ∷ 0x3fdc_0000_0000_0000 ∷ 0x3ffd_c000_0000_0000 ∷ []))
unfolding blep_lane of_bits neg add sub mul div lt le
wide-saw = refl

-- -0.2, 1.25, 1.5 and 1.375
pub wide-square : apply_polyblep_square_of wide_samples wide_phases one ≡ done (floats (0xbfc9_9999_9999_999a ∷ 0x3ff4_0000_0000_0000 ∷ 0x3ff8_0000_0000_0000 ∷ 0x3ff6_0000_0000_0000 ∷ []))
unfolding blep_lane floor_of of_bits neg add sub mul div lt le
wide-square = refl

-- at the duty 0.3: -0.5399999999999998, 0.20999999999999996, 1.36 and 2.135
pub wide-pulse : apply_polyblep_pulse_of wide_samples wide_phases one (of_bits binary64 0x3fd3_3333_3333_3333) ≡ done (floats (0xbfe1_47ae_147a_e146 ∷ 0x3fca_e147_ae14_7ae0 ∷ 0x3ff5_c28f_5c28_f5c3 ∷ 0x4001_147a_e147_ae14 ∷ []))
unfolding blep_lane floor_of of_bits neg add sub mul div lt le
wide-pulse = refl

-- -0.7833333333333334, -2.333333333333333, 2.083333333333333 and 0.35416666666666685
pub wide-triangle : apply_polyblamp_triangle_of wide_samples wide_phases one ≡ done (floats (0xbfe9_1111_1111_1112 ∷ 0xc002_aaaa_aaaa_aaaa ∷ 0x4000_aaaa_aaaa_aaaa ∷ 0x3fd6_aaaa_aaaa_aaae ∷ []))
unfolding blamp_lane floor_of of_bits neg add sub mul div lt le
wide-triangle = refl

-- the rise is added before the fall is taken away, at phase 0.875 and dt 0.45 with a sample of 0.3:
-- 0.8493827160493826, and not 0.8493827160493828
pub rise-first : apply_polyblep_square_of (spread (of_bits binary64 0x3fd3_3333_3333_3333)) (spread (of_bits binary64 0x3fec_0000_0000_0000)) (of_bits binary64 0x3fdc_cccc_cccc_cccd) ≡ done (spread (of_bits binary64 0x3feb_2e24_a967_0837))
unfolding blep_lane floor_of of_bits neg add sub mul div lt le
rise-first = refl

-- ---- refusals
abbrev refused : List Float → Lanes
refused values = record { answer = Err Argument; values = values }

-- one lane at 1.5, the others inside: four +0
abbrev last_outside : List Float
last_outside = zero64 ∷ zero64 ∷ zero64 ∷ of_bits binary64 0x3ff8_0000_0000_0000 ∷ []

pub outside-blep : poly_blep_simd_of last_outside (spread half) ≡ refused (spread zero64)
unfolding blep_lane of_bits neg add sub mul div lt le
outside-blep = refl

pub outside-blamp : poly_blamp_simd_of last_outside (spread half) ≡ refused (spread zero64)
unfolding blamp_lane of_bits neg add sub mul div lt le
outside-blamp = refl

-- a NaN or an infinity among the samples: the samples as they came
abbrev with_nan : List Float
with_nan = one ∷ nan ∷ zero64 ∷ zero64 ∷ []

abbrev with_infinity : List Float
with_infinity = zero64 ∷ zero64 ∷ zero64 ∷ inf true ∷ []

pub nan-saw : apply_polyblep_saw_of with_nan phases quarter ≡ refused with_nan
unfolding blep_lane of_bits neg add sub mul div lt le
nan-saw = refl

pub infinity_square : apply_polyblep_square_of with_infinity phases quarter ≡ refused with_infinity
unfolding blep_lane floor_of of_bits neg add sub mul div lt le
infinity_square = refl

-- and where a phase is outside
pub outside-triangle : apply_polyblamp_triangle_of samples last_outside quarter ≡ refused samples
unfolding blamp_lane floor_of of_bits neg add sub mul div lt le
outside-triangle = refl

-- a duty of 2 is 9, not 6
pub duty_two : apply_polyblep_pulse_of samples phases quarter two ≡ refused samples
unfolding blep_lane floor_of of_bits neg add sub mul div lt le
duty_two = refl
