-- The six calls: the values of Lanes.antt, within the domain. 02, R-10: "Refusals: 9 as for the single calls, if any
-- lane is outside or a given sample is not finite." 01, "Domain of the ported calls": "phase 0 to 1, dt 0 to 4, duty 0
-- to 1"; number 9: "any other argument of a ported call outside its domain; the accumulator's rate and
-- `polyblep_pulse`'s duty belong here, not to 6".
--
-- A refused correction gives four +0. A refused apply call gives its samples as they came: the original is lent them to
-- change, and a refusal leaves what is lent as it was. Definitions only.
use Rattle.std.specs.Prelude.{ℕ, Bool, ◌&&◌, List, Float, Err, Ok}
use Rattle.std.specs.Float.Ieee.Scale.{finite}
use Rattle.floats.specs.Double.{zero64}
use Rattle.domain.specs.Domain.{is_phase, is_duty}
use Rattle.answers.specs.Order.{unless, first_of}
use Rattle.answers.specs.declared.Refusal.{Refusal}
use Rattle.answers.specs.declared.Refusal.TheVariants.{Argument}
use Rattle.lanes.specs.declared.Lanes.{Lanes}
use Rattle.lanes.specs.Lanes.{lane, four_of, both, blep_lane, blamp_lane, saw_lanes, square_lanes, pulse_lanes, triangle_lanes}

-- ---- the domain: every lane
abbrev pub all_four : (ℕ → Bool) → Bool
all_four f = f 0 && f 1 && f 2 && f 3

abbrev pub are_phases : List Float → List Float → Bool
are_phases t dt = all_four (λ (i : ℕ). is_phase (lane t i) (lane dt i))

abbrev pub are_finite : List Float → Bool
are_finite x = all_four (λ (i : ℕ). finite (lane x i))

-- one number in all lanes
abbrev pub spread : Float → List Float
spread x = four_of (λ (i : ℕ). x)

-- what an apply call takes, with one dt for all lanes
abbrev pub are_taken : List Float → List Float → Float → Bool
are_taken samples phases dt = are_phases phases (spread dt) && are_finite samples

-- ---- the calls
-- done, with the values, unless the call is refused: then with what is kept
abbrev pub lanes_or : List Refusal → List Float → List Float → Lanes
lanes_or refusals kept values = first_of refusals (λ (why : Refusal). record { answer = Err why; values = kept }) (record { answer = Ok 0; values = values })

abbrev pub poly_blep_simd_of : List Float → List Float → Lanes
poly_blep_simd_of t dt = lanes_or (unless (are_phases t dt) Argument) (spread zero64) (both blep_lane t dt)

abbrev pub poly_blamp_simd_of : List Float → List Float → Lanes
poly_blamp_simd_of t dt = lanes_or (unless (are_phases t dt) Argument) (spread zero64) (both blamp_lane t dt)

abbrev pub apply_polyblep_saw_of : List Float → List Float → Float → Lanes
apply_polyblep_saw_of samples phases dt = lanes_or (unless (are_taken samples phases dt) Argument) samples (saw_lanes samples phases dt)

abbrev pub apply_polyblep_square_of : List Float → List Float → Float → Lanes
apply_polyblep_square_of samples phases dt = lanes_or (unless (are_taken samples phases dt) Argument) samples (square_lanes samples phases dt)

abbrev pub apply_polyblep_pulse_of : List Float → List Float → Float → Float → Lanes
apply_polyblep_pulse_of samples phases dt duty = lanes_or (unless (are_taken samples phases dt && is_duty duty) Argument) samples (pulse_lanes samples phases dt duty)

abbrev pub apply_polyblamp_triangle_of : List Float → List Float → Float → Lanes
apply_polyblamp_triangle_of samples phases dt = lanes_or (unless (are_taken samples phases dt) Argument) samples (triangle_lanes samples phases dt)
