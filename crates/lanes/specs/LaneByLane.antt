-- The calls, lane by lane, the apply calls' own sums and products written out. 02, R-10: "Refusals: 9 as for the single
-- calls, if any lane is outside or a given sample is not finite."
--
-- The claim, which proofs/Lanewise.antt proves of the definitions in Calls.antt. Definitions only.
use Rattle.std.specs.Prelude.{◌≡◌, ℕ, ◌<◌, Bool, not, ◌&&◌, T, List, Float, Err, Ok}
use Rattle.std.specs.Float.Ieee.Scale.{finite}
use Rattle.floats.specs.Double.{◌⊕◌, ◌⊖◌, ◌⊗◌, zero64, half, one, eight}
use Rattle.domain.specs.Domain.{is_phase, is_duty}
use Rattle.answers.specs.declared.Refusal.TheVariants.{Argument}
use Rattle.polyblep.specs.Polyblep.{fract_of}
use Rattle.lanes.specs.declared.Lanes.{Lanes}
use Rattle.lanes.specs.Lanes.{lane, blep_lane, blamp_lane}
use Rattle.lanes.specs.Calls.{spread, poly_blep_simd_of, poly_blamp_simd_of, apply_polyblep_saw_of, apply_polyblep_square_of, apply_polyblep_pulse_of, apply_polyblamp_triangle_of}

-- done with each lane's value where every lane is inside; refused with what is kept where any one is not
pub record EachLane (inside : ℕ → Bool) (value : ℕ → Float) (kept : List Float) (r : Lanes) : Type 0 where
  pub done : ((i : ℕ) → i < 4 → T (inside i)) → (r.answer ≡ Ok 0) × ((i : ℕ) → i < 4 → lane r.values i ≡ value i)
  pub refused : (i : ℕ) → i < 4 → T (not (inside i)) → r ≡ record { answer = Err Argument; values = kept }

-- one lane of an apply call: the phase p and the sample x
abbrev pub is_taken : Float → Float → Float → Bool
is_taken p dt x = is_phase p dt && finite x

pub record LaneByLane : Type 0 where
  pub blep : (t dt : List Float) → EachLane (λ (i : ℕ). is_phase (lane t i) (lane dt i)) (λ (i : ℕ). blep_lane (lane t i) (lane dt i)) (spread zero64) (poly_blep_simd_of t dt)
  pub blamp : (t dt : List Float) → EachLane (λ (i : ℕ). is_phase (lane t i) (lane dt i)) (λ (i : ℕ). blamp_lane (lane t i) (lane dt i)) (spread zero64) (poly_blamp_simd_of t dt)
  pub saw : (x p : List Float) (dt : Float) → EachLane (λ (i : ℕ). is_taken (lane p i) dt (lane x i)) (λ (i : ℕ). lane x i ⊖ blep_lane (lane p i) dt) x (apply_polyblep_saw_of x p dt)
  pub square : (x p : List Float) (dt : Float) → EachLane (λ (i : ℕ). is_taken (lane p i) dt (lane x i)) (λ (i : ℕ). (lane x i ⊕ blep_lane (lane p i) dt) ⊖ blep_lane (fract_of (lane p i ⊕ half)) dt) x (apply_polyblep_square_of x p dt)
  pub pulse : (x p : List Float) (dt duty : Float) → EachLane (λ (i : ℕ). is_taken (lane p i) dt (lane x i) && is_duty duty) (λ (i : ℕ). (lane x i ⊕ blep_lane (lane p i) dt) ⊖ blep_lane (fract_of ((lane p i ⊖ duty) ⊕ one)) dt) x (apply_polyblep_pulse_of x p dt duty)
  pub triangle : (x p : List Float) (dt : Float) → EachLane (λ (i : ℕ). is_taken (lane p i) dt (lane x i)) (λ (i : ℕ). (lane x i ⊕ eight ⊗ blamp_lane (lane p i) dt) ⊖ eight ⊗ blamp_lane (fract_of (lane p i ⊕ half)) dt) x (apply_polyblamp_triangle_of x p dt)
