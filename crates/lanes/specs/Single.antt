-- A lane beside the single form. 02, R-10: "Prove once over the lane that for dt at most 0.5 each correction has the
-- bits of the single one. Above 0.5 the two part, since the later test wins: at t = 0.5, dt = 1 the lane gives +0.25
-- where the single form gives -0.25. State that rule exactly and put it on file."
--
-- The claims, which proofs/ proves. Definitions only.
use Rattle.std.specs.Prelude.{◌≡◌, ℕ, ◌<◌, Bool, not, ◌&&◌, T, List, Float, Ok}
use Rattle.std.specs.Float.{binary64}
use Rattle.std.specs.Float.Ieee.{lt, fits}
use Rattle.std.specs.Float.Ieee.Scale.{finite}
use Rattle.floats.specs.Range.{within}
use Rattle.floats.specs.Double.{◌⊖◌, ◌⊘◌, zero64, half, one}
use Rattle.domain.specs.Domain.{is_duty}
use Rattle.polyblep.specs.Polyblep.{blep_after, blep_before, blamp_after, blamp_before, blep_of, blamp_of, naive_saw_of, naive_pulse_of, naive_triangle_of, saw_of, square_of, pulse_of, triangle_of}
use Rattle.lanes.specs.declared.Lanes.{Lanes}
use Rattle.lanes.specs.Lanes.{lane, each, blep_lane, blamp_lane}
use Rattle.lanes.specs.Calls.{are_phases, spread, poly_blep_simd_of, poly_blamp_simd_of, apply_polyblep_saw_of, apply_polyblep_square_of, apply_polyblep_pulse_of, apply_polyblamp_triangle_of}

-- ---- the rule
-- t < dt and t > 1 - dt
abbrev pub both_hold : Float → Float → Bool
both_hold t dt = lt t dt && lt (one ⊖ dt) t

-- of a correction with these two values at t and dt: where both tests hold, the single form has the value after the
-- step, and the lane the value before it, which may have the same bits; elsewhere they have the same bits
pub record Rule (t dt after before single laned : Float) : Type 0 where
  pub single-is : T (both_hold t dt) → single ≡ after
  pub lane-is : T (both_hold t dt) → laned ≡ before
  pub elsewhere : T (not (both_hold t dt)) → laned ≡ single

pub record LaneAndSingle (t dt : Float) : Type 0 where
  -- for every two floats
  pub blep : Rule t dt (blep_after (t ⊘ dt)) (blep_before ((t ⊖ one) ⊘ dt)) (blep_of t dt) (blep_lane t dt)
  pub blamp : Rule t dt (blamp_after dt (t ⊘ dt)) (blamp_before dt ((t ⊖ one) ⊘ dt)) (blamp_of t dt) (blamp_lane t dt)
  -- for dt from 0 to 0.5 the two tests never hold at once, whatever t is
  pub never_both : T (within zero64 half dt) → T (not (both_hold t dt))
  pub same-blep : T (within zero64 half dt) → blep_lane t dt ≡ blep_of t dt
  pub same-blamp : T (within zero64 half dt) → blamp_lane t dt ≡ blamp_of t dt

-- 0.5 is the exact bound for that: for every finite f64 above it both tests hold at t = 0.5
abbrev pub Bound : Float → Type 0
Bound dt = T (fits binary64 dt) → T (finite dt) → T (lt half dt) → T (both_hold half dt)

-- ---- the calls, for dt at most 0.5
abbrev pub done : List Float → Lanes
done values = record { answer = Ok 0; values = values }

-- a lane of the corrections whose own dt is at most 0.5, whatever the others are, has the single correction
pub record SameCorrections (t dt : List Float) (i : ℕ) : Type 0 where
  pub blep : lane (poly_blep_simd_of t dt).values i ≡ blep_of (lane t i) (lane dt i)
  pub blamp : lane (poly_blamp_simd_of t dt).values i ≡ blamp_of (lane t i) (lane dt i)

abbrev pub Corrections : Type 0
Corrections = (t dt : List Float) → T (are_phases t dt) → (i : ℕ) → i < 4 → T (within zero64 half (lane dt i)) → SameCorrections t dt i

-- an apply call on the naive samples of its waveform, at four phases p: done, and each lane has the single waveform
pub record SameWaveforms (p : List Float) (dt : Float) : Type 0 where
  pub saw : apply_polyblep_saw_of (each naive_saw_of p) p dt ≡ done (each (λ (q : Float). saw_of q dt) p)
  pub square : apply_polyblep_square_of (each (λ (q : Float). naive_pulse_of q half) p) p dt ≡ done (each (λ (q : Float). square_of q dt) p)
  pub pulse : (duty : Float) → T (is_duty duty) → apply_polyblep_pulse_of (each (λ (q : Float). naive_pulse_of q duty) p) p dt duty ≡ done (each (λ (q : Float). pulse_of q dt duty) p)
  pub triangle : apply_polyblamp_triangle_of (each naive_triangle_of p) p dt ≡ done (each (λ (q : Float). triangle_of q dt) p)

abbrev pub Waveforms : Type 0
Waveforms = (p : List Float) (dt : Float) → T (are_phases p (spread dt)) → T (within zero64 half dt) → SameWaveforms p dt
