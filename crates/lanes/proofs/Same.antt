-- For dt at most 0.5 each lane of a correction has the bits of the single one. So each lane of an apply call on the
-- naive samples of its waveform has the bits of the single waveform. Assumes nothing.
use Rattle.std.proofs.Common.{◌≡◌, ℕ, ◌<◌, Bool, ◌&&◌, T, List, refl, ◌∙◌}
use lib.Ieee.{Float}
use lib.Ieee.Fits.{and_i, and_l}
use lib.Ieee.Scale.{finite}
use Rattle.floats.specs.Range.{within}
use Rattle.floats.specs.Double.{◌⊕◌, ◌⊖◌, zero64, half, one, four, eight}
use Rattle.floats.proofs.Bounded.{size-finite}
use Rattle.domain.specs.Domain.{is_phase, is_duty}
use Rattle.answers.specs.Order.{unless}
use Rattle.answers.specs.declared.Refusal.TheVariants.{Argument}
use Rattle.polyblep.specs.Polyblep.{fract_of, naive_saw_of, naive_pulse_of, naive_triangle_of, saw_by, square_by, pulse_by, triangle_by, saw_of, square_of, pulse_of, triangle_of}
use Rattle.polyblep.proofs.Finite.{unit_size, line-size, step-size, ramp_size}
use Rattle.lanes.specs.Lanes.{lane, each, blep_lane, blamp_lane}
use Rattle.lanes.specs.Calls.{are_phases, are_finite, are_taken, spread, lanes_or}
use Rattle.lanes.specs.Single.{done, Corrections, Waveforms}
use Rattle.lanes.proofs.Rules.{blep-same, blamp-same}
use Rattle.lanes.proofs.Lanewise.{is-done, all_of, each_of, lane_by_lane}

-- ---- one lane of a waveform
module _ (q dt : Float) (r : T (within zero64 half dt)) where
  saw-same : saw_by blep_lane (naive_saw_of q) q dt ≡ saw_of q dt
  unfolding saw_of
  saw-same = rw (blep-same q dt r) refl

  square-same : square_by blep_lane (naive_pulse_of q half) q dt ≡ square_of q dt
  unfolding square_of
  square-same = rw (blep-same q dt r, blep-same (fract_of (q ⊕ half)) dt r) refl

  pulse-same : (duty : Float) → pulse_by blep_lane (naive_pulse_of q duty) q dt duty ≡ pulse_of q dt duty
  unfolding pulse_of
  pulse-same duty = rw (blep-same q dt r, blep-same (fract_of (q ⊖ duty ⊕ one)) dt r) refl

  triangle-same : triangle_by eight blamp_lane (naive_triangle_of q) q dt ≡ triangle_of q dt
  unfolding triangle_of
  triangle-same = rw (blamp-same q dt r, blamp-same (fract_of (q ⊕ half)) dt r) refl

-- ---- the corrections
pub corrections : Corrections
corrections t dt a i l k =
    let inside : (j : ℕ) → j < 4 → T (is_phase (lane t j) (lane dt j)) = each_of (λ (j : ℕ). is_phase (lane t j) (lane dt j)) a in
    record {
      blep = ((lane_by_lane.blep t dt).done inside).1 i l ∙ blep-same (lane t i) (lane dt i) k;
      blamp = ((lane_by_lane.blamp t dt).done inside).1 i l ∙ blamp-same (lane t i) (lane dt i) k;
    }

-- ---- the apply calls, of four lanes
module _ (p : List Float) (dt : Float) (a : T (are_phases p (spread dt))) where
  -- a naive value that is finite wherever the phase is in the domain
  all_finite : (f : Float → Float) → ((q : Float) → T (within zero64 one q) → T (finite (f q))) → T (are_finite (each f p))
  all_finite f h = all_of (λ (i : ℕ). finite (f (lane p i))) (λ (i : ℕ) (l : i < 4). h (lane p i) (and_l (within zero64 one (lane p i)) (within zero64 four dt) (each_of (λ (j : ℕ). is_phase (lane p j) dt) a i l)))

  given : (f : Float → Float) → ((q : Float) → T (within zero64 one q) → T (finite (f q))) → T (are_taken (each f p) p dt)
  given f h = and_i (are_phases p (spread dt)) (are_finite (each f p)) a (all_finite f h)

  -- a call on the naive samples of f that is done, and makes g of them
  on_naive : (ok : Bool) (f made g : Float → Float) → T ok → ((q : Float) → made q ≡ g q) → lanes_or (unless ok Argument) (each f p) (each made p) ≡ done (each g p)
  on_naive ok f made g t e = is-done ok (each f p) (each made p) t ∙ rw (e (lane p 0), e (lane p 1), e (lane p 2), e (lane p 3)) refl

-- ---- naive values are finite
line-finite : (q : Float) → T (within zero64 one q) → T (finite (naive_saw_of q))
line-finite q k = size-finite eight (naive_saw_of q) (line-size q (unit_size q k))

step-finite : (edge q : Float) → T (within zero64 one q) → T (finite (naive_pulse_of q edge))
step-finite edge q k = size-finite one (naive_pulse_of q edge) (step-size q edge)

ramp_finite : (q : Float) → T (within zero64 one q) → T (finite (naive_triangle_of q))
ramp_finite q k = size-finite eight (naive_triangle_of q) (ramp_size q (unit_size q k))

pub waveforms : Waveforms
waveforms p dt a r =
    record {
      saw =
          on_naive p dt a (are_taken (each naive_saw_of p) p dt) naive_saw_of (λ (q : Float). saw_by blep_lane (naive_saw_of q) q dt) (λ (q : Float). saw_of q dt)
          (given p dt a naive_saw_of line-finite) (λ (q : Float). saw-same q dt r);
      square =
          let f : Float → Float = λ (q : Float). naive_pulse_of q half in
          on_naive p dt a (are_taken (each f p) p dt) f (λ (q : Float). square_by blep_lane (f q) q dt) (λ (q : Float). square_of q dt) (given p dt a f (step-finite half)) (λ (q : Float). square-same q dt r);
      pulse = λ (duty : Float) (d : T (is_duty duty)).
          let f : Float → Float = λ (q : Float). naive_pulse_of q duty in
          on_naive p dt a (are_taken (each f p) p dt && is_duty duty) f (λ (q : Float). pulse_by blep_lane (f q) q dt duty) (λ (q : Float). pulse_of q dt duty)
          (and_i (are_taken (each f p) p dt) (is_duty duty) (given p dt a f (step-finite duty)) d) (λ (q : Float). pulse-same q dt r duty);
      triangle =
          on_naive p dt a (are_taken (each naive_triangle_of p) p dt) naive_triangle_of (λ (q : Float). triangle_by eight blamp_lane (naive_triangle_of q) q dt) (λ (q : Float). triangle_of q dt)
          (given p dt a naive_triangle_of ramp_finite) (λ (q : Float). triangle-same q dt r);
    }
