-- A step and a note turn values of an f64 into values of an f64 (`Held`): what reading a state back from its bits
-- needs. Assumes nothing.
use lib.Dec.{T}
use lib.Ieee.{Float, binary64, le, fits}
use lib.Ieee.Fits.{add-fits, sub-fits, mul-fits, div-fits}
use lib.Ieee.Bits.{of_bits-fits}
use Rattle.floats.specs.Double.{◌⊖◌, ◌⊗◌, ◌⊘◌, zero64, one}
use Rattle.envelope.specs.Stages.{release_floor, with_stage, attack_level, decay_level, release_level, rule_of, is_moving, grown_of, step_of, fresh_of, triggered_of, is_idle, released_of}
use Rattle.envelope.specs.declared.Adsr.{Adsr}
use Rattle.envelope.specs.declared.Envelope.{Envelope}
use Rattle.envelope.specs.declared.EnvelopeStage.{EnvelopeStage}
use Rattle.envelope.specs.declared.EnvelopeStage.TheVariants.{Idle, Attack, Decay, Sustain, Release}
use Rattle.envelope.proofs.Inside.{choice}

pub record Held (e : Envelope) : Type 0 where
  pub level-fits : T (fits binary64 e.level)
  pub release_fits : T (fits binary64 e.release_level)
  pub time_fits : T (fits binary64 e.stage_time)

zero64-fits : T (fits binary64 zero64)
zero64-fits = of_bits-fits binary64 0

one-fits : T (fits binary64 one)
one-fits = of_bits-fits binary64 0x3ff0_0000_0000_0000

module _ (e : Envelope) (h : Held e) where
  moved_holds : (s : EnvelopeStage) (x y : Float) → T (fits binary64 x) → T (fits binary64 y) → Held (with_stage e s x y)
  moved_holds s x y p q = record { level-fits = p; release_fits = h.release_fits; time_fits = q }

  grown-holds : (t : Float) → Held (grown_of t e)
  grown-holds t = choice Held (is_moving e.stage) _ _ (λ p. moved_holds e.stage e.level _ h.level-fits (add-fits binary64 e.stage_time t)) (λ p. h)

  pub triggered-holds : Held (triggered_of e)
  triggered-holds = moved_holds Attack e.level zero64 h.level-fits zero64-fits

  pub released-holds : Held (released_of e)
  unfolding released_of
  released-holds = choice Held (is_idle e.stage) _ _ (λ p. h) (λ p. record { level-fits = h.level-fits; release_fits = h.level-fits; time_fits = zero64-fits })

  module _ (k : Adsr) (w : T (fits binary64 k.sustain)) where
    rule_holds : (s : EnvelopeStage) → Held (rule_of s k e)
    rule_holds Idle = moved_holds Idle zero64 e.stage_time zero64-fits h.time_fits
    rule_holds Attack =
        choice Held (le one (attack_level k.attack e)) _ _ (λ p. moved_holds Decay one zero64 one-fits zero64-fits)
        (λ p. moved_holds Attack (attack_level k.attack e) e.stage_time (div-fits binary64 e.stage_time k.attack) h.time_fits)
    rule_holds Decay =
        choice Held (le (decay_level k.decay k.sustain e) k.sustain) _ _ (λ p. moved_holds Sustain k.sustain zero64 w zero64-fits)
        (λ p. moved_holds Decay (decay_level k.decay k.sustain e) e.stage_time (sub-fits binary64 one ((one ⊖ k.sustain) ⊗ (e.stage_time ⊘ k.decay))) h.time_fits)
    rule_holds Sustain = moved_holds Sustain k.sustain e.stage_time w h.time_fits
    rule_holds Release =
        choice Held (le (release_level k.release e) release_floor) _ _ (λ p. moved_holds Idle zero64 zero64 zero64-fits zero64-fits)
        (λ p. moved_holds Release (release_level k.release e) e.stage_time (mul-fits binary64 e.release_level (one ⊖ e.stage_time ⊘ k.release)) h.time_fits)

pub step-holds : (k : Adsr) (t : Float) (e : Envelope) → T (fits binary64 k.sustain) → Held e → Held (step_of k t e)
unfolding step_of
step-holds k t e w h = grown-holds (rule_of e.stage k e) (rule_holds e h k w e.stage) t

pub fresh_holds : Held fresh_of
fresh_holds = record { level-fits = zero64-fits; release_fits = zero64-fits; time_fits = zero64-fits }
