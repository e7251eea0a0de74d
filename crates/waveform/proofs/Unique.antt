-- Two outcomes that meet a public function's statement are equal. Assumes nothing.
use Rattle.std.specs.Prelude.{Result}
use mathlib.Core.Path.{◌≡◌, sym, ◌∙◌}
use mathlib.Core.Bool.{Bool}
use Prim.Native.Nat.{ℕ}
use lib.Ieee.{Float}
use Rattle.floats.specs.Double.{◌⊗◌}
use Rattle.waveform.specs.declared.Radians.{Radians}
use Rattle.waveform.specs.declared.Waveform.{Waveform}
use Rattle.waveform.specs.Waveform.{is_waveform, value_of, sample_of, remainder_of, normal_of, reduce_of, increment_of, radians, inv_tau}
use Rattle.waveform.specs.Filled.{value_at}
use Rattle.answers.specs.declared.Refusal.{Refusal}

pub sample_unique : (w : Waveform) (phase dt : Float) (r t : Result Float Refusal) → r ≡ sample_of w phase dt → t ≡ sample_of w phase dt → r ≡ t
sample_unique w phase dt r t p q = p ∙ sym q

pub is_waveform_unique : (w : Waveform) (r t : Bool) → r ≡ is_waveform w → t ≡ is_waveform w → r ≡ t
is_waveform_unique w r t p q = p ∙ sym q

pub value_at_unique : (w : Waveform) (phase dt : Float) (r t : Float) → r ≡ value_of w phase dt → t ≡ value_of w phase dt → r ≡ t
value_at_unique w phase dt r t p q = p ∙ sym q

pub wave_at_unique : (w : Waveform) (phase step : Radians) (r t : Float) → r ≡ value_at w step.0 phase.0 → t ≡ value_at w step.0 phase.0 → r ≡ t
wave_at_unique w phase step r t p q = p ∙ sym q

pub normalised_unique : (phase : Radians) (r t : Float) → r ≡ normal_of phase.0 → t ≡ normal_of phase.0 → r ≡ t
normalised_unique phase r t p q = p ∙ sym q

pub in_cycles_unique : (x : Radians) (r t : Float) → r ≡ x.0 ⊗ inv_tau → t ≡ x.0 ⊗ inv_tau → r ≡ t
in_cycles_unique x r t p q = p ∙ sym q

pub reduced_unique : (phase : Radians) (r t : Radians) → r ≡ radians (reduce_of phase.0) → t ≡ radians (reduce_of phase.0) → r ≡ t
reduced_unique phase r t p q = p ∙ sym q

pub remainder_unique : (phase : Radians) (r t : Radians) → r ≡ radians (remainder_of phase.0) → t ≡ radians (remainder_of phase.0) → r ≡ t
remainder_unique phase r t p q = p ∙ sym q

pub increment_unique : (frequency : Float) (rate : ℕ) (r t : Radians) → r ≡ radians (increment_of frequency rate) → t ≡ radians (increment_of frequency rate) → r ≡ t
increment_unique frequency rate r t p q = p ∙ sym q
