-- Two outcomes that meet a public function's statement are equal. Assumes nothing.
use mathlib.Core.Path.{◌≡◌, sym, ◌∙◌}
use mathlib.Core.Bool.{Bool}
use mathlib.Core.List.{List}
use Prim.Native.Nat.{ℕ}
use lib.Ieee.{Float}
use Rattle.waveform.specs.declared.Radians.{Radians}
use Rattle.waveform.specs.Waveform.{radians}
use Rattle.waveform.specs.Filled.{phase_from}
use Rattle.tremolo.specs.declared.Lfo.{Lfo}
use Rattle.tremolo.specs.Tremolo.{is_lfo, lfo_at, factor_of, is_flat, multiplied_of}

pub is_lfo_unique : (l : Lfo) (r t : Bool) → r ≡ is_lfo l → t ≡ is_lfo l → r ≡ t
is_lfo_unique l r t p q = p ∙ sym q

pub factor_unique : (l : Lfo) (step phase : Radians) (r t : Float) → r ≡ factor_of l.depth (lfo_at l step.0 phase.0) → t ≡ factor_of l.depth (lfo_at l step.0 phase.0) → r ≡ t
factor_unique l step phase r t p q = p ∙ sym q

pub is_flat_unique : (l : Lfo) (step phase : Radians) (r t : Bool) → r ≡ is_flat l step.0 phase.0 → t ≡ is_flat l step.0 phase.0 → r ≡ t
is_flat_unique l step phase r t p q = p ∙ sym q

pub advance_unique : (phase step : Radians) (samples : ℕ) (r t : Radians) → r ≡ radians (phase_from step.0 phase.0 samples) → t ≡ radians (phase_from step.0 phase.0 samples) → r ≡ t
advance_unique phase step samples r t p q = p ∙ sym q

pub multiply_unique : (depth : Float) (values part r t : List Float) → r ≡ multiplied_of depth values part → t ≡ multiplied_of depth values part → r ≡ t
multiply_unique depth values part r t p q = p ∙ sym q
