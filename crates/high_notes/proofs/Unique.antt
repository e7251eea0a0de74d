-- Two outcomes that meet a public function's statement are equal. Assumes nothing.
use mathlib.Core.Path.{◌≡◌, sym, ◌∙◌}
use mathlib.Core.List.{List}
use lib.ListN.{length}
use lib.Ieee.{Float}
use Rattle.waveform.specs.declared.Radians.{Radians}
use Rattle.waveform.specs.declared.Waveform.{Waveform}
use Rattle.waveform.specs.Waveform.{radians}
use Rattle.waveform.specs.Filled.{phase_from, Filled, value_at}
use Rattle.waveform.proofs.Loops.{filled-same}
use Rattle.high_notes.specs.Remainders.{remainders_of}

-- every sample, and the phase
pub fill_unique : (w : Waveform) (start step scale : Float) (before a b : List Float) (r t : Radians) → Filled w start step scale before a r → Filled w start step scale before b t → (a ≡ b) × (r ≡ t)
fill_unique w start step scale before a b r t = filled-same (value_at w step) step scale start before a b r t

pub fill_remainders_unique : (start step : Float) (before a b : List Float) (r t : Radians) → (a ≡ remainders_of step start (length before)) × (r ≡ radians (phase_from step start (length before)))
    → (b ≡ remainders_of step start (length before)) × (t ≡ radians (phase_from step start (length before))) → (a ≡ b) × (r ≡ t)
fill_remainders_unique start step before a b r t p q = (p.0 ∙ sym q.0, p.1 ∙ sym q.1)
