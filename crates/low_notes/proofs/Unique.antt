-- Two outcomes that meet a public function's statement are equal. Assumes nothing.
use mathlib.Core.Path.{◌≡◌}
use mathlib.Core.List.{List}
use lib.Ieee.{Float}
use Rattle.waveform.specs.declared.Radians.{Radians}
use Rattle.waveform.specs.declared.Waveform.{Waveform}
use Rattle.waveform.specs.Filled.{Filled, value_at}
use Rattle.waveform.proofs.Loops.{filled-same}

-- every sample, and the phase after the last
pub fill_unique : (w : Waveform) (start step scale : Float) (before a b : List Float) (r t : Radians) → Filled w start step scale before a r → Filled w start step scale before b t → (a ≡ b) × (r ≡ t)
fill_unique w start step scale before a b r t = filled-same (value_at w step) step scale start before a b r t
