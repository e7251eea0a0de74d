-- A block, sample by sample. 01, "Steps": "For each sample the value is taken from (phase % TAU) * INV_TAU with dt =
-- increment * INV_TAU, times depth in the LFO, then phase grows by the increment."
--
-- Between two samples of a block the phase is not reduced. 01's increment is called step here, and the factor, which is
-- the depth in the LFO, scale. Phase and step are in radians. Definitions only.
use Rattle.std.specs.Prelude.{◌≡◌, List, ℕ, length, Float}
use Rattle.runs.specs.Runs.{repeated, listed}
use Rattle.floats.specs.Double.{◌⊕◌, ◌⊗◌}
use Rattle.waveform.specs.declared.Radians.{Radians}
use Rattle.waveform.specs.declared.Waveform.{Waveform}
use Rattle.waveform.specs.Waveform.{value_of, normal_of, inv_tau, radians}

-- the phase before sample k, where p is the phase before sample 0
unfoldable pub phase_from : Float → Float → ℕ → Float
phase_from step p k = repeated (λ (q : Float). q ⊕ step) p k

-- a waveform's value at a phase of p radians
abbrev pub value_at : Waveform → Float → Float → Float
value_at w step p = value_of w (normal_of p) (step ⊗ inv_tau)

-- the sample that is written at the phase p
abbrev pub scaled_at : (Float → Float) → Float → Float → Float
scaled_at value scale p = value p ⊗ scale

-- the first k samples, for any function from a phase to its value
unfoldable pub samples_by : (Float → Float) → Float → Float → Float → ℕ → List Float
samples_by value step scale p k = listed (λ (i : ℕ). scaled_at value scale (phase_from step p i)) k

-- the first k samples of a waveform
abbrev pub samples_from : Waveform → Float → Float → Float → ℕ → List Float
samples_from w step scale p k = samples_by (value_at w step) step scale p k

-- every number of a lent list is replaced by its sample, and r is the phase after the last sample
pub record FilledBy (value : Float → Float) (p step scale : Float) (before after : List Float) (r : Radians) : Type 0 where
  pub samples : after ≡ samples_by value step scale p (length before)
  pub phase : r ≡ radians (phase_from step p (length before))

abbrev pub Filled : Waveform → Float → Float → Float → List Float → List Float → Radians → Type 0
Filled w p step scale before after r = FilledBy (value_at w step) p step scale before after r
