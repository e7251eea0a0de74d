-- The tremolo. 02, R-7: "Settings gain an LFO: waveform, frequency, depth, with 01's limits. The sample is multiplied
-- last by (1 - depth/2 + lfo/2), where lfo is the ported block's scaled value." 01, "Domain of the ported calls":
-- frequency "(LFO 0 to 100), depth 0 to 1"; "Steps": "times depth in the LFO".
--
-- Each operation is rounded once, and nothing is clamped: at some phases the corrections take a triangle of 100 Hz at a
-- rate of 8,000 to 1.0069 and to -1.0069, and so the factor of depth 1 to 1.0035 and to -0.0035. Definitions only.
use Rattle.std.specs.Prelude.{Bool, cond, ◌&&◌, List, ℕ, eqb, length, get_or, Float}
use Rattle.std.specs.Float.{nan, binary64}
use Rattle.std.specs.Float.Ieee.{of_bits}
use Rattle.runs.specs.Runs.{listed}
use Rattle.floats.specs.Range.{within}
use Rattle.floats.specs.Double.{◌⊕◌, ◌⊖◌, ◌⊗◌, ◌⊘◌, zero64, one, two}
use Rattle.domain.specs.Domain.{highest_lfo, is_frequency, is_depth, is_radians}
use Rattle.waveform.specs.Waveform.{is_waveform}
use Rattle.waveform.specs.Filled.{value_at}
use Rattle.tremolo.specs.declared.Lfo.{Lfo}

-- an LFO that a render accepts; at depth 0 waveform and frequency are judged all the same
abbrev pub is_lfo : Lfo → Bool
is_lfo l = is_waveform l.waveform && is_frequency highest_lfo l.frequency && is_depth l.depth

-- the LFO's scaled value at a phase of p radians, which a sample moves by step
abbrev pub lfo_at : Lfo → Float → Float → Float
lfo_at l step p = value_at l.waveform step p ⊗ l.depth

abbrev pub factor_of : Float → Float → Float
factor_of depth lfo = (one ⊖ (depth ⊘ two)) ⊕ (lfo ⊘ two)

-- ---- where every factor is known to be 1: the depth is 0 or -0, and the values are finite, as a duty is in range, a
-- sample moves the phase by 0 to 16 radians, and the phase is at least 0 and below 1,000
abbrev pub sixteen : Float
sixteen = of_bits binary64 0x4030_0000_0000_0000

unfoldable pub is_flat : Lfo → Float → Float → Bool
is_flat l step p = within zero64 zero64 l.depth && is_waveform l.waveform && within zero64 sixteen step && is_radians p

-- ---- a lent part
-- the first k samples of xs, each multiplied by the factor of its value of the waveform in ws
unfoldable pub multiplied_to : Float → List Float → List Float → ℕ → List Float
multiplied_to depth ws xs k = listed (λ (i : ℕ). get_or xs i nan ⊗ factor_of depth (get_or ws i nan ⊗ depth)) k

-- all samples, if there are as many values; else the samples as they came
abbrev pub multiplied_of : Float → List Float → List Float → List Float
multiplied_of depth ws xs = cond (eqb (length ws) (length xs)) (multiplied_to depth ws xs (length xs)) xs
