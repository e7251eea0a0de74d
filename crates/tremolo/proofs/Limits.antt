-- An accepted LFO, setting by setting: its frequency is not negative and at most 12,544 Hz, the highest of a voice, so
-- that a law on the phase of a voice is one on the phase of an LFO. Assumes nothing.
use mathlib.Core.Bool.{◌&&◌}
use lib.Dec.{T}
use lib.Ieee.{binary64, of_bits, le}
use lib.Ieee.Fits.{and_l, and_r}
use Rattle.floats.specs.Range.{nonneg}
use Rattle.floats.specs.Double.{zero64}
use Rattle.floats.proofs.Literals.{zero_of-is}
use Rattle.floats.proofs.Order.{fle_trans}
use Rattle.floats.proofs.Ranges.{within-nonneg}
use Rattle.domain.specs.Domain.{highest_lfo, highest_pitch, is_frequency, is_depth}
use Rattle.waveform.specs.Waveform.{is_waveform}
use Rattle.tremolo.specs.declared.Lfo.{Lfo}
use Rattle.tremolo.specs.Tremolo.{is_lfo}

module _ (l : Lfo) (h : T (is_lfo l)) where
  pub lfo_waveform : T (is_waveform l.waveform)
  lfo_waveform = and_l (is_waveform l.waveform) (is_frequency highest_lfo l.frequency) (and_l (is_waveform l.waveform && is_frequency highest_lfo l.frequency) (is_depth l.depth) h)

  pub lfo_depth_lem : T (is_depth l.depth)
  lfo_depth_lem = and_r (is_waveform l.waveform && is_frequency highest_lfo l.frequency) (is_depth l.depth) h

  in_hertz : T (is_frequency highest_lfo l.frequency)
  in_hertz = and_r (is_waveform l.waveform) (is_frequency highest_lfo l.frequency) (and_l (is_waveform l.waveform && is_frequency highest_lfo l.frequency) (is_depth l.depth) h)

  pub lfo-frequency : T (nonneg l.frequency) × T (le l.frequency (highest_pitch binary64))
  lfo-frequency = (
    within-nonneg highest_lfo l.frequency (unfold of_bits in tt) (rw (zero_of-is binary64) at in_hertz),
    fle_trans l.frequency highest_lfo (highest_pitch binary64) (and_r (le zero64 l.frequency) (le l.frequency highest_lfo) in_hertz) (unfold of_bits in unfold le in tt),
  )
