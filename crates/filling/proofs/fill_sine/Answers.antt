-- `filling::fill_sine` meets its contract. The loop's invariant is `FilledUpTo` of waveform's proofs/Loops.antt.
-- Assumes nothing.
use mathlib.Core.Path.{refl}
use native.Mathlib.Omega.{arith}
use Rattle.waveform.specs.Waveform.{value_of}
use Rattle.waveform.proofs.Loops.{begins, goes_on}
use Rattle.filling.proofs.fill_sine.Goals as goal

pub loop-sample-init : goal.loop-sample-init
loop-sample-init c = begins _ _ _ _ _

pub loop-sample-preserved : goal.loop-sample-preserved
unfolding value_of
loop-sample-preserved c = goes_on _ _ _ _ _ _ _ _ _ c.loop-sample.invariant (omega arith) (rw (c.reading_in.ensures, c.normalised.ensures, c.quarter_wave-wave.ensures) refl)
