use Rattle.waveform.specs.declared.Waveform.TheVariants.{Sine}
use Rattle.waveform.specs.Filled.{value_at}
use Rattle.waveform.proofs.Loops.{FilledUpTo}
use Rattle.filling.proofs.fill_sine.Given as goal

abbrev pub invariant-loop-sample : goal.invariant-loop-sample
invariant-loop-sample l = FilledUpTo (value_at Sine l.step.0) l.step.0 l.scale l.initial.angle l.initial.out l.out l.angle l.sample-index
