use Prim.Native.Nat.{◌-◌}
use lib.ListN.{length}
use Rattle.waveform.specs.Filled.{value_at}
use Rattle.waveform.proofs.Loops.{FilledUpTo}
use Rattle.low_notes.proofs.fill.Given as goal

abbrev pub invariant-loop-at : goal.invariant-loop-at
invariant-loop-at l = FilledUpTo (value_at l.fn.waveform l.fn.step.0) l.fn.step.0 l.fn.scale l.fn.start.0 l.initial.out l.out l.at.phase.0 l.at.count

abbrev pub decreases-loop-at : goal.decreases-loop-at
decreases-loop-at l = length l.initial.out - l.at.count
