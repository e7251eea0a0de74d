use Rattle.high_notes.proofs.Remaking.{Phased}
use Rattle.high_notes.proofs.fill_phases.Given as goal

abbrev pub invariant-loop-x : goal.invariant-loop-x
invariant-loop-x l = Phased l.step.0 l.initial.angle l.initial.out l.out l.angle l.x-index
