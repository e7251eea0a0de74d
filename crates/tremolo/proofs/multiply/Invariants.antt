use Rattle.tremolo.proofs.Multiplying.{Upto}
use Rattle.tremolo.proofs.multiply.Given as goal

abbrev pub invariant-loop-i : goal.invariant-loop-i
invariant-loop-i l = Upto l.depth l.values l.initial.part l.part l.i
