use Rattle.sine.specs.Inner.{Unfolded}
use Rattle.sine.proofs.rise.Given as goal

abbrev pub invariant-loop-k : goal.invariant-loop-k
invariant-loop-k l = Unfolded l.k l.wave
