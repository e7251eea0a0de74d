use Prim.Native.Nat.{◌+◌}
use Rattle.sine.specs.Inner.{Unfolded}
use Rattle.sine.proofs.negate.Given as goal

abbrev pub invariant-loop-k : goal.invariant-loop-k
invariant-loop-k l = Unfolded (2048 + l.k) l.wave
