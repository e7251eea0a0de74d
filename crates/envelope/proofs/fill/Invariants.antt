use Rattle.std.proofs.Common.{take}
use Rattle.envelope.specs.Running.{Filled}
use Rattle.envelope.proofs.fill.Given as goal

abbrev pub invariant-loop-x : goal.invariant-loop-x
invariant-loop-x l = Filled l.adsr l.sample_time l.initial.after l.x-index (take l.x-index l.out) l.after
