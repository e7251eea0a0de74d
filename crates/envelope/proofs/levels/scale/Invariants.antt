use Rattle.std.proofs.Common.{◌-◌, length}
use Rattle.envelope.specs.Inner.{Reached}
use Rattle.envelope.proofs.levels.scale.Given as goal

abbrev pub invariant-loop-i : goal.invariant-loop-i
invariant-loop-i l = Reached l.adsr l.sample_time l.initial.envelope l.velocity l.initial.part l.part l.envelope l.i

abbrev pub decreases-loop-i : goal.decreases-loop-i
decreases-loop-i l = length l.initial.part - l.i
