use Rattle.std.proofs.Common.{◌≡◌}
use Rattle.envelope.specs.Inner.{ScalesOn}
use Rattle.envelope.proofs.levels.Scaling.singly.Given as goal

abbrev pub invariant-loop-i : goal.invariant-loop-i
invariant-loop-i l = (l.envelope.stage ≡ l.stage) × ScalesOn l.self.adsr l.self.sample_time l.self.velocity l.initial.part l.initial.envelope l.fn.at.count l.part l.envelope l.i
