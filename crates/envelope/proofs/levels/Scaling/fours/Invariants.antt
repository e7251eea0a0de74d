use Rattle.std.proofs.Common.{◌≡◌, ◌≤◌, ◌-◌, length}
use Rattle.envelope.specs.Inner.{ScalesOn}
use Rattle.envelope.proofs.levels.Scaling.fours.Given as goal

abbrev pub invariant-loop-part : goal.invariant-loop-part
invariant-loop-part l =
    record {
      on : l.initial.i ≤ l.i;
      within : l.i ≤ length l.part;
      stays : l.envelope.stage ≡ l.stage;
      scales : ScalesOn l.self.adsr l.self.sample_time l.self.velocity l.initial.part l.initial.envelope l.initial.i l.part l.envelope l.i;
    }

abbrev pub decreases-loop-part : goal.decreases-loop-part
decreases-loop-part l = length l.initial.part - l.i
