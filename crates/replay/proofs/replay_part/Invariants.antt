use Rattle.std.proofs.Common.{◌≤◌}
use Rattle.replay.proofs.replay_part.Given as goal

abbrev pub invariant-loop-done : goal.invariant-loop-done
invariant-loop-done g l = l.equal ≤ l._done
