use Rattle.std.proofs.Common.{◌≤◌}
use Rattle.voice.proofs.Walk.{Walks}
use Rattle.voice.proofs.keys.without.Given as goal

abbrev pub invariant-loop-i : goal.invariant-loop-i
invariant-loop-i l = (l.held ≤ 16) × Walks l.note l.initial.keys l.keys l.kept l.i
