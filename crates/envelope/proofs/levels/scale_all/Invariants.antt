use Rattle.std.proofs.Common.{◌≡◌, ◌++◌, map, take, drop}
use Rattle.envelope.specs.Inner.{scaled_by}
use Rattle.envelope.proofs.levels.scale_all.Given as goal

abbrev pub invariant-loop-x : goal.invariant-loop-x
invariant-loop-x l = l.values ≡ map (scaled_by l.level l.velocity) (take l.x-index l.initial.values) ++ drop l.x-index l.initial.values
