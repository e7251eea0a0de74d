use mathlib.Core.Path.{◌≡◌}
use Prim.Native.Nat.{◌-◌, ◌+◌}
use Rattle.score.specs.Record.{count_of}
use Rattle.spans.specs.Walk.{act_from}
use Rattle.spans.specs.Inner.{place_in, Sees}
use Rattle.spans.proofs.Player.begin.Given as goal

abbrev pub invariant-loop-event : goal.invariant-loop-event
invariant-loop-event l = Sees l.self.score.now l.self.position l.at × (act_from l.self.settings l.self.score.now (l.self.position + l.offset) (count_of l.self.score.now - l.initial.at.next) (place_in l.initial.at) ≡ act_from l.self.settings l.self.score.now (l.self.position + l.offset) (count_of l.self.score.now - l.at.next) (place_in l.at))

abbrev pub decreases-loop-event : goal.decreases-loop-event
decreases-loop-event l = count_of l.self.score.now - l.at.next
