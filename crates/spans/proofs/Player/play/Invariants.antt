use Prim.Native.Nat.{◌-◌}
use lib.ListN.{length}
use Rattle.spans.specs.Inner.{place_in, Sees}
use Rattle.spans.proofs.Loops.{Upto}
use Rattle.spans.proofs.Player.play.Given as goal

abbrev pub invariant-loop-i : goal.invariant-loop-i
invariant-loop-i l = Upto l.self.settings l.self.score.now l.self.position (place_in l.initial.at) l.initial.part l.part (place_in l.at) l.i × Sees l.self.score.now l.self.position l.at

abbrev pub decreases-loop-i : goal.decreases-loop-i
decreases-loop-i l = length l.initial.part - l.i
