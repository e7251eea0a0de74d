use Prim.Native.Nat.{◌-◌}
use lib.ListN.{length}
use Rattle.low_notes.proofs.SegmentLoops.{SegmentFilled}
use Rattle.low_notes.proofs.Tone.fill_by_fours.Given as goal

abbrev pub invariant-loop-at : goal.invariant-loop-at
invariant-loop-at l = SegmentFilled l.segment l.self.step.0 l.self.scale l.initial.out l.fn.from.phase.0 l.fn.from.count l.out l.at.phase.0 l.at.count

abbrev pub decreases-loop-at : goal.decreases-loop-at
decreases-loop-at l = length l.initial.out - l.at.count
