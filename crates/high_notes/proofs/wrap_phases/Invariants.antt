use lib.ListN.{get_or}
use lib.Ieee.{nan}
use Rattle.high_notes.proofs.Wraps.{WrappedBelow, bounds}
use Rattle.high_notes.proofs.wrap_phases.Given as goal

abbrev pub invariant-loop-over : goal.invariant-loop-over
invariant-loop-over l = WrappedBelow l.end.0 (get_or bounds l.over-index nan) l.fn.out l.out
