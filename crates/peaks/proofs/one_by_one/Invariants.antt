use mathlib.Core.Path.{◌≡◌}
use Rattle.peaks.specs.Inner.{peak_after}
use Rattle.peaks.proofs.one_by_one.Given as goal

abbrev pub invariant-loop-i : goal.invariant-loop-i
invariant-loop-i l = l.best ≡ peak_after l.fn.start l.samples l.from l.i
