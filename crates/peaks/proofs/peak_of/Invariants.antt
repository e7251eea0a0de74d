use mathlib.Core.Path.{◌≡◌}
use Prim.Native.Nat.{◌*◌}
use Rattle.peaks.specs.Inner.{group_size}
use Rattle.peaks.specs.Peaks.{peak_to}
use Rattle.peaks.proofs.peak_of.Given as goal

abbrev pub invariant-loop-n : goal.invariant-loop-n
invariant-loop-n l = l.best ≡ peak_to l.section (l.n * group_size)
