use mathlib.Core.Path.{◌≡◌}
use Rattle.peaks.specs.Inner.{is_quiet}
use Rattle.peaks.proofs.is_quiet.Given as goal

abbrev pub invariant-loop-x : goal.invariant-loop-x
invariant-loop-x l = l.quiet ≡ is_quiet l.group l.most l.x-index
