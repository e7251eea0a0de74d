-- `peaks::is_quiet` meets its contract. The loop's invariant: the answer so far is that of the first samples. Assumes
-- nothing.
use mathlib.Core.Path.{refl}
use native.Mathlib.Numerals.{add-one}
use Rattle.peaks.specs.Inner.{is_quiet}
use Rattle.peaks.proofs.is_quiet.Goals as goal

pub loop-x-init : goal.loop-x-init
unfolding is_quiet
loop-x-init c = refl

pub loop-x-preserved : goal.loop-x-preserved
unfolding is_quiet
loop-x-preserved c = let at = c.loop-x in rw (add-one at.x-index, ← at.invariant, c.size_of-size.ensures) refl
