-- `peaks::one_by_one` meets its contract. The loop's invariant: the best is the peak after the first i samples. Assumes
-- nothing.
use mathlib.Core.Path.{refl, ◌∙◌}
use native.Mathlib.Numerals.{add-one}
use Rattle.peaks.specs.Inner.{peak_after}
use Rattle.peaks.proofs.Bounds.{least-after}
use Rattle.peaks.proofs.one_by_one.Goals as goal

pub loop-i-init : goal.loop-i-init
unfolding peak_after
loop-i-init c = refl

pub after-best-requires : goal.after-best-requires
after-best-requires c = let a = c.args in rw c.loop-i.invariant (least-after a.samples.now a.start a.from c.loop-i.i c.requires.start_least)

pub loop-i-preserved : goal.loop-i-preserved
unfolding peak_after
loop-i-preserved c = c.after-best.ensures ∙ rw (add-one c.loop-i.i, ← c.loop-i.invariant) refl
