-- `rerender::planned` meets its contract. Assumes nothing.
use mathlib.Core.Path.{refl}
use Rattle.rerender.specs.Rerender.{plan_for}
use Rattle.rerender.proofs.planned.Goals as goal

pub returns-in_err-p : goal.returns-in_err-p
unfolding plan_for
returns-in_err-p c = rw (c.from_residual.ensures, ← c.first_difference.ensures, c.in_err-p.was) refl

pub returns : goal.returns
unfolding plan_for
returns c = rw (c.then_some.ensures, ← c.first_difference.ensures, c.in_ok-p.was) refl
