-- `peaks::after` meets its contract: a sample is judged by its size. Assumes nothing.
use mathlib.Core.Path.{refl, ◌∙◌}
use Rattle.peaks.proofs.Magnitudes.{by_size}
use Rattle.peaks.proofs.after.Goals as goal

pub returns-then-peak-size : goal.returns-then-peak-size
returns-then-peak-size c = rw (← c.size_of-size.ensures, c.if-peak-size.true) refl ∙ by_size c.args.peak c.args.x c.args.i c.requires

pub returns : goal.returns
returns c = rw (← c.size_of-size.ensures, c.if-peak-size.false) refl ∙ by_size c.args.peak c.args.x c.args.i c.requires
