-- `polyblep::rounded` meets its contract. Assumes nothing.
use mathlib.Core.Path.{refl}
use Rattle.polyblep.specs.Polyblep.{rounded_of}
use Rattle.polyblep.proofs.rounded.Goals as goal

pub returns : goal.returns
unfolding rounded_of
returns c = rw (c.naive_triangle.ensures, c.rounded_blamp-high.ensures, c.fract.ensures, c.rounded_blamp-low.ensures) refl
