-- `polyblep::triangle` meets its contract. Assumes nothing.
use mathlib.Core.Path.{refl}
use Rattle.polyblep.specs.Polyblep.{triangle_of}
use Rattle.polyblep.proofs.triangle.Goals as goal

pub returns : goal.returns
unfolding triangle_of
returns c = rw (c.naive_triangle.ensures, c.blamp-high.ensures, c.fract.ensures, c.blamp-low.ensures) refl
