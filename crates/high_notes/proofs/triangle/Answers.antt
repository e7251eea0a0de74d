-- `high_notes::triangle` meets its contract. Assumes nothing.
use mathlib.Core.Path.{refl}
use Rattle.polyblep.specs.Polyblep.{triangle_of}
use Rattle.high_notes.proofs.Remaking.{half-low}
use Rattle.high_notes.proofs.triangle.Goals as goal

pub fract-requires : goal.fract-requires
fract-requires c = half-low c.args.u c.requires

pub returns : goal.returns
unfolding triangle_of
returns c = rw (c.naive_triangle.ensures, c.blamp-high.ensures, c.fract.ensures, c.blamp-low.ensures) refl
