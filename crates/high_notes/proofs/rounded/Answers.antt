-- `high_notes::rounded` meets its contract. Assumes nothing.
use mathlib.Core.Path.{refl}
use Rattle.polyblep.specs.Polyblep.{rounded_of}
use Rattle.high_notes.proofs.Remaking.{half-low}
use Rattle.high_notes.proofs.rounded.Goals as goal

pub fract-requires : goal.fract-requires
fract-requires c = half-low c.args.u c.requires

pub returns : goal.returns
unfolding rounded_of
returns c = rw (c.naive_triangle.ensures, c.rounded_blamp-high.ensures, c.fract.ensures, c.rounded_blamp-low.ensures) refl
