-- `high_notes::square` meets its contract. Assumes nothing.
use mathlib.Core.Path.{refl}
use Rattle.polyblep.specs.Polyblep.{square_of}
use Rattle.high_notes.proofs.Remaking.{half-low}
use Rattle.high_notes.proofs.square.Goals as goal

pub fract-requires : goal.fract-requires
fract-requires c = half-low c.args.u c.requires

pub returns : goal.returns
unfolding square_of
returns c = rw (c.naive_pulse.ensures, c.blep-fall.ensures, c.fract.ensures, c.blep-rise.ensures) refl
