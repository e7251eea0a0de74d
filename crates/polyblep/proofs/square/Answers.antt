-- `polyblep::square` meets its contract. Assumes nothing.
use mathlib.Core.Path.{refl}
use Rattle.polyblep.specs.Polyblep.{square_of}
use Rattle.polyblep.proofs.square.Goals as goal

pub returns : goal.returns
unfolding square_of
returns c = rw (c.naive_pulse.ensures, c.blep-fall.ensures, c.fract.ensures, c.blep-rise.ensures) refl
