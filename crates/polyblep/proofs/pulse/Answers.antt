-- `polyblep::pulse` meets its contract. Assumes nothing.
use mathlib.Core.Path.{refl}
use Rattle.polyblep.specs.Polyblep.{pulse_of}
use Rattle.polyblep.proofs.pulse.Goals as goal

pub returns : goal.returns
unfolding pulse_of
returns c = rw (c.naive_pulse.ensures, c.blep-fall.ensures, c.fract.ensures, c.blep-rise.ensures) refl
