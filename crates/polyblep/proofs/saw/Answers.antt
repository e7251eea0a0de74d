-- `polyblep::saw` meets its contract. Assumes nothing.
use mathlib.Core.Path.{refl}
use Rattle.polyblep.specs.Polyblep.{saw_of}
use Rattle.polyblep.proofs.saw.Goals as goal

pub returns : goal.returns
unfolding saw_of
returns c = rw (c.blep.ensures, c.naive_saw.ensures) refl
