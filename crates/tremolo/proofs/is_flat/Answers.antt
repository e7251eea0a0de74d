-- `tremolo::is_flat` meets its contract. Assumes nothing.
use mathlib.Core.Path.{refl}
use Rattle.tremolo.specs.Tremolo.{is_flat}
use Rattle.tremolo.proofs.is_flat.Goals as goal

pub returns : goal.returns
unfolding is_flat
returns c = rw (c.is_radians.ensures, c.is_within-2.ensures, c.is_waveform.ensures, c.is_within.ensures) refl
