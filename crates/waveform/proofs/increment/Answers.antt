-- `waveform::increment` meets its contract. Assumes nothing.
use mathlib.Core.Path.{refl}
use Rattle.waveform.specs.Waveform.{increment_of}
use Rattle.waveform.proofs.increment.Goals as goal

pub returns : goal.returns
unfolding increment_of
returns c = refl
