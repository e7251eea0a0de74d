-- `sine::quarter_wave` meets its contract: the table of the code is the list of the definition. Assumes nothing.
use mathlib.Core.Path.{refl}
use Rattle.sine.specs.Table.{quarter}
use Rattle.sine.proofs.quarter_wave.Goals as goal

pub returns : goal.returns
unfolding quarter
returns c = refl
