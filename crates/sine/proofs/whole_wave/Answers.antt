-- `sine::whole_wave` meets its contract. Assumes nothing.
use Rattle.sine.proofs.Levels.{blank, unfolded}
use Rattle.sine.proofs.whole_wave.Goals as goal

pub rise-requires : goal.rise-requires
rise-requires c = (c.quarter_wave-table.ensures, blank _)

pub returns : goal.returns
returns c = unfolded _ c.negate.ensures
