-- `high_notes::fill_phases` meets its contract. Assumes nothing.
use native.Mathlib.Omega.{arith}
use Rattle.high_notes.proofs.Remaking.{phased_none, phased_more}
use Rattle.high_notes.proofs.fill_phases.Goals as goal

pub loop-x-init : goal.loop-x-init
loop-x-init c = phased_none _ _ _

pub loop-x-preserved : goal.loop-x-preserved
loop-x-preserved c = phased_more _ _ _ _ _ _ (omega arith) c.loop-x.invariant
