-- `polyblep::naive_pulse` meets its contract. Assumes nothing.
use mathlib.Core.Path.{refl}
use lib.Ieee.{of_bits, neg}
use Rattle.polyblep.proofs.naive_pulse.Goals as goal

pub returns-else-phase-edge : goal.returns-else-phase-edge
returns-else-phase-edge c = rw c.if-phase-edge.false (unfold of_bits in unfold neg in refl)
