-- `low_notes::Line::value_at` meets its contract. Assumes nothing.
use lib.Ieee.{of_bits, neg}
use mathlib.Core.Path.{refl}
use Rattle.low_notes.proofs.Line.value_at.Goals as goal

pub returns-in-Low : goal.returns-in-Low
returns-in-Low c = rw c.in-Low.is (unfold of_bits in unfold neg in refl)
