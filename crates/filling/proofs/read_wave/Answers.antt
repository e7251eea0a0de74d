-- `filling::read_wave` meets its contract. Assumes nothing.
use native.Mathlib.Omega.{arith}
use Rattle.high_notes.proofs.Remaking.{made-all, made-values}
use Rattle.filling.proofs.read_wave.Goals as goal

pub returns : goal.returns
returns c = made-values _ _ _ _ (made-all _ _ _ _ (omega arith) c.loop-x.invariant) (λ i l y m. m)
