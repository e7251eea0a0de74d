-- `tremolo::multiply` meets its contract. The loop's invariant: the first i samples are multiplied, the others are as
-- they came. Assumes nothing.
use mathlib.Core.Path.{refl}
use native.Mathlib.Omega.{arith}
use Rattle.tremolo.proofs.Multiplying.{upto_none, upto_more}
use Rattle.tremolo.proofs.multiply.Goals as goal

pub loop-i-init : goal.loop-i-init
loop-i-init c = upto_none _ _ _

pub loop-i-preserved : goal.loop-i-preserved
loop-i-preserved c = upto_more _ _ _ c.loop-i.part _ c.loop-i.i (omega arith) refl c.loop-i.invariant
