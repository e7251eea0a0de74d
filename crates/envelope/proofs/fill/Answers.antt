-- `envelope::fill` meets its contract. The loop's invariant: the elements before x are the first levels, and `after` is
-- the envelope after as many steps. Assumes nothing.
use Rattle.std.proofs.Common.{arith}
use Rattle.envelope.proofs.RunsOn.{filled-none, filled_more, filled_all}
use Rattle.envelope.proofs.fill.Goals as goal

pub loop-x-init : goal.loop-x-init
loop-x-init c = filled-none _ _ _ c.args.out.now

pub loop-x-preserved : goal.loop-x-preserved
loop-x-preserved c = filled_more _ _ _ _ _ _ _ (omega arith) c.step-after.ensures c.loop-x.invariant

pub returns : goal.returns
returns c = filled_all _ _ _ _ _ _ _ (omega arith) (omega arith) c.loop-x.invariant
