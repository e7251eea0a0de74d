-- `sine::rise` meets its contract: the first k points are written. Assumes nothing.
use mathlib.Core.Path.{◌≡◌, sym}
use native.Mathlib.Omega.{arith}
use Rattle.sine.proofs.Levels.{level-rise, written}
use Rattle.sine.proofs.rise.Goals as goal

pub loop-k-preserved : goal.loop-k-preserved
loop-k-preserved c = let k = c.loop-k.k in written k c.loop-k.wave c.loop-k.invariant _ (omega arith) (rw c.requires.0 (sym (level-rise k (omega arith))))

pub returns : goal.returns
returns c = let e : c.loop-k.k ≡ 1025 = omega arith in rw e at c.loop-k.invariant
