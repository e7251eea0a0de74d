-- `sine::negate` meets its contract: and k points from 2048 on are written. Assumes nothing.
use mathlib.Core.Path.{◌≡◌, sym}
use Prim.Native.Nat.{◌+◌}
use native.Mathlib.Nat.{add_assoc}
use native.Mathlib.Omega.{arith}
use Rattle.sine.proofs.Levels.{level-negate, read, written}
use Rattle.sine.proofs.negate.Goals as goal

pub loop-k-preserved : goal.loop-k-preserved
loop-k-preserved c = let k = c.loop-k.k in let u = c.loop-k.invariant in rw (← add_assoc 2048 k 1) (written (2048 + k) c.loop-k.wave u _ (omega arith) (rw (read (2048 + k) c.loop-k.wave u k (omega arith)) (sym (level-negate k))))

pub returns : goal.returns
returns c = let e : c.loop-k.k ≡ 2049 = omega arith in rw e at c.loop-k.invariant
