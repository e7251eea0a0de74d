-- `sine::fall` meets its contract: and k points from 1025 on are written. Assumes nothing.
use mathlib.Core.Path.{◌≡◌, sym, ◌∙◌}
use Prim.Native.Nat.{◌+◌, ◌-◌}
use native.Mathlib.Nat.{add_assoc}
use native.Mathlib.Omega.{arith}
use Rattle.sine.proofs.Levels.{level-fall, read, written}
use Rattle.sine.proofs.fall.Goals as goal

pub loop-k-preserved : goal.loop-k-preserved
loop-k-preserved c = let k = c.loop-k.k in let u = c.loop-k.invariant in rw (← add_assoc 1025 k 1) (written (1025 + k) c.loop-k.wave u _ (omega arith) (read (1025 + k) c.loop-k.wave u (1023 - k) (omega arith) ∙ sym (level-fall k (omega arith))))

pub returns : goal.returns
returns c = let e : c.loop-k.k ≡ 1023 = omega arith in rw e at c.loop-k.invariant
