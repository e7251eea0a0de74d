-- `filling::read_pairs` meets its contract: an odd number of readings has a last one after the pairs. Assumes nothing.
use borrow.Author.Rules.{rules}
use mathlib.Core.Path.{◌≡◌}
use Prim.Native.Nat.{◌-◌, ◌*◌}
use native.Mathlib.Omega.{arith}
use lib.ListN.{length, length-set}
use Rattle.high_notes.proofs.Remaking.{made-more, made-all, made-values}
use Rattle.filling.proofs.read_pairs.Goals as goal

pub returns-then-out-eq1 : goal.returns-then-out-eq1
returns-then-out-eq1 c = let last : c.loop-pair.pair * 2 ≡ length c.loop-pair.out - 1 = omega arith in
    made-values _ _ _ _ (made-all _ _ _ _ (simp length-set (omega arith)) (made-more _ _ c.loop-pair.out _ _ (omega arith) (search rules) (rw last at c.loop-pair.invariant))) (λ i l y m. m)

pub returns-else-out-eq1 : goal.returns-else-out-eq1
returns-else-out-eq1 c = made-values _ _ _ _ (made-all _ _ _ _ (omega arith) c.loop-pair.invariant) (λ i l y m. m)
