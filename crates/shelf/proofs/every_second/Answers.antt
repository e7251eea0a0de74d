-- `shelf::every_second` meets its contract. Assumes nothing.
use mathlib.Core.Path.{ap, ◌∙◌}
use mathlib.Core.List.{List}
use Prim.Native.Nat.{ℕ, ◌+◌, ◌*◌, ◌%◌}
use native.Mathlib.Omega.{arith}
use lib.ListN.{get_or, length-set}
use lib.Seq.{get_or-set_same, get_or-set_other}
use borrow.Author.Count.{below_more}
use Rattle.shelf.proofs.every_second.Goals as goal

pub loop-k-preserved : goal.loop-k-preserved
loop-k-preserved c = let a = c.args in let k = c.loop-k.k in let at = 2 * (k % 4) + a.from in
    record {
      long = length-set c.loop-k.bytes k _ ∙ c.loop-k.invariant.long;
      bytes =
          below_more _ _
          (λ i h. get_or-set_other c.loop-k.bytes k i _ 0 (omega arith) ∙ c.loop-k.invariant.bytes i h)
          (get_or-set_same c.loop-k.bytes k _ 0 (omega (arith, c.loop-k.invariant.long)) ∙ ap (λ (l : List ℕ). get_or l at 0) c.to_le_bytes.ensures);
    }
