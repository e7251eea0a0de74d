-- `rerender::recount` meets its contract. The invariant is `Recounting` of proofs/Renewing.antt. Assumes nothing.
use mathlib.Core.Path.{◌≡◌}
use Prim.Native.Nat.{◌+◌, ◌-◌, ◌*◌}
use native.Mathlib.Omega.{arith}
use Rattle.shelf.specs.Shelf.{entry_words}
use Rattle.rerender.proofs.Renewing.{recount-last, recount_on}
use Rattle.rerender.proofs.recount.Goals as goal

pub loop-k-preserved : goal.loop-k-preserved
loop-k-preserved c = let w = c.loop-k.k * entry_words in
    let d : w + entry_words - w ≡ entry_words = omega arith in
    rw d (recount_on _ c.requires.sorted _ _ _ _ _ c.loop-k.invariant c.loop-k-test.true _ c.next_not_below-acted.ensures _ c.recount.ensures)

pub returns : goal.returns
returns c = recount-last _ c.requires.sorted _ _ _ _ _ c.loop-k.invariant c.loop-k-test.false
