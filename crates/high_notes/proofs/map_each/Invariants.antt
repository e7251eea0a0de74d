use Rattle.high_notes.proofs.Remaking.{MadeUpTo}
use Rattle.high_notes.proofs.map_each.Given as goal

abbrev pub invariant-loop-x : goal.invariant-loop-x
invariant-loop-x g l = MadeUpTo (λ x y. goal.F-post g l.f x y) l.fn.out l.out l.x-index
