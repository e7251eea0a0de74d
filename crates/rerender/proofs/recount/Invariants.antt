use Rattle.rerender.proofs.Renewing.{Recounting}
use Rattle.rerender.proofs.recount.Given as goal

abbrev pub invariant-loop-k : goal.invariant-loop-k
invariant-loop-k l = Recounting l.score l.section l.initial.shelf l.shelf l.acted l.k
