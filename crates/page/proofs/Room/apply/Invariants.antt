use Rattle.page.proofs.Steps.{Applying}
use Rattle.page.proofs.Room.apply.Given as goal

abbrev pub invariant-loop-i : goal.invariant-loop-i
invariant-loop-i l = Applying l.fn.self l.edits l.self l.i
