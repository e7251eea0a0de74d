-- `spans::play` meets its contract: no wave is lent, and so none is read. Assumes nothing.
use mathlib.Core.List.{[]}
use mathlib.Core.Path.{sym}
use native.Mathlib.Omega.{arith}
use Rattle.filling.proofs.Lent.{table_unread}
use Rattle.spans.proofs.play.Goals as goal

pub invariant_of-player : goal.invariant_of-player
invariant_of-player c = record { wave_table = λ w step p. sym (table_unread [] w step p (λ _ l. omega arith)) }
