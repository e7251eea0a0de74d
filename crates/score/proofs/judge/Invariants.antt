use mathlib.Core.Path.{◌≡◌}
use Rattle.score.proofs.Turns.{verdict_from}
use lib.Dec.{leb}
use Rattle.score.specs.Record.{position_at}
use Rattle.score.specs.Score.{in_order, verdict_of}
use Rattle.score.proofs.judge.Given as goal

abbrev pub invariant-loop-i : goal.invariant-loop-i
invariant-loop-i l = (verdict_of l.score ≡ verdict_from l.score l.n l.i) × (in_order l.score l.i ≡ leb l.before (position_at l.score l.i))
