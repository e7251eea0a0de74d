-- `low_notes::up_to_end` meets its contract. Assumes nothing.
use mathlib.Core.Bool.{true}
use Rattle.low_notes.proofs.Segments.{saw-line}
use Rattle.low_notes.proofs.up_to_end.Goals as goal

pub returns : goal.returns
returns c = rw c.on.ensures (λ q i. let (is, l) = c.in_ok-guess.ensures q i in rw is (saw-line _ c.args.dt true l.side))
