-- `low_notes::is_clear_of_edge` meets its contract. Assumes nothing.
use Rattle.polyblep.proofs.Clear.{clear-between}
use Rattle.low_notes.proofs.is_clear_of_edge.Goals as goal

pub returns : goal.returns
returns c = λ e x w a b. clear-between c.args.low c.args.high c.args.dt x w a b e
