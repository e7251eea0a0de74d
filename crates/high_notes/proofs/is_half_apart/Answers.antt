-- `high_notes::is_half_apart` meets its contract. Assumes nothing.
use Rattle.high_notes.proofs.Edges.{half-apart}
use Rattle.high_notes.proofs.is_half_apart.Goals as goal

pub returns : goal.returns
returns c = λ e. half-apart _ c.is_apart.result c.is_apart.ensures e
