-- `high_notes::wrap_once` meets its contract. Assumes nothing.
use borrow.Author.Rules.{rules}
use Rattle.high_notes.proofs.Remaking.{made-values}
use Rattle.high_notes.proofs.wrap_once.Goals as goal

pub returns : goal.returns
returns c = made-values _ _ _ _ c.map_each.ensures (λ i l y m. search rules)
