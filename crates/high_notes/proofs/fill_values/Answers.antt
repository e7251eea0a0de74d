-- `high_notes::fill_values` meets its contract. Assumes nothing.
use borrow.Author.Rules.{rules}
use Rattle.waveform.specs.Waveform.{value_of}
use Rattle.high_notes.proofs.Remaking.{made-values}
use Rattle.high_notes.proofs.fill_values.Goals as goal

pub returns-in-RoundedTriangle : goal.returns-in-RoundedTriangle
unfolding value_of
returns-in-RoundedTriangle c = rw c.in-RoundedTriangle.is (made-values _ _ _ _ c.map_each.ensures (λ i l y m. search rules))
