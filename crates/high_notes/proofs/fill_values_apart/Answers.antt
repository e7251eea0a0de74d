-- `high_notes::fill_values_apart` meets its contract. Assumes nothing.
use borrow.Author.Rules.{rules}
use Rattle.waveform.specs.Waveform.{value_of}
use Rattle.high_notes.proofs.Remaking.{made-values}
use Rattle.high_notes.proofs.fill_values_apart.Goals as goal

pub returns-in-Square : goal.returns-in-Square
unfolding value_of
returns-in-Square c = rw c.in-Square.is (made-values _ _ _ _ c.map_each.ensures (λ i l y m. search rules))

pub returns-in-Triangle : goal.returns-in-Triangle
unfolding value_of
returns-in-Triangle c = rw c.in-Triangle.is (made-values _ _ _ _ c.map_each-in-Triangle.ensures (λ i l y m. search rules))

pub returns-in-Pulse : goal.returns-in-Pulse
unfolding value_of
returns-in-Pulse c = rw c.in-Pulse.is (made-values _ _ _ _ c.map_each-in-Pulse.ensures (λ i l y m. search rules))

pub returns-in_default : goal.returns-in_default
returns-in_default c = made-values _ _ _ _ c.map_each-in_default.ensures (λ i l y m. search rules)
