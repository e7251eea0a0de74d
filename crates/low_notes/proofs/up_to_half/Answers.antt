-- `low_notes::up_to_half` meets its contract. Assumes nothing.
use borrow.Author.Rules.{rules}
use lib.Ieee.{of_bits}
use Rattle.polyblep.proofs.Clear.{half_away}
use Rattle.low_notes.proofs.up_to_half.Goals as goal

pub returns : goal.returns
returns c = λ value two.
    c.on_a_side.ensures c.args.dt value c.in_ok-guess.ensures (unfold of_bits in tt)
    (λ t l. let (away, other) = half_away t _ _ _ l (c.is_clear_of_edge.ensures (search rules)) in two t away other)
