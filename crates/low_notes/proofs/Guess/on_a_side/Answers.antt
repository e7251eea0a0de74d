-- `low_notes::Guess::on_a_side` meets its contract. Assumes nothing.
use Rattle.low_notes.proofs.Segments.{before_edge, behind_edge}
use Rattle.low_notes.proofs.Guess.on_a_side.Goals as goal

pub returns-then-self-edge : goal.returns-then-self-edge
returns-then-self-edge c = λ dt value guessed finite two. rw c.on.ensures (before_edge c.args.self dt _ value _ _ guessed two finite c.if-self-edge.true)

pub returns-then-edge-self : goal.returns-then-edge-self
returns-then-edge-self c = λ dt value guessed finite two. rw c.on-then-edge-self.ensures (behind_edge c.args.self dt _ value _ _ guessed two c.if-edge-self.true)
