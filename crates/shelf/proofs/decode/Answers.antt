-- `shelf::decode` meets its contract. Assumes nothing.
use mathlib.Core.Path.{refl}
use Rattle.shelf.specs.Shelf.{is_entry}
use Rattle.shelf.proofs.decode.Goals as goal

pub returns : goal.returns
unfolding is_entry
returns c = rw (c.then_some.ensures, c.is_state.ensures, c.word.ensures, c.state_of-state.ensures) refl
