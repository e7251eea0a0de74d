-- `low_notes::guess_from` meets its contract. Assumes nothing.
use borrow.Author.Rules.{rules}
use lib.Ieee.{lt}
use Rattle.waveform.specs.Waveform.{tau}
use Rattle.low_notes.proofs.Segments.{guessed}
use Rattle.low_notes.proofs.guess_from.Goals as goal

pub returns : goal.returns
returns c = guessed (lt c.args.phase.0 tau) _ _ _ _ _ _ c.base_of-base.ensures c.fraction_of-fraction.ensures c.fraction_of-end_fraction.ensures (search rules) (search rules) (search rules)
