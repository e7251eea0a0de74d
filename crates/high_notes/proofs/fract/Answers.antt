-- `high_notes::fract` meets its contract. Assumes nothing.
use mathlib.Core.Path.{refl}
use Rattle.high_notes.proofs.Remaking.{fract-is}
use Rattle.high_notes.proofs.fract.Goals as goal

pub returns : goal.returns
returns c = rw (c.select.ensures, fract-is c.args.x c.requires) refl
