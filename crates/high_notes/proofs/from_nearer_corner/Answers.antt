-- `high_notes::from_nearer_corner` meets its contract. Assumes nothing.
use mathlib.Core.Path.{refl, ◌∙◌}
use Rattle.high_notes.proofs.Remaking.{half-low}
use Rattle.high_notes.proofs.from_nearer_corner.Goals as goal

pub fract-requires : goal.fract-requires
fract-requires c = half-low c.args.u c.requires

pub returns : goal.returns
returns c = c.select.ensures ∙ rw (c.fract.ensures, c.is_second.ensures) refl
