-- `high_notes::triangle_apart` meets its contract. Assumes nothing.
use mathlib.Core.Path.{◌∙◌}
use lib.Ieee.{Float}
use Rattle.floats.specs.Double.{◌⊗◌, eight}
use Rattle.polyblep.specs.Polyblep.{triangle_of, blamp_of}
use Rattle.high_notes.proofs.Edges.{corner_apart, no_blamp}
use Rattle.high_notes.proofs.triangle_apart.Goals as goal

pub from_nearer_corner-requires : goal.from_nearer_corner-requires
from_nearer_corner-requires c = c.requires.0

pub returns : goal.returns
unfolding triangle_of
returns c = let u = c.args.u in let dt = c.args.dt in c.with_nearer_corner.ensures
    ∙ rw (c.blamp.ensures, c.from_nearer_corner.ensures) (corner_apart (λ (t : Float). eight ⊗ blamp_of t dt) u dt c.requires.0 c.requires.1 (λ (t : Float). no_blamp t dt))
