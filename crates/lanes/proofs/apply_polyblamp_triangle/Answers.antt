-- `lanes::apply_polyblamp_triangle` meets its contract. Assumes nothing.
use Rattle.std.proofs.Common.{refl, rules}
use Rattle.floats.specs.Double.{eight}
use Rattle.polyblep.specs.Polyblep.{triangle_by}
use Rattle.lanes.specs.Lanes.{blamp_lane}
use Rattle.lanes.proofs.apply_polyblamp_triangle.Goals as goal

pub returns : goal.returns
returns c = rw (c.lanes_if.ensures, c.both-corrected.ensures (λ x p. triangle_by eight blamp_lane x p c.args.phase_inc) (λ x p r h. search rules), c.are_taken-ok.ensures) refl
