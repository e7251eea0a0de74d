-- `lanes::apply_polyblep_square` meets its contract. Assumes nothing.
use Rattle.std.proofs.Common.{refl, rules}
use Rattle.polyblep.specs.Polyblep.{square_by}
use Rattle.lanes.specs.Lanes.{blep_lane}
use Rattle.lanes.proofs.apply_polyblep_square.Goals as goal

pub returns : goal.returns
returns c = rw (c.lanes_if.ensures, c.both-corrected.ensures (λ x p. square_by blep_lane x p c.args.phase_inc) (λ x p r h. search rules), c.are_taken-ok.ensures) refl
