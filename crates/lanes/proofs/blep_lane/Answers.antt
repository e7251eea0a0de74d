-- `lanes::blep_lane` meets its contract. Assumes nothing.
use Rattle.std.proofs.Common.{refl}
use Rattle.polyblep.specs.Polyblep.{blep_after, blep_before}
use Rattle.lanes.specs.Lanes.{blep_lane}
use Rattle.lanes.proofs.Rules.{chosen_is}
use Rattle.lanes.proofs.blep_lane.Goals as goal

pub returns : goal.returns
unfolding blep_lane
returns c = rw (c.chosen.ensures, c.distance-x.ensures, chosen_is blep_after blep_before c.args.t c.args.dt) refl
