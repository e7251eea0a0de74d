-- `lanes::blamp_lane` meets its contract. Assumes nothing.
use Rattle.std.proofs.Common.{refl}
use Rattle.polyblep.specs.Polyblep.{blamp_after, blamp_before}
use Rattle.lanes.specs.Lanes.{blamp_lane}
use Rattle.lanes.proofs.Rules.{chosen_is}
use Rattle.lanes.proofs.blamp_lane.Goals as goal

pub returns : goal.returns
unfolding blamp_lane
returns c = rw (c.chosen.ensures, c.knee_before.ensures, c.knee_after.ensures, c.distance-x.ensures, chosen_is (blamp_after c.args.dt) (blamp_before c.args.dt) c.args.t c.args.dt) refl
