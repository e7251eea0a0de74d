-- `filling::raised` meets its contract. Assumes nothing.
use Rattle.sine.proofs.Sums.{raised_is}
use Rattle.filling.proofs.raised.Goals as goal

pub returns : goal.returns
returns c = rw c.one_if.ensures (raised_is c.args.p c.requires)
