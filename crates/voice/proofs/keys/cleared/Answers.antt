-- `voice::keys::cleared` meets its contract: both arrays are cleared after the held pairs. Assumes nothing.
use Rattle.std.proofs.Common.{rules}
use Rattle.voice.proofs.Held.{first-held}
use Rattle.voice.proofs.keys.cleared.Goals as goal

pub returns : goal.returns
returns c = let k = c.args.keys in
    rw (c.clear.ensures, c.clear-2.ensures) (first-held k.notes k.velocities (search rules) (search rules) k.active k.gate k.count c.requires)
