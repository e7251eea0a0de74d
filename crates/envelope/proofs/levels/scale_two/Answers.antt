-- `envelope::levels::scale_two` meets its contract. Assumes nothing.
use Rattle.std.proofs.Common.{rules}
use Rattle.envelope.specs.Inner.{scaled_two}
use Rattle.envelope.proofs.levels.scale_two.Goals as goal

pub returns : goal.returns
unfolding scaled_two
returns c = search rules
