-- `envelope::is_adsr` meets its contract. Assumes nothing.
use Rattle.std.proofs.Common.{rules}
use Rattle.envelope.specs.Limits.{is_adsr}
use Rattle.envelope.proofs.is_adsr.Goals as goal

pub returns : goal.returns
unfolding is_adsr
returns c = search rules
