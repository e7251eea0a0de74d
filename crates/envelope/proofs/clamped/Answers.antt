-- `envelope::clamped` meets its contract. Assumes nothing.
use Rattle.std.proofs.Common.{rules}
use Rattle.envelope.specs.Limits.{clamped_of}
use Rattle.envelope.proofs.clamped.Goals as goal

pub returns : goal.returns
unfolding clamped_of
returns c = search rules
