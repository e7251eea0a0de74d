-- `envelope::is_envelope` meets its contract. Assumes nothing.
use Rattle.std.proofs.Common.{rules}
use Rattle.envelope.specs.Limits.{is_envelope}
use Rattle.envelope.proofs.is_envelope.Goals as goal

pub returns : goal.returns
unfolding is_envelope
returns c = search rules
