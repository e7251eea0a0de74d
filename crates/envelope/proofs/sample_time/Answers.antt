-- `envelope::sample_time` meets its contract. Assumes nothing.
use Rattle.std.proofs.Common.{rules}
use Rattle.envelope.specs.Limits.{sample_time_of}
use Rattle.envelope.proofs.sample_time.Goals as goal

pub returns : goal.returns
unfolding sample_time_of
returns c = search rules
