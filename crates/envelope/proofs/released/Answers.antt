-- `envelope::released` meets its contract. Assumes nothing.
use Rattle.std.proofs.Common.{rules}
use Rattle.envelope.specs.Stages.{released_of}
use Rattle.envelope.proofs.released.Goals as goal

pub returns-then-matches : goal.returns-then-matches
unfolding released_of
returns-then-matches c = search rules

pub returns : goal.returns
unfolding released_of
returns c = search rules
