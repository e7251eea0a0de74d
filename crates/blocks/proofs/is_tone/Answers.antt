-- `blocks::is_tone` meets its contract. Assumes nothing.
use Rattle.std.proofs.Common.{rules}
use Rattle.blocks.specs.Block.{is_tone}
use Rattle.blocks.proofs.is_tone.Goals as goal

pub returns : goal.returns
unfolding is_tone
returns c = search rules
