-- `voice::keys::held_count` meets its contract: the list of the held pairs is no longer than the arrays. Assumes
-- nothing.
use Rattle.std.proofs.Common.{rules, ◌∙◌, sym}
use Rattle.voice.proofs.Held.{first-count}
use Rattle.voice.proofs.keys.held_count.Goals as goal

pub returns : goal.returns
returns c = let k = c.args.keys in c.min.ensures ∙ sym (first-count k.notes k.velocities (search rules) (search rules) k.count)
