-- `words::u64_at` meets its contract. Assumes nothing.
use mathlib.Core.Path.{◌∙◌}
use Rattle.words.proofs.Sums.{eight_are, word-short, word-there}
use Rattle.words.proofs.u64_at.Goals as goal

pub returns-in-Some : goal.returns-in-Some
returns-in-Some c = let h = c.in-Some.ensures in let a = c.args in c.from_le_bytes.ensures ∙ rw h.1 (eight_are a.bytes.now a.at) ∙ word-there 8 a.bytes.now a.at h.0

pub returns-in-None : goal.returns-in-None
returns-in-None c = word-short 8 c.args.bytes.now c.args.at c.in-None.ensures
