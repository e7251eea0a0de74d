-- `score::first_index` meets its contract. Assumes nothing.
use Rattle.std.proofs.Common.{rules, tests, arith, ◌∙◌}
use Rattle.runs.proofs.First.{first_found}
use Rattle.score.proofs.first_index.Goals as goal

pub returns : goal.returns
returns c = c.unwrap_or.ensures ∙ first_found _ _ _ _ _ _ _ c.find.ensures.ran (λ x b q k. (search rules, search (rules, tests))) (omega arith) (omega arith)
