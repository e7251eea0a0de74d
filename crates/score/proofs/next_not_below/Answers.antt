-- `score::next_not_below` meets its contract. Assumes nothing.
use Rattle.std.proofs.Common.{rules, tests, arith, ◌∙◌}
use Rattle.runs.proofs.First.{first_found}
use Rattle.score.specs.Record.{position_at}
use Rattle.score.specs.Below.{next_not_below}
use Rattle.score.proofs.next_not_below.Goals as goal

pub returns : goal.returns
unfolding next_not_below position_at
returns c = c.unwrap_or.ensures ∙ first_found _ _ _ _ _ _ _ c.find.ensures.ran (λ x b q k. (search rules, search (rules, tests))) (omega arith) (omega arith)
