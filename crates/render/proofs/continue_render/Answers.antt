-- `render::continue_render` meets its contract. Assumes nothing.
use mathlib.Core.Path.{sym, ◌∙◌}
use Rattle.answers.proofs.Order.{done_none}
use Rattle.judging.proofs.Refusals.{passed-sorted}
use Rattle.render.proofs.Outcomes.{continue_refused, continue_goes}
use Rattle.render.proofs.continue_render.Goals as goal

pub continue_from-requires : goal.continue_from-requires
continue_from-requires c = passed-sorted _ _ _ (done_none _ _ _ (sym c.judged-answer.ensures ∙ c.in-Ok.is))

pub returns-in_default : goal.returns-in_default
returns-in_default c = rw c.in_default.is (continue_refused _ _ _ _ _ _ _ (sym (rw c.part_fits-stretch.ensures at c.judged-answer.ensures) ∙ c.in_default.is))

pub returns : goal.returns
returns c = c.continue_from.ensures ∙ continue_goes _ _ _ _ _ _ _ (sym (rw c.part_fits-stretch.ensures at c.judged-answer.ensures) ∙ c.in-Ok.is)
