-- `render::render` meets its contract. Assumes nothing.
use mathlib.Core.Path.{sym, ap, ◌∙◌}
use Rattle.sections.specs.Lending.{left_in}
use Rattle.sections.proofs.Lending.{left-held, left-on}
use Rattle.render.proofs.Outcomes.{render-refused, render-done}
use Rattle.render.proofs.render.Goals as goal

pub returns-in_default : goal.returns-in_default
returns-in_default c = rw (c.in_default.is, c.fresh-state.ensures) (ap (left_in c.args.lent.now) (render-refused _ _ _ _ (sym (rw c.fits-room.ensures at c.judged-answer.ensures) ∙ c.in_default.is)))

pub returns : goal.returns
returns c = let e = rw c.fresh-state.ensures at c.play_on-end.ensures in
    left-on c.args.lent.now _ _ _ _ _ _ e (render-done _ _ _ _ (sym (rw c.fits-room.ensures at c.judged-answer.ensures) ∙ c.in-Ok.is) _ _ (left-held _ _ _ e))
