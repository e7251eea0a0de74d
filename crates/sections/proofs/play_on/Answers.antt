-- `sections::play_on` meets its contract. Assumes nothing.
use mathlib.Core.Path.{sym, ap, ◌∙◌}
use Rattle.sections.specs.Lending.{left_in}
use Rattle.sections.proofs.Turns.{unfit, past_the_end, fit}
use Rattle.sections.proofs.play_on.Goals as goal

pub returns-then-not-fits : goal.returns-then-not-fits
returns-then-not-fits c = ap (left_in c.args.lent.now) (unfit _ _ _ _ _ _ (sym c.fits.ensures ∙ c.if-not-fits.true))

pub returns-then-entries-section : goal.returns-then-entries-section
returns-then-entries-section c = ap (left_in c.args.lent.now) (past_the_end _ _ _ _ _ _ (sym c.fits.ensures ∙ c.if-not-fits.false) (rw c.entries.ensures at c.if-entries-section.true))

pub returns : goal.returns
returns c = c.play_sections.ensures ∙ ap (left_in c.args.lent.now) (fit _ _ _ _ _ _ (sym c.fits.ensures ∙ c.if-not-fits.false))
