-- `high_notes::fill_remainders` meets its contract. Assumes nothing.
use borrow.Author.Rules.{rules}
use mathlib.Core.Path.{sym, ap, ◌∙◌}
use Rattle.waveform.specs.declared.Radians.{Radians}
use Rattle.high_notes.proofs.Remaking.{remainders_are}
use Rattle.high_notes.proofs.Wraps.{rising-below}
use Rattle.high_notes.proofs.fill_remainders.Goals as goal

pub wrap_phases-requires : goal.wrap_phases-requires
wrap_phases-requires c = λ bound finite below.
    rising-below _ _ (search rules) (sym c.is_rising.ensures ∙ c.if-is_rising.true) _ _ bound finite c.fill_phases-end.ensures.0 (rw (ap (λ (p : Radians). p.0) c.fill_phases-end.ensures.1) at below)

pub returns-then-is_rising : goal.returns-then-is_rising
returns-then-is_rising c = (remainders_are _ _ _ _ _ c.fill_phases-end.ensures.0 c.wrap_phases.ensures, c.fill_phases-end.ensures.1)

pub returns : goal.returns
returns c = (remainders_are _ _ _ _ _ c.fill_phases-end.ensures.0 c.wrap_one_by_one.ensures, c.fill_phases-end.ensures.1)
