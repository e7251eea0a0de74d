-- `high_notes::fill` meets its contract. Assumes nothing.
use borrow.Author.Rules.{rules}
use mathlib.Core.Path.{ap}
use Rattle.waveform.specs.declared.Radians.{Radians}
use Rattle.high_notes.proofs.Remaking.{combined}
use Rattle.high_notes.proofs.Wraps.{rising-below, rising_fractions}
use Rattle.high_notes.proofs.fill.Goals as goal

pub returns-then-not-is_rising : goal.returns-then-not-is_rising
returns-then-not-is_rising c = c.fill.ensures

pub wrap_phases-requires : goal.wrap_phases-requires
wrap_phases-requires c = λ bound finite below.
    rising-below _ _ (search rules) (search rules) _ _ bound finite c.fill_phases-end.ensures.0 (rw (ap (λ (p : Radians). p.0) c.fill_phases-end.ensures.1) at below)

pub fill_values-requires : goal.fill_values-requires
fill_values-requires c = rising_fractions _ _ (search rules) (search rules) _ _ _ c.fill_phases-end.ensures.0 c.wrap_phases.ensures

pub returns : goal.returns
returns c = let a = c.args in combined a.step.0 a.start.0 a.waveform c.in_cycles-dt.result a.scale _ _ _ _ _ c.in_cycles-dt.ensures c.fill_phases-end.ensures c.wrap_phases.ensures c.fill_values.ensures
