-- `sine::whole_reading` meets its contract. Assumes nothing.
use mathlib.Core.Path.{sym, ◌∙◌}
use Rattle.std.proofs.lemmas.Float.{T_from_true}
use Rattle.sine.proofs.Points.{points_in}
use Rattle.sine.proofs.Whole.{whole-inside, whole-outside, whole-other}
use Rattle.sine.proofs.whole_reading.Goals as goal

pub returns-then-wave-ne4097 : goal.returns-then-wave-ne4097
returns-then-wave-ne4097 c = let a = c.args in sym (whole-other a.wave.now a.u c.if-wave-ne4097.true)

pub place-i-requires : goal.place-i-requires
place-i-requires c = points_in c.args.u (T_from_true _ (sym c.is_within.ensures ∙ c.if-is_within.true))

pub returns-then-is_within : goal.returns-then-is_within
returns-then-is_within c = let a = c.args in c.line.ensures ∙ c.place-i.ensures.whole a.wave.now ∙ sym (whole-inside a.wave.now a.u c.if-wave-ne4097.false (sym c.is_within.ensures ∙ c.if-is_within.true))

pub returns : goal.returns
returns c = let a = c.args in sym (whole-outside a.wave.now a.u (sym c.is_within.ensures ∙ c.if-is_within.false))
