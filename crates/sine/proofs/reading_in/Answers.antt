-- `sine::reading_in` meets its contract. Assumes nothing.
use mathlib.Core.Path.{sym, ◌∙◌}
use Rattle.std.proofs.lemmas.Float.{T_from_true}
use Rattle.sine.proofs.Points.{reading-inside, reading-outside, points_in}
use Rattle.sine.proofs.reading_in.Goals as goal

pub place-i-requires : goal.place-i-requires
place-i-requires c = points_in c.args.u (T_from_true _ (sym c.is_within.ensures ∙ c.if-is_within.true))

pub returns-then-is_within : goal.returns-then-is_within
returns-then-is_within c = let a = c.args in c.between.ensures ∙ c.place-i.ensures.quarter a.wave.now ∙ sym (reading-inside a.wave.now a.u (sym c.is_within.ensures ∙ c.if-is_within.true))

pub returns : goal.returns
returns c = sym (reading-outside c.args.wave.now c.args.u (sym c.is_within.ensures ∙ c.if-is_within.false))
