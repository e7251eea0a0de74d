-- `envelope::step` meets its contract: `next_in` before the end of a stage, else `ended_in`. Assumes nothing.
use Rattle.std.proofs.Common.{refl, sym, ◌∙◌}
use Rattle.envelope.proofs.Scaling.{runs, ends}
use Rattle.envelope.proofs.step.Goals as goal

pub returns-then-ends_at : goal.returns-then-ends_at
returns-then-ends_at c = let a = c.args in c.ended_in.ensures ∙ ends a.adsr a.sample_time a.e a.e.stage c.next_in-next.result refl c.next_in-next.ensures (sym c.ends_at.ensures ∙ c.if-ends_at.true)

pub returns-else-ends_at : goal.returns-else-ends_at
returns-else-ends_at c = let a = c.args in runs a.adsr a.sample_time a.e a.e.stage c.next_in-next.result refl c.next_in-next.ensures (sym c.ends_at.ensures ∙ c.if-ends_at.false)
