-- `blocks::run` meets its contract: a law of Outcomes.antt for each way. Assumes nothing.
use Rattle.std.proofs.Common.{sym, ◌∙◌}
use Rattle.blocks.proofs.Outcomes.{run-done, run-refused}
use Rattle.blocks.proofs.run.Goals as goal

pub returns-then-is_ok : goal.returns-then-is_ok
returns-then-is_ok c = let a = c.args in
    run-done a.tone a.highest a.rate a.out.now _ c.judged-answer.ensures c.increment-step.result c.fill-last.result _ c.fill-last.new.out (sym c.is_ok.ensures.value ∙ c.if-is_ok.true) c.increment-step.ensures c.fill-last.ensures c.reduced-phase.ensures

pub returns-else-is_ok : goal.returns-else-is_ok
returns-else-is_ok c = let a = c.args in run-refused a.tone a.highest a.rate a.out.now _ c.judged-answer.ensures (sym c.is_ok.ensures.value ∙ c.if-is_ok.false)
