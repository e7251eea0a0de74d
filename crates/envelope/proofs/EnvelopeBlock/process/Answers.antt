-- `envelope::EnvelopeBlock::process` meets its contract: Outcomes.antt has a law for each return. Assumes nothing.
use Rattle.std.proofs.Common.{sym, ◌∙◌}
use Rattle.envelope.proofs.Outcomes.{process-done, process-refused}
use Rattle.envelope.proofs.EnvelopeBlock.process.Goals as goal

pub returns-then-is_ok : goal.returns-then-is_ok
returns-then-is_ok c = let a = c.args in
    process-done a.self a.rate a.out.now _ _ _ _ _ c.judged-answer.ensures (sym c.is_ok.ensures.value ∙ c.if-is_ok.true) c.clamped.ensures c.sample_time.ensures c.fill-block.ensures

pub returns-else-is_ok : goal.returns-else-is_ok
returns-else-is_ok c = let a = c.args in process-refused a.self a.rate a.out.now _ c.judged-answer.ensures (sym c.is_ok.ensures.value ∙ c.if-is_ok.false)
