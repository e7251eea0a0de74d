-- `envelope::levels::Scaling::singly` meets its contract. The loop's invariant: the values before i are scaled, and the
-- envelope is still in the stage in which the run began. Assumes nothing.
use Rattle.std.proofs.Common.{refl, sym, ap, ◌∙◌, arith}
use Rattle.envelope.specs.declared.Envelope.{Envelope}
use Rattle.envelope.proofs.Scaling.{reached_more, runs}
use Rattle.envelope.proofs.levels.Scaling.singly.Goals as goal

pub loop-i-preserved : goal.loop-i-preserved
loop-i-preserved c =
    let s = c.args.self in
    let step = runs s.adsr s.sample_time c.loop-i.envelope c.args.at.envelope.stage c.next_in-next.result c.loop-i.invariant.0 c.next_in-next.ensures (sym c.ends_at.ensures ∙ c.if-ends_at.false) in (
      ap (λ (x : Envelope). x.stage) c.next_in-next.ensures,
      λ e xs b. reached_more s.adsr s.sample_time e s.velocity xs c.loop-i.part c.loop-i.envelope _ _ c.loop-i.i (omega arith) step refl (c.loop-i.invariant.1 e xs b),
    )
