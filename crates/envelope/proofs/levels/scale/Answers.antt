-- `envelope::levels::scale` meets its contract. The loop's invariant: the values up to i are scaled. Assumes nothing.
use Rattle.std.proofs.Common.{◌≡◌, false, refl, arith, ⊎_elim}
use Rattle.envelope.specs.Stages.{is_moving}
use Rattle.envelope.proofs.Scaling.{reached-none, reached_more, scaled_all, held_all}
use Rattle.envelope.proofs.levels.scale.Goals as goal
use Rattle.envelope.proofs.levels.scale.Goals.{in-Idle, in_default}

pub loop-i-init : goal.loop-i-init
loop-i-init c = reached-none _ _ _ _ _

pub returns-then-matches : goal.returns-then-matches
returns-then-matches c =
    let a = c.args in
    let still : is_moving c.loop-i.envelope.stage ≡ false = elim c.match-matches.branch [ in-Idle w ↦ ⊎_elim (λ e. rw e refl) (λ e. rw e refl) w.in-Idle.is | in_default w ↦ absurd (cc (w.matches-is, c.if-matches.true)) ] in
    held_all a.adsr a.sample_time a.start a.velocity a.part.now c.loop-i.part c.loop-i.envelope c.step-held.result c.loop-i.i c.scale_all.new.values still c.loop-i-test.true c.loop-i.invariant c.step-held.ensures c.scale_all.ensures

pub loop-i-preserved : goal.loop-i-preserved
loop-i-preserved c = let a = c.args in let r = c.stage-reach in
    reached_more a.adsr a.sample_time a.start a.velocity a.part.now _ r.result.envelope _ _ r.result.count c.if-part-i.false c.step-envelope.ensures refl (r.ensures.2 a.start a.part.now c.loop-i.invariant)

pub returns : goal.returns
returns c = let a = c.args in scaled_all a.adsr a.sample_time a.start a.velocity a.part.now c.loop-i.part _ c.loop-i.i (omega arith) c.loop-i.invariant
