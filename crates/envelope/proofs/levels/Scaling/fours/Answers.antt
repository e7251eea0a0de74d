-- `envelope::levels::Scaling::fours` meets its contract. The loop's invariant is that of `singly`. Assumes nothing.
use Rattle.std.proofs.Common.{sym, ap, ◌∙◌, arith}
use Rattle.std.proofs.lemmas.Bool.{or_parts}
use Rattle.envelope.specs.declared.Envelope.{Envelope}
use Rattle.envelope.specs.declared.EnvelopeStage.{EnvelopeStage}
use Rattle.envelope.proofs.Scaling.{reached-four, runs}
use Rattle.envelope.proofs.levels.Scaling.fours.Goals as goal

abbrev stays : Envelope → EnvelopeStage
stays e = e.stage

pub loop-part-preserved : goal.loop-part-preserved
loop-part-preserved c =
    let s = c.args.self in
    let stage = c.args.at.envelope.stage in
    let (soon, late) = or_parts _ _ c.if-soon-late.false in
    let (o₁, o₂) = or_parts _ _ soon in
    let (o₃, o₄) = or_parts _ _ late in
    let d₁ = c.next_in-first in
    let d₂ = c.next_in-second in
    let d₃ = c.next_in-third in
    let d₄ = c.next_in-fourth in
    let q₁ = runs s.adsr s.sample_time c.loop-part.envelope stage d₁.result c.loop-part.invariant.stays d₁.ensures (sym c.ends_at.ensures ∙ o₁) in
    let q₂ = runs s.adsr s.sample_time d₁.result stage d₂.result (ap stays d₁.ensures) d₂.ensures (sym c.ends_at-in-loop-part.ensures ∙ o₂) in
    let q₃ = runs s.adsr s.sample_time d₂.result stage d₃.result (ap stays d₂.ensures) d₃.ensures (sym c.ends_at-in-loop-part-2.ensures ∙ o₃) in
    let q₄ = runs s.adsr s.sample_time d₃.result stage d₄.result (ap stays d₃.ensures) d₄.ensures (sym c.ends_at-in-loop-part-3.ensures ∙ o₄) in
    record {
      on = omega arith;
      within = omega arith;
      stays = ap stays d₄.ensures;
      scales = λ e xs b. reached-four s.adsr s.sample_time e s.velocity xs c.loop-part.part _ _ c.loop-part.envelope d₁.result d₂.result d₃.result d₄.result c.loop-part.i (omega arith) q₁ q₂ q₃ q₄ c.scale_two.ensures c.scale_two-in-loop-part.ensures (c.loop-part.invariant.scales e xs b);
    }
