-- `low_notes::Tone::fill_by_fours` meets its contract. The loop's invariant is `SegmentFilled` of
-- proofs/SegmentLoops.antt. Assumes nothing.
use mathlib.Core.Path.{sym, ◌∙◌}
use native.Mathlib.Omega.{arith}
use lib.Ieee.{binary64}
use lib.Ieee.Fits.{add-fits}
use Rattle.floats.specs.Double.{◌⊕◌}
use Rattle.polyblep.proofs.Clear.{both_true}
use Rattle.low_notes.proofs.Segments.{next-inside}
use Rattle.low_notes.proofs.SegmentLoops.{filled-four}
use Rattle.low_notes.proofs.Tone.fill_by_fours.Goals as goal

pub loop-at-preserved : goal.loop-at-preserved
loop-at-preserved c = let s = c.args.segment in let step = c.args.self.step.0 in let q = c.loop-at.at.phase.0 in let (lies, below) = both_true c.holds.result _ c.if-not-holds-lie_below.false in
    let (first_two, fourth) = both_true _ _ below in
    let (second, third) = both_true _ _ first_two in
    let t₀ = sym c.holds.ensures ∙ lies in
    let t₁ = next-inside s step q c.requires c.loop-at.invariant.2 t₀ second in
    let t₂ = next-inside s step (q ⊕ step) c.requires (add-fits binary64 q step) t₁ third in
    let t₃ = next-inside s step (q ⊕ step ⊕ step) c.requires (add-fits binary64 (q ⊕ step) step) t₂ fourth in
    filled-four s step _ _ _ _ _ q _ _ _ _ _ c.loop-at.invariant (omega arith) t₀ t₁ t₂ t₃ c.value_at.ensures c.value_at-in-loop-at.ensures c.value_at-in-loop-at-2.ensures c.value_at-in-loop-at-3.ensures
