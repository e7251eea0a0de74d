-- `tremolo::advance` meets its contract. The loop's invariant: the angle is the phase after as many samples as turns.
-- Assumes nothing.
use borrow.Author.Rules.{rules}
use mathlib.Core.Path.{refl, sym, ap, ◌∙◌}
use lib.Ieee.{binary64}
use lib.Ieee.Fits.{add-fits}
use Rattle.runs.specs.Runs.{run}
use Rattle.waveform.specs.Waveform.{radians}
use Rattle.waveform.specs.Filled.{phase_from}
use Rattle.waveform.proofs.Steps.{phase_more}
use Rattle.tremolo.proofs.Unmoved.{same_bits, unmoved}
use Rattle.tremolo.proofs.advance.Goals as goal

pub returns-then-f64_bits : goal.returns-then-f64_bits
returns-then-f64_bits c = let a = c.args in let e = same_bits _ a.phase.0 (add-fits binary64 a.phase.0 a.step.0) (search rules) (sym c.f64_bits.ensures ∙ c.if-f64_bits.true ∙ c.f64_bits-2.ensures) in
    ap radians (sym (unmoved a.step.0 a.phase.0 e a.samples))

pub loop-init : goal.loop-init
unfolding phase_from run
loop-init c = refl

pub loop-preserved : goal.loop-preserved
loop-preserved c = rw (phase_more c.args.step.0 c.args.phase.0 c.loop.counter, c.loop.invariant) refl
