use mathlib.Core.Path.{◌≡◌}
use Rattle.waveform.specs.Filled.{phase_from}
use Rattle.tremolo.proofs.advance.Given as goal

abbrev pub invariant-loop : goal.invariant-loop
invariant-loop l = l.angle ≡ phase_from l.step.0 l.initial.angle l.counter
