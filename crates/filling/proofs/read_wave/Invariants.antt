use mathlib.Core.Path.{◌≡◌}
use Rattle.floats.specs.Double.{◌⊗◌}
use Rattle.sine.specs.Whole.{whole_reading}
use Rattle.waveform.specs.Waveform.{inv_tau}
use Rattle.high_notes.proofs.Remaking.{MadeUpTo}
use Rattle.filling.proofs.read_wave.Given as goal

abbrev pub invariant-loop-x : goal.invariant-loop-x
invariant-loop-x l = MadeUpTo (λ x y. y ≡ whole_reading l.wave (x ⊗ inv_tau) ⊗ l.scale) l.initial.out l.out l.x-index
