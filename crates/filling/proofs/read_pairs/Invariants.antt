use mathlib.Core.Path.{◌≡◌}
use Prim.Native.Nat.{◌*◌}
use Rattle.floats.specs.Double.{◌⊗◌}
use Rattle.sine.specs.Whole.{whole_reading}
use Rattle.waveform.specs.Waveform.{inv_tau}
use Rattle.high_notes.proofs.Remaking.{MadeUpTo}
use Rattle.filling.proofs.read_pairs.Given as goal

abbrev pub invariant-loop-pair : goal.invariant-loop-pair
invariant-loop-pair l = MadeUpTo (λ x y. y ≡ whole_reading l.wave (x ⊗ inv_tau) ⊗ l.scale) l.initial.out l.out (l.pair * 2)
