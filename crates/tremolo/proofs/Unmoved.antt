-- A step that is too small to change a phase never changes it, and equal bits are equal floats. Assumes nothing.
use mathlib.Core.Path.{◌≡◌, refl, sym, ap, ◌∙◌}
use Prim.Native.Nat.{ℕ, zero, suc}
use lib.Dec.{T}
use lib.Ieee.{Float, binary64, of_bits, to_bits, fits}
use lib.Ieee.Bits.{of_bits-to_bits}
use Rattle.runs.specs.Runs.{run}
use Rattle.floats.specs.Double.{◌⊕◌}
use Rattle.waveform.specs.Filled.{phase_from}

pub same_bits : (x y : Float) → T (fits binary64 x) → T (fits binary64 y) → to_bits binary64 x ≡ to_bits binary64 y → x ≡ y
same_bits x y f g e = sym (of_bits-to_bits binary64 x f) ∙ ap (of_bits binary64) e ∙ of_bits-to_bits binary64 y g

pub unmoved : (step p : Float) → p ⊕ step ≡ p → (k : ℕ) → phase_from step p k ≡ p
unfolding phase_from run
unmoved step p e zero = refl
unmoved step p e (suc k) = rw (unmoved step p e k) e
