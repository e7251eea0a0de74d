-- The tremolo's factor 1 - depth/2 + lfo/2, which nothing clamps: for a depth from 0 to 1 and an lfo of at most 512 in
-- size it is at most 512 in size, so that a sample times it is finite. Assumes nothing.
use lib.Dec.{T}
use lib.Ieee.{Float, binary64, of_bits, add, mul, div, le}
use lib.Ieee.Scale.{finite}
use Rattle.floats.specs.Range.{within}
use Rattle.floats.specs.Double.{◌⊗◌, ◌⊘◌, zero64, one, two}
use Rattle.floats.proofs.Bounded.{Size, size-finite, size-mul, size_own, size-over}
use Rattle.floats.proofs.Expression.{leaf, ◌⊹◌, ◌⊸◌, size_below}
use Rattle.waveform.proofs.Values.{ceiling, unit_size}
use Rattle.tremolo.specs.Tremolo.{factor_of}

-- at the largest sizes: 1 + 1/2 + 256
pub factor-size : (depth lfo : Float) → T (within zero64 one depth) → Size ceiling lfo → Size ceiling (factor_of depth lfo)
factor-size depth lfo d s =
    size_below binary64 (leaf one one ⊸ leaf (one ⊘ two) (depth ⊘ two) ⊹ leaf (ceiling ⊘ two) (lfo ⊘ two)) ceiling
    ((size_own one (unfold of_bits in tt), halved one depth (unit_size depth d) (unfold of_bits in unfold div in tt)), halved ceiling lfo s (unfold of_bits in unfold div in tt))
    (unfold of_bits in unfold div in unfold add in unfold le in tt)
  where
    halved : (a x : Float) → Size a x → T (finite (a ⊘ two)) → Size (a ⊘ two) (x ⊘ two)
    halved a x r h = size-over binary64 a x two (unfold of_bits in tt) r h

-- the product of two numbers of at most 512 in size is finite
pub product_finite : (x y : Float) → Size ceiling x → Size ceiling y → T (finite (x ⊗ y))
product_finite x y s t = size-finite (ceiling ⊗ ceiling) (x ⊗ y) (size-mul binary64 ceiling x ceiling y s t (unfold of_bits in unfold mul in tt))
