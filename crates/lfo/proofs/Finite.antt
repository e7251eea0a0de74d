-- A block call that is done: every sample is finite, and the phase after the call is at least 0 and below TAU.
-- Assumes nothing.
use Rattle.std.specs.Prelude.{Ok}
use mathlib.Core.Path.{◌≡◌}
use mathlib.Core.List.{List}
use Prim.Native.Nat.{ℕ}
use lib.Dec.{T}
use lib.Ieee.{Float, binary64, of_bits, le, fits}
use Rattle.domain.specs.Domain.{highest_lfo}
use Rattle.blocks.proofs.Sound.{Sound, run_sound}
use Rattle.lfo.specs.Lfo.{tone_of, process_of}
use Rattle.lfo.specs.declared.LfoBlock.{LfoBlock}

pub process_sound : (b : LfoBlock) (rate : ℕ) (xs : List Float) → T (fits binary64 b.phase.0) → (n : ℕ) → (process_of b rate xs).result.answer ≡ Ok n →
    Sound (process_of b rate xs).lent (process_of b rate xs).result.block.phase
process_sound b rate xs w n e = run_sound (tone_of b) highest_lfo rate xs w (unfold of_bits in unfold le in tt) n e
