-- The oscillator is a run at depth 1: x * 1 is x, so its samples are the values of the waveform. So the laws of a run
-- that is done hold for it. Assumes nothing.
use Rattle.std.specs.Prelude.{Ok}
use mathlib.Core.Path.{◌≡◌, refl}
use mathlib.Core.Bool.{true}
use mathlib.Core.List.{List}
use Prim.Native.Nat.{ℕ}
use lib.Dec.{T}
use lib.ListN.{length}
use lib.Ieee.{Float, binary64, of_bits, le, fits}
use Rattle.runs.proofs.Listed.{listed_same}
use Rattle.floats.specs.Double.{◌⊗◌, one}
use Rattle.floats.proofs.Literals.{one_of-is}
use Rattle.floats.proofs.OneWay.{times_one}
use Rattle.domain.specs.Domain.{highest_tone, is_depth}
use Rattle.waveform.specs.declared.Waveform.{Waveform}
use Rattle.waveform.specs.Waveform.{inv_tau, normal_of, increment_of}
use Rattle.waveform.specs.Filled.{phase_from, value_at, samples_by, samples_from}
use Rattle.waveform.proofs.Values.{value-fits}
use Rattle.blocks.specs.Block.{is_tone, run_of}
use Rattle.blocks.specs.declared.Tone.{Tone}
use Rattle.blocks.proofs.Sound.{Sound, run_sound}
use Rattle.oscillator.specs.Oscillator.{played_of, values_from, ran_of, process_of}
use Rattle.oscillator.specs.declared.OscillatorBlock.{OscillatorBlock}

-- x * 1 is x
one_times : (x : Float) → T (fits binary64 x) → x ⊗ one ≡ x
one_times x w = rw (one_of-is binary64) (times_one binary64 x w)

pub samples-are_values : (w : Waveform) (step p : Float) (k : ℕ) → samples_from w step one p k ≡ values_from w step p k
unfolding samples_by values_from
samples-are_values w step p k = listed_same _ _ k (λ i l. one_times (value_at w step (phase_from step p i)) (value-fits w (normal_of (phase_from step p i)) (step ⊗ inv_tau)))

-- the block as a tone of depth 1
abbrev pub tone_of : OscillatorBlock → Tone
tone_of b = record { frequency = played_of b; depth = one; phase = b.phase; waveform = b.waveform }

one_in : is_depth one ≡ true
one_in = unfold of_bits in unfold le in refl

pub run_is : (b : OscillatorBlock) (rate : ℕ) (xs : List Float) → run_of (tone_of b) highest_tone rate xs ≡ ran_of b rate xs
unfolding run_of is_tone ran_of
run_is b rate xs = rw (one_in, samples-are_values b.waveform (increment_of (played_of b) rate) b.phase.0 (length xs)) refl

-- a call that is done: every sample is finite, and the phase after the call is at least 0 and below TAU
pub process_sound : (b : OscillatorBlock) (rate : ℕ) (xs : List Float) → T (fits binary64 b.phase.0) → (n : ℕ) → (process_of b rate xs).result.answer ≡ Ok n →
    Sound (process_of b rate xs).lent (process_of b rate xs).result.block.phase
process_sound b rate xs w n e =
    rw (← run_is b rate xs) (run_sound (tone_of b) highest_tone rate xs w (unfold of_bits in unfold le in tt) n (rw (run_is b rate xs) e))
