-- The tremolo, as two claims.
-- 02, R-7: "The sample is multiplied last by (1 - depth/2 + lfo/2), where lfo is the ported block's scaled value. Its
-- phase is reduced at the same moments as the oscillator's".
-- Take k samples from sample n on, of which none but the first has its phases reduced. The LFO's values are then what
-- one call of the ported block writes over any k numbers, with the settings' LFO and the phase that the LFO has at
-- sample n; each sample is the one without tremolo, times the factor of its value; and the LFO's phase after the k
-- samples, once it is reduced, is the block's: the block reduces it at its end, a render at the next multiple of 64 or
-- at the next record.
-- 02, R-7: "With depth 0 the samples equal the old ones as numbers". Here to the bit, for 0 and -0: a render under
-- depth 0 has the samples without tremolo, and they are the same under any two LFOs of depth 0.
-- The arguments are in proofs/Tremolo.antt. Definitions only.
use Rattle.std.specs.Prelude.{◌≡◌, true, false, List, ℕ, ◌+◌, ◌<◌, T, length, get_or, Float, Ok}
use Rattle.std.specs.Float.{nan, binary64}
use Rattle.std.specs.Float.Ieee.{fits}
use Rattle.runs.specs.Runs.{listed}
use Rattle.floats.specs.Range.{within}
use Rattle.floats.specs.Double.{◌⊗◌, zero64}
use Rattle.answers.specs.Outcome.{Outcome}
use Rattle.domain.specs.Domain.{is_radians}
use Rattle.waveform.specs.declared.Radians.{Radians}
use Rattle.waveform.specs.Waveform.{reduce_of, radians}
use Rattle.lfo.specs.declared.LfoBlock.{LfoBlock}
use Rattle.lfo.specs.declared.Processed.{Processed}
use Rattle.lfo.specs.Lfo.{process_of}
use Rattle.tremolo.specs.declared.Lfo.{Lfo}
use Rattle.tremolo.specs.Tremolo.{lfo_at, factor_of}
use Rattle.score.specs.Score.{verdict_of}
use Rattle.state.specs.declared.Settings.{Settings}
use Rattle.state.specs.declared.State.{State}
use Rattle.state.specs.Settings.{settings_ok}
use Rattle.state.specs.State.{fresh_of, lfo_step_of, dry_of}
use Rattle.state.specs.Heart.{reduces_at, begun, state_from, samples_from}
use Rattle.state.specs.ButLfo.{with_tremolo}

-- the ported block with the settings' LFO, at a phase
abbrev pub block_at : Lfo → Radians → LfoBlock
block_at l p = record { frequency = l.frequency; depth = l.depth; phase = p; waveform = l.waveform }

-- its call over the numbers xs, from the LFO's phase at sample n
abbrev pub ported_of : Settings → List ℕ → ℕ → State → List Float → Outcome Processed
ported_of g s n v xs = process_of (block_at g.lfo (begun g s n v).lfo) g.rate xs

-- the state that sample n + i is taken from, where v is the state before sample n is begun
abbrev pub heard_at : Settings → List ℕ → ℕ → State → ℕ → State
heard_at g s n v i = begun g s (n + i) (state_from g s n v i)

-- no phase is reduced before the samples n + 1 to n + k - 1
abbrev pub NoneReduced : List ℕ → ℕ → ℕ → Type 0
NoneReduced s n k = (i : ℕ) → 0 < i → i < k → reduces_at s (n + i) ≡ false

-- ---- what is promised of k samples from sample n on, and of the call over xs
pub record Ported (g : Settings) (s : List ℕ) (n : ℕ) (v : State) (k : ℕ) (xs : List Float) : Type 0 where
  pub done : (ported_of g s n v xs).result.answer ≡ Ok k
  pub values : (ported_of g s n v xs).lent ≡ listed (λ (i : ℕ). lfo_at g.lfo (lfo_step_of g) (heard_at g s n v i).lfo.0) k
  pub samples : samples_from g s n v k ≡ listed (λ (i : ℕ). dry_of g (heard_at g s n v i) ⊗ factor_of g.lfo.depth (get_or (ported_of g s n v xs).lent i nan)) k
  pub phase : (ported_of g s n v xs).result.block.phase ≡ radians (reduce_of (state_from g s n v k).lfo.0)

-- ---- the claim on the block
pub record LfoIsPorted : Type 0 where
  -- from any state whose LFO's phase is one that the block accepts when sample n is begun
  pub from_any : (g : Settings) → settings_ok g ≡ true → (s : List ℕ) (n : ℕ) (v : State) → T (is_radians (begun g s n v).lfo.0) → (k : ℕ) → 0 < k → NoneReduced s n k
      → (xs : List Float) → length xs ≡ k → Ported g s n v k xs
  -- so at every sample of a render of an accepted score
  pub in_a_render : (g : Settings) → settings_ok g ≡ true → T (fits binary64 g.adsr.sustain) → (s : List ℕ) (m : ℕ) → verdict_of s ≡ Ok m → (n k : ℕ) → 0 < k → NoneReduced s n k
      → (xs : List Float) → length xs ≡ k → Ported g s n (state_from g s 0 (fresh_of 0) n) k xs

-- ---- the claim on depth 0
-- a depth of 0 or -0, which is an f64, as every f64 of the code is
pub record IsDepth0 (depth : Float) : Type 0 where
  pub is_f64 : T (fits binary64 depth)
  pub is_zero : T (within zero64 zero64 depth)

-- of the first k samples of a render of an accepted score
pub record Depth0IsDry : Type 0 where
  pub samples : (g : Settings) → settings_ok g ≡ true → T (fits binary64 g.adsr.sustain) → IsDepth0 g.lfo.depth → (s : List ℕ) (m : ℕ) → verdict_of s ≡ Ok m
      → (k : ℕ) → samples_from g s 0 (fresh_of 0) k ≡ listed (λ (i : ℕ). dry_of g (heard_at g s 0 (fresh_of 0) i)) k
  pub any_lfo : (g : Settings) (l : Lfo) → settings_ok g ≡ true → settings_ok (with_tremolo g l) ≡ true → T (fits binary64 g.adsr.sustain) → IsDepth0 g.lfo.depth → IsDepth0 l.depth → (s : List ℕ) (m : ℕ) → verdict_of s ≡ Ok m
      → (k : ℕ) → samples_from g s 0 (fresh_of 0) k ≡ samples_from (with_tremolo g l) s 0 (fresh_of 0) k
