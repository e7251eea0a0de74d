-- One sample more of a block, sample i of a block, and a block continued from where another ends. Assumes nothing.
use mathlib.Core.Path.{◌≡◌, refl, ap, ◌∙◌}
use mathlib.Core.List.{[], ◌∷◌, ◌++◌}
use Prim.Native.Nat.{ℕ, ◌+◌, ◌<◌}
use lib.ListN.{length, get_or}
use lib.Ieee.{Float, nan}
use Rattle.runs.proofs.Listed.{listed_more, listed-length, listed_at, listed_on, listed_same}
use Rattle.runs.proofs.Laws.{repeated_more, repeated_on}
use Rattle.floats.specs.Double.{◌⊕◌, ◌⊗◌}
use Rattle.waveform.specs.Filled.{phase_from, samples_by}

module _ (step p : Float) where
  -- the phase after one sample more
  pub phase_more : (k : ℕ) → phase_from step p (k + 1) ≡ phase_from step p k ⊕ step
  unfolding phase_from
  phase_more = repeated_more (λ (q : Float). q ⊕ step) p

  -- j samples, then k from the phase after those j, are j + k samples: a block may be divided anywhere
  pub phase_on : (j k : ℕ) → phase_from step p (j + k) ≡ phase_from step (phase_from step p j) k
  unfolding phase_from
  phase_on = repeated_on (λ (q : Float). q ⊕ step) p

module _ (value : Float → Float) (step scale p : Float) where
  pub samples_more : (k : ℕ) → samples_by value step scale p (k + 1) ≡ samples_by value step scale p k ++ (value (phase_from step p k) ⊗ scale ∷ [])
  unfolding samples_by
  samples_more = listed_more _

  -- the first k samples are k numbers
  pub samples-length : (k : ℕ) → length (samples_by value step scale p k) ≡ k
  unfolding samples_by
  samples-length = listed-length _

  -- sample i of n
  pub sample_at_lem : (i n : ℕ) → i < n → get_or (samples_by value step scale p n) i nan ≡ value (phase_from step p i) ⊗ scale
  unfolding samples_by
  sample_at_lem i n = listed_at _ n i nan

  pub samples_on : (j k : ℕ) → samples_by value step scale p (j + k) ≡ samples_by value step scale p j ++ samples_by value step scale (phase_from step p j) k
  unfolding samples_by
  samples_on j k = listed_on _ j k ∙ ap (◌++◌ (samples_by value step scale p j)) (listed_same _ _ k (λ i l. rw (phase_on step p j i) refl))

-- two functions that give equal values at every phase give equal samples
pub samples-same : (value other : Float → Float) (step scale p : Float) → ((q : Float) → value q ≡ other q) → (k : ℕ) → samples_by value step scale p k ≡ samples_by other step scale p k
unfolding samples_by
samples-same value other step scale p e k = listed_same _ _ k (λ i l. ap (λ (x : Float). x ⊗ scale) (e (phase_from step p i)))
