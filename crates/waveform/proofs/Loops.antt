-- The invariant of every loop that fills a block, for any function from a phase to its value: it holds before the first
-- sample, each sample written keeps it, and after the last it gives `FilledBy`. Assumes nothing.
use mathlib.Core.Path.{◌≡◌, refl, sym, subst, ap, ◌∙◌}
use mathlib.Core.List.{List}
use Prim.Native.Nat.{ℕ, ◌+◌, ◌≤◌, ◌<◌}
use native.Mathlib.Numerals.{add-one}
use native.Mathlib.Omega.{arith}
use lib.ListN.{length, take, set, length-set}
use lib.Seq.{take-suc-set, take_all}
use lib.Ieee.{Float}
use Rattle.runs.specs.Runs.{run, listed}
use Rattle.floats.specs.Double.{◌⊕◌, ◌⊗◌}
use Rattle.waveform.specs.Waveform.{radians}
use Rattle.waveform.specs.Filled.{phase_from, samples_by, FilledBy}
use Rattle.waveform.specs.declared.Radians.{Radians}
use Rattle.waveform.proofs.Steps.{phase_more, samples_more}

-- the list was `before` and is `out`: its first i samples are written, and p is the phase before sample i
pub record FilledUpTo (value : Float → Float) (step scale p₀ : Float) (before out : List Float) (p : Float) (i : ℕ) : Type 0 where
  pub size : length out ≡ length before
  pub within : i ≤ length out
  pub phase : p ≡ phase_from step p₀ i
  pub samples : take i out ≡ samples_by value step scale p₀ i

module _ (value : Float → Float) (step scale p₀ : Float) (before : List Float) where
  pub begins : FilledUpTo value step scale p₀ before before p₀ 0
  unfolding run listed phase_from samples_by
  begins = record { size = refl; within = omega arith; phase = refl; samples = refl }

  pub goes_on : (out : List Float) (p v : Float) (i : ℕ) → FilledUpTo value step scale p₀ before out p i → i < length out → v ≡ value p → FilledUpTo value step scale p₀ before (set out i (v ⊗ scale)) (p ⊕ step) (i + 1)
  goes_on out p v i u h e =
      record {
        size = simp length-set u.size;
        within = simp length-set (omega arith);
        phase = ap (λ (x : Float). x ⊕ step) u.phase ∙ sym (phase_more step p₀ i);
        samples = rw (samples_more value step scale p₀ i, add-one i, take-suc-set, u.samples, e, u.phase) refl;
      }

  -- four samples written in one turn
  pub goes_on-four : (out : List Float) (p v₀ v₁ v₂ v₃ : Float) (i : ℕ) → FilledUpTo value step scale p₀ before out p i → i + 4 ≤ length out → v₀ ≡ value p → v₁ ≡ value (p ⊕ step) → v₂ ≡ value (p ⊕ step ⊕ step) → v₃ ≡ value (p ⊕ step ⊕ step ⊕ step)
      → FilledUpTo value step scale p₀ before (set (set (set (set out i (v₀ ⊗ scale)) (i + 1) (v₁ ⊗ scale)) (i + 2) (v₂ ⊗ scale)) (i + 3) (v₃ ⊗ scale)) (p ⊕ step ⊕ step ⊕ step ⊕ step) (i + 4)
  goes_on-four out p v₀ v₁ v₂ v₃ i u h e₀ e₁ e₂ e₃ =
      let p₁ = p ⊕ step in
      let p₂ = p₁ ⊕ step in
      let p₃ = p₂ ⊕ step in
      let out₁ = set out i (v₀ ⊗ scale) in
      let out₂ = set out₁ (i + 1) (v₁ ⊗ scale) in
      let out₃ = set out₂ (i + 2) (v₂ ⊗ scale) in
      let u₁ : FilledUpTo value step scale p₀ before out₁ p₁ (i + 1) = goes_on out p v₀ i u (omega arith) e₀ in
      let u₂ : FilledUpTo value step scale p₀ before out₂ p₂ (i + 2) = at_count (omega arith) (goes_on out₁ p₁ v₁ (i + 1) u₁ (simp length-set (omega arith)) e₁) in
      let u₃ : FilledUpTo value step scale p₀ before out₃ p₃ (i + 3) = at_count (omega arith) (goes_on out₂ p₂ v₂ (i + 2) u₂ (simp length-set (omega arith)) e₂) in
      at_count (omega arith) (goes_on out₃ p₃ v₃ (i + 3) u₃ (simp length-set (omega arith)) e₃)
    where
      at_count : {ys : List Float} {q : Float} {j k : ℕ} → j ≡ k → FilledUpTo value step scale p₀ before ys q j → FilledUpTo value step scale p₀ before ys q k
      at_count {ys} {q} e = subst (λ (n : ℕ). FilledUpTo value step scale p₀ before ys q n) e

  pub ends : (out : List Float) (p : Float) (i : ℕ) → FilledUpTo value step scale p₀ before out p i → length out ≤ i → FilledBy value p₀ step scale before out (radians p)
  ends out p i u h =
      let e : i ≡ length out = omega (arith, u.within) in
      record {
        samples = rw (← u.size, ← e) (sym (take_all i out h) ∙ u.samples);
        phase = rw (← u.size, ← e) (ap radians u.phase);
      }

  -- `FilledBy` decides every sample, and the phase after the last
  pub filled-same : (a b : List Float) (r t : Radians) → FilledBy value p₀ step scale before a r → FilledBy value p₀ step scale before b t → (a ≡ b) × (r ≡ t)
  filled-same a b r t p q = (p.samples ∙ sym q.samples, p.phase ∙ sym q.phase)
