-- A phase is never negative where it is reduced, so that 01's branch for a negative remainder is never taken: not from
-- the fresh state, not from an accepted entry, not from an accepted continuing state, at any position. The limit of
-- 1,000 has no part in it: a phase may pass it before the next multiple of 64.
-- The range facts: both phases are at least 0 in `is_radians`; a frequency is above 0 in `is_pitch`, an LFO's at least
-- 0 in `is_lfo`, and a rate at least 8,000 in `is_rate`, so that no step is negative (`pace_nonneg`); a sum of two
-- numbers that are not negative is not (`add-ge0`); and a remainder has the sign of its phase (`rem-ge0`).
-- The sustain setting is taken to be a value of an f64, as every f64 of a program is. Assumes nothing.
use Rattle.std.specs.Prelude.{Ok}
use mathlib.Core.Path.{◌≡◌, refl, ap, ◌∙◌}
use mathlib.Core.Bool.{true}
use mathlib.Core.List.{List}
use Prim.Native.Nat.{ℕ, ◌+◌, ◌*◌}
use lib.Dec.{T}
use lib.Ieee.{binary64, fits}
use Rattle.runs.proofs.Laws.{run-same}
use Rattle.runs.proofs.Listed.{listed_same}
use Rattle.floats.specs.Range.{nonneg}
use Rattle.score.specs.Score.{verdict_of}
use Rattle.state.specs.declared.Settings.{Settings}
use Rattle.state.specs.declared.State.{State}
use Rattle.state.specs.Settings.{settings_ok}
use Rattle.state.specs.State.{reduced_of, sample_of, advance_of}
use Rattle.state.specs.Limits.{in_limits}
use Rattle.state.specs.Heart.{begun, after_sample, state_from, samples_from, entries_from}
use Rattle.state.specs.Branching.{branching_of, begun_branching, after_branching, state_branching, samples_branching, entries_branching}
use Rattle.state.proofs.Ladder.{reduce-is_rest}
use Rattle.state.proofs.Stays.{others-kept}

-- ---- from any state within the limits, at any position
module _ (g : Settings) (ok : settings_ok g ≡ true) (w : T (fits binary64 g.adsr.sustain)) (s : List ℕ) (m : ℕ) (a : verdict_of s ≡ Ok m) where
  module _ (n : ℕ) (v : State) (l : in_limits v ≡ true) where
    -- before every sample, and a phase is reduced at no other moment
    pub phase_nonnegative : (k : ℕ) → T (nonneg (state_from g s n v k).phase.0)
    phase_nonnegative k = (others-kept g ok w s m a n v l k).phase_in.not_negative

    pub lfo_nonnegative : (k : ℕ) → T (nonneg (state_from g s n v k).lfo.0)
    lfo_nonnegative k = (others-kept g ok w s m a n v l k).lfo_in.not_negative

    reduces_same : (k : ℕ) → reduced_of (state_from g s n v k) ≡ branching_of (state_from g s n v k)
    reduces_same k =
        let u = state_from g s n v k in
        rw (reduce-is_rest u.phase.0 (phase_nonnegative k), reduce-is_rest u.lfo.0 (lfo_nonnegative k)) refl

    begins-same : (k : ℕ) → begun g s (n + k) (state_from g s n v k) ≡ begun_branching g s (n + k) (state_from g s n v k)
    unfolding begun begun_branching
    begins-same k = rw (reduces_same k) refl

    -- so the steps with the branch make the same states and samples
    pub branch_states : (k : ℕ) → state_from g s n v k ≡ state_branching g s n v k
    unfolding state_from state_branching
    branch_states k = run-same (after_sample g s) n v (after_branching g s) k (λ i h. ap (advance_of g) (begins-same i))

    pub branch_samples : (k : ℕ) → samples_from g s n v k ≡ samples_branching g s n v k
    unfolding samples_from samples_branching state_from state_branching
    branch_samples k = listed_same _ _ k (λ i h. ap (sample_of g) (begins-same i) ∙ rw (branch_states i) refl)

  -- and the same entries
  pub branch_entries : (e : ℕ) (v : State) → in_limits v ≡ true → (k : ℕ) → entries_from g s e v k ≡ entries_branching g s e v k
  unfolding entries_from entries_branching
  branch_entries e v l k = listed_same _ _ k (λ i h. branch_states (e * 4096) v l (i * 4096))
