-- The limits are kept at every sample from the fresh state on, and from any state within them at a multiple of 64 on,
-- so from the start of every section. 01, "Making sample n": "If n is a multiple of 64 or a record has position n,
-- phase is reduced by TAU." So at such a position it does not matter what a phase was; then each sample adds at most
-- 10, and the next reduction comes after at most 64 samples.
-- From any state within the limits, at any position, all fields but the phases stay within their limits, and no float
-- becomes a NaN or an infinity. The sustain setting is taken to be a value of an f64, as every f64 of a program is.
-- Assumes nothing.
use Rattle.std.specs.Prelude.{Ok}
use mathlib.Core.Path.{◌≡◌, refl}
use mathlib.Core.Bool.{true}
use mathlib.Core.List.{List}
use Prim.Native.Nat.{ℕ, suc, ◌+◌, ◌*◌, ◌%◌, ◌≤◌}
use native.Mathlib.Nat.{zero-add}
use native.Mathlib.Omega.{arith}
use borrow.Author.Tests.{eqb-false}
use lib.Dec.{T}
use lib.Ieee.{Float, binary64, of_bits, add, lt, le, fits}
use lib.Ieee.Fits.{and_i, and_r}
use Rattle.runs.specs.Runs.{run}
use Rattle.floats.specs.Range.{nonneg}
use Rattle.floats.specs.Double.{◌⊕◌, zero64}
use Rattle.floats.proofs.Literals.{zero_of-is}
use Rattle.floats.proofs.Order.{fle_trans, lt-le, ge0→le, nonneg→ge0, nonneg→finite, under}
use Rattle.floats.proofs.Monotone.{add-mono}
use Rattle.floats.proofs.Ranges.{add-ge0}
use Rattle.envelope.specs.Limits.{ten}
use Rattle.waveform.specs.Filled.{phase_from}
use Rattle.waveform.specs.Waveform.{remainder_of}
use Rattle.waveform.proofs.Values.{far}
use Rattle.score.specs.Score.{verdict_of}
use Rattle.state.specs.declared.Settings.{Settings}
use Rattle.state.specs.declared.State.{State}
use Rattle.state.specs.Settings.{settings_ok}
use Rattle.state.specs.State.{fresh_of, reduced_of}
use Rattle.domain.specs.Domain.{thousand}
use Rattle.state.specs.Limits.{in_limits}
use Rattle.state.specs.Heart.{begun, state_from}
use Rattle.state.proofs.Limits.{Kept, PhaseIn, AllFinite, weaken, in_kept, kept_in_lem, kept-finite, phase-nonneg, fresh_in}
use Rattle.state.proofs.Ladder.{ladder, rung_below, zero_on, reduced_on, reduced-nonneg, next_rung, next-nonneg}
use Rattle.state.proofs.Through.{Carried, reduced_keeps, run_keeps, run-begins}

-- ---- the range of the phase
-- j samples after a reduction
pub record On (j : ℕ) (x : Float) : Type 0 where
  pub not_negative : T (nonneg x)
  pub not-above : T (le x (ladder j))

-- after sample m is begun: as far as the phase grows from the last multiple of 64
abbrev pub Since : ℕ → Float → Type 0
Since m x = On (m % 64) x

-- before sample m is begun: anything below 1,000 if the phase is about to be reduced, else as far as it grows
pub record Before (m : ℕ) (x : Float) : Type 0 where
  pub phase : PhaseIn x
  pub climbed : (m % 64 ≡ 0 → ⊥) → T (le x (ladder (m % 64)))

on_phase : (j : ℕ) (x : Float) → j ≤ 64 → On j x → PhaseIn x
on_phase j x h o =
    and_i (le zero64 x) (lt x thousand) (rw (zero_of-is binary64) (ge0→le x (nonneg→ge0 x o.not_negative))) (rung_below j x h (nonneg→finite x o.not_negative) o.not-above)

reduced_at_lem : (j : ℕ) (x : Float) → PhaseIn x → On j (remainder_of x)
reduced_at_lem j x t = record { not_negative = reduced-nonneg x (phase-nonneg x t); not-above = reduced_on x (phase-nonneg x t) j }

-- a sample leads from one bound to the next, and after 64 samples comes a reduction
climbs : Carried Before Since
climbs =
    record {
      zeroed = λ m. record { not_negative = unfold of_bits in tt; not-above = zero_on (m % 64) };
      reduced = λ m x b. reduced_at_lem (m % 64) x b.phase;
      left = λ m x e b. record { not_negative = phase-nonneg x b.phase; not-above = b.climbed (eqb-false (m % 64) 0 e) };
      grown = λ m x step s t o. after m x step s t o;
    }
  where
    up : (j : ℕ) (x step : Float) → T (nonneg step) → T (le step ten) → On j x → On (suc j) (x ⊕ step)
    up j x step s t o = record { not_negative = next-nonneg j x step o.not_negative o.not-above s t; not-above = next_rung j x step o.not_negative o.not-above s t }

    after : (m : ℕ) (x step : Float) → T (nonneg step) → T (le step ten) → Since m x → Before (suc m) (x ⊕ step)
    after m x step s t o =
        let n = up (m % 64) x step s t o in
        record {
          phase = on_phase (suc (m % 64)) (x ⊕ step) (omega arith) n;
          climbed = λ h. (let e : suc m % 64 ≡ suc (m % 64) = omega arith in rw e n.not-above);
        }

-- a reduction keeps the limits
pub reduce_in : (v : State) → in_limits v ≡ true → in_limits (reduced_of v) ≡ true
reduce_in v l = kept_in_lem (reduced_of v) (reduced_keeps PhaseIn PhaseIn v (λ x t. on_phase 0 (remainder_of x) (omega arith) (reduced_at_lem 0 x t)) (in_kept v l))

-- ---- without a reduction: at most 2^60, where adding 10 no longer changes the phase
pub record Far (x : Float) : Type 0 where
  pub not_negative : T (nonneg x)
  pub not-far : T (le x far)

abbrev pub Anywhere : ℕ → Float → Type 0
Anywhere m x = Far x

phase-far : (x : Float) → PhaseIn x → Far x
phase-far x t = record { not_negative = phase-nonneg x t; not-far = fle_trans x thousand far (lt-le x thousand (and_r (le zero64 x) (lt x thousand) t)) (unfold of_bits in unfold le in tt) }

drifts : Carried Anywhere Anywhere
drifts =
    record {
      zeroed = λ m. record { not_negative = unfold of_bits in tt; not-far = unfold of_bits in unfold le in tt };
      reduced = λ m x o. record { not_negative = reduced-nonneg x o.not_negative; not-far = fle_trans (remainder_of x) (ladder 0) far (reduced_on x o.not_negative 0) (unfold run in unfold phase_from in unfold of_bits in unfold le in tt) };
      left = λ m x e o. o;
      grown = λ m x step s t o. further x step s t o;
    }
  where
    further : (x step : Float) → T (nonneg step) → T (le step ten) → Far x → Far (x ⊕ step)
    further x step s t o =
        let l : T (le (x ⊕ step) far) =
        fle_trans (x ⊕ step) (far ⊕ ten) far (add-mono binary64 x far step ten o.not_negative (unfold of_bits in tt) s (unfold of_bits in tt) o.not-far t) (unfold of_bits in unfold add in unfold le in tt) in
        record { not_negative = under (x ⊕ step) far (add-ge0 binary64 x step o.not_negative s) (unfold of_bits in tt) l; not-far = l }

-- ---- the theorems
module _ (g : Settings) (ok : settings_ok g ≡ true) (w : T (fits binary64 g.adsr.sustain)) (s : List ℕ) (m : ℕ) (a : verdict_of s ≡ Ok m) where
  -- from any state within the limits at a multiple of 64
  module _ (n : ℕ) (at : n % 64 ≡ 0) (v : State) (l : in_limits v ≡ true) where
    start : Kept (Before n) v
    start = weaken PhaseIn (Before n) v (λ x t. record { phase = t; climbed = λ h. absurd (h at) }) (in_kept v l)

    -- the state before a sample is begun
    pub limits_kept : (k : ℕ) → in_limits (state_from g s n v k) ≡ true
    limits_kept k = let u = state_from g s n v k in kept_in_lem u (weaken (Before (n + k)) PhaseIn u (λ x b. b.phase) (run_keeps Before Since climbs g ok w s m a n v start k))

    -- the state after a sample is begun
    pub begun_kept : (k : ℕ) → in_limits (begun g s (n + k) (state_from g s n v k)) ≡ true
    begun_kept k =
        let u = begun g s (n + k) (state_from g s n v k) in
        kept_in_lem u (weaken (Since (n + k)) PhaseIn u (λ x. on_phase ((n + k) % 64) x (omega arith)) (run-begins Before Since climbs g ok w s m a n v start k))

  -- from the start of a section
  pub section_kept : (section_size : ℕ) (v : State) → in_limits v ≡ true → (k : ℕ) → in_limits (state_from g s (section_size * 4096) v k) ≡ true
  section_kept section_size v l k = limits_kept (section_size * 4096) (omega arith) v l k

  -- from the fresh state
  pub fresh_kept : (k : ℕ) → in_limits (state_from g s 0 (fresh_of 0) k) ≡ true
  fresh_kept k = limits_kept 0 refl (fresh_of 0) (fresh_in 0) k

  pub fresh-begun-kept : (k : ℕ) → in_limits (begun g s k (state_from g s 0 (fresh_of 0) k)) ≡ true
  fresh-begun-kept k = rw zero-add at (begun_kept 0 refl (fresh_of 0) (fresh_in 0) k)

  -- from any state within the limits, at any position
  module _ (n : ℕ) (v : State) (l : in_limits v ≡ true) where
    begins : Kept Far v
    begins = weaken PhaseIn Far v phase-far (in_kept v l)

    pub others-kept : (k : ℕ) → Kept Far (state_from g s n v k)
    others-kept k = run_keeps Anywhere Anywhere drifts g ok w s m a n v begins k

    pub others-begun : (k : ℕ) → Kept Far (begun g s (n + k) (state_from g s n v k))
    others-begun k = run-begins Anywhere Anywhere drifts g ok w s m a n v begins k

    -- so no field becomes a NaN or an infinity
    pub finite-kept : (k : ℕ) → AllFinite (state_from g s n v k)
    finite-kept k = let u = state_from g s n v k in kept-finite Far u (λ x o. o.not_negative) (others-kept k)
