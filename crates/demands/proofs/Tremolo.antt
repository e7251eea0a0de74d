-- The tremolo's LFO is the ported block: where no phase is reduced no record acts either, so between two reductions the
-- LFO's phase grows as the block's does. And depth 0 is no tremolo, by `state`'s laws of every sample, from the fresh
-- state. Assumes nothing.
use Rattle.std.specs.Prelude.{Ok}
use mathlib.Core.Path.{◌≡◌, refl, subst, ap, ◌∙◌}
use mathlib.Core.Bool.{Bool, true, false, ◌&&◌, ◌||◌}
use mathlib.Core.List.{List}
use Prim.Native.Nat.{ℕ, zero, suc, ◌+◌, ◌%◌, ◌<◌}
use native.Mathlib.Nat.{add-zero}
use native.Mathlib.Omega.{arith}
use lib.Dec.{T, eqb}
use lib.ListN.{length, get_or}
use lib.Ieee.{Float, nan}
use lib.Ieee.Fits.{and_i, and_l, and_r}
use Rattle.runs.specs.Runs.{run, listed}
use Rattle.runs.proofs.Listed.{listed_at, listed_same}
use Rattle.floats.specs.Double.{◌⊕◌, ◌⊗◌}
use Rattle.floats.proofs.Zeros.{Silent, zero_is}
use Rattle.answers.specs.Outcome.{Outcome, leaves}
use Rattle.domain.specs.Domain.{highest_lfo, is_rate, is_frequency, is_depth, is_radians}
use Rattle.waveform.specs.Waveform.{is_waveform, reduce_of, radians}
use Rattle.waveform.specs.Filled.{phase_from, value_at, samples_by}
use Rattle.envelope.specs.Limits.{is_adsr}
use Rattle.blocks.specs.declared.Ran.{Ran}
use Rattle.blocks.specs.Block.{is_setting, is_tone, run_of}
use Rattle.lfo.specs.Lfo.{tone_of}
use Rattle.tremolo.specs.Tremolo.{is_lfo, lfo_at, factor_of}
use Rattle.score.specs.Record.{count_of, position_at}
use Rattle.state.specs.declared.Settings.{Settings}
use Rattle.state.specs.declared.State.{State}
use Rattle.state.specs.Settings.{settings_ok}
use Rattle.state.specs.State.{fresh_of, lfo_step_of, dry_of, sample_of, advance_of}
use Rattle.state.specs.Heart.{has_at, reduces_at, act_to, begun, state_from, samples_from}
use Rattle.state.proofs.Fits.{fresh-fits}
use Rattle.state.proofs.Limits.{is_true, from-true, in_kept, fresh_in}
use Rattle.state.proofs.Stays.{fresh-begun-kept}
use Rattle.state.proofs.Samples.{every-sample-dry, flat_same}
use Rattle.demands.specs.Tremolo.{block_at, ported_of, heard_at, NoneReduced, Ported, LfoIsPorted, IsDepth0, Depth0IsDry}

-- ---- a sample whose phases are not reduced
neither : (a b : Bool) → a || b ≡ false → (a ≡ false) × (b ≡ false)
neither true b h = absurd (subst T h tt)
neither false true h = absurd (subst T h tt)
neither false false h = (refl, refl)

module _ (g : Settings) (s : List ℕ) where
  none-act : (m k : ℕ) (u : State) → has_at s m k ≡ false → act_to g s m k u ≡ u
  unfolding act_to has_at
  none-act m zero u h = refl
  none-act m (suc k) u h =
      let b = neither (has_at s m k) (eqb (position_at s k) m) h in
      rw b.1 (none-act m k u b.0)

  as_it_was : (m : ℕ) (u : State) → reduces_at s m ≡ false → begun g s m u ≡ u
  unfolding begun
  as_it_was m u h = rw h (none-act m (count_of s) u (neither (eqb (m % 64) 0) (has_at s m (count_of s)) h).1)

  -- ---- the LFO's phase
  module _ (n : ℕ) (v : State) where
    abbrev first : Float
    first = (begun g s n v).lfo.0

    -- after sample n + k, from that at sample n + k
    grown : (k : ℕ) → (heard_at g s n v k).lfo.0 ≡ phase_from (lfo_step_of g) first k → (state_from g s n v (suc k)).lfo.0 ≡ phase_from (lfo_step_of g) first (suc k)
    unfolding state_from phase_from run advance_of
    grown k e = ap (λ (x : Float). x ⊕ lfo_step_of g) e

    begins : (heard_at g s n v 0).lfo.0 ≡ phase_from (lfo_step_of g) first 0
    unfolding state_from phase_from run
    begins = rw (add-zero n) refl

    phase-at : (k : ℕ) → NoneReduced s n (suc k) → (heard_at g s n v k).lfo.0 ≡ phase_from (lfo_step_of g) first k
    phase-at zero c = begins
    phase-at (suc k) c =
        ap (λ (u : State). u.lfo.0) (as_it_was (n + suc k) (state_from g s n v (suc k)) (c (suc k) (omega arith) (omega arith)))
        ∙ grown k (phase-at k (λ i a b. c i a (omega arith)))

    -- ---- the call
    module _ (ok : settings_ok g ≡ true) (in-limits : T (is_radians first)) where
      abbrev sounding : Bool
      sounding = is_rate g.rate && is_waveform g.waveform

      abbrev swaying : Bool
      swaying = is_waveform g.lfo.waveform && is_frequency highest_lfo g.lfo.frequency

      settings_in : T (sounding && is_adsr g.adsr && is_lfo g.lfo)
      settings_in = from-true (settings_ok g) ok

      rate_in : T (is_rate g.rate)
      rate_in = and_l (is_rate g.rate) (is_waveform g.waveform) (and_l sounding (is_adsr g.adsr) (and_l (sounding && is_adsr g.adsr) (is_lfo g.lfo) settings_in))

      lfo_in : T (swaying && is_depth g.lfo.depth)
      lfo_in = and_r (sounding && is_adsr g.adsr) (is_lfo g.lfo) settings_in

      waveform_in : T (is_waveform g.lfo.waveform)
      waveform_in = and_l (is_waveform g.lfo.waveform) (is_frequency highest_lfo g.lfo.frequency) (and_l swaying (is_depth g.lfo.depth) lfo_in)

      frequency_in : T (is_frequency highest_lfo g.lfo.frequency)
      frequency_in = and_r (is_waveform g.lfo.waveform) (is_frequency highest_lfo g.lfo.frequency) (and_l swaying (is_depth g.lfo.depth) lfo_in)

      depth_in : T (is_depth g.lfo.depth)
      depth_in = and_r swaying (is_depth g.lfo.depth) lfo_in

      is_setting_lem : is_setting g.rate g.lfo.waveform ≡ true
      is_setting_lem = is_true (is_setting g.rate g.lfo.waveform) (and_i (is_rate g.rate) (is_waveform g.lfo.waveform) rate_in waveform_in)

      is_tone_lem : is_tone (tone_of (block_at g.lfo (begun g s n v).lfo)) highest_lfo ≡ true
      unfolding is_tone
      is_tone_lem =
          is_true (is_tone (tone_of (block_at g.lfo (begun g s n v).lfo)) highest_lfo)
          (and_i (is_depth g.lfo.depth && is_frequency highest_lfo g.lfo.frequency) (is_radians first) (and_i (is_depth g.lfo.depth) (is_frequency highest_lfo g.lfo.frequency) depth_in frequency_in) in-limits)

      call-done : (xs : List Float) → run_of (tone_of (block_at g.lfo (begun g s n v).lfo)) highest_lfo g.rate xs
          ≡ leaves (record { answer = Ok (length xs); phase = radians (reduce_of (phase_from (lfo_step_of g) first (length xs))) }) (samples_by (value_at g.lfo.waveform (lfo_step_of g)) (lfo_step_of g) g.lfo.depth first (length xs))
      unfolding run_of
      call-done xs = rw (is_setting_lem, is_tone_lem) refl

      module _ (k : ℕ) (c : NoneReduced s n (suc k)) (xs : List Float) (e : length xs ≡ suc k) where
        abbrev call : Outcome Ran
        call = run_of (tone_of (block_at g.lfo (begun g s n v).lfo)) highest_lfo g.rate xs

        values_are : (ported_of g s n v xs).lent ≡ listed (λ (i : ℕ). lfo_at g.lfo (lfo_step_of g) (heard_at g s n v i).lfo.0) (suc k)
        unfolding samples_by
        values_are =
            ap (λ (o : Outcome Ran). o.lent) (call-done xs)
            ∙ rw e (listed_same _ _ (suc k) (λ i l. rw (phase-at i (λ j a b. c j a (omega arith))) refl))

        samples_are : samples_from g s n v (suc k) ≡ listed (λ (i : ℕ). dry_of g (heard_at g s n v i) ⊗ factor_of g.lfo.depth (get_or (ported_of g s n v xs).lent i nan)) (suc k)
        unfolding samples_from state_from sample_of
        samples_are =
            rw values_are (listed_same _ _ (suc k) (λ i l. rw (listed_at (λ (j : ℕ). lfo_at g.lfo (lfo_step_of g) (heard_at g s n v j).lfo.0) (suc k) i nan l) refl))

        pub ported : Ported g s n v (suc k) xs
        ported =
            record {
              done = ap (λ (o : Outcome Ran). o.result.answer) (call-done xs) ∙ ap Ok e;
              values = values_are;
              samples = samples_are;
              phase = ap (λ (o : Outcome Ran). o.result.phase) (call-done xs) ∙ rw (e, grown k (phase-at k c)) refl;
            }

-- ---- the theorems
from_any : (g : Settings) → settings_ok g ≡ true → (s : List ℕ) (n : ℕ) (v : State) → T (is_radians (begun g s n v).lfo.0) → (k : ℕ) → 0 < k → NoneReduced s n k
    → (xs : List Float) → length xs ≡ k → Ported g s n v k xs
from_any g ok s n v t zero h = absurd (omega arith)
from_any g ok s n v t (suc k) h = ported g s n v ok t k

pub lfo-is_ported : LfoIsPorted
lfo-is_ported =
    record {
      from_any = from_any;
      in_a_render = λ g ok w s m a n. from_any g ok s n (state_from g s 0 (fresh_of 0) n) (in_kept _ (fresh-begun-kept g ok w s m a n)).lfo_in;
    }

silent : (depth : Float) → IsDepth0 depth → Silent depth
silent depth z = zero_is depth z.is_f64 z.is_zero

pub depth_0_is-dry : Depth0IsDry
unfolding samples_from state_from
depth_0_is-dry =
    record {
      samples = λ g ok w z s m a k. listed_same _ _ k (λ i h. every-sample-dry s m a 0 g ok w (fresh_of 0) (fresh-fits 0) (fresh_in 0) (silent g.lfo.depth z) i);
      any_lfo = λ g l ok ok' w z z' s m a k. flat_same s m a 0 g l ok ok' w (silent g.lfo.depth z) (silent l.depth z') (fresh_of 0) (fresh_of 0) (fresh-fits 0) (fresh-fits 0) (fresh_in 0) (fresh_in 0) refl k;
    }
