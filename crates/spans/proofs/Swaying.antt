-- The tremolo over a span: the LFO's values in a list of their own and then the product, or, at depth 0, nothing at
-- all. Assumes nothing.
use mathlib.Core.Path.{◌≡◌, refl, sym, ap, ◌∙◌}
use mathlib.Core.Bool.{true}
use mathlib.Core.List.{List}
use Prim.Native.Nat.{ℕ, zero, suc, ◌≤◌}
use native.Mathlib.Omega.{arith}
use borrow.Author.Tests.{eq-eqb}
use lib.Dec.{T}
use lib.ListN.{length, take, get_or}
use lib.Seq.{take-suc, take_all}
use lib.Ieee.{Float, nan, binary64, fits}
use Rattle.runs.specs.Runs.{listed}
use Rattle.runs.proofs.Listed.{listed_same}
use Rattle.floats.specs.Double.{◌⊗◌, one}
use Rattle.floats.proofs.Literals.{one_of-is}
use Rattle.floats.proofs.OneWay.{times_one}
use Rattle.waveform.specs.declared.Radians.{Radians}
use Rattle.waveform.specs.declared.Waveform.{Waveform}
use Rattle.waveform.specs.Waveform.{radians, normal_of, inv_tau}
use Rattle.waveform.specs.Filled.{phase_from, samples_from, value_at, Filled, FilledBy}
use Rattle.waveform.proofs.Steps.{samples-length, sample_at_lem}
use Rattle.waveform.proofs.Values.{value-fits}
use Rattle.filling.specs.Lent.{value_in}
use Rattle.filling.proofs.Lent.{filled_as}
use Rattle.tremolo.specs.Tremolo.{lfo_at, factor_of, is_flat, multiplied_to, multiplied_of}
use Rattle.tremolo.proofs.Flat.{flat_sample, flat_later}
use Rattle.state.specs.declared.Settings.{Settings}
use Rattle.state.specs.State.{lfo_step_of}
use Rattle.state.proofs.Limits.{from-true}
use Rattle.spans.specs.Inner.{IsWaveTable, AllFit, swayed_to, Swayed}

-- a list is the list of its elements
taken : (xs : List Float) (k : ℕ) → k ≤ length xs → take k xs ≡ listed (λ (i : ℕ). get_or xs i nan) k
unfolding listed
taken xs zero h = refl
taken xs (suc k) h = take-suc xs k nan (omega arith) ∙ rw (taken xs k (omega arith)) refl

pub itself : (xs : List Float) → xs ≡ listed (λ (i : ℕ). get_or xs i nan) (length xs)
itself xs = sym (take_all (length xs) xs (omega arith)) ∙ taken xs (length xs) (omega arith)

-- the values are as many as the numbers that they replace
pub filled-long : (value : Float → Float) (p step scale : Float) (before after : List Float) (r : Radians) → FilledBy value p step scale before after r → length after ≡ length before
filled-long value p step scale before after r f = ap length f.samples ∙ samples-length value step scale p (length before)

-- a value that the inner loop writes with scale 1 is the waveform's
pub times_one-is : (w : Waveform) (step p : Float) → value_at w step p ⊗ one ≡ value_at w step p
times_one-is w step p = rw (one_of-is binary64) (times_one binary64 _ (value-fits w (normal_of p) (step ⊗ inv_tau)))

module _ (g : Settings) (p : Float) where
  -- where every factor is 1, nothing is changed
  unchanged : (xs : List Float) → ((i : ℕ) → factor_of g.lfo.depth (lfo_at g.lfo (lfo_step_of g) (phase_from (lfo_step_of g) p i)) ≡ one) → AllFit xs → listed (λ (i : ℕ). get_or xs i nan) (length xs) ≡ swayed_to g p xs (length xs)
  unfolding swayed_to
  unchanged xs ones fit = listed_same _ _ (length xs) (λ i l. sym (flat_sample (get_or xs i nan) _ (fit i l) (ones i)))

  -- the products with the LFO's values
  multiplied_is : (ws xs : List Float) → ws ≡ samples_from g.lfo.waveform (lfo_step_of g) one p (length xs) → multiplied_to g.lfo.depth ws xs (length xs) ≡ swayed_to g p xs (length xs)
  unfolding swayed_to multiplied_to
  multiplied_is ws xs q =
      listed_same _ _ (length xs)
      (λ i l. rw (q, sample_at_lem (value_at g.lfo.waveform (lfo_step_of g)) (lfo_step_of g) one p i (length xs) l, times_one-is g.lfo.waveform (lfo_step_of g) (phase_from (lfo_step_of g) p i)) refl)

  module _ (step : Radians) (e : step ≡ radians (lfo_step_of g)) where
    -- depth 0: the part as it came, and the phase after it
    pub flat_sways : (xs : List Float) (r : Radians) → T (fits binary64 g.lfo.depth) → T (fits binary64 p) → is_flat g.lfo step.0 p ≡ true → r ≡ radians (phase_from step.0 p (length xs)) → Swayed g p xs xs r
    flat_sways xs r w f h q =
        record {
          samples = λ fit. itself xs ∙ unchanged xs (flat_later g.lfo (lfo_step_of g) p w f (from-true _ (rw e at h))) fit;
          phase = q ∙ rw e refl;
        }

    -- the LFO's values ws, made in a list that held vs, and the products ys
    pub made_sways : (W vs ws xs ys : List Float) (r : Radians) → IsWaveTable W → length vs ≡ length xs → FilledBy (value_in W g.lfo.waveform step.0) p step.0 one vs ws r → ys ≡ multiplied_of g.lfo.depth ws xs
        → Swayed g p xs ys r
    made_sways W vs ws xs ys r serves n given h =
        let f : Filled g.lfo.waveform p (lfo_step_of g) one vs ws r = filled_as _ _ _ _ _ _ _ _ (serves g.lfo.waveform (lfo_step_of g)) (rw e at given) in
        let full : length ws ≡ length xs = filled-long _ _ _ _ _ _ _ f ∙ n in
        record {
          samples = λ fit. h ∙ rw (eq-eqb (length ws) (length xs) full) (multiplied_is ws xs (f.samples ∙ ap (samples_from g.lfo.waveform (lfo_step_of g) one p) n));
          phase = f.phase ∙ rw n refl;
        }
