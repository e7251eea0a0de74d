-- Every sample that is made from a state within the limits, at any position and for any accepted score: it is finite,
-- and with depth 0 it is the sample without tremolo. 02, R-7: "With depth 0 the samples equal the old ones as numbers";
-- here to the bit, for 0 and -0. Two settings that differ in their LFO alone, both of depth 0, make the same samples.
-- The floats of state and settings are taken to be values of an f64, as every f64 of a program is. Assumes nothing.
use Rattle.std.specs.Prelude.{Ok}
use mathlib.Core.Path.{◌≡◌, sym, ◌∙◌}
use mathlib.Core.Bool.{true}
use mathlib.Core.List.{List}
use Prim.Native.Nat.{ℕ, ◌+◌}
use lib.Dec.{T}
use lib.Ieee.{Float, binary64, fits}
use lib.Ieee.Scale.{finite}
use Rattle.runs.proofs.Listed.{listed_same}
use Rattle.floats.specs.Range.{nonneg}
use Rattle.floats.proofs.Zeros.{Silent}
use Rattle.tremolo.specs.declared.Lfo.{Lfo}
use Rattle.score.specs.Score.{verdict_of}
use Rattle.state.specs.declared.Settings.{Settings}
use Rattle.state.specs.declared.State.{State}
use Rattle.state.specs.State.{dry_of, sample_of}
use Rattle.state.specs.Settings.{settings_ok}
use Rattle.state.specs.Limits.{in_limits}
use Rattle.state.specs.Heart.{begun, state_from, samples_from}
use Rattle.state.specs.ButLfo.{with_tremolo, SameButLfo}
use Rattle.state.proofs.Limits.{Kept, weaken}
use Rattle.state.proofs.Fits.{Fitting, begun-fits}
use Rattle.state.proofs.Stays.{Far, others-begun}
use Rattle.state.proofs.Silence.{sample-finite, sample-is-dry}
use Rattle.state.proofs.ButLfo.{dry-same}

module _ (s : List ℕ) (m : ℕ) (a : verdict_of s ≡ Ok m) (n : ℕ) where
  module _ (g : Settings) (ok : settings_ok g ≡ true) (w : T (fits binary64 g.adsr.sustain)) (v : State) (f : Fitting v) (l : in_limits v ≡ true) where
    kept : (k : ℕ) → Kept (λ (x : Float). T (nonneg x)) (begun g s (n + k) (state_from g s n v k))
    kept k = weaken Far (λ (x : Float). T (nonneg x)) (begun g s (n + k) (state_from g s n v k)) (λ x o. o.not_negative) (others-begun g ok w s m a n v l k)

    pub every-sample-finite : (k : ℕ) → T (finite (sample_of g (begun g s (n + k) (state_from g s n v k))))
    every-sample-finite k = sample-finite g ok w (begun g s (n + k) (state_from g s n v k)) (kept k) (begun-fits g s n v w f k)

    pub every-sample-dry : Silent g.lfo.depth → (k : ℕ) → sample_of g (begun g s (n + k) (state_from g s n v k)) ≡ dry_of g (begun g s (n + k) (state_from g s n v k))
    every-sample-dry d k = sample-is-dry g ok w (begun g s (n + k) (state_from g s n v k)) (kept k) (begun-fits g s n v w f k) d

  -- two settings of depth 0, from states that differ in the LFO's phase alone
  pub flat_same : (g : Settings) (t : Lfo) → settings_ok g ≡ true → settings_ok (with_tremolo g t) ≡ true → T (fits binary64 g.adsr.sustain) → Silent g.lfo.depth → Silent t.depth → (v u : State) → Fitting v → Fitting u → in_limits v ≡ true → in_limits u ≡ true → SameButLfo v u
      → (k : ℕ) → samples_from g s n v k ≡ samples_from (with_tremolo g t) s n u k
  unfolding state_from samples_from
  flat_same g t ok ok' w d e v u f f' l l' q k =
      listed_same _ _ k (λ i h. every-sample-dry g ok w v f l d i ∙ dry-same g t s n v u q i ∙ sym (every-sample-dry (with_tremolo g t) ok' w u f' l' e i))
