-- The tests of specs/Limits.antt part by part: an accepted envelope is `Inside` its limits, accepted settings are
-- `Bounded` once clamped, and the time of a sample at an accepted rate is a `Tick`. Assumes nothing.
use mathlib.Core.Bool.{Bool, true, false, not, ◌&&◌, cond}
use Prim.Native.Nat.{ℕ, ◌≤◌}
use native.Mathlib.Omega.{arith}
use lib.Dec.{T, leb, leb→le, lit<}
use lib.Ieee.{Float, binary64, of_bits, of_int, round, div, lt, le, fits, is_nan}
use lib.Ieee.Fits.{and_i, and_l, and_r, cond-fits}
use lib.Ieee.Bits.{of_bits-fits}
use lib.Ieee.Order.{round_mono}
use lib.Ieee.Positive.{positive}
use lib.Ieee.Scale.{finite}
use Rattle.floats.specs.Range.{plus_zero, within}
use Rattle.floats.specs.Double.{zero64, one}
use Rattle.floats.proofs.Order.{fle_trans, ge0→le, nonneg→finite, under, not-lt-le_any}
use Rattle.floats.proofs.Rounds.{ge0-round}
use Rattle.floats.proofs.Ranges.{within-nonneg, ge0-positive, div-ge0}
use Rattle.floats.proofs.Monotone.{div_mono}
use Rattle.domain.specs.Domain.{is_rate}
use Rattle.envelope.specs.Limits.{milli, ten, eleven, is_adsr, is_envelope, clamp_of, clamped_of, sample_time_of}
use Rattle.envelope.specs.declared.Adsr.{Adsr}
use Rattle.envelope.specs.declared.Envelope.{Envelope}

-- ---- ranges and choices
-- a property of both branches of a choice, each under its test, is one of the choice
pub choice : (P : Envelope → Type 0) (b : Bool) (x y : Envelope) → (T b → P x) → (T (not b) → P y) → P (cond b x y)
choice P true x y p q = p tt
choice P false x y p q = q tt

pub lower : (lo hi x : Float) → T (within lo hi x) → T (le lo x)
lower lo hi x h = and_l (le lo x) (le x hi) h

pub upper : (lo hi x : Float) → T (within lo hi x) → T (le x hi)
upper lo hi x h = and_r (le lo x) (le x hi) h

-- ---- the envelope
pub record Inside (e : Envelope) : Type 0 where
  pub level_in : T (within zero64 one e.level)
  pub release_in : T (within zero64 one e.release_level)
  pub time_in : T (within zero64 eleven e.stage_time)

pub is-inside : (e : Envelope) → T (is_envelope e) → Inside e
unfolding is_envelope
is-inside e h =
    let a = within zero64 one e.level in
    let b = within zero64 one e.release_level in
    let c = within zero64 eleven e.stage_time in
    record { level_in = and_l a b (and_l (a && b) c h); release_in = and_r a b (and_l (a && b) c h); time_in = and_r (a && b) c h }

pub accepted : (e : Envelope) → Inside e → T (is_envelope e)
unfolding is_envelope
accepted e i =
    let a = within zero64 one e.level in
    let b = within zero64 one e.release_level in
    and_i (a && b) (within zero64 eleven e.stage_time) (and_i a b i.level_in i.release_in) i.time_in

-- so no field is a NaN or an infinity
pub record FiniteFields (e : Envelope) : Type 0 where
  pub level-finite : T (finite e.level)
  pub release_finite : T (finite e.release_level)
  pub time_finite : T (finite e.stage_time)

pub finite_fields : (e : Envelope) → T (is_envelope e) → FiniteFields e
unfolding of_bits
finite_fields e h =
    let i = is-inside e h in
    record {
      level-finite = nonneg→finite e.level (within-nonneg one e.level tt i.level_in);
      release_finite = nonneg→finite e.release_level (within-nonneg one e.release_level tt i.release_in);
      time_finite = nonneg→finite e.stage_time (within-nonneg eleven e.stage_time tt i.time_in);
    }

-- ---- the settings
pub record Bounded (k : Adsr) : Type 0 where
  pub attack_in : T (within milli ten k.attack)
  pub decay_in : T (within milli ten k.decay)
  pub sustain_in : T (within zero64 one k.sustain)
  pub release_in : T (within milli ten k.release)
  pub sustain_fits : T (fits binary64 k.sustain)

-- a clamped number is between the bounds
clamp_in : (lo hi x : Float) → T (not (is_nan lo)) → T (not (is_nan hi)) → T (within lo hi lo) → T (within lo hi hi) → T (not (is_nan x)) → T (within lo hi (clamp_of lo hi x))
clamp_in lo hi x nl nh l h n = go (lt x lo) (lt hi x) (λ (f : T (not (lt x lo))). not-lt-le_any x lo n nl f) (λ (f : T (not (lt hi x))). not-lt-le_any hi x nh n f)
  where
    go : (a b : Bool) → (T (not a) → T (le lo x)) → (T (not b) → T (le x hi)) → T (within lo hi (cond a lo (cond b hi x)))
    go true b p q = l
    go false true p q = h
    go false false p q = and_i (le lo x) (le x hi) (p tt) (q tt)

time_clamped : (x : Float) → T (not (is_nan x)) → T (within milli ten (clamp_of milli ten x))
time_clamped x n = clamp_in milli ten x (unfold of_bits in unfold is_nan in tt) (unfold of_bits in unfold is_nan in tt) (unfold of_bits in unfold le in tt) (unfold of_bits in unfold le in tt) n

pub clamped_in : (k : Adsr) → T (is_adsr k) → T (fits binary64 k.sustain) → Bounded (clamped_of k)
unfolding is_adsr clamped_of
clamped_in k h w =
    let a = not (is_nan k.attack) in
    let d = not (is_nan k.decay) in
    let s = not (is_nan k.sustain) in
    let r = not (is_nan k.release) in
    let ads = and_l (a && d && s) r h in
    let ad = and_l (a && d) s ads in
    record {
      attack_in = time_clamped k.attack (and_l a d ad);
      decay_in = time_clamped k.decay (and_r a d ad);
      sustain_in = clamp_in zero64 one k.sustain (unfold of_bits in unfold is_nan in tt) (unfold of_bits in unfold is_nan in tt) (unfold of_bits in unfold le in tt) (unfold of_bits in unfold le in tt) (and_r (a && d) s ads);
      release_in = time_clamped k.release (and_r (a && d && s) r h);
      sustain_fits = clamp-fits;
    }
  where
    clamp-fits : T (fits binary64 (clamp_of zero64 one k.sustain))
    clamp-fits = cond-fits binary64 (lt k.sustain zero64) zero64 (cond (lt one k.sustain) one k.sustain) (of_bits-fits binary64 0) (cond-fits binary64 (lt one k.sustain) one k.sustain (of_bits-fits binary64 0x3ff0_0000_0000_0000) w)

-- ---- the time of a sample
-- 1 / 8000
abbrev pub slowest : Float
slowest = of_bits binary64 0x3f20_624d_d2f1_a9fc

abbrev pub Tick : Float → Type 0
Tick t = T (within zero64 slowest t)

-- 1 / n is at most 1 / 8000 for n from 8,000 to 192,000
tick_in : (n : ℕ) → 8000 ≤ n → n ≤ 192000 → Tick (sample_time_of n)
unfolding of_bits of_int le div sample_time_of
tick_in n h k =
    let x = round binary64 false n 1 in
    let low : T (le (round binary64 false 8000 1) x) = round_mono binary64 8000 1 n 1 (lit< tt) (lit< tt) (omega arith) in
    let top : T (le x (round binary64 false 192000 1)) = round_mono binary64 n 1 192000 1 (lit< tt) (lit< tt) (omega arith) in
    let p : T (positive x) = ge0-positive (round binary64 false 8000 1) x tt low (nonneg→finite x (under x (round binary64 false 192000 1) (ge0-round binary64 n 1) tt top)) in
    and_i (le plus_zero (div binary64 one x)) (le (div binary64 one x) slowest) (ge0→le (div binary64 one x) (div-ge0 binary64 one x tt p))
    (fle_trans (div binary64 one x) (div binary64 one (round binary64 false 8000 1)) slowest (div_mono binary64 one one x (round binary64 false 8000 1) tt tt p tt tt low) tt)

pub sample_time_in : (rate : ℕ) → T (is_rate rate) → Tick (sample_time_of rate)
unfolding is_rate
sample_time_in rate h = tick_in rate (leb→le 8000 rate (and_l (leb 8000 rate) (leb rate 192000) h)) (leb→le rate 192000 (and_r (leb 8000 rate) (leb rate 192000) h))
