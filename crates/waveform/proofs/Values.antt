-- Every value in its domain is at most 512 in size. So every sample of a block is finite, however long the block is:
-- the phase grows to 2^60 at most, as 2^60 plus a step rounds to 2^60. And every value is an f64. Assumes nothing.
use mathlib.Core.Path.{◌≡◌}
use Prim.Native.Nat.{ℕ, ◌<◌}
use lib.IntN.{pos}
use lib.Dec.{T, eqb}
use lib.ListN.{get_or}
use lib.Ieee.{Float, nan, binary64, of_bits, add, le, fits}
use lib.Ieee.Fits.{and_i, cond-fits, add-fits, sub-fits, mul-fits, div-fits}
use lib.Ieee.Scale.{finite}
use Rattle.runs.proofs.Laws.{repeated_keeps}
use Rattle.floats.specs.Range.{nonneg, within}
use Rattle.floats.specs.Double.{◌⊕◌, ◌⊖◌, ◌⊗◌, zero64, one, four}
use Rattle.floats.proofs.Literals.{one_of-is}
use Rattle.floats.proofs.Order.{fle_trans, under}
use Rattle.floats.proofs.Monotone.{add-mono}
use Rattle.floats.proofs.Ranges.{add-ge0}
use Rattle.floats.proofs.OneWay.{times_one}
use Rattle.floats.proofs.Bounded.{Size, size-finite, size-mul, size_widen}
use Rattle.polyblep.specs.Polyblep.{saw_of, square_of, pulse_of, triangle_of, rounded_of}
use Rattle.polyblep.proofs.Finite.{Domain, saw-size, square-size, pulse-size, triangle-size, rounded-size}
pub use Rattle.polyblep.proofs.Finite.{ceiling, unit_size}
use Rattle.sine.specs.Table.{quarter}
use Rattle.sine.specs.Sine.{steps, scale, whole_part, float, between_of, point_of, reading_in, reading_of}
use Rattle.sine.proofs.Bounds.{reading-sized}
use Rattle.waveform.specs.declared.Waveform.{Waveform}
use Rattle.waveform.specs.declared.Waveform.TheVariants.{Sine, Square, Sawtooth, Triangle, Pulse, RoundedTriangle}
use Rattle.waveform.specs.Waveform.{inv_tau, is_waveform, value_of, normal_of}
use Rattle.waveform.specs.Filled.{phase_from, value_at, samples_from}
use Rattle.waveform.proofs.Normal.{normal_in}
use Rattle.waveform.proofs.Steps.{sample_at_lem}

-- ---- a value is an f64, at any phase and dt
point-fits : (p : Float) → T (fits binary64 (point_of quarter p))
unfolding point_of
point-fits p =
    let i = whole_part p in
    cond-fits binary64 (eqb i 4096) (between_of quarter 0 zero64) (between_of quarter i (p ⊖ float (pos i))) (div-fits binary64 _ scale) (div-fits binary64 _ scale)

reading-fits : (u : Float) → T (fits binary64 (reading_of u))
unfolding reading_in
reading-fits u = cond-fits binary64 (within zero64 one u) (point_of quarter (u ⊗ steps)) zero64 (point-fits (u ⊗ steps)) (unfold of_bits in unfold fits in tt)

pub value-fits : (w : Waveform) (phase dt : Float) → T (fits binary64 (value_of w phase dt))
unfolding value_of square_of saw_of triangle_of pulse_of rounded_of
value-fits Sine phase dt = reading-fits phase
value-fits Square phase dt = sub-fits binary64 _ _
value-fits Sawtooth phase dt = sub-fits binary64 _ _
value-fits Triangle phase dt = sub-fits binary64 _ _
value-fits (Pulse duty) phase dt = sub-fits binary64 _ _
value-fits RoundedTriangle phase dt = sub-fits binary64 _ _

-- ---- sizes
-- in the domain of one sample the value is at most 512 in size
pub value-size : (w : Waveform) (phase dt : Float) → T (is_waveform w) → Domain phase dt → Size ceiling (value_of w phase dt)
unfolding value_of
value-size Sine phase dt s h = size_widen one ceiling (reading_of phase) (unfold of_bits in tt) (unfold of_bits in unfold le in tt) (reading-sized phase)
value-size Square phase dt s h = square-size phase dt h
value-size Sawtooth phase dt s h = saw-size phase dt h
value-size Triangle phase dt s h = triangle-size phase dt h
value-size (Pulse duty) phase dt s h = pulse-size phase dt h duty s
value-size RoundedTriangle phase dt s h = rounded-size phase dt h

-- so it is at every finite phase in radians that is not negative
pub value_at-size : (w : Waveform) (step p : Float) → T (is_waveform w) → T (fits binary64 p) → T (nonneg p) → T (within zero64 four (step ⊗ inv_tau)) → Size ceiling (value_at w step p)
value_at-size w step p c f n d =
    let u = normal_of p in
    let dt = step ⊗ inv_tau in
    value-size w u dt c
    (record { t_fits = mul-fits binary64 _ inv_tau; dt_fits = mul-fits binary64 step inv_tau; in_range = and_i (within zero64 one u) (within zero64 four dt) (normal_in p f n) d })

-- |x| ≤ b, an f64, and t from 0 to 1: |x * t| ≤ b, since b * 1 is b
pub scaled-size : (b x t : Float) → T (fits binary64 b) → Size b x → T (within zero64 one t) → Size b (x ⊗ t)
scaled-size b x t w s h = rw one_times at (size-mul binary64 b x one t s (unit_size t h) (rw one_times s.bound))
  where
    one_times : b ⊗ one ≡ b
    one_times = rw (one_of-is binary64) (times_one binary64 b w)

pub ceiling-fits : T (fits binary64 ceiling)
ceiling-fits = unfold of_bits in unfold fits in tt

-- ---- the phase of a long block
-- 2^60 and 16, in radians: a step of an accepted block is below 16
abbrev pub far : Float
far = of_bits binary64 0x43b0_0000_0000_0000

abbrev pub sixteen : Float
sixteen = of_bits binary64 0x4030_0000_0000_0000

pub record Near (p : Float) : Type 0 where
  pub p_fits : T (fits binary64 p)
  pub p_nonneg : T (nonneg p)
  pub p_le : T (le p far)

module _ (step p : Float) (s : T (nonneg step)) (l : T (le step sixteen)) (h : Near p) where
  -- 2^60 + 16 rounds to 2^60
  grown-le : (q : Float) → Near q → T (le (q ⊕ step) far)
  grown-le q n =
      fle_trans (q ⊕ step) (far ⊕ sixteen) far (add-mono binary64 q far step sixteen n.p_nonneg (unfold of_bits in tt) s (unfold of_bits in tt) n.p_le l)
      (unfold of_bits in unfold add in unfold le in tt)

  pub phase-near : (k : ℕ) → Near (phase_from step p k)
  unfolding phase_from
  phase-near = repeated_keeps (λ (q : Float). q ⊕ step) p Near grown h
    where
      grown : (q : Float) → Near q → Near (q ⊕ step)
      grown q n = record { p_fits = add-fits binary64 q step; p_nonneg = under (q ⊕ step) far (add-ge0 binary64 q step n.p_nonneg s) (unfold of_bits in tt) (grown-le q n); p_le = grown-le q n }

-- ---- samples
module _ (w : Waveform) (step scale p : Float) (c : T (is_waveform w)) (s : T (nonneg step)) (l : T (le step sixteen)) (d : T (within zero64 four (step ⊗ inv_tau))) (t : T (within zero64 one scale)) (h : Near p) where
  pub samples-finite : (i n : ℕ) → i < n → T (finite (get_or (samples_from w step scale p n) i nan))
  samples-finite i n lt =
      let q = phase_from step p i in
      let near = phase-near step p s l h i in
      rw (sample_at_lem (value_at w step) step scale p i n lt) (size-finite ceiling (value_at w step q ⊗ scale) (scaled-size ceiling (value_at w step q) scale ceiling-fits (value_at-size w step q c near.p_fits near.p_nonneg d) t))
