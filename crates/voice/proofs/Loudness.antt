-- A velocity as a factor: 0 to 127 give 0 to 1, and no byte gives a NaN. One test over these velocities and one over
-- the 256 bytes, carried to each. Assumes nothing.
use mathlib.Core.Bool.{not, ◌&&◌}
use Prim.Native.Nat.{ℕ, ◌≤◌, ◌<◌}
use native.Mathlib.Nat.{zero-add}
use native.Mathlib.Omega.{arith}
use lib.Dec.{T}
use lib.ListN.{length}
use lib.Ieee.{Float, nan, inf, fin, binary32, binary64, of_bits, of_int, round, div, lt, le, eq, fits, is_nan}
use lib.Ieee.Fits.{and_i, div-fits, fits_widens}
use Rattle.std.specs.List.{range_with_len}
use Rattle.std.proofs.lemmas.List.FromFn.{get_or-range_with_len, length-range_with_len}
use Rattle.floats.specs.Range.{zero_of}
use Rattle.floats.proofs.Carried.{every, at}
use Rattle.voice.specs.Voice.{velocity_of, is_loud}

all_loud : T (every (λ i v. is_loud (velocity_of v)) 0 (range_with_len 0 128))
unfolding velocity_of of_int of_bits div le lt eq round
all_loud = tt

pub velocity_in_lem : (v : ℕ) → v ≤ 127 → T (is_loud (velocity_of v))
velocity_in_lem v h =
    let few : v < length (range_with_len 0 128) = rw length-range_with_len (omega arith) in
    rw (get_or-range_with_len 0 128 v 0 (omega arith), zero-add) at (at (λ i v. is_loud (velocity_of v)) (range_with_len 0 128) all_loud v few)

all_least : T (every (λ i v. le (zero_of binary32) (velocity_of v)) 0 (range_with_len 0 256))
unfolding velocity_of of_int of_bits div le lt eq round
all_least = tt

-- a number that is at least 0 is no NaN
no_nan : (x : Float) → T (le (zero_of binary32) x) → T (not (is_nan x))
unfolding of_bits le lt eq is_nan
no_nan nan h = h
no_nan (inf s) h = tt
no_nan (fin s m e) h = tt

module _ (v : ℕ) (h : v < 256) where
  least : T (le (zero_of binary32) (velocity_of v))
  least =
      let few : v < length (range_with_len 0 256) = rw length-range_with_len h in
      rw (get_or-range_with_len 0 256 v 0 h, zero-add) at (at (λ i v. le (zero_of binary32) (velocity_of v)) (range_with_len 0 256) all_least v few)

  -- the cast to an f64 loses nothing
  pub velocity_widens : T (fits binary64 (velocity_of v) && not (is_nan (velocity_of v)))
  unfolding velocity_of
  velocity_widens = and_i (fits binary64 (velocity_of v)) (not (is_nan (velocity_of v))) (fits_widens (velocity_of v) (div-fits binary32 _ _)) (no_nan (velocity_of v) least)
