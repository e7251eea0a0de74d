-- A reading lies from -1 to 1, as 01 says: "proved between -1 and 1". 01's a and b are whole numbers from -2^30 to 2^30
-- with an exact difference, so a + (b - a)*f lies from -2^30 to 2^30, and its quotient by 2^30 from -1 to 1. Assumes
-- nothing.
use mathlib.Core.Path.{◌≡◌, refl, sym, subst}
use mathlib.Core.Bool.{Bool, true, false}
use Prim.Native.Nat.{ℕ, zero, suc, ◌/◌, ◌%◌, ◌^◌, ◌≤◌}
use native.Mathlib.Nat.{le_of_eq, le_trans}
use borrow.Author.Tests.{ltb-true, ltb-false, eqb-true, eqb-false}
use lib.IntN.{ℤ, pos}
use lib.Dec.{T, ltb, eqb, lit≤}
use lib.ListN.{get_or-eq_default}
use lib.Ieee.{Float, binary64, of_bits, neg, lt, eq, le}
use lib.Ieee.Fits.{and_r}
use lib.Ieee.Scale.{finite}
use lib.Ieee.Positive.{positive}
use Rattle.floats.specs.Range.{plus_zero, plus_one, within}
use Rattle.floats.specs.Double.{◌⊕◌, ◌⊖◌, ◌⊗◌, zero64, one}
use Rattle.floats.proofs.Ranges.{within-nonneg}
use Rattle.floats.proofs.Bounded.{Size, size-div, size-finite}
use Rattle.floats.proofs.Literals.{one_of-is}
use Rattle.floats.proofs.Interpolation.{lerp_in}
use Rattle.sine.specs.Table.{quarter, entry_of}
use Rattle.sine.specs.Sine.{scale, whole_part, float, start_of, end_of, line_of, between_of, point_of, reading_of, steps}
use Rattle.sine.proofs.Rules.{entry_in, count}
use Rattle.sine.proofs.Wholes.{Sized, sized-neg, sized_more, fraction, sub-finite, sub-exact, float_in, scale-is, minus_is, scale-fits, minus-fits}
use Rattle.sine.proofs.Parts.{not_negative, whole-at_most, part_in}
use Rattle.sine.proofs.Points.{reading-inside, reading-outside, point-last, point_at, points_in}

-- no entry is above 2^30; past the end of the table it is 0
entry_small : (k : ℕ) → entry_of k ≤ 2 ^ 30
entry_small k = go (ltb k 1025) refl
  where
    go : (t : Bool) → ltb k 1025 ≡ t → entry_of k ≤ 2 ^ 30
    go true e = entry_in k (ltb-true k 1025 e)
    go false e = le_trans (le_of_eq (get_or-eq_default quarter 0 (rw count (ltb-false k 1025 e)))) (lit≤ tt)

-- 01's a and b are at most 2^30 in size
pub start_sized : (q j : ℕ) → Sized (2 ^ 30) (start_of quarter q j)
unfolding start_of
start_sized zero j = record { up = entry_small _; down = lit≤ tt }
start_sized (suc zero) j = record { up = entry_small _; down = lit≤ tt }
start_sized (suc (suc q)) j = sized-neg (2 ^ 30) (start_of quarter q j) (start_sized q j)

end_sized : (q j : ℕ) → Sized (2 ^ 30) (end_of quarter q j)
unfolding end_of
end_sized zero j = record { up = entry_small _; down = lit≤ tt }
end_sized (suc zero) j = record { up = entry_small _; down = lit≤ tt }
end_sized (suc (suc q)) j = sized-neg (2 ^ 30) (end_of quarter q j) (end_sized q j)

-- ---- literals
scale-positive : T (positive scale)
unfolding of_bits
scale-positive = tt

zero_in : T (within plus_zero plus_one zero64)
unfolding of_bits lt eq le
zero_in = tt

zero-within : T (within (neg one) one zero64)
unfolding of_bits neg lt eq le
zero-within = tt

one-finite : T (finite one)
unfolding of_bits
one-finite = tt

-- ---- the reading
-- from -1 to 1
abbrev Within1 : Float → Type 0
Within1 x = T (within (neg one) one x)

-- between any two whole numbers of at most 2^30 in size
line_in : (a b : ℤ) (f : Float) → Sized (2 ^ 30) a → Sized (2 ^ 30) b → T (within plus_zero plus_one f) → Within1 (line_of (float a) (float b) f)
line_in a b f sa sb h =
    rw one_of-is
    (size-div binary64 (float a ⊕ (float b ⊖ float a) ⊗ f) scale scale-positive
    (record {
      bound = scale-is.ends;
      between =
          lerp_in binary64 (float a) (float b) f (neg scale) scale (ends a sa) (ends b sb) (sub-finite a b (more a sa) (more b sb)) (sub-exact a b (more a sa) (more b sb))
          (within-nonneg plus_one f tt h) (and_r (le plus_zero f) (le f plus_one) h) minus-fits minus_is.ends scale-fits scale-is.ends (float_in a sa) (float_in b sb);
    })).between
  where
    more : (z : ℤ) → Sized (2 ^ 30) z → Sized (2 ^ 51) z
    more z s = sized_more (2 ^ 30) (2 ^ 51) z (lit≤ tt) s

    ends : (z : ℤ) → Sized (2 ^ 30) z → T (finite (float z))
    ends z s = (fraction z (sized_more (2 ^ 30) (2 ^ 53) z (lit≤ tt) s)).ends

-- between point i of the wave and the next
between_in : (i : ℕ) (f : Float) → T (within plus_zero plus_one f) → Within1 (between_of quarter i f)
between_in i f h =
    line_in (start_of quarter (i / 1024) (i % 1024)) (end_of quarter (i / 1024) (i % 1024)) f (start_sized (i / 1024) (i % 1024)) (end_sized (i / 1024) (i % 1024)) h

-- at p points from the start of the wave
point_in : (p : Float) → T (within zero64 steps p) → Within1 (point_of quarter p)
point_in p h = go (eqb (whole_part p) 4096) refl
  where
    go : (t : Bool) → eqb (whole_part p) 4096 ≡ t → Within1 (point_of quarter p)
    go true e = rw (point-last quarter p (eqb-true (whole_part p) 4096 e)) (between_in 0 zero64 zero_in)
    go false e =
        rw (point_at quarter p (whole_part p) refl (eqb-false (whole_part p) 4096 e))
        (between_in (whole_part p) (p ⊖ float (pos (whole_part p))) (part_in p (not_negative p h) (le_trans (whole-at_most p h) (lit≤ tt))))

-- at every float u: outside 0 to 1 the reading is +0
pub reading-within : (u : Float) → T (within (neg one) one (reading_of u))
reading-within u = go (within zero64 one u) refl
  where
    go : (t : Bool) → within zero64 one u ≡ t → Within1 (reading_of u)
    go true e = rw (reading-inside quarter u e) (point_in (u ⊗ steps) (points_in u (subst T (sym e) tt)))
    go false e = rw (reading-outside quarter u e) zero-within

-- so a reading is at most 1 in size, and finite
pub reading-sized : (u : Float) → Size one (reading_of u)
reading-sized u = record { bound = one-finite; between = reading-within u }

pub reading-finite : (u : Float) → T (finite (reading_of u))
reading-finite u = size-finite one (reading_of u) (reading-sized u)
