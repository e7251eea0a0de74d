-- The whole part of a number p from 0 to 4096: how the bits of p give it, and that p less its whole part lies from 0 to
-- 1. Assumes nothing.
use mathlib.Core.Path.{◌≡◌, refl, sym, ◌∙◌, subst}
use mathlib.Core.Bool.{Bool, true, false, not, true≢false}
use Prim.Native.Nat.{ℕ, suc, ◌+◌, ◌-◌, ◌*◌, ◌/◌, ◌%◌, ◌^◌, ◌≤◌, ◌<◌}
use native.Mathlib.Nat as nat
use native.Mathlib.Omega.{arith}
use lib.IntN.{pos}
use lib.Dec.{T, lit≤, lit<}
use lib.Pow.{pow_pos}
use lib.Ieee.{Float, nan, inf, fin, binary64, emax, low, hid, of_bits, of_int, round, sub, lt, le, fits, is_nan, to_bits}
use lib.Ieee.Fits.{and_i, and_r}
use lib.Ieee.Back.{round_whole}
use lib.Ieee.Exact.{HasValue}
use lib.Ieee.Positive.{num, den, den_pos, positive}
use Rattle.floats.specs.Range.{plus_zero, plus_one, nonneg, within}
use Rattle.floats.specs.Double.{zero64, one}
use Rattle.floats.proofs.Order.{le→cross, cross→le, lt_not_le, not-lt-le, nonneg→finite, ge0→le}
use Rattle.floats.proofs.Rounds.{Rounds, mono, sub_rounds, one_rounds}
use Rattle.floats.proofs.Ranges.{within-nonneg, ge0-positive}
use Rattle.floats.proofs.Operations.{dens_pos}
use Rattle.floats.proofs.Literals.{zero_of-is, one_of-is}
use Rattle.floats.proofs.Roof.{whole_same}
use Rattle.floats.proofs.Pattern.{fields_of, scaled}
use Rattle.floats.proofs.Fields as fields
use Rattle.sine.specs.Sine.{steps, whole_part, float}

-- ---- p less its whole part
-- a float that is the whole number n
of_whole : (y : Float) (n : ℕ) → HasValue y false n 1 → T (nonneg y) × (num y ≡ n * den y)
of_whole nan n h = absurd h
of_whole (inf t) n h = absurd h
of_whole (fin true m e) n h = absurd (true≢false h.0)
of_whole (fin false m e) n h = (tt, sym (nat.mul-one _) ∙ h.1)

-- a - n * c lies from 0 to c: so it does with each term times v, over c * v
under : (a c n v : ℕ) → n * c ≤ a → n * v * c ≤ a * v
under a c n v h = omega (arith, nat.mul-le-mul_right v h)

small : (a c n v : ℕ) → a < n * c + c → (a * v - n * v * c) * 1 ≤ 1 * (c * v)
small a c n v h = omega (arith, nat.mul-le-mul_right v (nat.le_of_lt h))

-- p is not negative, and its whole part is at most 2^53: p less its whole part lies from 0 to 1
pub part_in : (p : Float) → T (nonneg p) → whole_part p ≤ 2 ^ 53 → T (within plus_zero plus_one (sub binary64 p (float (pos (whole_part p)))))
unfolding of_int
part_in p h few = go (of_whole y n (round_whole binary64 false n few))
  where
    n : ℕ
    n = whole_part p

    y : Float
    y = round binary64 false n 1

    go : T (nonneg y) × (num y ≡ n * den y) → T (within plus_zero plus_one (sub binary64 p y))
    go k =
        let r : Rounds binary64 (sub binary64 p y) (num p * den y - num y * den p) (den p * den y) =
        sub_rounds binary64 p y h k.0 (cross→le y p k.0 h (rw k.1 (under (num p) (den p) n (den y) (nat.div-mul-le_self (num p) (den p))))) in
        and_i (le plus_zero (sub binary64 p y)) (le (sub binary64 p y) plus_one) (ge0→le (sub binary64 p y) r.sign)
        (mono binary64 _ _ _ _ _ _ r (one_rounds binary64) (dens_pos p y) (lit< tt) (rw k.1 (small (num p) (den p) n (den y) (nat.lt-div-mul-add (den_pos p)))))

-- ---- a number from 0 to 4096
module _ (p : Float) (h : T (within zero64 steps p)) where
  -- 4096 is 4096 / 1
  steps-is : (num steps ≡ 4096) × (den steps ≡ 1) × T (nonneg steps)
  unfolding of_bits
  steps-is = (refl, refl, tt)

  -- p is finite and not negative, so it is no NaN
  pub not_negative : T (nonneg p)
  not_negative = within-nonneg steps p (nonneg→finite steps steps-is.2) (rw zero_of-is at h)

  pub not-nan : T (not (is_nan p))
  unfolding is_nan
  not-nan = go p not_negative
    where
      go : (x : Float) → T (nonneg x) → T (not (is_nan x))
      go nan k = k
      go (inf s) k = tt
      go (fin s m e) k = tt

  -- p is at most 4096, and so is its whole part
  pub at_most_lem : num p ≤ 4096 * den p
  at_most_lem = nat.le_trans (nat.le_of_eq (sym (nat.mul-one (num p)))) (rw (steps-is.0, steps-is.1) at (le→cross p steps not_negative steps-is.2 (and_r (le zero64 p) (le p steps) h)))

  pub whole-at_most : whole_part p ≤ 4096
  whole-at_most = nat.le_of_suc-le-suc ((nat.div-lt_iff_lt-mul (den_pos p)).1 (room (num p) (den p) (den_pos p) at_most_lem))
    where
      room : (a c : ℕ) → 0 < c → a ≤ 4096 * c → a < 4097 * c
      room a c C l = omega arith

  -- below 1 the whole part is 0
  pub below_none : lt p one ≡ true → whole_part p ≡ 0
  below_none t = nat.div-eq_of_lt (nat.lt_of_not-le (λ (l : den p ≤ num p). lt_not_le p plus_one (subst T (sym (rw one_of-is at t)) tt) (cross→le plus_one p tt not_negative (omega (arith, l)))))

  -- ---- from 1 on
  module _ (w : T (fits binary64 p)) (t : lt p one ≡ false) where
    -- 1 ≤ p, as floats and as fractions
    from_one_lem : T (le plus_one p)
    from_one_lem = not-lt-le p plus_one (nonneg→finite p not_negative) tt (subst (λ (b : Bool). T (not b)) (sym (rw one_of-is at t)) tt)

    at_least : 1 * den p ≤ num p
    at_least = nat.le_trans (le→cross plus_one p tt not_negative from_one_lem) (nat.le_of_eq (nat.mul-one (num p)))

    above : T (positive p)
    above = ge0-positive plus_one p tt from_one_lem (nonneg→finite p not_negative)

    abbrev field : ℕ
    field = to_bits binary64 p / hid binary64

    abbrev digits : ℕ
    digits = to_bits binary64 p % hid binary64

    -- the exponent's field is that of 1 or more, and at most 1,074, so that the shift down is by 1 bit or more
    pub field_ge : emax binary64 ≤ field
    field_ge = fields.field_ge binary64 p w above 0 at_least

    pub field_le : field ≤ low binary64
    field_le = nat.le_trans (nat.le_of_lt (fields.field_lt binary64 p w above 13 (room (num p) (den p) (den_pos p) at_most_lem))) (lit≤ tt)
      where
        room : (a c : ℕ) → 0 < c → a ≤ 4096 * c → a < 8192 * c
        room a c C l = omega arith

    -- so the whole part is the digits, with the hidden bit, shifted down
    pub whole_is : (hid binary64 + digits) / 2 ^ (suc (low binary64) - field) ≡ whole_part p
    whole_is =
        sym
        (whole_same false (num p) (den p) (fields_of binary64 field digits) (2 ^ low binary64) (den_pos p) (pow_pos (low binary64)) (fields.crossed binary64 p w above)
        ∙ whole_same false (fields_of binary64 field digits) (2 ^ low binary64) (hid binary64 + digits) (2 ^ (suc (low binary64) - field)) (pow_pos (low binary64)) (pow_pos (suc (low binary64) - field))
        (scaled binary64 field digits (nat.lt_of_lt_of_le (lit< tt) field_ge) field_le))

    pub bits-at_most : (hid binary64 + digits) / 2 ^ (suc (low binary64) - field) ≤ 4096
    bits-at_most = rw whole_is whole-at_most
