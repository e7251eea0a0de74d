-- The number of a bit pattern, in units of the format's smallest value 2 ^ -low, from the exponent field and the digits
-- below it. For either format, so that both widths of `floor` use it. Assumes nothing.
use mathlib.Core.Path.{◌≡◌, sym, ap, ◌∙◌, subst}
use mathlib.Core.Bool.{Bool, true, false, cond}
use Prim.Native.Nat.{ℕ, zero, suc, ◌+◌, ◌-◌, ◌*◌, ◌/◌, ◌%◌, ◌^◌, ◌≤◌, ◌<◌}
use native.Mathlib.Nat as nat
use native.Mathlib.Omega.{arith}
use lib.Dec.{T, leb, eqb}
use lib.Pow.{pow-add, pow_pos, pow_mono}
use lib.Ieee.{Float, nan, inf, Format, prec, emax, low, hid, ones, top}
use lib.Ieee.{odd, fits, of_fields, of_bits, to_bits}
use lib.Ieee.Bits.{of_bits-to_bits}
use lib.Ieee.Exact.{HasValue, odd_sign}
use lib.Ieee.Scale.{finite}

-- the number of a pattern with a clear sign bit, from its exponent field and digits; a field of 0 has no leading digit
abbrev pub fields_of : Format → ℕ → ℕ → ℕ
fields_of f zero t = t
fields_of f (suc x) t = (hid f + t) * 2 ^ x

abbrev pub units_of : Format → ℕ → ℕ
units_of f a = fields_of f (a / hid f) (a % hid f)

-- whether the sign bit is set, and the pattern without the sign bit
abbrev pub negative : Format → ℕ → Bool
negative f b = leb (top f) b

abbrev pub size_bits : Format → Float → ℕ
size_bits f x = to_bits f x % top f

-- ---- the value of a pattern
fields_value : (f : Format) (s : Bool) (e t : ℕ) → T (finite (of_fields f s e t)) → HasValue (of_fields f s e t) s (fields_of f e t) (2 ^ low f)
unfolding of_fields
fields_value f s zero t h = subst (λ (z : ℕ). HasValue (odd (prec f) s t 0 (low f)) s z (2 ^ low f)) (nat.mul-one t) (odd_sign (prec f) s t 0 (low f))
fields_value f s (suc x) t h = go (eqb (suc x) (ones f)) (eqb t 0) h
  where
    go : (b z : Bool) → T (finite (cond b (cond z (inf s) nan) (odd (prec f) s (hid f + t) x (low f)))) → HasValue (cond b (cond z (inf s) nan) (odd (prec f) s (hid f + t) x (low f))) s ((hid f + t) * 2 ^ x) (2 ^ low f)
    go true true h = absurd h
    go true false h = absurd h
    go false z h = odd_sign (prec f) s (hid f + t) x (low f)

-- the sign bit is a multiple of the digits' weight: clearing it keeps the digits
digits_below : (f : Format) (b : ℕ) → b % hid f ≡ b % top f % hid f
digits_below f b = sym (nat.mod-mod_of_dvd (hid f) b (nat.dvd-mul_right (hid f) (suc (ones f))))

bits-value : (f : Format) (b : ℕ) → T (finite (of_bits f b)) → HasValue (of_bits f b) (negative f b) (units_of f (b % top f)) (2 ^ low f)
unfolding of_bits
bits-value f b h =
    subst (λ (t : ℕ). HasValue (of_fields f (negative f b) (b % top f / hid f) (b % hid f)) (negative f b) (fields_of f (b % top f / hid f) t) (2 ^ low f)) (digits_below f b)
    (fields_value f (negative f b) (b % top f / hid f) (b % hid f) h)

-- x is the number of its own pattern
pub value : (f : Format) (x : Float) → T (fits f x) → T (finite x) → HasValue x (negative f (to_bits f x)) (units_of f (size_bits f x)) (2 ^ low f)
value f x w h =
    let e : of_bits f (to_bits f x) ≡ x = of_bits-to_bits f x w in
    subst (λ (y : Float). HasValue y (negative f (to_bits f x)) (units_of f (size_bits f x)) (2 ^ low f)) e
    (bits-value f (to_bits f x) (subst (λ (y : Float). T (finite y)) (sym e) h))

-- ---- the exponent field
-- the exponent field of a finite value is not all ones
pub field_lt : (f : Format) (x : Float) → T (fits f x) → T (finite x) → size_bits f x / hid f < ones f
unfolding of_fields of_bits
field_lt f x w h = below (size_bits f x / hid f) (ones f) (within f (to_bits f x)) (λ (p : size_bits f x / hid f ≡ ones f). at_ones (negative f (to_bits f x)) (size_bits f x / hid f) (to_bits f x % hid f) p (subst (λ (y : Float). T (finite y)) (sym (of_bits-to_bits f x w)) h))
  where
    below : (e n : ℕ) → e ≤ n → (e ≡ n → ⊥) → e < n
    below e n h k = omega arith

    within : (f : Format) (b : ℕ) → b % top f / hid f ≤ ones f
    within f b = nat.le_of_suc-le-suc ((nat.div-lt_iff_lt-mul (pow_pos (prec f - 1))).1 (nat.lt_of_lt_of_le (nat.mod-lt b (nat.mul-pos (pow_pos (prec f - 1)) (nat.zero-lt-suc (ones f)))) (nat.le_of_eq (nat.mul_comm (hid f) (suc (ones f))))))

    at_ones : (s : Bool) (e t : ℕ) → e ≡ ones f → T (finite (of_fields f s e t)) → ⊥
    at_ones s e t p h = all_ones f s t (subst (λ (z : ℕ). T (finite (of_fields f s z t))) p h)
      where
        ends : (s z : Bool) → T (finite (cond z (inf s) nan)) → ⊥
        ends s true h = h
        ends s false h = h

        all_ones : (f : Format) (s : Bool) (t : ℕ) → T (finite (of_fields f s (ones f) t)) → ⊥
        all_ones Format.binary32 s t h = ends s (eqb t 0) h
        all_ones Format.binary64 s t h = ends s (eqb t 0) h

-- ---- numbers below 1, and numbers with a fraction
-- a pattern with the field e is below 2 ^ (prec - 1 + e) units
pub fields_lt : (f : Format) (e t : ℕ) → t < hid f → fields_of f e t < 2 ^ (prec f - 1 + e)
fields_lt f zero t h = rw (nat.add-zero (prec f - 1)) h
fields_lt f (suc y) t h = rw (pow-add 2 (prec f - 1) (suc y), nat.pow-succ' 2 y) (go (hid f) t (2 ^ y) h (pow_pos y))
  where
    go : (w t p : ℕ) → t < w → 0 < p → (w + t) * p < w * (2 * p)
    go w t p h P = omega (arith, nat.mul-lt-mul_of_pos_right h P)

-- a pattern with a field below emax is below 1
pub below_one_lem : (f : Format) (e t : ℕ) → e < emax f → t < hid f → fields_of f e t < 2 ^ low f
below_one_lem f e t h k = nat.lt_of_lt_of_le (fields_lt f e t k) (pow_mono (room f e h))
  where
    room : (f : Format) (e : ℕ) → e < emax f → prec f - 1 + e ≤ low f
    room Format.binary32 e h = omega arith
    room Format.binary64 e h = omega arith

-- a pattern that is not 0 has a number that is not 0
pub above_zero : (f : Format) (e t : ℕ) → 0 < e + t → 0 < fields_of f e t
above_zero f zero t h = omega arith
above_zero f (suc x) t h = nat.mul-pos (nat.lt_of_lt_of_le (pow_pos (prec f - 1)) (nat.le-add_right (hid f) t)) (pow_pos x)

-- for a field e from 1 to low, the number is the digits over 2 ^ (low + 1 - e)
pub scaled : (f : Format) (e t : ℕ) → 0 < e → e ≤ low f → fields_of f e t * 2 ^ (suc (low f) - e) ≡ (hid f + t) * 2 ^ low f
scaled f zero t h k = absurd (nat.lt_irrefl 0 h)
scaled f (suc x) t h k =
    nat.mul_assoc (hid f + t) (2 ^ x) (2 ^ (suc (low f) - suc x))
    ∙ ap (λ (z : ℕ). (hid f + t) * z) (sym (pow-add 2 x (suc (low f) - suc x)) ∙ ap (λ (z : ℕ). 2 ^ z) (whole (low f) x k))
  where
    whole : (l x : ℕ) → suc x ≤ l → x + (suc l - suc x) ≡ l
    whole l x k = omega arith
