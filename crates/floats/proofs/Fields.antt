-- A positive number by its pattern: the sign bit is clear, the pattern's number is x, and the exponent field tells
-- between which powers of two x lies. For either format. Assumes nothing.
use mathlib.Core.Path.{◌≡◌, sym, ap, ◌∙◌}
use mathlib.Core.Bool.{Bool, true, false}
use Prim.Native.Nat.{ℕ, zero, suc, ◌+◌, ◌-◌, ◌*◌, ◌/◌, ◌%◌, ◌^◌, ◌≤◌, ◌<◌}
use native.Mathlib.Nat as nat
use native.Mathlib.Omega.{arith}
use lib.Dec.{T}
use lib.Pow.{pow-add, pow_pos, pow_mono}
use lib.Ieee.{Float, nan, inf, fin, Format, prec, emax, low, hid, top, fits, to_bits}
use lib.Ieee.Exact.{HasValue}
use lib.Ieee.Positive.{num, den, den_pos, positive, positive-finite, value→cross}
use borrow.Author.Tests.{leb-false}
use Rattle.floats.proofs.Pattern.{fields_of, units_of, negative, value, fields_lt}

-- ---- the least number of an exponent field
fields_ge : (f : Format) (e t y : ℕ) → suc y ≤ e → 2 ^ (prec f - 1 + y) ≤ fields_of f e t
fields_ge f zero t y h = absurd (nat.not-suc-le-zero h)
fields_ge f (suc e) t y h = rw (pow-add 2 (prec f - 1) y) (nat.mul-le-mul (nat.le-add_right (hid f) t) (pow_mono (nat.le_of_suc-le-suc h)))

-- ---- a positive number
module _ (f : Format) (x : Float) (w : T (fits f x)) (p : T (positive x)) where
  abbrev bits : ℕ
  bits = to_bits f x

  abbrev field : ℕ
  field = bits / hid f

  abbrev units : ℕ
  units = fields_of f field (bits % hid f)

  found : HasValue x (negative f bits) (units_of f (bits % top f)) (2 ^ low f)
  found = value f x w (positive-finite x p)

  clear : negative f bits ≡ false
  clear = go x (negative f bits) (units_of f (bits % top f)) (2 ^ low f) p found
    where
      go : (x : Float) (s : Bool) (a c : ℕ) → T (positive x) → HasValue x s a c → s ≡ false
      go nan s a c p h = absurd p
      go (inf t) s a c p h = absurd p
      go (fin true m e) s a c p h = absurd p
      go (fin false m e) s a c p h = sym h.0

  plain : bits % top f ≡ bits
  plain = nat.mod-eq_of_lt (leb-false (top f) bits clear)

  -- x is the number of its exponent field and digits
  pub crossed : num x * 2 ^ low f ≡ fields_of f (to_bits f x / hid f) (to_bits f x % hid f) * den x
  crossed = value→cross x units (2 ^ low f) (rw (plain, clear) at found)

  -- 2 ^ k ≤ x: the field is at least emax + k
  pub field_ge : (k : ℕ) → 2 ^ k * den x ≤ num x → emax f + k ≤ to_bits f x / hid f
  field_ge k h =
      nat.le_of_suc-le-suc (nat.lt_of_not-le (λ (l : suc field ≤ emax f + k).
      small (num x) (den x) units (2 ^ low f) (2 ^ k) (den_pos x) crossed
      (nat.lt_of_lt_of_le (fields_lt f field (bits % hid f) (nat.mod-lt bits (pow_pos (prec f - 1)))) (nat.le_trans (pow_mono (room f field k l)) (nat.le_of_eq (pow-add 2 (low f) k)))) h))
    where
      room : (f : Format) (e k : ℕ) → suc e ≤ emax f + k → prec f - 1 + e ≤ low f + k
      room Format.binary32 e k l = omega arith
      room Format.binary64 e k l = omega arith

      small : (a c u l q : ℕ) → 0 < c → a * l ≡ u * c → u < l * q → q * c ≤ a → ⊥
      small a c u l q C e h k = omega (arith, nat.mul-lt-mul_of_pos_right h C, nat.mul-le-mul_right l k)

  -- x < 2 ^ k: the field is below emax + k
  pub field_lt : (k : ℕ) → num x < 2 ^ k * den x → to_bits f x / hid f < emax f + k
  field_lt k h =
      nat.lt_of_not-le (λ (l : emax f + k ≤ field).
      large (num x) (den x) units (2 ^ low f) (2 ^ k) (pow_pos (low f)) crossed
      (nat.le_trans (nat.le_of_eq (sym (pow-add 2 (low f) k) ∙ ap (λ (z : ℕ). 2 ^ z) (room f k))) (fields_ge f field (bits % hid f) (emax f - 1 + k) (nat.le_trans (nat.le_of_eq (step f k)) l))) h)
    where
      step : (f : Format) (k : ℕ) → suc (emax f - 1 + k) ≡ emax f + k
      step Format.binary32 k = omega arith
      step Format.binary64 k = omega arith

      room : (f : Format) (k : ℕ) → low f + k ≡ prec f - 1 + (emax f - 1 + k)
      room Format.binary32 k = omega arith
      room Format.binary64 k = omega arith

      large : (a c u l q : ℕ) → 0 < l → a * l ≡ u * c → l * q ≤ u → a < q * c → ⊥
      large a c u l q L e h k = omega (arith, nat.mul-le-mul_right c h, nat.mul-lt-mul_of_pos_right k L)
