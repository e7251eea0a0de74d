-- What the tests of `floor_f32` and `floor_by_bits` on the bits of x show of its floor, for either format: one law for
-- each return of these functions. Assumes nothing.
use mathlib.Core.Path.{◌≡◌, refl, sym, ap, ◌∙◌, subst}
use mathlib.Core.Bool.{Bool, true, false, not, true≢false}
use Prim.Native.Nat.{ℕ, suc, ◌+◌, ◌-◌, ◌*◌, ◌/◌, ◌%◌, ◌^◌, ◌≤◌, ◌<◌}
use native.Mathlib.Nat as nat
use native.Mathlib.Omega.{arith}
use lib.Dec.{T, lit≤}
use lib.Pow.{pow_pos}
use lib.Ieee.{Float, nan, inf, fin, Format, prec, emax, low, hid, ones}
use lib.Ieee.{round, neg, ne, fits, is_nan, of_bits, to_bits}
use lib.Ieee.Compare.{differs_from_itself, nan_differs}
use lib.Ieee.Exact.{HasValue}
use lib.Ieee.Scale.{finite}
use Rattle.floats.specs.Floor.{floor_of, whole_of}
use Rattle.floats.proofs.Pattern.{units_of, negative, size_bits, value, field_lt, below_one_lem, above_zero}
use Rattle.floats.proofs.Floors.{floor_zero, floor_large, floor_small, floor_middle}

-- ---- x != x
pub no_nan : (x : Float) → ne x x ≡ false → T (not (is_nan x))
unfolding is_nan
no_nan nan h = absurd (true≢false (sym nan_differs ∙ h))
no_nan (inf s) h = tt
no_nan (fin s m e) h = tt

pub floor_nan : (f : Format) (x : Float) → ne x x ≡ true → x ≡ floor_of f x
unfolding floor_of
floor_nan f x h = rw (differs_from_itself x (subst T (sym h) tt)) refl

-- an infinity or a NaN is its own floor: what remains is a finite x
unless-finite : (f : Format) (x : Float) → (T (finite x) → x ≡ floor_of f x) → x ≡ floor_of f x
unfolding floor_of
unless-finite f nan h = refl
unless-finite f (inf s) h = refl
unless-finite f (fin s m e) h = h tt

-- the pattern is below that of an infinity: x is finite
size-finite : (f : Format) (x : Float) → size_bits f x < ones f * hid f → T (finite x)
unfolding to_bits
size-finite Format.binary32 nan h = absurd (nat.not-le_of_lt h (lit≤ tt))
size-finite Format.binary64 nan h = absurd (nat.not-le_of_lt h (lit≤ tt))
size-finite Format.binary32 (inf true) h = absurd (nat.not-le_of_lt h (lit≤ tt))
size-finite Format.binary32 (inf false) h = absurd (nat.not-le_of_lt h (lit≤ tt))
size-finite Format.binary64 (inf true) h = absurd (nat.not-le_of_lt h (lit≤ tt))
size-finite Format.binary64 (inf false) h = absurd (nat.not-le_of_lt h (lit≤ tt))
size-finite f (fin s m e) h = tt

low-under-ones : (f : Format) → suc (low f) * hid f ≤ ones f * hid f
low-under-ones Format.binary32 = lit≤ tt
low-under-ones Format.binary64 = lit≤ tt

-- ---- the size of the pattern
module _ (f : Format) (x : Float) (w : T (fits f x)) where
  digits_lt : size_bits f x % hid f < hid f
  digits_lt = nat.mod-lt (size_bits f x) (pow_pos (prec f - 1))

  field_ge : (k : ℕ) → k * hid f ≤ size_bits f x → k ≤ size_bits f x / hid f
  field_ge k h = (nat.le-div_iff_mul-le (pow_pos (prec f - 1))).1 h

  field_less : (k : ℕ) → size_bits f x < k * hid f → size_bits f x / hid f < k
  field_less k h = (nat.div-lt_iff_lt-mul (pow_pos (prec f - 1))).1 h

  -- x has the sign that the test found
  known : (s : Bool) → negative f (to_bits f x) ≡ s → T (finite x) → HasValue x s (units_of f (size_bits f x)) (2 ^ low f)
  known s e h = subst (λ (z : Bool). HasValue x z (units_of f (size_bits f x)) (2 ^ low f)) e (value f x w h)

  -- the last digit counts 1 or more: x has no fraction
  pub returns_large : suc (low f) * hid f ≤ size_bits f x → x ≡ floor_of f x
  returns_large l =
      unless-finite f x
      (λ (h : T (finite x)). floor_large f x (negative f (to_bits f x)) (size_bits f x / hid f) (size_bits f x % hid f) w (value f x w h) (field_ge (suc (low f)) l) (field_lt f x w h) digits_lt)

  pub returns_zero : size_bits f x ≡ 0 → x ≡ floor_of f x
  returns_zero z =
      unless-finite f x
      (λ (h : T (finite x)). floor_zero f x (negative f (to_bits f x)) w (subst (λ (a : ℕ). HasValue x (negative f (to_bits f x)) a (2 ^ low f)) (ap (units_of f) z ∙ none f) (value f x w h)))
    where
      none : (f : Format) → units_of f 0 ≡ 0
      none Format.binary32 = refl
      none Format.binary64 = refl

  -- 0 < |x| < 1
  pub returns_small : (s : Bool) → negative f (to_bits f x) ≡ s → (size_bits f x ≡ 0 → ⊥) → size_bits f x < emax f * hid f → round f s (whole_of s 1 2) 1 ≡ floor_of f x
  returns_small s e n l =
      sym (floor_small f x s (units_of f (size_bits f x)) (known s e (size-finite f x (nat.lt_of_lt_of_le l (under f))))
      (above_zero f (size_bits f x / hid f) (size_bits f x % hid f) (some f (size_bits f x) n))
      (below_one_lem f (size_bits f x / hid f) (size_bits f x % hid f) (field_less (emax f) l) digits_lt))
    where
      under : (f : Format) → emax f * hid f ≤ ones f * hid f
      under Format.binary32 = lit≤ tt
      under Format.binary64 = lit≤ tt

      some : (f : Format) (a : ℕ) → (a ≡ 0 → ⊥) → 0 < a / hid f + a % hid f
      some Format.binary32 a n = omega arith
      some Format.binary64 a n = omega arith

  -- |x| ≥ 1, with a fraction: n is the whole part of the digits over 2 ^ (low + 1 - field)
  pub returns_middle : (s : Bool) (n : ℕ) → negative f (to_bits f x) ≡ s → emax f * hid f ≤ size_bits f x → size_bits f x < suc (low f) * hid f
      → n ≡ whole_of (negative f (to_bits f x)) (hid f + size_bits f x % hid f) (2 ^ (suc (low f) - size_bits f x / hid f)) → round f s n 1 ≡ floor_of f x
  returns_middle s n e g l is =
      ap (λ (k : ℕ). round f s k 1) (is ∙ ap (λ (z : Bool). whole_of z (hid f + size_bits f x % hid f) (2 ^ (suc (low f) - size_bits f x / hid f))) e)
      ∙ sym (floor_middle f x s (size_bits f x / hid f) (size_bits f x % hid f) (known s e (size-finite f x (nat.lt_of_lt_of_le l (low-under-ones f))))
      (nat.lt_of_lt_of_le (some f) (field_ge (emax f) g)) (nat.le_of_suc-le-suc (field_less (suc (low f)) l)))
    where
      some : (f : Format) → 0 < emax f
      some Format.binary32 = lit≤ tt
      some Format.binary64 = lit≤ tt

-- ---- the literals 0.0 and -1.0 of the code
pub plus_zero-is : (f : Format) → of_bits f 0 ≡ round f false 0 1
unfolding of_bits round
plus_zero-is Format.binary32 = refl
plus_zero-is Format.binary64 = refl

pub minus_one_is : (f : Format) → neg (of_bits f (emax f * hid f)) ≡ round f true 1 1
unfolding of_bits round neg
minus_one_is Format.binary32 = refl
minus_one_is Format.binary64 = refl
