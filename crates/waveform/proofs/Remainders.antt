-- phase % TAU without a remainder of floats: below TAU it is the phase, below 2 TAU the phase less TAU, and from TAU up
-- a remainder of integers, as TAU and the phase, read from its bits, are whole multiples of 2^-50; a negative phase has
-- the remainder of its size, with its sign. Assumes nothing.
use mathlib.Core.Path.{◌≡◌, refl, sym, subst, ap, ◌∙◌}
use mathlib.Core.Bool.{Bool, true, false, not, ◌&&◌, true≢false}
use Prim.Native.Nat.{ℕ, zero, suc, ◌+◌, ◌-◌, ◌*◌, ◌/◌, ◌%◌, ◌^◌, ◌≤◌, ◌<◌}
use native.Mathlib.Nat as nat
use native.Mathlib.Omega.{arith}
use lib.IntN.{pos}
use lib.Dec.{T, lit<, lit≤, le→leb}
use lib.Pow.{pow-add, pow_pos, pow_mono}
use lib.Ieee.{Float, nan, inf, fin, binary64, of_bits, of_int, in_float, to_bits, is_nan, sub, add, neg, rem, lt, le, fits}
use lib.Ieee.Fits.{and_l, and_r}
use lib.Ieee.Scale.{finite}
use lib.Ieee.Positive.{num, den, positive}
use Rattle.floats.specs.Range.{plus_zero, ge0, nonneg}
use Rattle.floats.specs.Double.{◌⊖◌, ◌⊘◌, zero64}
use Rattle.floats.proofs.Literals.{zero_of-is}
use Rattle.floats.proofs.Order.{fle_trans, le→ge0, le→cross, cross→le, under, lt-le, lt_not_le, not-lt-le, finite-not-nan, between-finite, nonneg→finite, positive-nonneg}
use Rattle.floats.proofs.Ranges.{ge0-positive}
use Rattle.floats.proofs.Operations.{rem_is}
use Rattle.floats.proofs.Signed.{neg-round, neg-neg, neg-order, finite-neg}
use Rattle.floats.proofs.Pattern.{fields_of}
use Rattle.floats.proofs.Fields.{crossed, field_ge, field_lt}
use Rattle.floats.proofs.Units.{rem_below, rem_once, rem-units}
use Rattle.waveform.specs.Waveform.{tau, two_tau}
use Rattle.waveform.proofs.Normal.{tau-positive, tau-nonneg}

-- 2^14, and 2^50
abbrev pub far : Float
far = of_bits binary64 0x40d0_0000_0000_0000

abbrev unit : Float
unit = of_bits binary64 0x4310_0000_0000_0000

far-nonneg : T (nonneg far)
far-nonneg = unfold of_bits in tt

far-is : (num far ≡ 16384) × (den far ≡ 1)
far-is = unfold of_bits in (refl, refl)

tau-is : (num tau ≡ 884279719003555) × (den tau ≡ 140737488355328)
tau-is = unfold of_bits in (refl, refl)

two_tau-is : (num two_tau ≡ 884279719003555) × (den two_tau ≡ 70368744177664)
two_tau-is = unfold of_bits in (refl, refl)

-- ---- from TAU up
module _ (x : Float) (w : T (fits binary64 x)) (h : T (le tau x)) (x_finite : T (finite x)) where
  x_positive : T (positive x)
  x_positive = ge0-positive tau x tau-positive h x_finite

  x_nonneg : T (nonneg x)
  x_nonneg = positive-nonneg x x_positive

  pub not-nan : T (not (is_nan x))
  not-nan = finite-not-nan x x_finite

  abbrev pub field : ℕ
  field = to_bits binary64 x / 4503599627370496

  abbrev pub digits : ℕ
  digits = 4503599627370496 + to_bits binary64 x % 4503599627370496

  -- the exponent's field is that of a number from 4 up
  pub field_least : 1025 ≤ field
  field_least = field_ge binary64 x w x_positive 2 (four (num x) (den x) (rw (tau-is.0, tau-is.1) at (le→cross tau x tau-nonneg x_nonneg h)))
    where
      four : (a c : ℕ) → 884279719003555 * c ≤ a * 140737488355328 → 4 * c ≤ a
      four a c h = omega arith

  -- the shifted digits are x in units of 2^-50
  pub units_are : num x * 2 ^ 50 ≡ digits * 2 ^ (field - 1025) * den x
  units_are = go field (to_bits binary64 x % 4503599627370496) (num x) (den x) field_least (crossed binary64 x w x_positive)
    where
      turn : (a d c p q r s u : ℕ) → r ≡ p * u → s ≡ q * u → a * r ≡ d * s * c → a * p * u ≡ d * q * c * u
      turn a d c p q r s u e g h = omega (arith, ap (λ (z : ℕ). a * z) e, ap (λ (z : ℕ). d * c * z) g)

      go : (e t a c : ℕ) → 1025 ≤ e → a * 2 ^ 1074 ≡ fields_of binary64 e t * c → a * 2 ^ 50 ≡ (4503599627370496 + t) * 2 ^ (e - 1025) * c
      go zero t a c h k = absurd (nat.not-suc-le-zero h)
      go (suc y) t a c h k =
          nat.eq_of_mul-eq-mul_right (2 ^ 1024) (pow_pos 1024) (a * 2 ^ 50) ((4503599627370496 + t) * 2 ^ (suc y - 1025) * c)
          (turn a (4503599627370496 + t) c (2 ^ 50) (2 ^ (suc y - 1025)) (2 ^ 1074) (2 ^ y) (2 ^ 1024) (pow-add 2 50 1024) (ap (λ (z : ℕ). 2 ^ z) (whole y h) ∙ pow-add 2 (suc y - 1025) 1024) k)
        where
          whole : (y : ℕ) → 1025 ≤ suc y → y ≡ suc y - 1025 + 1024
          whole y h = omega arith

-- ---- from TAU up to 2^14
module _ (x : Float) (w : T (fits binary64 x)) (h : T (le tau x)) (l : T (lt x far)) where
  pub near-finite : T (finite x)
  near-finite = between-finite tau x far (nonneg→finite tau tau-nonneg) (nonneg→finite far far-nonneg) h (lt-le x far l)

  -- the exponent's field is that of a number below 2^14
  pub field_most : field x w h near-finite < 1037
  field_most = field_lt binary64 x w (x_positive x w h near-finite) 14 (top (num x) (den x) (rw (far-is.0, far-is.1) at (nat.lt_of_not-le (λ (g : num far * den x ≤ num x * den far). lt_not_le x far l (cross→le far x far-nonneg (x_nonneg x w h near-finite) g)))))
    where
      top : (a c : ℕ) → a * 1 < 16384 * c → a < 16384 * c
      top a c h = omega arith

  -- so the digits, shifted up, are below 2^64
  pub shifted : digits x w h near-finite * 2 ^ (field x w h near-finite - 1025) < 18446744073709551616
  shifted = room (digits x w h near-finite) (2 ^ (field x w h near-finite - 1025)) (omega arith) (pow_pos (field x w h near-finite - 1025)) (pow_mono {j = 11} (omega (arith, field_most)))
    where
      room : (d p : ℕ) → d < 9007199254740992 → 0 < p → p ≤ 2048 → d * p < 18446744073709551616
      room d p h P k = omega (arith, nat.mul-lt-mul_of_pos_right h P)

-- ---- what the tests of `remainder` show
module _ (x : Float) (t : (le zero64 x && lt x far) ≡ true) where
  below-far : T (lt x far)
  below-far = and_r (le zero64 x) (lt x far) (subst T (sym t) tt)

  phase-nonneg : T (nonneg x)
  phase-nonneg = under x far (le→ge0 x (rw zero_of-is at (and_l (le zero64 x) (lt x far) (subst T (sym t) tt)))) (nonneg→finite far far-nonneg) (lt-le x far below-far)

  -- a phase below TAU is its own remainder
  pub below-tau : T (fits binary64 x) → lt x tau ≡ true → x ≡ rem binary64 x tau
  below-tau w l = sym (rem_below binary64 x tau w phase-nonneg tau-positive (subst T (sym l) tt))

  -- a phase that is not below TAU lies from TAU up to 2^14
  pub from-tau : lt x tau ≡ false → T (le tau x) × T (lt x far)
  from-tau l = (not-lt-le x tau (nonneg→finite x phase-nonneg) (nonneg→finite tau tau-nonneg) (subst (λ (b : Bool). T (not b)) (sym l) tt), below-far)

  x_above : lt x tau ≡ false → T (positive x)
  x_above l = ge0-positive tau x tau-positive (from-tau l).0 (nonneg→finite x phase-nonneg)

  -- the remainder of a phase from TAU up to 2 TAU is the phase less TAU
  pub next_cycle : lt x tau ≡ false → lt x two_tau ≡ true → x ⊖ tau ≡ rem binary64 x tau
  next_cycle l k =
      rem_once binary64 x tau (x_above l) tau-positive (le→cross tau x tau-nonneg phase-nonneg (from-tau l).0)
      (twice (num x) (den x) (rw (two_tau-is.0, two_tau-is.1) at (nat.lt_of_not-le (λ (g : num two_tau * den x ≤ num x * den two_tau). lt_not_le x two_tau (subst T (sym k) tt) (cross→le two_tau x (unfold of_bits in tt) phase-nonneg g)))))
    where
      twice : (a c : ℕ) → a * 70368744177664 < 884279719003555 * c → a * den tau < num tau * c + num tau * c
      twice a c h = rw (tau-is.0, tau-is.1) (omega arith)

  pub remainder_is : (n : ℕ) → lt x tau ≡ false → num x * 2 ^ 50 ≡ n * den x → of_int binary64 (pos (n % 0x19_21fb_5444_2d18)) ⊘ unit ≡ rem binary64 x tau
  remainder_is n l e =
      rem-units binary64 x tau unit n 0x19_21fb_5444_2d18 (2 ^ 50) (x_above l) tau-positive (unfold of_bits in tt) e (rw (tau-is.0, tau-is.1) refl)
      (unfold of_bits in refl) (nat.le_trans (nat.le_of_lt (nat.mod-lt n (lit< tt))) (lit≤ tt))

-- ---- a phase that is negative, 2^14 or more, or no number
-- what is no number has no remainder
pub none_left : (x : Float) → finite x ≡ false → x ⊖ x ≡ rem binary64 x tau
unfolding sub add neg rem
none_left nan e = refl
none_left (inf true) e = refl
none_left (inf false) e = refl
none_left (fin s m e) h = absurd (true≢false h)

-- the remainder of -x is that of x, negated
neg-rem : (x : Float) → T (finite x) → rem binary64 (neg x) tau ≡ neg (rem binary64 x tau)
unfolding neg
neg-rem nan p = elim p [ ]
neg-rem (inf s) p = elim p [ ]
neg-rem (fin s m e) p = rw (rem_is binary64 (fin (not s) m e) tau tt tau-positive, rem_is binary64 (fin s m e) tau tt tau-positive) (sym (neg-round binary64 s _ _))

pub negated : (x r : Float) → T (finite x) → r ≡ rem binary64 (neg x) tau → neg r ≡ rem binary64 x tau
negated x r p e = ap neg (e ∙ neg-rem x p) ∙ neg-neg (rem binary64 x tau)

-- a finite number that is not below 0, or the negative of one that is
ge0-finite : (x : Float) → T (ge0 x) → T (finite x) → T (nonneg x)
ge0-finite nan h p = elim p [ ]
ge0-finite (inf s) h p = elim p [ ]
ge0-finite (fin true m e) h p = h
ge0-finite (fin false m e) h p = tt

pub above : (x : Float) → T (finite x) → lt x zero64 ≡ false → T (nonneg x)
above x p e = ge0-finite x (le→ge0 x (rw zero_of-is at (not-lt-le x zero64 p (unfold of_bits in tt) (subst (λ (b : Bool). T (not b)) (sym e) tt)))) p

pub below : (x : Float) → T (finite x) → lt x zero64 ≡ true → T (nonneg (neg x))
below x p e = ge0-finite (neg x) (le→ge0 (neg x) (fle_trans plus_zero (neg plus_zero) (neg x) (unfold neg in unfold le in tt) (neg-order x plus_zero (lt-le x plus_zero (rw zero_of-is at (subst T (sym e) tt)))))) (finite-neg x p)

module _ (x : Float) (p : T (nonneg x)) where
  -- below TAU it is its own remainder
  pub own : T (fits binary64 x) → lt x tau ≡ true → x ≡ rem binary64 x tau
  own w l = sym (rem_below binary64 x tau w p tau-positive (subst T (sym l) tt))

  pub not-below : lt x tau ≡ false → T (le tau x)
  not-below l = not-lt-le x tau (nonneg→finite x p) (nonneg→finite tau tau-nonneg) (subst (λ (b : Bool). T (not b)) (sym l) tt)

  -- and from TAU up the remainder of its units
  pub left_over : (n : ℕ) → lt x tau ≡ false → num x * 2 ^ 50 ≡ n * den x → of_int binary64 (pos (n % 0x19_21fb_5444_2d18)) ⊘ unit ≡ rem binary64 x tau
  left_over n l e =
      rem-units binary64 x tau unit n 0x19_21fb_5444_2d18 (2 ^ 50) (ge0-positive tau x tau-positive (not-below l) (nonneg→finite x p)) tau-positive (unfold of_bits in tt) e (rw (tau-is.0, tau-is.1) refl)
      (unfold of_bits in refl) (nat.le_trans (nat.le_of_lt (nat.mod-lt n (lit< tt))) (lit≤ tt))

-- a remainder by TAU * 2^50 is below 2^53, so it is exact as an f64
pub few : (n : ℕ) → T (in_float binary64 (pos (n % 0x19_21fb_5444_2d18)))
unfolding in_float
few n = le→leb (n % 0x19_21fb_5444_2d18) 9007199254740992 (omega arith)

-- digits doubled once more, and the remainder with them
pub doubled_once : (d k r : ℕ) → 1025 ≤ k → r ≡ d * 2 ^ (k - 1025) % 0x19_21fb_5444_2d18 → r * 2 % 0x19_21fb_5444_2d18 ≡ d * 2 ^ (k + 1 - 1025) % 0x19_21fb_5444_2d18
doubled_once d k r h e =
    let next : k + 1 - 1025 ≡ suc (k - 1025) = omega arith in
    rw (e, next) (mod_twice (d * 2 ^ (k - 1025)) (d * 2 ^ suc (k - 1025)) (doubles d (k - 1025)))
  where
    doubles : (d j : ℕ) → d * 2 ^ suc j ≡ d * 2 ^ j * 2
    doubles d j = ap (λ (z : ℕ). d * z) (nat.pow-suc 2 j) ∙ sym (nat.mul_assoc d (2 ^ j) 2)

    mod_twice : (a b : ℕ) → b ≡ a * 2 → a % 0x19_21fb_5444_2d18 * 2 % 0x19_21fb_5444_2d18 ≡ b % 0x19_21fb_5444_2d18
    mod_twice a b e = rw e (omega arith)
