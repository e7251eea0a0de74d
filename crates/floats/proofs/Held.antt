-- The values of a format, and that rounding leaves them as they are: a value ±m * 2 ^ e of the format rounds to itself,
-- and so does every smaller multiple of 2 ^ e. Assumes nothing.
use mathlib.Core.Path.{◌≡◌, refl, sym, ap, ◌∙◌}
use Prim.Native.Nat.{ℕ, zero, suc, ◌+◌, ◌-◌, ◌*◌, ◌%◌, ◌^◌, ◌≤◌, ◌<◌}
use native.Mathlib.Nat as nat
use native.Mathlib.Omega.{arith}
use mathlib.Core.Bool.{Bool, ◌&&◌}
use lib.IntN.{ℤ, pos, negsuc}
use lib.Dec.{T, ltb, leb, eqb, ltb→lt, leb→le}
use lib.Pow.{pow-add, pow_pos, pow-lt}
use lib.Ieee.{fin, Format, prec, emax, low, up, down, round, fits}
use lib.Ieee.Fits.{down_pos, and_l, and_r}
use lib.Ieee.Exact.{HasValue, round_exact}

-- ---- what it means that ±m * 2 ^ e is a value of the format
-- `fits` passes: the bounds that it tests
fits-parts : (f : Format) (s : Bool) (m : ℕ) (e : ℤ) → T (fits f (fin s (suc m) e)) → (suc m < 2 ^ prec f) × (down e ≤ 2 ^ low f) × (suc m * up e < 2 ^ suc (emax f) * down e)
unfolding fits
fits-parts f s m e h =
    let a : Bool = eqb (suc m % 2) 1 in
    let b : Bool = ltb (suc m) (2 ^ prec f) in
    let c : Bool = leb (down e) (2 ^ low f) in
    let d : Bool = ltb (suc m * up e) (2 ^ suc (emax f) * down e) in
    let abc : T (a && b && c) = and_l (a && b && c) d h in (
      ltb→lt (suc m) (2 ^ prec f) (and_r a b (and_l (a && b) c abc)),
      leb→le (down e) (2 ^ low f) (and_r (a && b) c abc),
      ltb→lt (suc m * up e) (2 ^ suc (emax f) * down e) (and_r (a && b && c) d h),
    )

-- m has at most prec binary digits
pub fits_small : (f : Format) (s : Bool) (m : ℕ) (e : ℤ) → T (fits f (fin s m e)) → m < 2 ^ prec f
fits_small f s zero e h = pow_pos (prec f)
fits_small f s (suc m) e h = (fits-parts f s m e h).0

-- 2 ^ e is not below 2 ^ -low, the format's smallest value
pub fits_low : (f : Format) (s : Bool) (m : ℕ) (e : ℤ) → T (fits f (fin s (suc m) e)) → down e ≤ 2 ^ low f
fits_low f s m e h = (fits-parts f s m e h).1

-- m * 2 ^ e is below 2 ^ (emax + 1)
pub fits-top : (f : Format) (s : Bool) (m : ℕ) (e : ℤ) → T (fits f (fin s (suc m) e)) → suc m * up e < 2 ^ suc (emax f) * down e
fits-top f s m e h = (fits-parts f s m e h).2

-- ---- powers of two
-- up e is 2 ^ ups e, and down e is 2 ^ downs e
abbrev pub ups : ℤ → ℕ
ups (pos k) = k
ups (negsuc k) = 0

abbrev pub downs : ℤ → ℕ
downs (pos k) = 0
downs (negsuc k) = suc k

pub up_is : (e : ℤ) → up e ≡ 2 ^ ups e
up_is (pos k) = refl
up_is (negsuc k) = refl

pub down_is : (e : ℤ) → down e ≡ 2 ^ downs e
down_is (pos k) = refl
down_is (negsuc k) = refl

-- 2 ^ i ≤ 2 ^ j: i ≤ j
pub pow_le_inv : (i j : ℕ) → 2 ^ i ≤ 2 ^ j → i ≤ j
pow_le_inv i j h = nat.le_of_suc-le-suc (nat.lt_of_not-le (λ (g : suc j ≤ i). nat.not-le_of_lt (pow-lt g) h))

-- a * 2 ^ x is a * 2 ^ (x - y) * 2 ^ y for y ≤ x
pub split_pow : (a x y : ℕ) → y ≤ x → a * 2 ^ x ≡ a * 2 ^ (x - y) * 2 ^ y
split_pow a x y h = rw (nat.mul_assoc a (2 ^ (x - y)) (2 ^ y), ← pow-add 2 (x - y) y, nat.sub-add_cancel h)

-- ---- a value of the format is its own fraction, rounded
-- ±m * 2 ^ e is a value of the format, and r / 2 ^ w is q * 2 ^ e for a q up to m: rounding r / 2 ^ w changes nothing
module _ (f : Format) (s t : Bool) (m : ℕ) (e : ℤ) (h : T (fits f (fin t (suc m) e))) where
  pub exact : (q r w : ℕ) → q ≤ suc m → r * 2 ^ downs e ≡ q * 2 ^ ups e * 2 ^ w → HasValue (round f s r (2 ^ w)) s r (2 ^ w)
  exact q r w small k =
      let L : downs e ≤ low f = pow_le_inv (downs e) (low f) (rw (← down_is e) (fits_low f t m e h)) in
      let g = low f - downs e in
      let p : 2 ^ g * 2 ^ downs e ≡ 2 ^ low f = sym (pow-add 2 g (downs e)) ∙ ap (λ (z : ℕ). 2 ^ z) (nat.sub-add_cancel L) in
      round_exact f s r (2 ^ w) q (ups e + g) (pow_pos w) (nat.lt_of_le_of_lt small (fits_small f t (suc m) e h))
      (rw (pow-add 2 (ups e) g, pow-add 2 (low f) (suc (emax f)))
      (top (2 ^ ups e) (2 ^ g) (2 ^ downs e) (2 ^ low f) (2 ^ suc (emax f)) (pow_pos g) p (rw (← up_is e, ← down_is e) (fits-top f t m e h))))
      (rw (pow-add 2 (ups e) g) (numerator (2 ^ w) (2 ^ ups e) (2 ^ g) (2 ^ downs e) (2 ^ low f) p k))
    where
      -- in units of 1 / l, q * 2 ^ e is below the overflow because m * 2 ^ e is
      top : (u g d l x : ℕ) → 0 < g → g * d ≡ l → suc m * u < x * d → q * (u * g) < l * x
      top u g d l x G p b = rw (← p) (omega (arith, nat.mul-le-mul_right (u * g) small, nat.mul-lt-mul_of_pos_right b G))

      -- r / w in units of 1 / l
      numerator : (w u g d l : ℕ) → g * d ≡ l → r * d ≡ q * u * w → r * l ≡ q * (u * g) * w
      numerator w u g d l p k = rw (← p) (omega (arith, ap (λ (z : ℕ). z * g) k))

-- 0 / c rounded with the sign s is exact
pub zero-value : (f : Format) (s : Bool) (c : ℕ) → 0 < c → HasValue (round f s 0 c) s 0 c
zero-value f s c C = round_exact f s 0 c 0 0 C (pow_pos (prec f)) (pow_pos (low f + suc (emax f))) (nat.zero-mul (2 ^ low f) ∙ sym (nat.zero-mul c))

-- ±m * 2 ^ e is a value of the format: it rounds to itself
pub self-value : (f : Format) (s : Bool) (m : ℕ) (e : ℤ) → T (fits f (fin s m e)) → HasValue (round f s (m * up e) (down e)) s (m * up e) (down e)
self-value f s zero e h = rw (nat.zero-mul (up e)) (zero-value f s (down e) (down_pos e))
self-value f s (suc m) e h = rw (up_is e, down_is e) (exact f s s m e h (suc m) (suc m * 2 ^ ups e) (downs e) (nat.le_refl (suc m)) refl)
