-- The largest finite value of a format: a value of the format is finite exactly where it lies between `largest` and its
-- negation. So a result is finite if it is bounded, and an operation is finite if it is finite at its extreme
-- arguments. Assumes nothing.
use mathlib.Core.Path.{◌≡◌, refl, sym}
use Prim.Native.Nat.{ℕ, zero, suc, ◌+◌, ◌-◌, ◌*◌, ◌^◌, ◌≤◌, ◌<◌}
use native.Mathlib.Nat as nat
use native.Mathlib.Omega.{arith}
use mathlib.Core.Bool.{Bool, true, false, not, ◌&&◌}
use lib.IntN.{pos, negsuc}
use lib.Dec.{T, leb, leb→le, nleb→lt}
use lib.Pow.{pow-add, pow_pos, pow_mono}
use lib.Ieee.{Float, nan, inf, fin, Format, binary32, binary64}
use lib.Ieee.{prec, emax, neg, add, le, fits, of_bits}
use lib.Ieee.Bits.{is_true}
use lib.Ieee.Fits.{and_i, and_l, and_r, neg-fits, reach}
use lib.Ieee.Scale.{finite}
use Rattle.floats.specs.Range.{plus_zero, plus_one, largest, within}
use Rattle.floats.proofs.Order.{Le→le, nonneg→finite, between-finite}
use Rattle.floats.proofs.Held.{fits_small, fits-top, split_pow}
use Rattle.floats.proofs.Signed.{neg-neg, neg-order, finite-neg}
use Rattle.floats.proofs.Near.{add-order}
use Rattle.floats.proofs.Ranges.{within-nonneg}

-- ---- what `largest` is
-- its bits in binary32
pub largest_bits32 : largest binary32 ≡ of_bits binary32 0x7f7fffff
unfolding of_bits
largest_bits32 = refl

-- its bits in binary64
pub largest_bits64 : largest binary64 ≡ of_bits binary64 0x7fefffffffffffff
unfolding of_bits
largest_bits64 = refl

-- it is a value of the format
pub largest-fits : (f : Format) → T (fits f (largest f))
unfolding fits
largest-fits binary32 = tt
largest-fits binary64 = tt

-- ---- `largest` bounds the finite values
-- m * 2 ^ k for m below 2 ^ p, below 2 ^ (g + p): at most (2 ^ p - 1) * 2 ^ g
at_most_lem : (m k p g : ℕ) → m < 2 ^ p → m * 2 ^ k < 2 ^ (g + p) → m * 2 ^ k ≤ (2 ^ p - 1) * 2 ^ g
at_most_lem m k p g M h = go (leb k g) (leb→le k g) (nleb→lt k g)
  where
    -- 2 ^ k is at most the spacing 2 ^ g of the largest values, or a multiple of 2 ^ g
    go : (b : Bool) → (T b → k ≤ g) → (T (not b) → g < k) → m * 2 ^ k ≤ (2 ^ p - 1) * 2 ^ g
    go true l n = nat.mul-le-mul (omega arith) (pow_mono (l tt))
    go false l n =
        let e : m * 2 ^ k ≡ m * 2 ^ (k - g) * 2 ^ g = split_pow m k g (nat.le_of_lt (n tt)) in
        let s : m * 2 ^ (k - g) < 2 ^ p = nat.lt_of_mul-lt-mul_right (2 ^ g) (rw (← e, nat.mul_comm (2 ^ p) (2 ^ g), ← pow-add 2 g p) h) in
        rw e (nat.mul-le-mul_right (2 ^ g) (omega arith))

-- x is a finite value of the format: x ≤ largest
pub finite-at_most : (f : Format) (x : Float) → T (fits f x) → T (finite x) → T (le x (largest f))
finite-at_most f nan w p = absurd p
finite-at_most f (inf s) w p = absurd p
finite-at_most f (fin true m e) w p = Le→le (fin true m e) (largest f) tt
finite-at_most f (fin false zero e) w p = Le→le (fin false zero e) (largest f) (omega arith)
finite-at_most f (fin false (suc m) (pos k)) w p =
    let g = suc (emax f) - prec f in
    let top : suc m * 2 ^ k < 2 ^ (g + prec f) = rw (nat.sub-add_cancel (reach f)) (omega (arith, fits-top f false m (pos k) w)) in
    Le→le (fin false (suc m) (pos k)) (largest f) (omega (arith, at_most_lem (suc m) k (prec f) g (fits_small f false (suc m) (pos k) w) top))
finite-at_most f (fin false (suc m) (negsuc k)) w p =
    let small : suc m ≤ 2 ^ prec f - 1 = omega (arith, fits_small f false (suc m) (negsuc k) w) in
    Le→le (fin false (suc m) (negsuc k)) (largest f) (nat.mul-le-mul (nat.mul-le-mul small (pow_pos (suc (emax f) - prec f))) (pow_pos (suc k)))

-- x is a finite value of the format: -largest ≤ x
pub finite-at-least : (f : Format) (x : Float) → T (fits f x) → T (finite x) → T (le (neg (largest f)) x)
finite-at-least f x w p = rw (neg-neg x) at (neg-order (neg x) (largest f) (finite-at_most f (neg x) (neg-fits f x w) (finite-neg x p)))

-- a value x of the format is finite exactly where -largest ≤ x ≤ largest
pub finite-is-bounded : (f : Format) (x : Float) → T (fits f x) → finite x ≡ (le (neg (largest f)) x && le x (largest f))
unfolding neg le
finite-is-bounded f nan w = refl
finite-is-bounded f (inf true) w = refl
finite-is-bounded f (inf false) w = refl
finite-is-bounded f (fin s m e) w = sym (is_true _ (and_i (le (neg (largest f)) (fin s m e)) (le (fin s m e) (largest f)) (finite-at-least f (fin s m e) w tt) (finite-at_most f (fin s m e) w tt)))

-- ---- a sum with a value in [0, 1]
-- 0 - largest and 1 + largest are finite
ends-finite : (f : Format) → T (finite (add f plus_zero (neg (largest f)))) × T (finite (add f plus_one (largest f)))
unfolding add neg
ends-finite binary32 = (tt, tt)
ends-finite binary64 = (tt, tt)

-- p + x lies between 0 - largest and 1 + largest for p in [0, 1] and any finite x of the format: p + x is finite
pub add-finite_unit : (f : Format) (p x : Float) → T (fits f x) → T (finite x) → T (within plus_zero plus_one p) → T (finite (add f p x))
add-finite_unit f p x w q h =
    let fp : T (finite p) = nonneg→finite p (within-nonneg plus_one p tt h) in
    let fl : T (finite (neg (largest f))) = finite-neg (largest f) tt in
    between-finite (add f plus_zero (neg (largest f))) (add f p x) (add f plus_one (largest f)) (ends-finite f).0 (ends-finite f).1
    (add-order f plus_zero p (neg (largest f)) x tt fp fl q (and_l (le plus_zero p) (le p plus_one) h) (finite-at-least f x w q))
    (add-order f p plus_one x (largest f) fp tt q tt (and_r (le plus_zero p) (le p plus_one) h) (finite-at_most f x w q))
