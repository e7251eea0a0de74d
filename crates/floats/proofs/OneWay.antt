-- A number is written in one way: two values of a format with one sign and one size are the same float. So x * 1 is x,
-- to the bit. For either format. Assumes nothing.
use mathlib.Core.Path.{◌≡◌, refl, sym, ap, ◌∙◌}
use mathlib.Core.Bool.{Bool, true, false, ◌&&◌}
use Prim.Native.Nat.{ℕ, zero, suc, ◌+◌, ◌*◌, ◌%◌, ◌^◌, ◌<◌}
use native.Mathlib.Nat as nat
use native.Mathlib.Omega.{arith}
use lib.IntN.{ℤ, pos, negsuc}
use lib.Dec.{T, eqb, ltb, leb, eqb→eq}
use lib.Pow.{pow-add}
use lib.Ieee.{Float, nan, inf, fin, Format, prec, emax, low, unlike, up, down, round, mul, fits}
use lib.Ieee.Fits.{and_l, up_pos, down_pos, round-fits}
use lib.Ieee.Exact.{HasValue}
use lib.Ieee.Scale.{finite}
use lib.Ieee.Positive.{num, den}
use Rattle.floats.specs.Range.{plus_one}
use Rattle.floats.proofs.Order.{signed}
use Rattle.floats.proofs.Held.{ups, downs, up_is, down_is, self-value}

-- ---- odd numbers times powers of two
odd_even : (m t : ℕ) → m % 2 ≡ 1 → m ≡ 2 * t → ⊥
odd_even m t o h = omega arith

-- m * 2 ^ a is n * 2 ^ b with m and n odd: m is n, and a is b
odd_pow : (m n a b : ℕ) → m % 2 ≡ 1 → n % 2 ≡ 1 → m * 2 ^ a ≡ n * 2 ^ b → (m ≡ n) × (a ≡ b)
odd_pow m n zero zero o p h = (sym (nat.mul-one m) ∙ h ∙ nat.mul-one n, refl)
odd_pow m n zero (suc b) o p h = absurd (odd_even m (n * 2 ^ b) o (sym (nat.mul-one m) ∙ h ∙ ap (λ (x : ℕ). n * x) (nat.pow-succ' 2 b) ∙ nat.mul_left_comm n 2 (2 ^ b)))
odd_pow m n (suc a) zero o p h = absurd (odd_even n (m * 2 ^ a) p (sym (nat.mul-one n) ∙ sym h ∙ ap (λ (x : ℕ). m * x) (nat.pow-succ' 2 a) ∙ nat.mul_left_comm m 2 (2 ^ a)))
odd_pow m n (suc a) (suc b) o p h =
    let r = odd_pow m n a b o p (halve (m * 2 ^ a) (n * 2 ^ b) (turn m a ∙ h ∙ sym (turn n b))) in
    (r.0, ap suc r.1)
  where
    turn : (m a : ℕ) → 2 * (m * 2 ^ a) ≡ m * 2 ^ suc a
    turn m a = nat.mul_left_comm 2 m (2 ^ a) ∙ ap (λ (x : ℕ). m * x) (sym (nat.pow-succ' 2 a))

    halve : (x y : ℕ) → 2 * x ≡ 2 * y → x ≡ y
    halve x y h = omega arith

-- 2 ^ e is 2 ^ g: e is g
exponent_one : (e g : ℤ) → ups e + downs g ≡ ups g + downs e → e ≡ g
exponent_one (pos a) (pos b) h = ap pos (omega arith)
exponent_one (pos a) (negsuc b) h = absurd (none a b h)
  where
    none : (a b : ℕ) → a + suc b ≡ 0 + 0 → ⊥
    none a b h = omega arith
exponent_one (negsuc a) (pos b) h = absurd (none a b h)
  where
    none : (a b : ℕ) → 0 + 0 ≡ b + suc a → ⊥
    none a b h = omega arith
exponent_one (negsuc a) (negsuc b) h = ap negsuc (same a b h)
  where
    same : (a b : ℕ) → 0 + suc b ≡ 0 + suc a → a ≡ b
    same a b h = omega arith

-- ---- in a value that fits, m is odd, or m and the exponent are 0
fits-odd : (f : Format) (s : Bool) (m : ℕ) (e : ℤ) → T (fits f (fin s (suc m) e)) → suc m % 2 ≡ 1
unfolding fits
fits-odd f s m e h =
    let a : Bool = eqb (suc m % 2) 1 in
    let b : Bool = ltb (suc m) (2 ^ prec f) in
    let c : Bool = leb (down e) (2 ^ low f) in
    let d : Bool = ltb (suc m * up e) (2 ^ suc (emax f) * down e) in
    eqb→eq (suc m % 2) 1 (and_l a b (and_l (a && b) c (and_l (a && b && c) d h)))

fits-zero : (f : Format) (s : Bool) (e : ℤ) → T (fits f (fin s zero e)) → e ≡ pos 0
unfolding fits
fits-zero f s e h = flat e (eqb→eq (up e * down e) 1 h)
  where
    two_up : (p : ℕ) → 2 * p ≡ 1 → ⊥
    two_up p e = omega arith

    flat : (e : ℤ) → up e * down e ≡ 1 → e ≡ pos 0
    flat (pos zero) h = refl
    flat (pos (suc k)) h = absurd (two_up (2 ^ k) (sym (nat.pow-succ' 2 k) ∙ sym (nat.mul-one (2 ^ suc k)) ∙ h))
    flat (negsuc k) h = absurd (two_up (2 ^ k) (sym (nat.pow-succ' 2 k) ∙ sym (nat.one-mul (2 ^ suc k)) ∙ h))

-- ---- equal values
-- x / u and y / v are both a / c: x / u is y / v
cross : (x u y v a c : ℕ) → 0 < c → x * c ≡ a * u → y * c ≡ a * v → x * v ≡ y * u
cross x u y v a c C p q = nat.eq_of_mul-eq-mul_right c C (x * v) (y * u) (turn x u y v a c p q)
  where
    turn : (x u y v a c : ℕ) → x * c ≡ a * u → y * c ≡ a * v → x * v * c ≡ y * u * c
    turn x u y v a c p q = omega (arith, ap (λ (z : ℕ). z * v) p, ap (λ (z : ℕ). z * u) q)

-- 0 is not a positive product
some : (n x y u v : ℕ) → 0 < u → 0 < v → 0 * x * y ≡ suc n * u * v → ⊥
some n x y u v U Y h = nat.lt_irrefl 0 (rw (← h, nat.zero-mul x, nat.zero-mul y) at (nat.mul-pos (nat.mul-pos (nat.zero-lt-suc n) U) Y))

-- two values of the format that are ±a / c are the same float
pub value-is-one : (f : Format) (x y : Float) (s : Bool) (a c : ℕ) → 0 < c → T (fits f x) → T (fits f y) → HasValue x s a c → HasValue y s a c → x ≡ y
value-is-one f nan y s a c C p q v w = absurd v
value-is-one f (inf t) y s a c C p q v w = absurd v
value-is-one f (fin t m e) nan s a c C p q v w = absurd w
value-is-one f (fin t m e) (inf u) s a c C p q v w = absurd w
value-is-one f (fin t m e) (fin u n g) s a c C p q v w = go m n p q (cross (m * up e) (down e) (n * up g) (down g) a c C v.1 w.1)
  where
    sign : t ≡ u
    sign = v.0 ∙ sym w.0

    powers : (m n : ℕ) → m * up e * down g ≡ n * up g * down e → m * 2 ^ (ups e + downs g) ≡ n * 2 ^ (ups g + downs e)
    powers m n h = rw (pow-add 2 (ups e) (downs g), pow-add 2 (ups g) (downs e), ← up_is e, ← up_is g, ← down_is e, ← down_is g, ← nat.mul_assoc m (up e) (down g), ← nat.mul_assoc n (up g) (down e)) h

    go : (m n : ℕ) → T (fits f (fin t m e)) → T (fits f (fin u n g)) → m * up e * down g ≡ n * up g * down e → fin t m e ≡ fin u n g
    go zero zero p q h = rw (sign, fits-zero f t e p, fits-zero f u g q) refl
    go zero (suc n) p q h = absurd (some n (up e) (down g) (up g) (down e) (up_pos g) (down_pos e) h)
    go (suc m) zero p q h = absurd (some m (up g) (down e) (up e) (down g) (up_pos e) (down_pos g) (sym h))
    go (suc m) (suc n) p q h =
        let r = odd_pow (suc m) (suc n) (ups e + downs g) (ups g + downs e) (fits-odd f t m e p) (fits-odd f u n g q) (powers (suc m) (suc n) h) in
        rw (sign, r.0, exponent_one e g r.1) refl

-- a finite value x of the format is its own fraction, rounded
pub self-is : (f : Format) (x : Float) → T (fits f x) → T (finite x) → round f (signed x) (num x) (den x) ≡ x
self-is f nan w p = absurd p
self-is f (inf s) w p = absurd p
self-is f (fin s m e) w p =
    value-is-one f (round f s (m * up e) (down e)) (fin s m e) s (m * up e) (down e) (down_pos e) (round-fits f s (m * up e) (down e)) w (self-value f s m e w) (refl, refl)

-- x * 1 is x
pub times_one : (f : Format) (x : Float) → T (fits f x) → mul f x plus_one ≡ x
unfolding mul
times_one f nan w = refl
times_one f (inf true) w = refl
times_one f (inf false) w = refl
times_one f (fin s m e) w = rw (nat.mul-one (m * up e), nat.mul-one (down e), same s) (self-is f (fin s m e) w tt)
  where
    same : (s : Bool) → unlike s false ≡ s
    same true = refl
    same false = refl
