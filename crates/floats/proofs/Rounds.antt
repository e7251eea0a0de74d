-- `Rounds f x a c`: x is not negative, and is the fraction a / c rounded to the format f (as a number: a zero may have
-- either sign, and an infinity counts). Every operation on values that are finite and not negative gives such an x, and
-- such x have the order of their fractions (`mono`). So a law on floats becomes an inequality of natural numbers.
-- Assumes nothing.
use mathlib.Core.Path.{◌≡◌, refl, sym, ◌∙◌, subst}
use Prim.Native.Nat.{ℕ, zero, suc, ◌+◌, ◌-◌, ◌*◌, ◌%◌, ◌^◌, ◌≤◌, ◌<◌}
use native.Mathlib.Nat as nat
use native.Mathlib.Omega.{arith}
use mathlib.Core.Bool.{Bool, true, false, not, ◌&&◌, cond}
use lib.Dec.{T, ltb, eqb→eq, ltb→lt, nltb→le}
use lib.Ieee.{Float, nan, inf, fin, Format, prec, emax, low, unlike, up, down}
use lib.Ieee.{odd, units, round, sum, add, sub, mul, div, rem, le, fits}
use lib.Ieee.Fits.{up_pos, down_pos, eq→eqb, round_is}
use lib.Ieee.Exact.{HasValue}
use lib.Ieee.Order.{round_mono, drop, kept}
use lib.Ieee.Positive.{num, den, positive, value→cross}
use Rattle.floats.specs.Range.{plus_one, ge0, nonneg}
use Rattle.floats.proofs.Order.{fle_trans, ge0-refl, le→cross, cross→le, zero-first, times_zero, nonneg→ge0, nonneg→finite, signed, signed-zero, signed-zero-over}
pub use Rattle.floats.proofs.Held.{fits_small, fits_low, fits-top, pow_le_inv, self-value}
use Rattle.floats.proofs.Held.{zero-value}
use Rattle.floats.proofs.Operations.{dens_pos, quot_pos, add_is, sub_is, mul_is, div_is, rem_is}
pub use Rattle.floats.proofs.Operations.{not-zero}

-- x is not negative, at most a / c rounded, and at least a / c rounded
pub record Rounds (f : Format) (x : Float) (a c : ℕ) : Type 0 where
  pub sign : T (ge0 x)
  pub upper : T (le x (round f false a c))
  pub lower : T (le (round f false a c) x)

-- x is a / b rounded, y is c / d rounded, and a / b ≤ c / d: x ≤ y.
-- A caller may write `_` for the values and the fractions: the two `Rounds` determine them
pub mono : (f : Format) (x y : Float) (a b c d : ℕ) → Rounds f x a b → Rounds f y c d → 0 < b → 0 < d → a * d ≤ c * b → T (le x y)
mono f x y a b c d p q B D h = fle_trans x (round f false a b) y p.upper (fle_trans (round f false a b) (round f false c d) y (round_mono f a b c d B D h) q.lower)

-- ---- a rounded fraction, as `round` returns it
ge0-odd : (d q k l : ℕ) → T (ge0 (odd d false q k l))
unfolding odd
ge0-odd d zero k l = tt
ge0-odd d (suc q) k l = tt

ge0-units : (f : Format) (q k : ℕ) → T (ge0 (units f false q k))
unfolding units
ge0-units f q k = go (ltb (q * 2 ^ k) (2 ^ (low f + suc (emax f))))
  where
    go : (b : Bool) → T (ge0 (cond b (odd (suc (prec f)) false q k (low f)) (inf false)))
    go true = ge0-odd (suc (prec f)) q k (low f)
    go false = tt

-- a / c rounded is not negative
pub ge0-round : (f : Format) (a c : ℕ) → T (ge0 (round f false a c))
ge0-round f a c = rw (round_is f false a c) (ge0-units f (kept (prec f) (a * 2 ^ low f) c) (drop (prec f) (a * 2 ^ low f) c))

-- a / c rounded is `Rounds` of a / c
of_round : (f : Format) (a c : ℕ) → Rounds f (round f false a c) a c
of_round f a c =
    let r : T (le (round f false a c) (round f false a c)) = ge0-refl (round f false a c) (ge0-round f a c) in
    record { sign = ge0-round f a c; upper = r; lower = r }

-- ---- a zero of either sign
-- x has the value ±0 / c: its numerator is 0, and x is finite and not negative
value-num : (x : Float) (s : Bool) (c : ℕ) → 0 < c → HasValue x s 0 c → num x ≡ 0
value-num nan s c C h = absurd h
value-num (inf t) s c C h = absurd h
value-num (fin t m e) s c C h = zero-first (m * up e) c C (h.1 ∙ nat.zero-mul (down e))

value-nonneg : (x : Float) (s : Bool) (c : ℕ) → 0 < c → HasValue x s 0 c → T (nonneg x)
value-nonneg nan s c C h = absurd h
value-nonneg (inf t) s c C h = absurd h
value-nonneg (fin true m e) s c C h = eq→eqb (zero-first m (up e) (up_pos e) (value-num (fin true m e) s c C h))
value-nonneg (fin false m e) s c C h = tt

-- 0 / c rounded with the sign s is a zero
pub zero-nonneg : (f : Format) (s : Bool) (c : ℕ) → 0 < c → T (nonneg (round f s 0 c)) × (num (round f s 0 c) ≡ 0)
zero-nonneg f s c C = (value-nonneg (round f s 0 c) s c C (zero-value f s c C), value-num (round f s 0 c) s c C (zero-value f s c C))

-- x is a zero, and y is finite and not negative: x ≤ y
zeros_le : (x y : Float) → T (nonneg x) → T (nonneg y) → num x ≡ 0 → T (le x y)
zeros_le x y p q h = cross→le x y p q (omega (arith, times_zero (num x) (den y) h))

-- a zero x is the fraction 0 / c rounded
pub of_zero : (f : Format) (x : Float) (c : ℕ) → 0 < c → T (nonneg x) → num x ≡ 0 → Rounds f x 0 c
of_zero f x c C p h =
    let z = zero-nonneg f false c C in
    record { sign = nonneg→ge0 x p; upper = zeros_le x (round f false 0 c) p z.0 h; lower = zeros_le (round f false 0 c) x z.0 p z.1 }

-- a / c rounded with the sign s, where s is a minus only if a is 0
pub of_signed : (f : Format) (s : Bool) (a c : ℕ) → 0 < c → (T s → a ≡ 0) → Rounds f (round f s a c) a c
of_signed f false a c C h = of_round f a c
of_signed f true a c C h =
    let z = zero-nonneg f true c C in
    rw (h tt) (of_zero f (round f true 0 c) c C z.0 z.1)

-- ---- a value of the format, finite and not negative, is its own fraction rounded
pub self : (f : Format) (x : Float) → T (fits f x) → T (nonneg x) → Rounds f x (num x) (den x)
self f nan h p = absurd p
self f (inf s) h p = absurd p
self f (fin true m e) h p =
    let z : m * up e ≡ 0 = times_zero m (up e) (eqb→eq m 0 p) in
    rw z (of_zero f (fin true m e) (down e) (down_pos e) p z)
self f (fin false m e) h p =
    let y = round f false (m * up e) (down e) in
    let v = self-value f false m e h in
    let q = has_nonneg y (m * up e) (down e) v in
    let c : num y * down e ≡ m * up e * den y = value→cross y (m * up e) (down e) v in
    record { sign = tt; upper = cross→le (fin false m e) y tt q (nat.le_of_eq (sym c)); lower = cross→le y (fin false m e) q tt (nat.le_of_eq c) }
  where
    -- y has a value without a minus sign: y is not negative
    has_nonneg : (y : Float) (a c : ℕ) → HasValue y false a c → T (nonneg y)
    has_nonneg nan a c v = absurd v
    has_nonneg (inf s) a c v = absurd v
    has_nonneg (fin true m e) a c v = absurd (subst T v.0 tt)
    has_nonneg (fin false m e) a c v = tt

-- 1 is 1 / 1 rounded
pub one_rounds : (f : Format) → Rounds f plus_one 1 1
one_rounds Format.binary32 = self Format.binary32 plus_one (unfold fits in tt) tt
one_rounds Format.binary64 = self Format.binary64 plus_one (unfold fits in tt) tt

-- ---- sums
-- ±a / c + ±b / c is one fraction k / c rounded, with a sign: k is what is added less what is subtracted
pub sum_cases : (f : Format) (s : Bool) (a : ℕ) (t : Bool) (b c : ℕ) (P : Float → Type 0)
    → ((k : ℕ) → cond s a 0 + cond t b 0 + k ≡ cond s 0 a + cond t 0 b → P (round f false k c))
    → ((k : ℕ) → cond s 0 a + cond t 0 b + k ≡ cond s a 0 + cond t b 0 → P (round f true k c))
    → P (sum f s a t b c)
unfolding sum
sum_cases f false a false b c P gain loss = gain (a + b) (omega arith)
sum_cases f true a true b c P gain loss = loss (a + b) (omega arith)
sum_cases f false a true b c P gain loss = go (ltb a b) (ltb→lt a b) (nltb→le a b)
  where
    go : (x : Bool) → (T x → a < b) → (T (not x) → b ≤ a) → P (cond x (round f true (b - a) c) (round f false (a - b) c))
    go true l g = loss (b - a) (omega (arith, l tt))
    go false l g = gain (a - b) (omega (arith, g tt))
sum_cases f true a false b c P gain loss = go (ltb a b) (ltb b a) (ltb→lt a b) (nltb→le a b) (nltb→le b a)
  where
    go : (x y : Bool) → (T x → a < b) → (T (not x) → b ≤ a) → (T (not y) → a ≤ b) → P (cond x (round f false (b - a) c) (round f (true && y) (a - b) c))
    go true y l g n = gain (b - a) (omega (arith, l tt))
    go false true l g n = loss (a - b) (omega (arith, g tt))
    go false false l g n = gain (a - b) (omega (arith, g tt, n tt))

-- what is added exceeds what is subtracted by k: the sum is k / c rounded
pub sum-up : (f : Format) (s : Bool) (a : ℕ) (t : Bool) (b c k : ℕ) → 0 < c → cond s a 0 + cond t b 0 + k ≡ cond s 0 a + cond t 0 b → Rounds f (sum f s a t b c) k c
sum-up f s a t b c k C e =
    sum_cases f s a t b c (λ x. Rounds f x k c)
    (λ j h. let w : k ≡ j = omega arith in rw w (of_round f j c))
    (λ j h. let w : k ≡ j = omega arith in rw w (of_signed f true j c C (λ _. omega arith)))

-- a has a minus sign only if a is 0: a counts as added, and as subtracted where the sign is reversed
pub parts : (s : Bool) (a : ℕ) → (T s → a ≡ 0) → (cond s a 0 ≡ 0) × (cond s 0 a ≡ a) × (cond (not s) a 0 ≡ a) × (cond (not s) 0 a ≡ 0)
parts true a h = (h tt, sym (h tt), sym (h tt), h tt)
parts false a h = (refl, refl, refl, refl)

-- ±a / c + ±b / c, where only a 0 has a minus sign: (a + b) / c rounded
pub sum_rounds : (f : Format) (s : Bool) (a : ℕ) (t : Bool) (b c : ℕ) → 0 < c → (T s → a ≡ 0) → (T t → b ≡ 0) → Rounds f (sum f s a t b c) (a + b) c
sum_rounds f s a t b c C p q = sum-up f s a t b c (a + b) C (omega (arith, parts s a p, parts t b q))

-- ±a / c - ±b / c for b ≤ a: (a - b) / c rounded
pub diff_rounds : (f : Format) (s : Bool) (a : ℕ) (t : Bool) (b c : ℕ) → 0 < c → (T s → a ≡ 0) → (T t → b ≡ 0) → b ≤ a → Rounds f (sum f s a (not t) b c) (a - b) c
diff_rounds f s a t b c C p q h = sum-up f s a (not t) b c (a - b) C (omega (arith, parts s a p, parts t b q))

-- -a / c + b / c for a ≤ b: (b - a) / c rounded
pub rise : (f : Format) (a b c : ℕ) → 0 < c → a ≤ b → Rounds f (sum f true a false b c) (b - a) c
rise f a b c C h = sum-up f true a false b c (b - a) C (omega arith)

-- ---- the operations on x and y, finite and not negative
-- x + y
pub add_rounds : (f : Format) (x y : Float) → T (nonneg x) → T (nonneg y) → Rounds f (add f x y) (num x * den y + num y * den x) (den x * den y)
add_rounds f x y p q =
    rw (add_is f x y (nonneg→finite x p) (nonneg→finite y q))
    (sum_rounds f (signed x) (num x * den y) (signed y) (num y * den x) (den x * den y) (dens_pos x y) (signed-zero-over x (den y) p) (signed-zero-over y (den x) q))

-- x - y for y ≤ x
pub sub_rounds : (f : Format) (x y : Float) → T (nonneg x) → T (nonneg y) → T (le y x) → Rounds f (sub f x y) (num x * den y - num y * den x) (den x * den y)
sub_rounds f x y p q h =
    rw (sub_is f x y (nonneg→finite x p) (nonneg→finite y q))
    (diff_rounds f (signed x) (num x * den y) (signed y) (num y * den x) (den x * den y) (dens_pos x y) (signed-zero-over x (den y) p) (signed-zero-over y (den x) q) (le→cross y x q p h))

-- x * y
pub mul_rounds : (f : Format) (x y : Float) → T (nonneg x) → T (nonneg y) → Rounds f (mul f x y) (num x * num y) (den x * den y)
mul_rounds f x y p q =
    rw (mul_is f x y (nonneg→finite x p) (nonneg→finite y q))
    (of_signed f (unlike (signed x) (signed y)) (num x * num y) (den x * den y) (dens_pos x y) (zero-product (signed x) (signed y) (signed-zero x p) (signed-zero y q)))
  where
    zero-product : (s t : Bool) → (T s → num x ≡ 0) → (T t → num y ≡ 0) → T (unlike s t) → num x * num y ≡ 0
    zero-product true true p q h = absurd h
    zero-product true false p q h = times_zero (num x) (num y) (p tt)
    zero-product false true p q h = rw (q tt) (nat.mul-zero (num x))
    zero-product false false p q h = absurd h

-- x / y for a positive y
pub div_rounds : (f : Format) (x y : Float) → T (nonneg x) → T (positive y) → Rounds f (div f x y) (num x * den y) (num y * den x)
div_rounds f x y p q =
    rw (div_is f x y (nonneg→finite x p) q)
    (of_signed f (signed x) (num x * den y) (num y * den x) (quot_pos x y q) (signed-zero-over x (den y) p))

-- x % y for a positive y
pub rem_rounds : (f : Format) (x y : Float) → T (nonneg x) → T (positive y) → Rounds f (rem f x y) (num x * den y % (num y * den x)) (den x * den y)
rem_rounds f x y p q =
    rw (rem_is f x y (nonneg→finite x p) q)
    (of_signed f (signed x) (num x * den y % (num y * den x)) (den x * den y) (dens_pos x y)
    (λ (t : T (signed x)). rw (signed-zero-over x (den y) p t) (nat.mod-eq_of_lt (quot_pos x y q))))
