-- The laws for values of either sign. A finite x is the fraction (p - n) / d, where p is `plus x`, n is `less x`, d is
-- `den x`, and p or n is 0. `Near f x p n c` says that x is (p - n) / c rounded to f. Every operation gives such an x,
-- and such x have the order of their fractions (`order`). Assumes nothing.
use mathlib.Core.Path.{◌≡◌, refl, sym, ap}
use Prim.Native.Nat.{ℕ, ◌+◌, ◌-◌, ◌*◌, ◌≤◌, ◌<◌}
use native.Mathlib.Nat.{le_of_lt, mul-pos, mul-le-mul, mul-le-mul_right, zero-mul, add-mul, mul-add, mul_assoc, mul_comm, mul_left_comm}
use native.Mathlib.Omega.{arith}
use mathlib.Core.Bool.{Bool, true, false, not, cond}
use lib.IntN.{ℤ}
use lib.Dec.{T, leb, eqb, leb→le, nleb→lt}
use lib.Ieee.{Float, nan, inf, fin, Format, unlike, up, down, round}
use lib.Ieee.{neg, sum, add, sub, mul, div, le, fits}
use lib.Ieee.Fits.{up_pos, down_pos, neg-fits, and_i, and_l, and_r, eq→eqb}
use lib.Ieee.Scale.{finite}
use lib.Ieee.Positive.{num, den, positive}
use Rattle.floats.specs.Range.{plus_zero, nonneg, within}
use Rattle.floats.proofs.Order.{Le, Le2, le→Le, fle_trans, ge0→le, zero-first, signed}
use Rattle.floats.proofs.Rounds.{Rounds, mono, of_signed, self, sum-up, mul_rounds}
use Rattle.floats.proofs.Operations.{dens_pos, quot_pos, add_is, mul_is, div_is}
use Rattle.floats.proofs.Signed.{neg-neg, finite-neg, neg-round, neg-zero, below-zero, sum-down}
pub use Rattle.floats.proofs.Signed.{neg-order}

-- the numerator of x where x has no minus sign, else 0
abbrev pub plus : Float → ℕ
plus nan = 0
plus (inf s) = 0
plus (fin s m e) = cond s 0 (m * up e)

-- the numerator of -x where x has a minus sign, else 0
abbrev pub less : Float → ℕ
less nan = 0
less (inf s) = 0
less (fin s m e) = cond s (m * up e) 0

-- x is (p - n) / c rounded where n ≤ p, and -x is (n - p) / c rounded where p ≤ n
pub record Near (f : Format) (x : Float) (p n c : ℕ) : Type 0 where
  pub above : n ≤ p → Rounds f x (p - n) c
  pub under : p ≤ n → Rounds f (neg x) (n - p) c

-- ---- the order
-- -x ≤ -y: y ≤ x
pub le-neg : (x y : Float) → T (le (neg x) (neg y)) → T (le y x)
le-neg x y h = rw (neg-neg x, neg-neg y) at (neg-order (neg x) (neg y) h)

-- x is (p - n) / c rounded, y is (p' - n') / c' rounded, and the first fraction is at most the second: x ≤ y.
-- A caller may write `_` for the values and the fractions: the two `Near` determine them
pub order : (f : Format) (x y : Float) (p n c p' n' c' : ℕ) → Near f x p n c → Near f y p' n' c' → 0 < c → 0 < c' → p * c' + n' * c ≤ p' * c + n * c' → T (le x y)
order f x y p n c p' n' c' r r' C C' h = go (leb n p) (leb→le n p) (nleb→lt n p) (leb n' p') (leb→le n' p') (nleb→lt n' p')
  where
    -- by the signs of the two fractions; k and k' are the sizes of their numerators
    both : (k k' : ℕ) → k + n ≡ p → k' + n' ≡ p' → k * c' ≤ k' * c
    both k k' e e' = omega (arith, ap (λ (z : ℕ). z * c') e, ap (λ (z : ℕ). z * c) e')

    neither : (k k' : ℕ) → k + p ≡ n → k' + p' ≡ n' → k' * c ≤ k * c'
    neither k k' e e' = omega (arith, ap (λ (z : ℕ). z * c') e, ap (λ (z : ℕ). z * c) e')

    wrong : (k k' : ℕ) → k + n ≡ p → k' + p' ≡ n' → 0 < k' → ⊥
    wrong k k' e e' K = omega (arith, ap (λ (z : ℕ). z * c') e, ap (λ (z : ℕ). z * c) e', mul-pos K C)

    go : (b : Bool) → (T b → n ≤ p) → (T (not b) → p < n) → (b' : Bool) → (T b' → n' ≤ p') → (T (not b') → p' < n') → T (le x y)
    go true a k true a' k' = mono f x y (p - n) c (p' - n') c' (r.above (a tt)) (r'.above (a' tt)) C C' (both (p - n) (p' - n') (omega (arith, a tt)) (omega (arith, a' tt)))
    go false a k true a' k' = fle_trans x plus_zero y (below-zero x (r.under (le_of_lt (k tt))).sign) (ge0→le y (r'.above (a' tt)).sign)
    go false a k false a' k' =
        le-neg y x
        (mono f (neg y) (neg x) (n' - p') c' (n - p) c (r'.under (le_of_lt (k' tt))) (r.under (le_of_lt (k tt))) C' C (neither (n - p) (n' - p') (omega (arith, k tt)) (omega (arith, k' tt))))
    go true a k false a' k' = absurd (wrong (p - n) (n' - p') (omega (arith, a tt)) (omega (arith, k' tt)) (omega (arith, k' tt)))

-- ---- where a `Near` comes from
-- ±k / c rounded, ±k being p - n
near-round : (f : Format) (s : Bool) (k c p n : ℕ) → 0 < c → cond s 0 k + n ≡ p + cond s k 0 → Near f (round f s k c) p n c
near-round f false k c p n C e =
    record {
      above = λ h. let w : p - n ≡ k = omega arith in rw w (of_signed f false k c C absurd);
      under = λ h. let w : n - p ≡ k = omega arith in rw (w, neg-round f false k c) (of_signed f true k c C (λ _. omega arith));
    }
near-round f true k c p n C e =
    record {
      above = λ h. let w : p - n ≡ k = omega arith in rw w (of_signed f true k c C (λ _. omega arith));
      under = λ h. let w : n - p ≡ k = omega arith in rw (w, neg-round f true k c) (of_signed f false k c C absurd);
    }

-- x is (p - n) / c rounded: -x is (n - p) / c rounded
pub near-neg : (f : Format) (x : Float) (p n c : ℕ) → Near f x p n c → Near f (neg x) n p c
near-neg f x p n c r = record { above = λ h. r.under h; under = λ h. rw (neg-neg x) (r.above h) }

-- a value of the format without a minus sign is its own fraction, rounded
self-up : (f : Format) (m : ℕ) (e : ℤ) → T (fits f (fin false m e)) → Near f (fin false m e) (m * up e) 0 (down e)
self-up f m e w =
    let k = m * up e in
    let r : Rounds f (fin false m e) k (down e) = self f (fin false m e) w tt in
    record {
      above = λ h. let z : k - 0 ≡ k = omega arith in rw z r;
      under = λ h. let z : 0 - k ≡ 0 = omega arith in let o : k ≡ 0 = omega arith in rw z (neg-zero f (fin false m e) (down e) (down_pos e) (rw o at r));
    }

-- a finite value x of the format is its own fraction, rounded
pub near-self : (f : Format) (x : Float) → T (fits f x) → T (finite x) → Near f x (plus x) (less x) (den x)
unfolding neg
near-self f nan w h = absurd h
near-self f (inf s) w h = absurd h
near-self f (fin false m e) w h = self-up f m e w
near-self f (fin true m e) w h = near-neg f (fin false m e) (m * up e) 0 (down e) (self-up f m e (neg-fits f (fin true m e) w))

-- ---- the operations on finite values
-- `plus x` and `less x` from the sign and the numerator of x
parts_are : (x : Float) → (plus x ≡ cond (signed x) 0 (num x)) × (less x ≡ cond (signed x) (num x) 0)
parts_are nan = (refl, refl)
parts_are (inf true) = (refl, refl)
parts_are (inf false) = (refl, refl)
parts_are (fin s m e) = (refl, refl)

-- `plus x * k` and `less x * k` from the sign and the numerator of x, for any k
over : (x : Float) (k : ℕ) → (cond (signed x) 0 (num x * k) ≡ plus x * k) × (cond (signed x) (num x * k) 0 ≡ less x * k)
over x k = rw ((parts_are x).0, (parts_are x).1) (signs (signed x) (num x))
  where
    signs : (s : Bool) (a : ℕ) → (cond s 0 (a * k) ≡ cond s 0 a * k) × (cond s (a * k) 0 ≡ cond s a 0 * k)
    signs true a = (sym (zero-mul k), refl)
    signs false a = (refl, sym (zero-mul k))

-- `plus` and `less` of a product
times : (x y : Float)
    → cond (unlike (signed x) (signed y)) 0 (num x * num y) + (plus x * less y + less x * plus y) ≡ plus x * plus y + less x * less y + cond (unlike (signed x) (signed y)) (num x * num y) 0
times x y = rw ((parts_are x).0, (parts_are x).1, (parts_are y).0, (parts_are y).1) (signs (signed x) (signed y) (num x) (num y))
  where
    signs : (s t : Bool) (a b : ℕ)
        → cond (unlike s t) 0 (a * b) + (cond s 0 a * cond t b 0 + cond s a 0 * cond t 0 b) ≡ cond s 0 a * cond t 0 b + cond s a 0 * cond t b 0 + cond (unlike s t) (a * b) 0
    signs false false a b = omega arith
    signs true false a b = omega arith
    signs false true a b = omega arith
    signs true true a b = omega arith

-- ±a / c + ±b / c
near-sum : (f : Format) (s : Bool) (a : ℕ) (t : Bool) (b c p n : ℕ) → 0 < c → cond s 0 a + cond t 0 b ≡ p → cond s a 0 + cond t b 0 ≡ n → Near f (sum f s a t b c) p n c
near-sum f s a t b c p n C e e' =
    record { above = λ h. sum-up f s a t b c (p - n) C (omega arith); under = λ h. sum-down f s a t b c (n - p) C (omega arith) }

-- x + y
pub near_add : (f : Format) (x y : Float) → T (finite x) → T (finite y) → Near f (add f x y) (plus x * den y + plus y * den x) (less x * den y + less y * den x) (den x * den y)
near_add f x y p q =
    let i = over x (den y) in
    let j = over y (den x) in
    rw (add_is f x y p q)
    (near-sum f (signed x) (num x * den y) (signed y) (num y * den x) (den x * den y) _ _ (dens_pos x y) (cc (i.0, j.0)) (cc (i.1, j.1)))

-- negation exchanges `plus` and `less`
pub neg-parts : (y : Float) → (plus (neg y) ≡ less y) × (less (neg y) ≡ plus y) × (den (neg y) ≡ den y)
unfolding neg
neg-parts nan = (refl, refl, refl)
neg-parts (inf s) = (refl, refl, refl)
neg-parts (fin true m e) = (refl, refl, refl)
neg-parts (fin false m e) = (refl, refl, refl)

-- x - y
pub near_sub : (f : Format) (x y : Float) → T (finite x) → T (finite y) → Near f (sub f x y) (plus x * den y + less y * den x) (less x * den y + plus y * den x) (den x * den y)
unfolding sub
near_sub f x y p q =
    let e = neg-parts y in
    rw (e.0, e.1, e.2) at (near_add f x (neg y) p (finite-neg y q))

-- x * y
pub near_mul : (f : Format) (x y : Float) → T (finite x) → T (finite y) → Near f (mul f x y) (plus x * plus y + less x * less y) (plus x * less y + less x * plus y) (den x * den y)
near_mul f x y p q = rw (mul_is f x y p q) (near-round f (unlike (signed x) (signed y)) (num x * num y) (den x * den y) _ _ (dens_pos x y) (times x y))

-- x / y for a positive y
pub near_div : (f : Format) (x y : Float) → T (finite x) → T (positive y) → Near f (div f x y) (plus x * den y) (less x * den y) (num y * den x)
near_div f x y p q =
    let i = over x (den y) in
    rw (div_is f x y p q) (near-round f (signed x) (num x * den y) (num y * den x) _ _ (quot_pos x y q) (cc (i.0, i.1)))

-- ---- each operation keeps the order, whatever the signs
-- these write out a sum of products and sort the factors of each, so that `omega` sees equal products as equal
pub ruleset products = (add-mul, mul-add, mul_assoc, mul_comm, mul_left_comm)

-- x ≤ y, both finite: the fractions of x and y are in that order
pub le→frac : (x y : Float) → T (finite x) → T (finite y) → T (le x y) → plus x * den y + less y * den x ≤ plus y * den x + less x * den y
le→frac nan y p q h = absurd p
le→frac (inf s) y p q h = absurd p
le→frac (fin s m e) nan p q h = absurd q
le→frac (fin s m e) (inf t) p q h = absurd q
le→frac (fin s m e) (fin t n d) p q h = signs s t (m * up e) (n * up d) (down e) (down d) (le→Le (fin s m e) (fin t n d) h)
  where
    signs : (s t : Bool) (a b u v : ℕ) → Le2 s (a * v) t (b * u) → cond s 0 a * v + cond t b 0 * u ≤ cond t 0 b * u + cond s a 0 * v
    signs false false a b u v h = omega arith
    signs false true a b u v h = omega (arith, h.0, h.1)
    signs true false a b u v h = omega arith
    signs true true a b u v h = omega arith

-- x ≤ x' and y ≤ y': x + y ≤ x' + y'
pub add-order : (f : Format) (x x' y y' : Float) → T (finite x) → T (finite x') → T (finite y) → T (finite y') → T (le x x') → T (le y y') → T (le (add f x y) (add f x' y'))
add-order f x x' y y' p p' q q' h k =
    order f _ _ _ _ _ _ _ _ (near_add f x y p q) (near_add f x' y' p' q') (dens_pos x y) (dens_pos x' y')
    (simp products
    (omega (arith, simp products at (mul-le-mul_right (den y * den y') (le→frac x x' p p' h)), simp products at (mul-le-mul_right (den x * den x') (le→frac y y' q q' k)))))

-- x ≤ x' and y' ≤ y: x - y ≤ x' - y'
pub sub_order : (f : Format) (x x' y y' : Float) → T (finite x) → T (finite x') → T (finite y) → T (finite y') → T (le x x') → T (le y' y) → T (le (sub f x y) (sub f x' y'))
unfolding sub
sub_order f x x' y y' p p' q q' h k = add-order f x x' (neg y) (neg y') p p' (finite-neg y q) (finite-neg y' q') h (neg-order y' y k)

-- x ≤ x' and 0 < y: x / y ≤ x' / y
pub div_order : (f : Format) (x x' y : Float) → T (finite x) → T (finite x') → T (positive y) → T (le x x') → T (le (div f x y) (div f x' y))
div_order f x x' y p p' q h =
    order f _ _ _ _ _ _ _ _ (near_div f x y p q) (near_div f x' y p' q) (quot_pos x y q) (quot_pos x' y q)
    (omega (arith, mul-le-mul_right (den y * num y) (le→frac x x' p p' h)))

-- ---- products of bounded values
-- -a ≤ x ≤ a: a is not negative, and the size of x is at most a
size-le : (x a : Float) → T (finite x) → T (finite a) → T (within (neg a) a x) → T (nonneg a) × (num x * den a ≤ num a * den x)
unfolding neg
size-le nan a p q h = absurd p
size-le (inf s) a p q h = absurd p
size-le (fin s m e) nan p q h = absurd q
size-le (fin s m e) (inf t) p q h = absurd q
size-le (fin s m e) (fin t n d) p q h =
    signs s t (le→Le (fin (not t) n d) (fin s m e) (and_l (le (fin (not t) n d) (fin s m e)) (le (fin s m e) (fin t n d)) h))
    (le→Le (fin s m e) (fin t n d) (and_r (le (fin (not t) n d) (fin s m e)) (le (fin s m e) (fin t n d)) h))
  where
    none : n * up d * down e ≡ 0 → T (eqb n 0)
    none z = eq→eqb (zero-first n (up d) (up_pos d) (zero-first (n * up d) (down e) (down_pos e) z))

    signs : (s t : Bool) → Le (fin (not t) n d) (fin s m e) → Le (fin s m e) (fin t n d) → T (nonneg (fin t n d)) × (m * up e * down d ≤ n * up d * down e)
    signs false false l r = (tt, r)
    signs true false l r = (tt, l)
    signs false true l r = (none r.1, omega (arith, r.0))
    signs true true l r = (none l.0, omega (arith, l.1))

-- -z ≤ x ≤ z: -z ≤ -x ≤ z
pub within-neg : (z x : Float) → T (within (neg z) z x) → T (within (neg z) z (neg x))
within-neg z x h =
    and_i (le (neg z) (neg x)) (le (neg x) z) (neg-order x z (and_r (le (neg z) x) (le x z) h)) (rw (neg-neg z) at (neg-order (neg z) x (and_l (le (neg z) x) (le x z) h)))

-- z is a / b rounded and k / c ≤ a / b: ±k / c rounded lies between -z and z
round_bound : (f : Format) (s : Bool) (k c : ℕ) (z : Float) (a b : ℕ) → Rounds f z a b → 0 < c → 0 < b → k * b ≤ a * c → T (within (neg z) z (round f s k c))
round_bound f s k c z a b r C B h = go s
  where
    up_in : T (within (neg z) z (round f false k c))
    up_in =
        let u = of_signed f false k c C absurd in
        and_i (le (neg z) (round f false k c)) (le (round f false k c) z)
        (fle_trans (neg z) plus_zero (round f false k c) (below-zero (neg z) (rw (neg-neg z) r.sign)) (ge0→le (round f false k c) u.sign))
        (mono f (round f false k c) z k c a b u r C B h)

    go : (s : Bool) → T (within (neg z) z (round f s k c))
    go false = up_in
    go true = rw (neg-round f false k c) at (within-neg z (round f false k c) up_in)

-- -a ≤ x ≤ a and -b ≤ y ≤ b: -(a * b) ≤ x * y ≤ a * b
pub mul_bound : (f : Format) (x a y b : Float) → T (finite x) → T (finite a) → T (finite y) → T (finite b)
    → T (within (neg a) a x) → T (within (neg b) b y) → T (within (neg (mul f a b)) (mul f a b) (mul f x y))
mul_bound f x a y b p pa q qb h k =
    let u = size-le x a p pa h in
    let v = size-le y b q qb k in
    rw (mul_is f x y p q)
    (round_bound f (unlike (signed x) (signed y)) (num x * num y) (den x * den y) (mul f a b) (num a * num b) (den a * den b)
    (mul_rounds f a b u.0 v.0) (dens_pos x y) (dens_pos a b) (omega (arith, mul-le-mul u.1 v.1)))
