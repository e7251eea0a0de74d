-- Results that are not positive, each through its negation: a difference x - y for x ≤ y, and a product with a factor
-- that is not positive. Rounding commutes with negation, and negation reverses the order. Assumes nothing.
use mathlib.Core.Path.{◌≡◌, refl, sym, ap, ◌∙◌}
use Prim.Native.Nat.{ℕ, zero, suc, ◌+◌, ◌-◌, ◌*◌, ◌^◌, ◌<◌}
use native.Mathlib.Omega.{arith}
use mathlib.Core.Bool.{Bool, true, false, not, cond}
use lib.Dec.{T, ltb}
use lib.Ieee.{Float, nan, inf, fin, Format, prec, emax, low, unlike, up}
use lib.Ieee.{down, odd, units, round, neg, sum, sub, mul, le}
use lib.Ieee.Fits.{up_pos, eq→eqb, round_is}
use lib.Ieee.Order.{drop, kept}
use lib.Ieee.Scale.{finite}
use lib.Ieee.Positive.{num, den, den_pos}
use Rattle.floats.specs.Range.{plus_zero, ge0, nonneg}
use Rattle.floats.proofs.Order.{Le, Le2, le→Le, Le→le, fle_trans, ge0→le, le→cross}
use Rattle.floats.proofs.Order.{zero-first, times_zero, under, nonneg→finite, signed, signed-zero-over}
use Rattle.floats.proofs.Rounds.{Rounds, of_zero, of_signed, zero-nonneg, sum_cases, parts, mul_rounds}
use Rattle.floats.proofs.Operations.{dens_pos, sub_is}

-- ---- negation
-- -(-x) is x
pub neg-neg : (x : Float) → neg (neg x) ≡ x
unfolding neg
neg-neg nan = refl
neg-neg (inf true) = refl
neg-neg (inf false) = refl
neg-neg (fin true m e) = refl
neg-neg (fin false m e) = refl

-- x is finite: so is -x
pub finite-neg : (x : Float) → T (finite x) → T (finite (neg x))
unfolding neg
finite-neg nan h = h
finite-neg (inf s) h = h
finite-neg (fin s m e) h = tt

-- ±a ≤ ±b: ∓b ≤ ∓a
neg-Le2 : (s t : Bool) (a b : ℕ) → Le2 s a t b → Le2 (not t) b (not s) a
neg-Le2 true true a b h = h
neg-Le2 true false a b h = tt
neg-Le2 false true a b h = (h.1, h.0)
neg-Le2 false false a b h = h

neg-Le : (x y : Float) → Le x y → Le (neg y) (neg x)
unfolding neg
neg-Le nan y h = absurd h
neg-Le (inf s) nan h = absurd h
neg-Le (inf true) (inf true) h = tt
neg-Le (inf true) (inf false) h = tt
neg-Le (inf false) (inf true) h = absurd h
neg-Le (inf false) (inf false) h = tt
neg-Le (inf true) (fin t n d) h = tt
neg-Le (inf false) (fin t n d) h = absurd h
neg-Le (fin s m e) nan h = absurd h
neg-Le (fin s m e) (inf true) h = absurd h
neg-Le (fin s m e) (inf false) h = tt
neg-Le (fin s m e) (fin t n d) h = neg-Le2 s t (m * up e * down d) (n * up d * down e) h

-- x ≤ y: -y ≤ -x
pub neg-order : (x y : Float) → T (le x y) → T (le (neg y) (neg x))
neg-order x y h = Le→le (neg y) (neg x) (neg-Le x y (le→Le x y h))

-- 0 ≤ -x: x ≤ 0
pub below-zero : (x : Float) → T (ge0 (neg x)) → T (le x plus_zero)
below-zero x h = fle_trans x (neg plus_zero) plus_zero (rw neg-neg at (neg-order plus_zero (neg x) (ge0→le (neg x) h))) (unfold neg le in tt)

-- ---- a rounded fraction, negated
neg-odd : (d : ℕ) (s : Bool) (q k l : ℕ) → neg (odd d s q k l) ≡ odd d (not s) q k l
unfolding odd neg
neg-odd d s zero k l = refl
neg-odd d s (suc q) k l = refl

neg-units : (f : Format) (s : Bool) (q k : ℕ) → neg (units f s q k) ≡ units f (not s) q k
unfolding units neg
neg-units f s q k = go (ltb (q * 2 ^ k) (2 ^ (low f + suc (emax f))))
  where
    go : (b : Bool) → neg (cond b (odd (suc (prec f)) s q k (low f)) (inf s)) ≡ cond b (odd (suc (prec f)) (not s) q k (low f)) (inf (not s))
    go true = neg-odd (suc (prec f)) s q k (low f)
    go false = refl

-- ±a / c rounded, negated: ∓a / c rounded
pub neg-round : (f : Format) (s : Bool) (a c : ℕ) → neg (round f s a c) ≡ round f (not s) a c
neg-round f s a c =
    ap neg (round_is f s a c) ∙ neg-units f s (kept (prec f) (a * 2 ^ low f) c) (drop (prec f) (a * 2 ^ low f) c) ∙ sym (round_is f (not s) a c)

-- a zero, negated, is a zero
neg-nonneg : (x : Float) → T (nonneg x) → num x ≡ 0 → T (nonneg (neg x)) × (num (neg x) ≡ 0)
unfolding neg
neg-nonneg nan p h = (p, h)
neg-nonneg (inf s) p h = (p, h)
neg-nonneg (fin true m e) p h = (tt, h)
neg-nonneg (fin false m e) p h = (eq→eqb (zero-first m (up e) (up_pos e) h), h)

-- x is 0 / c rounded: so is -x
pub neg-zero : (f : Format) (x : Float) (c : ℕ) → 0 < c → Rounds f x 0 c → Rounds f (neg x) 0 c
neg-zero f x c C r =
    let z = round f false 0 c in
    let w = zero-nonneg f false c C in
    let p : T (nonneg x) = under x z r.sign (nonneg→finite z w.0) r.upper in
    let n : num x ≡ 0 = zero-first (num x) (den z) (den_pos z) (omega (arith, le→cross x z p w.0 r.upper, times_zero (num z) (den x) w.1)) in
    let q = neg-nonneg x p n in
    of_zero f (neg x) c C q.0 q.1

-- ---- x - y for x ≤ y
-- what is subtracted exceeds what is added by k: the negated sum is k / c rounded
pub sum-down : (f : Format) (s : Bool) (a : ℕ) (t : Bool) (b c k : ℕ) → 0 < c → cond s 0 a + cond t 0 b + k ≡ cond s a 0 + cond t b 0 → Rounds f (neg (sum f s a t b c)) k c
sum-down f s a t b c k C e =
    sum_cases f s a t b c (λ x. Rounds f (neg x) k c)
    (λ j h. let w : k ≡ j = omega arith in rw (w, neg-round f false j c) (of_signed f true j c C (λ _. omega arith)))
    (λ j h. let w : k ≡ j = omega arith in rw (w, neg-round f true j c) (of_signed f false j c C absurd))

-- -(x - y) for x ≤ y is the fraction of y less the fraction of x, rounded
pub neg-sub_rounds : (f : Format) (x y : Float) → T (nonneg x) → T (nonneg y) → T (le x y) → Rounds f (neg (sub f x y)) (num y * den x - num x * den y) (den x * den y)
neg-sub_rounds f x y p q h =
    rw (sub_is f x y (nonneg→finite x p) (nonneg→finite y q))
    (sum-down f (signed x) (num x * den y) (not (signed y)) (num y * den x) (den x * den y) (num y * den x - num x * den y) (dens_pos x y)
    (omega (arith, parts (signed x) (num x * den y) (signed-zero-over x (den y) p), parts (signed y) (num y * den x) (signed-zero-over y (den x) q), le→cross x y p q h)))

-- ---- a product with a factor that is not positive
flip : (s t : Bool) → not (unlike s t) ≡ unlike s (not t)
flip true true = refl
flip true false = refl
flip false true = refl
flip false false = refl

-- -(x * y) is x * -y
pub neg-mul : (f : Format) (x y : Float) → T (finite x) → T (finite y) → neg (mul f x y) ≡ mul f x (neg y)
unfolding mul neg
neg-mul f nan y p q = absurd p
neg-mul f (inf s) y p q = absurd p
neg-mul f (fin s m e) nan p q = absurd q
neg-mul f (fin s m e) (inf t) p q = absurd q
neg-mul f (fin s m e) (fin t n d) p q =
    neg-round f (unlike s t) (m * up e * (n * up d)) (down e * down d) ∙ ap (λ (b : Bool). round f b (m * up e * (n * up d)) (down e * down d)) (flip s t)

-- -(x * y) for y ≤ 0 is the product of the fractions of x and -y, rounded
pub neg-mul_rounds : (f : Format) (x y : Float) → T (nonneg x) → T (nonneg (neg y)) → Rounds f (neg (mul f x y)) (num x * num (neg y)) (den x * den (neg y))
neg-mul_rounds f x y p q = rw (neg-mul f x y (nonneg→finite x p) (rw neg-neg at (finite-neg (neg y) (nonneg→finite (neg y) q)))) (mul_rounds f x (neg y) p q)
