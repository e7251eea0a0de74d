-- Magnitudes beside zero and beside the peak so far, which is at least +0: the code compares sizes, with -0 for -0,
-- and finds the same samples larger. Assumes nothing.
use mathlib.Core.Path.{◌≡◌, refl, sym}
use mathlib.Core.Bool.{Bool, true, false, not, cond, ◌||◌, true≢false}
use Prim.Native.Nat.{ℕ, ◌+◌, ◌*◌}
use native.Mathlib.Omega.{arith}
use lib.Dec.{T, T_not, eqb}
use lib.Ieee.{Float, nan, inf, fin, binary64, of_bits, lt, le, eq, neg, up, down}
use lib.Ieee.Bits.{is_true}
use borrow.Author.Tests.{le-ltb, eqb-true}
use Rattle.std.proofs.lemmas.Bool.{and_parts}
use Rattle.std.proofs.lemmas.Float.{T_from_true, T_from_false}
use lib.Ieee.Scale.{finite}
use Rattle.floats.specs.Range.{plus_zero}
use Rattle.floats.specs.Double.{zero64}
use Rattle.floats.proofs.Literals.{zero_of-is}
use Rattle.floats.proofs.Order.{fle_trans, lt-le, lt_not_le, not-lt-le, by_contra}
use Rattle.floats.proofs.Signed.{neg-neg, finite-neg, neg-order}
use Rattle.peaks.specs.declared.Peak.{Peak}
use Rattle.peaks.specs.Peaks.{magnitude_of, higher, IsMagnitude}
use Rattle.peaks.specs.Inner.{size_of}

-- ---- tests
-- x ≤ a: not a < x
pub not-above : (a x : Float) → T (le x a) → lt a x ≡ false
not-above a x h = go (lt a x) (λ (l : T (lt a x)). lt_not_le a x l h)
  where
    go : (b : Bool) → (T b → ⊥) → b ≡ false
    go true n = absurd (n tt)
    go false n = refl

-- x = y as numbers: x ≤ y
equal-le : (x y : Float) → eq x y ≡ true → T (le x y)
unfolding le
equal-le x y e = rw e (go (lt x y))
  where
    go : (b : Bool) → T (b || true)
    go true = tt
    go false = tt

-- ---- what a magnitude is
-- x = 0 as a number: not x < 0
level-not-below : (x : Float) → eq x plus_zero ≡ true → lt x plus_zero ≡ false
unfolding lt eq
level-not-below nan e = refl
level-not-below (inf s) e = absurd (true≢false (sym e))
level-not-below (fin false m e) q = let a = m * up e * 1 in let b = 0 * 1 * down e in le-ltb a b (omega (arith, eqb-true a b (and_parts (eqb a b) _ q).0))
level-not-below (fin true m e) q =
    let a = m * up e * 1 in
    let b = 0 * 1 * down e in
    let h = and_parts (eqb a b) (eqb a 0) q in
    le-ltb 0 (a + b) (omega (arith, eqb-true a b h.0, eqb-true a 0 h.1))

pub magnitude_is : (x : Float) → IsMagnitude x (magnitude_of x)
magnitude_is x =
    record {
      below = λ h. rw (is_true (lt x zero64) h) refl;
      none = λ h. (let e : eq x zero64 ≡ true = is_true (eq x zero64) h in let l : lt x zero64 ≡ false = rw (zero_of-is binary64) (level-not-below x (rw (zero_of-is binary64) at e)) in rw (l, e) refl);
      above = λ h. rw (not-above x zero64 (lt-le zero64 x h), not-level h (eq x zero64) refl) refl;
    }
  where
    not-level : T (lt zero64 x) → (t : Bool) → eq x zero64 ≡ t → eq x zero64 ≡ false
    not-level h true e = absurd (lt_not_le zero64 x h (equal-le x zero64 e))
    not-level h false e = e

-- ---- beside a peak that is at least +0
-- a sample that is not above it in size is not above it in magnitude
pub passed_over : (a x : Float) → T (le zero64 a) → T (le (size_of x) a) → lt a (magnitude_of x) ≡ false
passed_over a x z h = go (lt x zero64) (eq x zero64) h
  where
    go : (t u : Bool) → T (le (cond t (neg x) x) a) → lt a (cond t (neg x) (cond u zero64 x)) ≡ false
    go true u h = not-above a (neg x) h
    go false true h = not-above a zero64 z
    go false false h = not-above a x h

-- a sample that is judged by its size is judged by its magnitude
pub by_size : (p : Peak) (x : Float) (i : ℕ) → T (le zero64 p.magnitude) → higher p (size_of x) i ≡ higher p (magnitude_of x) i
by_size p x i z = go (lt x zero64) (eq x zero64) refl
  where
    go : (t u : Bool) → eq x zero64 ≡ u → higher p (cond t (neg x) x) i ≡ higher p (cond t (neg x) (cond u zero64 x)) i
    go true u e = refl
    go false false e = refl
    go false true e = rw (not-above p.magnitude x (fle_trans x zero64 p.magnitude (equal-le x zero64 e) z), not-above p.magnitude zero64 z) refl

-- ---- of finite samples
zero-finite : T (finite zero64)
zero-finite = unfold of_bits in tt

pub magnitude_finite : (x : Float) → T (finite x) → T (finite (magnitude_of x))
magnitude_finite x f = go (lt x zero64) (eq x zero64)
  where
    go : (t u : Bool) → T (finite (cond t (neg x) (cond u zero64 x)))
    go true u = finite-neg x f
    go false true = zero-finite
    go false false = f

-- x < 0: 0 < -x
neg-above : (x : Float) → T (finite x) → T (lt x zero64) → T (lt zero64 (neg x))
neg-above x f h =
    by_contra (lt zero64 (neg x))
    (λ (n : T (not (lt zero64 (neg x)))). lt_not_le x zero64 h
    (fle_trans zero64 (neg zero64) x (unfold of_bits neg le in tt) (rw neg-neg at (neg-order (neg x) zero64 (not-lt-le zero64 (neg x) zero-finite (finite-neg x f) n)))))

-- neither x < 0 nor x = 0: 0 < x
rest_above : (x : Float) → T (finite x) → lt x zero64 ≡ false → eq x zero64 ≡ false → T (lt zero64 x)
unfolding le
rest_above x f l e = by_contra (lt zero64 x) (λ (n : T (not (lt zero64 x))). rw (l, e) at (not-lt-le zero64 x zero-finite f n))

-- a magnitude that is not above 0 is +0
pub magnitude_none : (x : Float) → T (finite x) → lt zero64 (magnitude_of x) ≡ false → magnitude_of x ≡ zero64
magnitude_none x f h = go (lt x zero64) refl (eq x zero64) refl (T_from_false (lt zero64 (magnitude_of x)) h)
  where
    go : (t : Bool) → lt x zero64 ≡ t → (u : Bool) → eq x zero64 ≡ u → T (not (lt zero64 (cond t (neg x) (cond u zero64 x)))) → cond t (neg x) (cond u zero64 x) ≡ zero64
    go true l u e n = absurd (T_not (lt zero64 (neg x)) n (neg-above x f (T_from_true (lt x zero64) l)))
    go false l true e n = refl
    go false l false e n = absurd (T_not (lt zero64 x) n (rest_above x f l e))
