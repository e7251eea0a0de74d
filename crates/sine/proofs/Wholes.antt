-- Whole numbers as floats: the fraction that each is; the difference of two up to 2^51 in size is exact; those up to
-- 2^30 in size lie from -2^30 to 2^30, compared as floats. Assumes nothing.
use mathlib.Core.Path.{◌≡◌, refl, sym, ap, ◌∙◌}
use mathlib.Core.Bool.{Bool, true, false, not, cond, true≢false}
use Prim.Native.Nat.{ℕ, zero, suc, ◌+◌, ◌-◌, ◌*◌, ◌^◌, ◌<◌, ◌≤◌}
use native.Mathlib.Nat.{le_of_eq, le_trans, le_antisymm, mul-one, mul-le-mul_right, eq_of_mul-eq-mul_right}
use native.Mathlib.Omega.{arith}
use lib.IntN.{ℤ, pos, negsuc, neg_ℤ}
use lib.Dec.{T, leb, leb→le, nleb→lt, lit≤}
use lib.Ieee.{Float, nan, inf, fin, binary64, of_bits, of_int, round, neg, sub, le, fits}
use lib.Ieee.Fits.{and_i, of_int-fits, neg-fits}
use lib.Ieee.Bits.{of_bits-fits}
use lib.Ieee.Back.{round_whole}
use lib.Ieee.Exact.{HasValue}
use lib.Ieee.Scale.{finite}
use lib.Ieee.Positive.{den, den_pos}
use Rattle.floats.specs.Range.{within}
use Rattle.floats.proofs.Order.{between-finite}
use Rattle.floats.proofs.Near.{plus, less, order, near-self, near_sub, le→frac, products}
use Rattle.floats.proofs.Operations.{dens_pos}
use Rattle.floats.proofs.Interpolation.{Exact}
use Rattle.sine.specs.Sine.{float, scale}

-- z is gains less losses, one of which is 0
abbrev pub gains : ℤ → ℕ
gains (pos n) = n
gains (negsuc n) = 0

abbrev pub losses : ℤ → ℕ
losses (pos n) = 0
losses (negsuc n) = suc n

-- z is at most m in size
pub record Sized (m : ℕ) (z : ℤ) : Type 0 where
  pub up : gains z ≤ m
  pub down : losses z ≤ m

-- the negative of z has the size of z
pub sized-neg : (m : ℕ) (z : ℤ) → Sized m z → Sized m (neg_ℤ z)
sized-neg m (pos zero) s = s
sized-neg m (pos (suc n)) s = record { up = s.down; down = s.up }
sized-neg m (negsuc n) s = record { up = s.down; down = s.up }

-- z is at most m in size: it is at most any larger k
pub sized_more : (m k : ℕ) (z : ℤ) → m ≤ k → Sized m z → Sized k z
sized_more m k z h s = record { up = le_trans s.up h; down = le_trans s.down h }

-- ---- the fraction that a whole number is
-- x is finite, and is the fraction (p - n) * den x / den x
pub record Fraction (x : Float) (p n : ℕ) : Type 0 where
  pub gain : plus x ≡ p * den x
  pub loss : less x ≡ n * den x
  pub ends : T (finite x)

-- a float that is the whole number n, or -n
of_value : (x : Float) (s : Bool) (n : ℕ) → HasValue x s n 1 → Fraction x (cond s 0 n) (cond s n 0)
of_value nan s n h = absurd h
of_value (inf t) s n h = absurd h
of_value (fin true m e) true n h = record { gain = omega arith; loss = sym (mul-one _) ∙ h.1; ends = tt }
of_value (fin false m e) false n h = record { gain = sym (mul-one _) ∙ h.1; loss = omega arith; ends = tt }
of_value (fin true m e) false n h = absurd (true≢false h.0)
of_value (fin false m e) true n h = absurd (true≢false (sym h.0))

-- numbers up to 2^53 in size are exact
pub fraction : (z : ℤ) → Sized (2 ^ 53) z → Fraction (float z) (gains z) (losses z)
unfolding of_int
fraction (pos n) s = of_value (round binary64 false n 1) false n (round_whole binary64 false n s.up)
fraction (negsuc n) s = of_value (round binary64 true (suc n) 1) true (suc n) (round_whole binary64 true (suc n) s.down)

-- ---- the difference of two is exact
-- x - y as a whole number
record Difference (x y : ℕ) : Type 0 where
  whole : ℤ
  is : x + losses whole ≡ gains whole + y
  sized : Sized (x + y) whole

-- the whole number is x - y, or -(y - x)
difference : (x y : ℕ) → Difference x y
difference x y = go (leb y x) (leb→le y x) (nleb→lt y x)
  where
    go : (t : Bool) → (T t → y ≤ x) → (T (not t) → x < y) → Difference x y
    go true a b = record { whole = pos (x - y); is = omega (arith, a tt); sized = record { up = omega arith; down = omega arith } }
    go false a b = record { whole = negsuc (y - suc x); is = omega (arith, b tt); sized = record { up = omega arith; down = omega (arith, b tt) } }

-- over the denominators u, v and w
crossed : (B b A a P N u v w : ℕ) → B + a + N ≡ P + (b + A) → (B * u * v + a * v * u) * w + N * w * (u * v) ≡ P * w * (u * v) + (b * u * v + A * v * u) * w
crossed B b A a P N u v w h = simp products (omega (arith, simp products at (ap (λ (z : ℕ). z * (u * v * w)) h)))

-- what is (P - N) / u as a fraction of w, and of e: the two agree
agreed : (g l p n P N u w e : ℕ) → 0 < w → g * w + N * e ≡ P * e + l * w → p * w + N * u ≡ P * u + n * w → g * u + n * e ≡ l * u + p * e
agreed g l p n P N u w e W h k = eq_of_mul-eq-mul_right w W (g * u + n * e) (l * u + p * e) (simp products (omega (arith, simp products at (ap (λ (z : ℕ). z * u) h), simp products at (ap (λ (z : ℕ). z * e) k))))

-- b - a, for a and b at most 2^51 in size: d is w, the whole number that it should be
module _ (a b : ℤ) (sa : Sized (2 ^ 51) a) (sb : Sized (2 ^ 51) b) where
  abbrev x : Float
  x = float a

  abbrev y : Float
  y = float b

  abbrev d : Float
  d = sub binary64 y x

  fa : Fraction x (gains a) (losses a)
  fa = fraction a (sized_more (2 ^ 51) (2 ^ 53) a (lit≤ tt) sa)

  fb : Fraction y (gains b) (losses b)
  fb = fraction b (sized_more (2 ^ 51) (2 ^ 53) b (lit≤ tt) sb)

  D : Difference (gains b + losses a) (losses b + gains a)
  D = difference (gains b + losses a) (losses b + gains a)

  abbrev w : Float
  w = float D.whole

  fw : Fraction w (gains D.whole) (losses D.whole)
  fw = fraction D.whole (sized_more (gains b + losses a + (losses b + gains a)) (2 ^ 53) D.whole (omega (arith, sa.up, sa.down, sb.up, sb.down)) D.sized)

  same : (plus y * den x + less x * den y) * den w + less w * (den y * den x) ≡ plus w * (den y * den x) + (less y * den x + plus x * den y) * den w
  same = rw (fa.gain, fa.loss, fb.gain, fb.loss, fw.gain, fw.loss) (crossed (gains b) (losses b) (gains a) (losses a) (gains D.whole) (losses D.whole) (den y) (den x) (den w) D.is)

  d≤w : T (le d w)
  d≤w = order binary64 _ _ _ _ _ _ _ _ (near_sub binary64 y x fb.ends fa.ends) (near-self binary64 w (of_int-fits binary64 D.whole) fw.ends) (dens_pos y x) (den_pos w) (le_of_eq same)

  w≤d : T (le w d)
  w≤d = order binary64 _ _ _ _ _ _ _ _ (near-self binary64 w (of_int-fits binary64 D.whole) fw.ends) (near_sub binary64 y x fb.ends fa.ends) (den_pos w) (dens_pos y x) (le_of_eq (sym same))

  pub sub-finite : T (finite d)
  sub-finite = between-finite w d w fw.ends fw.ends w≤d d≤w

  pub sub-exact : Exact d y x
  sub-exact =
      agreed (plus d) (less d) (plus y * den x + less x * den y) (less y * den x + plus x * den y) (plus w) (less w) (den y * den x) (den w) (den d) (den_pos w)
      (le_antisymm (le→frac d w sub-finite fw.ends d≤w) (le→frac w d fw.ends sub-finite w≤d)) same

-- ---- from -2^30 to 2^30
-- the order of whole numbers: p - n is at most q - m
pub whole_le : (x y : Float) (p n q m : ℕ) → Fraction x p n → Fraction y q m → T (fits binary64 x) → T (fits binary64 y) → p + m ≤ q + n → T (le x y)
whole_le x y p n q m f g v w h =
    order binary64 _ _ _ _ _ _ _ _ (near-self binary64 x v f.ends) (near-self binary64 y w g.ends) (den_pos x) (den_pos y)
    (rw (f.gain, f.loss, g.gain, g.loss) (over (den x) (den y)))
  where
    over : (u v : ℕ) → p * u * v + m * v * u ≤ q * v * u + n * u * v
    over u v = simp products (omega (arith, simp products at (mul-le-mul_right (u * v) h)))

-- 2^30 and -2^30
pub scale-is : Fraction scale (2 ^ 30) 0
unfolding of_bits
scale-is = record { gain = refl; loss = refl; ends = tt }

pub minus_is : Fraction (neg scale) 0 (2 ^ 30)
unfolding of_bits neg
minus_is = record { gain = refl; loss = refl; ends = tt }

pub scale-fits : T (fits binary64 scale)
scale-fits = of_bits-fits binary64 0x41d0_0000_0000_0000

pub minus-fits : T (fits binary64 (neg scale))
minus-fits = neg-fits binary64 scale scale-fits

-- z at most 2^30 in size
pub float_in : (z : ℤ) → Sized (2 ^ 30) z → T (within (neg scale) scale (float z))
float_in z s =
    let x = fraction z (sized_more (2 ^ 30) (2 ^ 53) z (lit≤ tt) s) in
    let w = of_int-fits binary64 z in
    and_i (le (neg scale) (float z)) (le (float z) scale)
    (whole_le (neg scale) (float z) 0 (2 ^ 30) (gains z) (losses z) minus_is x minus-fits w (omega (arith, s.down)))
    (whole_le (float z) scale (gains z) (losses z) (2 ^ 30) 0 x scale-is w scale-fits (omega (arith, s.up)))
