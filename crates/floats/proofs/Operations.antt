-- Each operation on finite values as the fraction that it rounds. A finite x is ±num x / den x, with a minus where
-- `signed x` is true. Every later law reads the operations here. Assumes nothing.
use mathlib.Core.Path.{◌≡◌, refl}
use Prim.Native.Nat.{ℕ, ◌*◌, ◌%◌, ◌<◌}
use native.Mathlib.Nat.{mul-pos}
use native.Mathlib.Omega.{arith}
use mathlib.Core.Bool.{true, false, not}
use lib.Dec.{T, ltb, eqb, eqb→eq, ltb→lt, not_T}
use lib.Ieee.{Float, nan, inf, fin, Format, unlike, round}
use lib.Ieee.{sum, add, sub, mul, div, rem}
use lib.Ieee.Bits.{is_false}
use lib.Ieee.Scale.{finite}
use lib.Ieee.Positive.{num, den, den_pos, positive}
use Rattle.floats.proofs.Order.{signed, positive-num}

-- the denominator of a sum or a product is positive
pub dens_pos : (x y : Float) → 0 < den x * den y
dens_pos x y = mul-pos (den_pos x) (den_pos y)

-- the denominator of a quotient by a positive y is positive
pub quot_pos : (x y : Float) → T (positive y) → 0 < num y * den x
quot_pos x y q = mul-pos (positive-num y q) (den_pos x)

-- n is positive: the test n = 0 in `div` and `rem` fails
pub not-zero : (n : ℕ) → T (ltb 0 n) → eqb n 0 ≡ false
not-zero n h = is_false (eqb n 0) (not_T (eqb n 0) (λ (t : T (eqb n 0)). omega (arith, eqb→eq n 0 t, ltb→lt 0 n h)))

module _ (f : Format) where
  -- x + y
  pub add_is : (x y : Float) → T (finite x) → T (finite y) → add f x y ≡ sum f (signed x) (num x * den y) (signed y) (num y * den x) (den x * den y)
  unfolding add
  add_is nan y p q = absurd p
  add_is (inf s) y p q = absurd p
  add_is (fin s m e) nan p q = absurd q
  add_is (fin s m e) (inf t) p q = absurd q
  add_is (fin s m e) (fin t n d) p q = refl

  -- x - y
  pub sub_is : (x y : Float) → T (finite x) → T (finite y) → sub f x y ≡ sum f (signed x) (num x * den y) (not (signed y)) (num y * den x) (den x * den y)
  unfolding sub
  sub_is nan y p q = absurd p
  sub_is (inf s) y p q = absurd p
  sub_is (fin s m e) nan p q = absurd q
  sub_is (fin s m e) (inf t) p q = absurd q
  sub_is (fin s m e) (fin t n d) p q = refl

  -- x * y
  pub mul_is : (x y : Float) → T (finite x) → T (finite y) → mul f x y ≡ round f (unlike (signed x) (signed y)) (num x * num y) (den x * den y)
  unfolding mul
  mul_is nan y p q = absurd p
  mul_is (inf s) y p q = absurd p
  mul_is (fin s m e) nan p q = absurd q
  mul_is (fin s m e) (inf t) p q = absurd q
  mul_is (fin s m e) (fin t n d) p q = refl

  -- x / y for a positive y
  pub div_is : (x y : Float) → T (finite x) → T (positive y) → div f x y ≡ round f (signed x) (num x * den y) (num y * den x)
  unfolding div
  div_is nan y p q = absurd p
  div_is (inf s) y p q = absurd p
  div_is (fin s m e) nan p q = absurd q
  div_is (fin s m e) (inf t) p q = absurd q
  div_is (fin s m e) (fin true n d) p q = absurd q
  div_is (fin true m e) (fin false n d) p q = rw (not-zero n q)
  div_is (fin false m e) (fin false n d) p q = rw (not-zero n q)

  -- x % y for a positive y
  pub rem_is : (x y : Float) → T (finite x) → T (positive y) → rem f x y ≡ round f (signed x) (num x * den y % (num y * den x)) (den x * den y)
  unfolding rem
  rem_is nan y p q = absurd p
  rem_is (inf s) y p q = absurd p
  rem_is (fin s m e) nan p q = absurd q
  rem_is (fin s m e) (inf t) p q = absurd q
  rem_is (fin s m e) (fin true n d) p q = absurd q
  rem_is (fin s m e) (fin false n d) p q = rw (not-zero n q)
