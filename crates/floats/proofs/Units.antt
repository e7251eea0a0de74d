-- The remainder without a division, to the bit. For x below y, x % y is x, and for x from y up to y + y it is x - y.
-- Where x and y are whole multiples a and b of one unit, x % y is a % b units: the same fraction, rounded once. For
-- either format. Assumes nothing.
use mathlib.Core.Path.{◌≡◌, refl, sym, ap, ◌∙◌}
use Prim.Native.Nat.{ℕ, ◌+◌, ◌-◌, ◌*◌, ◌%◌, ◌^◌, ◌≤◌, ◌<◌}
use native.Mathlib.Nat as nat
use native.Mathlib.Omega.{arith}
use mathlib.Core.Bool.{Bool, true, false}
use lib.IntN.{pos}
use lib.Dec.{T, ltb, ltb→lt, not_T}
use lib.Ieee.Bits.{is_false}
use lib.Ieee.{Float, nan, inf, fin, Format, prec, round, sum, sub, div, rem, of_int, lt, fits}
use lib.Ieee.Back.{round_whole}
use lib.Ieee.Exact.{HasValue}
use lib.Ieee.Scale.{round_same, finite}
use lib.Ieee.Positive.{num, den, den_pos, positive, first_pos}
use Rattle.floats.specs.Range.{plus_zero, nonneg}
use Rattle.floats.proofs.Order.{cross→le, lt_not_le, nonneg→finite, signed, positive-nonneg, positive-num}
use Rattle.floats.proofs.Operations.{dens_pos, quot_pos, sub_is, div_is, rem_is}
use Rattle.floats.proofs.Remainder.{mod_scale}
use Rattle.floats.proofs.OneWay.{self-is}

plain : (x : Float) → T (positive x) → signed x ≡ false
plain nan p = absurd p
plain (inf s) p = absurd p
plain (fin true m e) p = absurd p
plain (fin false m e) p = refl

-- ---- below y
-- 0 ≤ x < y: x % y is x, -0 included
pub rem_below : (f : Format) (x y : Float) → T (fits f x) → T (nonneg x) → T (positive y) → T (lt x y) → rem f x y ≡ x
rem_below f x y w p q h =
    let l : num x * den y < num y * den x = nat.lt_of_not-le (λ g. lt_not_le x y h (cross→le y x (positive-nonneg y q) p g)) in
    rem_is f x y (nonneg→finite x p) q
    ∙ rw (nat.mod-eq_of_lt l) (round_same f (signed x) (num x * den y) (den x * den y) (num x) (den x) (dens_pos x y) (den_pos x) (turn (num x) (den x) (den y)))
    ∙ self-is f x w (nonneg→finite x p)
  where
    turn : (a c d : ℕ) → a * d * c ≡ a * (c * d)
    turn a c d = omega arith

-- ---- below y + y
-- a / c - b / c for b ≤ a is (a - b) / c rounded
less : (f : Format) (a b c : ℕ) → b ≤ a → sum f false a true b c ≡ round f false (a - b) c
unfolding sum
less f a b c h = rw (is_false (ltb a b) (not_T (ltb a b) (λ (t : T (ltb a b)). omega (arith, ltb→lt a b t)))) refl

-- x - 0 is x, for a positive x
pub less_zero : (f : Format) (x : Float) → T (fits f x) → T (positive x) → sub f x plus_zero ≡ x
less_zero f x w p = sub_is f x plus_zero finite-x tt ∙ rest
  where
    finite-x : T (finite x)
    finite-x = nonneg→finite x (positive-nonneg x p)

    own : round f false (num x) (den x) ≡ x
    own = rw (← plain x p) (self-is f x w finite-x)

    rest : sum f (signed x) (num x * 1) true (0 * den x) (den x * 1) ≡ x
    rest = rw (plain x p, nat.mul-one (num x), nat.mul-one (den x), nat.zero-mul (den x)) (less f (num x) 0 (den x) (omega arith) ∙ ap (λ (n : ℕ). round f false n (den x)) (nat.sub-zero (num x)) ∙ own)

-- y ≤ x < y + y: x % y is x - y, because both round the same fraction
pub rem_once : (f : Format) (x y : Float) → T (positive x) → T (positive y) → num y * den x ≤ num x * den y → num x * den y < num y * den x + num y * den x → sub f x y ≡ rem f x y
rem_once f x y p q h l =
    sub_is f x y (nonneg→finite x (positive-nonneg x p)) (nonneg→finite y (positive-nonneg y q))
    ∙ rw (plain x p, plain y q) (less f (num x * den y) (num y * den x) (den x * den y) h)
    ∙ ap (λ (n : ℕ). round f false n (den x * den y)) (sym (once (num x * den y) (num y * den x) h l))
    ∙ sym (rem_is f x y (nonneg→finite x (positive-nonneg x p)) q ∙ rw (plain x p) refl)
  where
    once : (a b : ℕ) → b ≤ a → a < b + b → a % b ≡ a - b
    once a b h l = nat.mod-eq-sub-mod h ∙ nat.mod-eq_of_lt (omega arith)

-- ---- whole multiples of a unit
of_value : (z : Float) (s : Bool) (a c : ℕ) → HasValue z s a c → T (finite z) × (signed z ≡ s) × (num z * c ≡ a * den z)
of_value nan s a c h = absurd h
of_value (inf t) s a c h = absurd h
of_value (fin t m e) s a c h = (tt, h.0, h.1)

-- x is n / v = a / g and y is m / d = b / g: the remainder of x by y is (a % b) / g
left_is : (n v m d a b g : ℕ) → 0 < v → 0 < d → 0 < g → n * g ≡ a * v → m * g ≡ b * d → n * d % (m * v) * g ≡ a % b * (v * d)
left_is n v m d a b g W D G p q =
    sym (mod_scale (n * d) (m * v) g G)
    ∙ rw (top, bottom) (mod_scale a b (v * d) (nat.mul-pos W D))
  where
    top : n * d * g ≡ a * (v * d)
    top = omega (arith, ap (λ (z : ℕ). z * d) p)

    bottom : m * v * g ≡ b * (v * d)
    bottom = omega (arith, ap (λ (z : ℕ). z * v) q)

-- x is a / g, y is b / g, and u is g: x % y is (a % b) / u
pub rem-units : (f : Format) (x y u : Float) (a b g : ℕ) → T (positive x) → T (positive y) → T (positive u) → num x * g ≡ a * den x → num y * g ≡ b * den y → num u ≡ g * den u → a % b ≤ 2 ^ prec f
    → div f (of_int f (pos (a % b))) u ≡ rem f x y
unfolding of_int
rem-units f x y u a b g p q r ea eb eu few =
    let z = round f false (a % b) 1 in
    let v = of_value z false (a % b) 1 (round_whole f false (a % b) few) in
    let G : 0 < g = first_pos g (den u) (rw eu at (positive-num u r)) in
    rw (div_is f z u v.0 r, v.1, rem_is f x y (nonneg→finite x (positive-nonneg x p)) q, plain x p)
    (round_same f false (num z * den u) (num u * den z) (num x * den y % (num y * den x)) (den x * den y) (quot_pos z u r) (dens_pos x y)
    (across (a % b) (num x * den y % (num y * den x)) (num z) (den z) (num u) (den u) g (den x * den y) v.2 eu (left_is (num x) (den x) (num y) (den y) a b g (den_pos x) (den_pos y) G ea eb)))
  where
    across : (r l n d m e g c : ℕ) → n * 1 ≡ r * d → m ≡ g * e → l * g ≡ r * c → n * e * c ≡ l * (m * d)
    across r l n d m e g c p q k = rw q (omega (arith, ap (λ (z : ℕ). z * (e * c)) p, ap (λ (z : ℕ). z * (e * d)) k))
