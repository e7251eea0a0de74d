-- `le` and `lt` as orders of numbers. `Le x y` is the test `T (le x y)` as a type that computes to an inequality of
-- natural numbers, and each law is proved on that inequality: `le` is reflexive, transitive and total on the finite
-- values, and on values that are not negative it is the order of the fractions num / den. Assumes nothing.
use mathlib.Core.Path.{◌≡◌, sym, ◌∙◌}
use mathlib.Core.Logic.{◌⊎◌, inl, inr}
use Prim.Native.Nat.{ℕ, ◌+◌, ◌*◌, ◌≤◌, ◌<◌}
use native.Mathlib.Nat.{le_refl, le_of_eq, le_of_lt, eq-or-lt_of_le, eq-zero-or-pos, zero-mul, mul-pos}
use native.Mathlib.Omega.{arith}
use mathlib.Core.Bool.{Bool, true, false, not, ◌&&◌, ◌||◌}
use lib.IntN.{pos}
use lib.Dec.{T, ltb, eqb, eqb→eq, ltb→lt, lt→ltb, nltb→le, T_not}
use lib.Ieee.{Float, nan, inf, fin, up, down}
use lib.Ieee.{below, level, lt, eq, le, is_nan}
use lib.Ieee.Fits.{up_pos, down_pos, and_l, and_r, and_i, eq→eqb}
use lib.Ieee.Scale.{finite}
use lib.Ieee.Positive.{num, den, positive, through}
use Rattle.floats.specs.Range.{plus_zero, ge0, nonneg}

-- ---- one of two tests passes
or_split : (a b : Bool) → T (a || b) → T a ⊎ T b
or_split true b t = inl tt
or_split false b t = inr t

or_l : (a b : Bool) → T a → T (a || b)
or_l true b t = tt
or_l false b t = absurd t

or_r : (a b : Bool) → T b → T (a || b)
or_r true b t = tt
or_r false b t = t

-- ---- ±a ≤ ±b, a minus where the Boolean is true: -a ≤ b always, and a ≤ -b only where a and b are 0
abbrev pub Le2 : Bool → ℕ → Bool → ℕ → Type 0
Le2 false a false b = a ≤ b
Le2 false a true b = (a ≡ 0) × (b ≡ 0)
Le2 true a false b = Unit
Le2 true a true b = b ≤ a

-- a + b is positive, or a and b are 0
some : (a b : ℕ) → 0 < a + b ⊎ ((a ≡ 0) × (b ≡ 0))
some a b = elim (eq-zero-or-pos (a + b)) [ inl z ↦ inr (omega arith) | inr p ↦ inl p ]

same : (a b : ℕ) → T (eqb a b && true) → a ≡ b
same a b t = eqb→eq a b (and_l (eqb a b) true t)

-- the test of `le` on ±a and ±b passes: ±a ≤ ±b
from_test : (s : Bool) (a : ℕ) (t : Bool) (b : ℕ) → T (below s a t b || level s a t b) → Le2 s a t b
from_test false a false b h = elim (or_split (ltb a b) (eqb a b && true) h) [ inl u ↦ le_of_lt (ltb→lt a b u) | inr u ↦ le_of_eq (same a b u) ]
from_test false a true b h =
    let z : a ≡ 0 = eqb→eq a 0 (and_r (eqb a b) (eqb a 0) h) in
    (z, sym (eqb→eq a b (and_l (eqb a b) (eqb a 0) h)) ∙ z)
from_test true a false b h = tt
from_test true a true b h = elim (or_split (ltb b a) (eqb a b && true) h) [ inl u ↦ le_of_lt (ltb→lt b a u) | inr u ↦ le_of_eq (sym (same a b u)) ]

-- ±a ≤ ±b: the test of `le` on ±a and ±b passes
to_test : (s : Bool) (a : ℕ) (t : Bool) (b : ℕ) → Le2 s a t b → T (below s a t b || level s a t b)
to_test false a false b h =
    elim (eq-or-lt_of_le h) [
      | inl e ↦ or_r (ltb a b) (eqb a b && true) (and_i (eqb a b) true (eq→eqb e) tt)
      | inr l ↦ or_l (ltb a b) (eqb a b && true) (lt→ltb a b l)
    ]
to_test false a true b h = and_i (eqb a b) (eqb a 0) (eq→eqb (h.0 ∙ sym h.1)) (eq→eqb h.0)
to_test true a false b h =
    elim (some a b) [
      | inl l ↦ or_l (ltb 0 (a + b)) (eqb a b && eqb a 0) (lt→ltb 0 (a + b) l)
      | inr e ↦ or_r (ltb 0 (a + b)) (eqb a b && eqb a 0) (and_i (eqb a b) (eqb a 0) (eq→eqb (e.0 ∙ sym e.1)) (eq→eqb e.0))
    ]
to_test true a true b h =
    elim (eq-or-lt_of_le h) [
      | inl e ↦ or_r (ltb b a) (eqb a b && true) (and_i (eqb a b) true (eq→eqb (sym e)) tt)
      | inr l ↦ or_l (ltb b a) (eqb a b && true) (lt→ltb b a l)
    ]

-- ---- x ≤ y for any two floats, as a type that computes
abbrev pub Le : Float → Float → Type 0
Le nan y = ⊥
Le (inf s) nan = ⊥
Le (inf s) (inf t) = T (not t || s)
Le (inf s) (fin t n d) = T s
Le (fin s m e) nan = ⊥
Le (fin s m e) (inf t) = T (not t)
Le (fin s m e) (fin t n d) = Le2 s (m * up e * down d) t (n * up d * down e)

alike : {A : Type 0} → (A → A) × (A → A)
alike = (λ h. h, λ h. h)

le↔Le : (x y : Float) → (T (le x y) → Le x y) × (Le x y → T (le x y))
unfolding le
le↔Le nan y = alike
le↔Le (inf s) nan = alike
le↔Le (inf true) (inf true) = alike
le↔Le (inf true) (inf false) = alike
le↔Le (inf false) (inf true) = alike
le↔Le (inf false) (inf false) = alike
le↔Le (inf true) (fin t n d) = alike
le↔Le (inf false) (fin t n d) = alike
le↔Le (fin s m e) nan = alike
le↔Le (fin s m e) (inf true) = alike
le↔Le (fin s m e) (inf false) = alike
le↔Le (fin s m e) (fin t n d) = (from_test s (m * up e * down d) t (n * up d * down e), to_test s (m * up e * down d) t (n * up d * down e))

-- the test x ≤ y passes: the inequality of natural numbers holds
pub le→Le : (x y : Float) → T (le x y) → Le x y
le→Le x y = (le↔Le x y).0

-- the inequality of natural numbers holds: the test x ≤ y passes
pub Le→le : (x y : Float) → Le x y → T (le x y)
Le→le x y = (le↔Le x y).1

-- ---- transitive
-- a * u is 0 and u is not: a is 0
pub zero-first : (a u : ℕ) → 0 < u → a * u ≡ 0 → a ≡ 0
zero-first a u U h = elim (eq-zero-or-pos a) [ inl z ↦ z | inr p ↦ omega (arith, mul-pos p U) ]

-- a is 0: a * u is 0
pub times_zero : (a u : ℕ) → a ≡ 0 → a * u ≡ 0
times_zero a u z = rw z (zero-mul u)

-- a / v ≤ b / u, and b is 0: a is 0
zero-le-zero : (a b u v : ℕ) → 0 < u → a * u ≤ b * v → b ≡ 0 → a ≡ 0
zero-le-zero a b u v U h z = zero-first a u U (omega (arith, times_zero b v z))

-- ±x / p ≤ ±y / q and ±y / q ≤ ±z / r, with the signs s, t and u: ±x / p ≤ ±z / r
Le2_trans : (s t u : Bool) (x y z p q r : ℕ) → 0 < p → 0 < q → 0 < r → Le2 s (x * q) t (y * p) → Le2 t (y * r) u (z * q) → Le2 s (x * r) u (z * p)
Le2_trans false false false x y z p q r P Q R h k = through x y z p q r Q h k
Le2_trans false false true x y z p q r P Q R h k =
    let y0 : y ≡ 0 = zero-first y r R k.0 in
    (times_zero x r (zero-le-zero x y q p Q h y0), times_zero z p (zero-first z q Q k.1))
Le2_trans false true false x y z p q r P Q R h k = omega (arith, times_zero x r (zero-first x q Q h.0))
Le2_trans false true true x y z p q r P Q R h k =
    let y0 : y ≡ 0 = zero-first y p P h.1 in
    (times_zero x r (zero-first x q Q h.0), times_zero z p (zero-le-zero z y q r Q k y0))
Le2_trans true false false x y z p q r P Q R h k = tt
Le2_trans true false true x y z p q r P Q R h k = omega (arith, times_zero z p (zero-first z q Q k.1))
Le2_trans true true false x y z p q r P Q R h k = tt
Le2_trans true true true x y z p q r P Q R h k = through z y x r q p Q k h

Le_trans : (x y z : Float) → Le x y → Le y z → Le x z
Le_trans nan y z h k = h
Le_trans (inf s) nan z h k = absurd h
Le_trans (inf s) (inf t) nan h k = k
Le_trans (inf s) (inf true) (inf u) h k = or_r (not u) s h
Le_trans (inf s) (inf false) (inf true) h k = absurd k
Le_trans (inf s) (inf false) (inf false) h k = tt
Le_trans (inf s) (inf true) (fin u l c) h k = h
Le_trans (inf s) (inf false) (fin u l c) h k = absurd k
Le_trans (inf s) (fin t n d) nan h k = k
Le_trans (inf s) (fin t n d) (inf u) h k = or_r (not u) s h
Le_trans (inf s) (fin t n d) (fin u l c) h k = h
Le_trans (fin s m e) nan z h k = absurd h
Le_trans (fin s m e) (inf t) nan h k = k
Le_trans (fin s m e) (inf true) (inf u) h k = absurd h
Le_trans (fin s m e) (inf false) (inf true) h k = k
Le_trans (fin s m e) (inf false) (inf false) h k = tt
Le_trans (fin s m e) (inf true) (fin u l c) h k = absurd h
Le_trans (fin s m e) (inf false) (fin u l c) h k = absurd k
Le_trans (fin s m e) (fin t n d) nan h k = k
Le_trans (fin s m e) (fin t n d) (inf u) h k = k
Le_trans (fin s m e) (fin t n d) (fin u l c) h k = Le2_trans s t u (m * up e) (n * up d) (l * up c) (down e) (down d) (down c) (down_pos e) (down_pos d) (down_pos c) h k

-- x ≤ y and y ≤ z: x ≤ z
pub fle_trans : (x y z : Float) → T (le x y) → T (le y z) → T (le x z)
fle_trans x y z h k = Le→le x z (Le_trans x y z (le→Le x y h) (le→Le y z k))

-- ---- reflexive
Le2-refl : (s : Bool) (a : ℕ) → Le2 s a s a
Le2-refl true a = le_refl a
Le2-refl false a = le_refl a

-- x ≤ x for a finite x
pub fle_refl : (x : Float) → T (finite x) → T (le x x)
fle_refl nan h = absurd h
fle_refl (inf s) h = absurd h
fle_refl (fin s m e) h = Le→le (fin s m e) (fin s m e) (Le2-refl s (m * up e * down e))

-- x ≤ x for an x that is not negative, an infinity included
pub ge0-refl : (x : Float) → T (ge0 x) → T (le x x)
ge0-refl nan h = absurd h
ge0-refl (inf true) h = absurd h
ge0-refl (inf false) h = Le→le (inf false) (inf false) tt
ge0-refl (fin s m e) h = fle_refl (fin s m e) tt

-- ---- total: what follows from a test that fails
-- not ±a < ±b: ±b ≤ ±a
not-below : (s : Bool) (a : ℕ) (t : Bool) (b : ℕ) → T (not (below s a t b)) → Le2 t b s a
not-below false a false b h = nltb→le a b h
not-below false a true b h = tt
not-below true a false b h = elim (some a b) [ inl l ↦ absurd (T_not (ltb 0 (a + b)) h (lt→ltb 0 (a + b) l)) | inr e ↦ (e.1, e.0) ]
not-below true a true b h = nltb→le b a h

-- x < y: x ≤ y
pub lt-le : (x y : Float) → T (lt x y) → T (le x y)
unfolding le
lt-le x y h = or_l (lt x y) (eq x y) h

-- ±a < ±b: not ±b ≤ ±a
below-not : (s : Bool) (a : ℕ) (t : Bool) (b : ℕ) → T (below s a t b) → Le2 t b s a → ⊥
below-not false a false b h k = omega (arith, ltb→lt a b h)
below-not false a true b h k = h
below-not true a false b h k = omega (arith, ltb→lt 0 (a + b) h, k.0, k.1)
below-not true a true b h k = omega (arith, ltb→lt b a h)

-- x < y: not y ≤ x
pub lt_not_le : (x y : Float) → T (lt x y) → T (le y x) → ⊥
unfolding lt
lt_not_le nan y h k = h
lt_not_le (inf s) nan h k = h
lt_not_le (inf true) (inf true) h k = h
lt_not_le (inf true) (inf false) h k = le→Le (inf false) (inf true) k
lt_not_le (inf false) (inf t) h k = h
lt_not_le (inf true) (fin t n d) h k = le→Le (fin t n d) (inf true) k
lt_not_le (inf false) (fin t n d) h k = h
lt_not_le (fin s m e) nan h k = h
lt_not_le (fin s m e) (inf true) h k = h
lt_not_le (fin s m e) (inf false) h k = le→Le (inf false) (fin s m e) k
lt_not_le (fin s m e) (fin t n d) h k = below-not s (m * up e * down d) t (n * up d * down e) h (le→Le (fin t n d) (fin s m e) k)

-- not x < y, and neither is a NaN: y ≤ x, infinities included
pub not-lt-le_any : (x y : Float) → T (not (is_nan x)) → T (not (is_nan y)) → T (not (lt x y)) → T (le y x)
unfolding lt is_nan
not-lt-le_any nan y p q h = absurd p
not-lt-le_any (inf s) nan p q h = absurd q
not-lt-le_any (inf true) (inf true) p q h = Le→le (inf true) (inf true) tt
not-lt-le_any (inf true) (inf false) p q h = absurd h
not-lt-le_any (inf false) (inf t) p q h = Le→le (inf t) (inf false) tt
not-lt-le_any (inf s) (fin t n d) p q h = Le→le (fin t n d) (inf s) h
not-lt-le_any (fin s m e) nan p q h = absurd q
not-lt-le_any (fin s m e) (inf true) p q h = Le→le (inf true) (fin s m e) tt
not-lt-le_any (fin s m e) (inf false) p q h = absurd h
not-lt-le_any (fin s m e) (fin t n d) p q h = Le→le (fin t n d) (fin s m e) (not-below s (m * up e * down d) t (n * up d * down e) h)

-- x is finite: x is no NaN
pub finite-not-nan : (x : Float) → T (finite x) → T (not (is_nan x))
unfolding is_nan
finite-not-nan nan h = h
finite-not-nan (inf s) h = tt
finite-not-nan (fin s m e) h = tt

-- not x < y, both finite: y ≤ x
pub not-lt-le : (x y : Float) → T (finite x) → T (finite y) → T (not (lt x y)) → T (le y x)
not-lt-le x y p q h = not-lt-le_any x y (finite-not-nan x p) (finite-not-nan y q) h

not_or : (a b : Bool) → T (not (a || b)) → T (not a)
not_or true b h = h
not_or false b h = tt

-- not x ≤ y, both finite: y ≤ x
pub not-le-le : (x y : Float) → T (finite x) → T (finite y) → T (not (le x y)) → T (le y x)
unfolding le
not-le-le x y p q h = not-lt-le x y p q (not_or (lt x y) (eq x y) h)

-- ---- not negative: `ge0`, and `nonneg` where x is also finite
-- `ge0 x`: 0 ≤ x
pub ge0→le : (x : Float) → T (ge0 x) → T (le plus_zero x)
ge0→le nan h = absurd h
ge0→le (inf s) h = Le→le plus_zero (inf s) h
ge0→le (fin true n d) h = Le→le plus_zero (fin true n d) (zero-mul (down d), times_zero (n * up d) 1 (times_zero n (up d) (eqb→eq n 0 h)))
ge0→le (fin false n d) h = Le→le plus_zero (fin false n d) (omega (arith, zero-mul (down d)))

-- 0 ≤ x: `ge0 x`
pub le→ge0 : (x : Float) → T (le plus_zero x) → T (ge0 x)
le→ge0 nan h = absurd (le→Le plus_zero nan h)
le→ge0 (inf s) h = le→Le plus_zero (inf s) h
le→ge0 (fin true n d) h = eq→eqb (zero-first n (up d) (up_pos d) (zero-first (n * up d) 1 (down_pos (pos 0)) (le→Le plus_zero (fin true n d) h).1))
le→ge0 (fin false n d) h = tt

-- x is finite and not negative: x is not negative
pub nonneg→ge0 : (x : Float) → T (nonneg x) → T (ge0 x)
nonneg→ge0 nan h = h
nonneg→ge0 (inf s) h = absurd h
nonneg→ge0 (fin true m e) h = h
nonneg→ge0 (fin false m e) h = h

-- x is finite and not negative: x is finite
pub nonneg→finite : (x : Float) → T (nonneg x) → T (finite x)
nonneg→finite nan h = h
nonneg→finite (inf s) h = h
nonneg→finite (fin s m e) h = tt

-- 0 ≤ x ≤ y with y finite: x is finite and not negative
pub under : (x y : Float) → T (ge0 x) → T (finite y) → T (le x y) → T (nonneg x)
under nan y p q h = absurd p
under (inf true) y p q h = absurd p
under (inf false) nan p q h = absurd q
under (inf false) (inf t) p q h = absurd q
under (inf false) (fin t n d) p q h = absurd (le→Le (inf false) (fin t n d) h)
under (fin true m e) y p q h = p
under (fin false m e) y p q h = p

-- lo ≤ x ≤ hi with both ends finite: x is finite
pub between-finite : (lo x hi : Float) → T (finite lo) → T (finite hi) → T (le lo x) → T (le x hi) → T (finite x)
between-finite lo nan hi p q h k = absurd (le→Le nan hi k)
between-finite nan (inf s) hi p q h k = absurd p
between-finite (inf t) (inf s) hi p q h k = absurd p
between-finite (fin t n d) (inf true) hi p q h k = absurd (le→Le (fin t n d) (inf true) h)
between-finite (fin t n d) (inf false) nan p q h k = absurd q
between-finite (fin t n d) (inf false) (inf u) p q h k = absurd q
between-finite (fin t n d) (inf false) (fin u l c) p q h k = absurd (le→Le (inf false) (fin u l c) k)
between-finite lo (fin s m e) hi p q h k = tt

-- ---- values that are finite and not negative have the order of their fractions
-- whether x is written with a minus sign
abbrev pub signed : Float → Bool
signed nan = false
signed (inf s) = s
signed (fin s m e) = s

-- x is not negative and has a minus sign: x is -0, so its numerator is 0
pub signed-zero : (x : Float) → T (nonneg x) → T (signed x) → num x ≡ 0
signed-zero nan p h = absurd p
signed-zero (inf s) p h = absurd p
signed-zero (fin true m e) p h = times_zero m (up e) (eqb→eq m 0 p)
signed-zero (fin false m e) p h = absurd h

-- x is not negative and has a minus sign: num x * k is 0 for any k
pub signed-zero-over : (x : Float) (k : ℕ) → T (nonneg x) → T (signed x) → num x * k ≡ 0
signed-zero-over x k p h = times_zero (num x) k (signed-zero x p h)

-- only a 0 has a minus sign: ±a ≤ ±b exactly where a ≤ b
unsigned : (s t : Bool) (a b : ℕ) → (T s → a ≡ 0) → (T t → b ≡ 0) → (Le2 s a t b → a ≤ b) × (a ≤ b → Le2 s a t b)
unsigned false false a b p q = alike
unsigned false true a b p q = (λ h. omega arith, λ h. omega (arith, q tt))
unsigned true false a b p q = (λ h. omega (arith, p tt), λ h. tt)
unsigned true true a b p q = (λ h. omega (arith, p tt), λ h. omega (arith, q tt))

le↔cross : (x y : Float) → T (nonneg x) → T (nonneg y) → (T (le x y) → num x * den y ≤ num y * den x) × (num x * den y ≤ num y * den x → T (le x y))
le↔cross nan y p q = absurd p
le↔cross (inf s) y p q = absurd p
le↔cross (fin s m e) nan p q = absurd q
le↔cross (fin s m e) (inf t) p q = absurd q
le↔cross (fin s m e) (fin t n d) p q =
    let x = fin s m e in
    let y = fin t n d in
    let r = unsigned s t (m * up e * down d) (n * up d * down e) (signed-zero-over x (down d) p) (signed-zero-over y (down e) q) in
    (λ h. r.0 (le→Le x y h), λ h. Le→le x y (r.1 h))

-- x ≤ y: the fractions of x and y are in that order, by cross products
pub le→cross : (x y : Float) → T (nonneg x) → T (nonneg y) → T (le x y) → num x * den y ≤ num y * den x
le→cross x y p q = (le↔cross x y p q).0

-- the fractions of x and y are in order, by cross products: x ≤ y
pub cross→le : (x y : Float) → T (nonneg x) → T (nonneg y) → num x * den y ≤ num y * den x → T (le x y)
cross→le x y p q = (le↔cross x y p q).1

-- ---- positive
-- x is positive: x is finite and not negative
pub positive-nonneg : (x : Float) → T (positive x) → T (nonneg x)
positive-nonneg nan h = h
positive-nonneg (inf s) h = h
positive-nonneg (fin true m e) h = absurd h
positive-nonneg (fin false m e) h = tt

-- x is positive: its numerator is positive
pub positive-num : (x : Float) → T (positive x) → 0 < num x
positive-num nan p = absurd p
positive-num (inf s) p = absurd p
positive-num (fin true m e) p = absurd p
positive-num (fin false m e) p = mul-pos (ltb→lt 0 m p) (up_pos e)

-- y is finite and not positive: y ≤ 0
pub not-positive-le : (y : Float) → T (finite y) → T (not (positive y)) → T (le y plus_zero)
not-positive-le nan q h = absurd q
not-positive-le (inf t) q h = absurd q
not-positive-le (fin true n d) q h = Le→le (fin true n d) plus_zero tt
not-positive-le (fin false n d) q h = Le→le (fin false n d) plus_zero (omega (arith, times_zero n (up d) (none n (nltb→le 0 n h))))
  where
    none : (n : ℕ) → n ≤ 0 → n ≡ 0
    none n h = omega arith

-- a test whose failure is absurd passes
pub by_contra : (b : Bool) → (T (not b) → ⊥) → T b
by_contra true h = tt
by_contra false h = absurd (h tt)

-- 0 ≤ x < y, y finite: y is positive
pub above-positive : (x y : Float) → T (nonneg x) → T (finite y) → T (lt x y) → T (positive y)
above-positive x y p q h = by_contra (positive y) (λ (n : T (not (positive y))). lt_not_le x y h (fle_trans y plus_zero x (not-positive-le y q n) (ge0→le x (nonneg→ge0 x p))))

-- ---- x < y ≤ z, or x ≤ y < z: x < z
pub lt-le-lt : (x y z : Float) → T (finite x) → T (finite z) → T (lt x y) → T (le y z) → T (lt x z)
lt-le-lt x y z p q h k = by_contra (lt x z) (λ (n : T (not (lt x z))). lt_not_le x y h (fle_trans y z x k (not-lt-le x z p q n)))

pub le-lt-lt : (x y z : Float) → T (finite x) → T (finite z) → T (le x y) → T (lt y z) → T (lt x z)
le-lt-lt x y z p q h k = by_contra (lt x z) (λ (n : T (not (lt x z))). lt_not_le y z k (fle_trans z x y (not-lt-le x z p q n) h))
