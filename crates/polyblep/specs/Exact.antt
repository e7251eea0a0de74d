-- The rounded corner, without rounding. 02, R-11: "both branches plus one third before the multiplication by dt"; "With
-- x the distance in steps the exact correction is then (1 - x)^3 * dt/3 on either side. Prove that the branch values,
-- taken as fractions without rounding and with an exact third, are 1/3 of dt at the corner and 0 at both ends."
--
-- The two branch values are written once, over any arithmetic. Polyblep.antt takes them in floats, each operation
-- rounded once; here they are taken in fractions. In a branch x is the distance from the corner in samples, which 02
-- calls steps, with a minus before the corner. Definitions only.
use Rattle.std.specs.Prelude.{◌≡◌, ℕ, ◌+◌, ◌*◌, ◌<◌}

-- ---- the branches, by the operations and the third of any arithmetic
module _ {A : Type 0} (plus minus times : A → A → A) (third : A) where
  -- the brackets of `poly_blamp`: x2 - x3*third - x after the corner, x3*third + x2 + x before it
  abbrev pub knee_after_in : A → A
  knee_after_in x =
      let x2 = times x x in
      let x3 = times x2 x in
      minus (minus x2 (times x3 third)) x

  abbrev pub knee_before_in : A → A
  knee_before_in x =
      let x2 = times x x in
      let x3 = times x2 x in
      plus (plus (times x3 third) x2) x

  -- the rounded corner's values: the bracket plus the third, times dt
  abbrev pub after_in : A → A → A
  after_in dt x = times (plus (knee_after_in x) third) dt

  abbrev pub before_in : A → A → A
  before_in dt x = times (plus (knee_before_in x) third) dt

-- ---- fractions: (up - down) / over
pub record Fraction : Type 0 where
  pub up : ℕ
  pub down : ℕ
  pub over : ℕ

-- with 0 below the line it is none
abbrev pub IsNumber : Fraction → Type 0
IsNumber x = 0 < x.over

abbrev pub fraction : ℕ → ℕ → ℕ → Fraction
fraction up down over = record { up = up; down = down; over = over }

abbrev pub whole : ℕ → Fraction
whole n = fraction n 0 1

-- x + y
abbrev pub added : Fraction → Fraction → Fraction
added x y = fraction (x.up * y.over + y.up * x.over) (x.down * y.over + y.down * x.over) (x.over * y.over)

-- -x
abbrev pub negated : Fraction → Fraction
negated x = fraction x.down x.up x.over

-- x - y
abbrev pub taken : Fraction → Fraction → Fraction
taken x y = added x (negated y)

-- x * y
abbrev pub timed : Fraction → Fraction → Fraction
timed x y = fraction (x.up * y.up + x.down * y.down) (x.up * y.down + x.down * y.up) (x.over * y.over)

-- equal cross products, by which fractions that are numbers are one number
abbrev pub Equals : Fraction → Fraction → Type 0
Equals x y = x.up * y.over + y.down * x.over ≡ y.up * x.over + x.down * y.over

pub record Same (x y : Fraction) : Type 0 where
  pub left : IsNumber x
  pub right : IsNumber y
  pub equal : Equals x y

-- ---- the branch values of the rounded corner, exactly
abbrev pub exact_third : Fraction
exact_third = fraction 1 0 3

abbrev pub exact_after : Fraction → Fraction → Fraction
exact_after dt x = after_in added taken timed exact_third dt x

abbrev pub exact_before : Fraction → Fraction → Fraction
exact_before dt x = before_in added taken timed exact_third dt x

-- ---- the claim. What a value is the same as stands in plain numbers: not with `exact_third`, since with another
-- number in its place both ends would still be 0, and the corner still that number times dt; nor with `timed`, which
-- might be 0 everywhere

-- n/m of a third of dt
abbrev pub part_of : ℕ → ℕ → Fraction → Fraction
part_of n m dt = fraction (dt.up * n) (dt.down * n) (dt.over * m * 3)

-- 4*d*dt + 4*c: how far a naive triangle with 4 corrections c is above -1, at a distance d from its lower corner
abbrev pub height_of : Fraction → Fraction → Fraction → Fraction
height_of dt d c = added (timed (whole 4) (timed d dt)) (timed (whole 4) c)

pub record RoundedCorner (dt : Fraction) : Type 0 where
  -- 1/3 of dt at the corner, on either side
  pub corner_after : Same (exact_after dt (whole 0)) (part_of 1 1 dt)
  pub corner_before : Same (exact_before dt (whole 0)) (part_of 1 1 dt)
  -- 0 at both ends, one sample away
  pub far-after : Same (exact_after dt (whole 1)) (whole 0)
  pub far-before : Same (exact_before dt (negated (whole 1))) (whole 0)
  -- between them, at a distance p/q where p + r = q, (1 - p/q)^3 * dt/3, which is (r/q)^3 * dt/3
  pub cube_after : (p r q : ℕ) → p + r ≡ q → 0 < q → Same (exact_after dt (fraction p 0 q)) (part_of (r * r * r) (q * q * q) dt)
  pub cube_before : (p r q : ℕ) → p + r ≡ q → 0 < q → Same (exact_before dt (negated (fraction p 0 q))) (part_of (r * r * r) (q * q * q) dt)
  -- why the factor is 4: at a distance d = p/q the height is (1 + 3*d^2 - d^3) * 4*dt/3. It has no term in d alone, so
  -- that the wave is level at the corner. In numbers 3*d^2 - d^3 is p^2 * (3q - p) / q^3, and 3q - p is q + q + r
  pub level-after : (p r q : ℕ) → p + r ≡ q → 0 < q → Same (height_of dt (fraction p 0 q) (exact_after dt (fraction p 0 q))) (part_of (4 * (q * q * q + p * p * (q + q + r))) (q * q * q) dt)
  pub level_before : (p r q : ℕ) → p + r ≡ q → 0 < q → Same (height_of dt (fraction p 0 q) (exact_before dt (negated (fraction p 0 q)))) (part_of (4 * (q * q * q + p * p * (q + q + r))) (q * q * q) dt)
