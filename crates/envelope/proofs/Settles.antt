-- A decay whose progress p has reached 33 / 32 has come down to the sustain level s: 1 - (1 - s) * p ≤ s, each
-- operation rounded.
-- Rounding 1 - s and the product loses at most one part in 2^53 each, far less than the 1 / 32 that p is above 1.
-- Progress 1 is not enough: at s = 0.3 it leaves 0.30000000000000004. Assumes nothing.
use mathlib.Core.Path.{◌≡◌, refl, sym, ap, ◌∙◌, subst}
use mathlib.Core.Logic.{inl, inr}
use Prim.Native.Nat.{ℕ, suc, ◌+◌, ◌-◌, ◌*◌, ◌^◌, ◌≤◌, ◌<◌, zero-le}
use native.Mathlib.Nat.{le_trans, le_of_eq, le_of_mul-le-mul_right, mul-le-mul_right, mul-le-mul_left, mul-pos, zero-mul, one-mul, eq-zero-or-pos}
use native.Mathlib.Omega.{arith}
use mathlib.Core.Bool.{Bool, true, false, not}
use lib.IntN.{pos, negsuc}
use lib.Dec.{T, leb, lit≤, lit<, leb→le, nleb→lt}
use lib.Pow.{pow_mono}
use lib.Ieee.{Float, nan, inf, fin, binary64, sub, mul, le, fits}
use lib.Ieee.Scale.{normal_of_fraction}
use lib.Ieee.Positive.{num, den, den_pos}
use Rattle.floats.specs.Range.{plus_zero, plus_one, nonneg}
use Rattle.floats.proofs.Order.{fle_trans, not-le-le, le→cross, ge0→le, nonneg→ge0, nonneg→finite, under}
use Rattle.floats.proofs.Rounds.{mono, self, fits_small, sub_rounds, mul_rounds}
use Rattle.floats.proofs.Error.{rounded_err}
use Rattle.floats.proofs.Ranges.{sub-ge0, sub-le, sub_nonpos}

-- 33 / 32
abbrev pub enough : Float
enough = fin false 33 (negsuc 4)

-- ---- the fractions: w / c is 1 - s, dn / dd is 1 - s rounded, pn / pd the progress, tn / td the product rounded; P is
-- 2^53 and Q is P + 1
-- 1 - s is 0 or at least 2^-53, because s has 53 digits
gap : (s : Float) → T (fits binary64 s) → T (nonneg s) → 0 < den s - num s → den s ≤ (den s - num s) * 2 ^ 53
gap nan w p h = absurd p
gap (inf t) w p h = absurd p
gap (fin t m (pos k)) w p h = small (1 - m * 2 ^ k) h
  where
    small : (x : ℕ) → 0 < x → 1 ≤ x * 2 ^ 53
    small x h = omega arith
gap (fin t m (negsuc k)) w p h = go (leb (suc k) 53) (leb→le (suc k) 53) (nleb→lt (suc k) 53)
  where
    near : (x c q : ℕ) → 0 < x → c ≤ q → c ≤ x * q
    near x c q h l = le_trans l (le_trans (le_of_eq (sym (one-mul q))) (mul-le-mul_right q h))

    far : (m c : ℕ) → m < 2 ^ 53 → 2 ^ 54 ≤ c → c ≤ (c - m * 1) * 2 ^ 53
    far m c h l = omega arith

    go : (b : Bool) → (T b → suc k ≤ 53) → (T (not b) → 53 < suc k) → 2 ^ suc k ≤ (2 ^ suc k - m * 1) * 2 ^ 53
    go true a b = near (2 ^ suc k - m * 1) (2 ^ suc k) (2 ^ 53) h (pow_mono (a tt))
    go false a b = far m (2 ^ suc k) (fits_small binary64 t m (negsuc k) w) (pow_mono (b tt))

-- w / c ≤ tn / td, if each rounding loses at most one part in P and the progress is at least Q * Q / (P * P)
core : (w c dn dd pn pd tn td P Q : ℕ) → 0 < dd → 0 < pd → 0 < Q → w * dd * P ≤ dn * c * Q → dn * pn * td * P ≤ tn * (dd * pd) * Q → pd * (Q * Q) ≤ pn * (P * P) → w * td ≤ tn * c
core w c dn dd pn pd tn td P Q D E F h k l =
    le_of_mul-le-mul_right
    (le_trans (a w td dd pd Q)
    (le_trans (mul-le-mul_left (w * td * dd) l)
    (le_trans (b w td dd pn P)
    (le_trans (mul-le-mul_right (pn * td * P) h)
    (le_trans (e dn c Q pn td P)
    (le_trans (mul-le-mul_right (c * Q) k) (g tn dd pd Q c)))))))
    (mul-pos (mul-pos D E) (mul-pos F F))
  where
    a : (w td dd pd Q : ℕ) → w * td * (dd * pd * (Q * Q)) ≤ w * td * dd * (pd * (Q * Q))
    a w td dd pd Q = omega arith

    b : (w td dd pn P : ℕ) → w * td * dd * (pn * (P * P)) ≤ w * dd * P * (pn * td * P)
    b w td dd pn P = omega arith

    e : (dn c Q pn td P : ℕ) → dn * c * Q * (pn * td * P) ≤ dn * pn * td * P * (c * Q)
    e dn c Q pn td P = omega arith

    g : (tn dd pd Q c : ℕ) → tn * (dd * pd) * Q * (c * Q) ≤ tn * c * (dd * pd * (Q * Q))
    g tn dd pd Q c = omega arith

-- a progress of 33 / 32 is at least Q * Q / (P * P)
spare : (pn pd : ℕ) → 33 * pd ≤ pn * 32 → pd * ((2 ^ 53 + 1) * (2 ^ 53 + 1)) ≤ pn * (2 ^ 53 * 2 ^ 53)
spare pn pd h = omega arith

-- dn / dd is at least 1 / Q
least : (w c dn dd P Q : ℕ) → 0 < w → 0 < P → w * dd * P ≤ dn * c * Q → c ≤ w * P → dd ≤ dn * Q
least w c dn dd P Q W E h k = le_of_mul-le-mul_right (le_trans (a w dd P) (le_trans h (le_trans (b dn c Q) (mul-le-mul_left (dn * Q) k)))) (mul-pos W E)
  where
    a : (w dd P : ℕ) → dd * (w * P) ≤ w * dd * P
    a w dd P = omega arith

    b : (dn c Q : ℕ) → dn * c * Q ≤ dn * Q * c
    b dn c Q = omega arith

-- x / c is in the normal range if it is at least 2^-59
normal : (x c : ℕ) → c ≤ x * 2 ^ 59 → 2 ^ 52 * c ≤ x * 2 ^ 1074
normal x c h = le_trans (mul-le-mul_left (2 ^ 52) h) (le_trans (shift x) (mul-le-mul_left x (lit≤ tt)))
  where
    shift : (x : ℕ) → 2 ^ 52 * (x * 2 ^ 59) ≤ x * 2 ^ 111
    shift x = omega arith

module _ (s p : Float) (fs : T (fits binary64 s)) (ns : T (nonneg s)) (s1 : T (le s plus_one)) (np : T (nonneg p)) (pe : T (le enough p)) where
  -- 1 - s, rounded
  abbrev d : Float
  d = sub binary64 plus_one s

  -- 1 - s is w / c
  abbrev w : ℕ
  w = 1 * den s - num s * 1

  abbrev c : ℕ
  c = 1 * den s

  c_pos : 0 < c
  c_pos = mul-pos (lit< tt) (den_pos s)

  d_nonneg : T (nonneg d)
  d_nonneg = under d plus_one (sub-ge0 binary64 plus_one s tt ns s1) tt (sub-le binary64 plus_one s (unfold fits in tt) tt ns s1)

  w_least : 0 < w → c ≤ w * 2 ^ 53
  w_least h = plain (num s) (den s) h (gap s fs ns)
    where
      plain : (n e : ℕ) → 0 < 1 * e - n * 1 → (0 < e - n → e ≤ (e - n) * 2 ^ 53) → 1 * e ≤ (1 * e - n * 1) * 2 ^ 53
      plain n e h k = omega (arith, k (omega arith))

  -- what rounding 1 - s loses
  d_lost : 0 < w → w * den d * 2 ^ 53 ≤ num d * c * (2 ^ 53 + 1)
  d_lost h = rounded_err binary64 d w c (sub_rounds binary64 plus_one s tt ns s1) d_nonneg c_pos (normal_of_fraction binary64 w c c_pos (normal w c (le_trans (w_least h) (mul-le-mul_left w (lit≤ tt)))))

  -- the product
  abbrev t : Float
  t = mul binary64 d p

  past : 33 * den p ≤ num p * 32
  past = le→cross enough p tt np pe

  module _ (nt : T (nonneg t)) where
    -- what rounding the product loses
    t_lost : 0 < w → num d * num p * den t * 2 ^ 53 ≤ num t * (den d * den p) * (2 ^ 53 + 1)
    t_lost h =
        let q : 0 < den d * den p = mul-pos (den_pos d) (den_pos p) in
        rounded_err binary64 t (num d * num p) (den d * den p) (mul_rounds binary64 d p d_nonneg np) nt q
        (normal_of_fraction binary64 (num d * num p) (den d * den p) q
        (normal (num d * num p) (den d * den p) (big (num d) (den d) (num p) (den p) (least w c (num d) (den d) (2 ^ 53) (2 ^ 53 + 1) h (lit< tt) (d_lost h) (w_least h)) past)))
      where
        big : (dn dd pn pd : ℕ) → dd ≤ dn * (2 ^ 53 + 1) → 33 * pd ≤ pn * 32 → dd * pd ≤ dn * pn * 2 ^ 59
        big dn dd pn pd h k = le_trans (mul-le-mul_right pd h) (le_trans (mul-le-mul_left (dn * (2 ^ 53 + 1)) (omega arith)) (wide dn pn))
          where
            wide : (dn pn : ℕ) → dn * (2 ^ 53 + 1) * pn ≤ dn * pn * 2 ^ 59
            wide dn pn = omega arith

    -- 1 - s ≤ t
    reached : w * den t ≤ num t * c
    reached = elim (eq-zero-or-pos w) [
      | inl z ↦ le_trans (le_of_eq (ap (λ (x : ℕ). x * den t) z ∙ zero-mul (den t))) zero-le
      | inr h ↦ core w c (num d) (den d) (num p) (den p) (num t) (den t) (2 ^ 53) (2 ^ 53 + 1) (den_pos d) (den_pos p) (lit< tt) (d_lost h) (t_lost h) (spare (num p) (den p) past)
    ]

    -- 1 - t ≤ s
    pub settled : T (le (sub binary64 plus_one t) s)
    settled = go (le t plus_one) refl
      where
        turn : (n e tn td v w c : ℕ) → v ≡ 1 * td - tn * 1 → tn ≤ td → w ≡ 1 * e - n * 1 → n ≤ e → c ≡ 1 * e → w * td ≤ tn * c → v * e ≤ n * (1 * td)
        turn n e tn td v w c a b a' b' d h =
            let x : v + tn ≡ td = omega arith in
            let y : w + n ≡ e = omega arith in
            omega (arith, ap (λ (z : ℕ). z * e) x, ap (λ (z : ℕ). z * td) y, ap (λ (z : ℕ). tn * z) d)

        plain : (a b : ℕ) → a * 1 ≤ 1 * b → a ≤ b
        plain a b h = omega arith

        go : (b : Bool) → le t plus_one ≡ b → T (le (sub binary64 plus_one t) s)
        go true e =
            let l : T (le t plus_one) = subst T (sym e) tt in
            mono binary64 (sub binary64 plus_one t) s (1 * den t - num t * 1) (1 * den t) (num s) (den s) (sub_rounds binary64 plus_one t tt nt l) (self binary64 s fs ns) (mul-pos (lit< tt) (den_pos t)) (den_pos s)
            (turn (num s) (den s) (num t) (den t) (1 * den t - num t * 1) w c refl (plain (num t) (den t) (le→cross t plus_one nt tt l)) refl (plain (num s) (den s) (le→cross s plus_one ns tt s1)) refl reached)
        go false e =
            let l : T (le plus_one t) = not-le-le t plus_one (nonneg→finite t nt) tt (subst (λ (b : Bool). T (not b)) (sym e) tt) in
            fle_trans (sub binary64 plus_one t) plus_zero s (sub_nonpos binary64 plus_one t tt nt l) (ge0→le s (nonneg→ge0 s ns))
