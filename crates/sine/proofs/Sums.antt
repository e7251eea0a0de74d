-- The whole part of a number p from 0 to 4,096, by a sum: 2^52 + p is rounded to a whole number, which is 2^52 plus the
-- whole part, or one more; it is one more where, less 2^52, it is above p. Assumes nothing.
use mathlib.Core.Path.{◌≡◌, refl, sym, ap, ◌∙◌, subst}
use mathlib.Core.Bool.{Bool, true, false, not, cond, true≢false}
use Prim.Native.Nat.{ℕ, suc, ◌+◌, ◌-◌, ◌*◌, ◌/◌, ◌%◌, ◌^◌, ◌≤◌, ◌<◌}
use native.Mathlib.Nat as nat
use native.Mathlib.Omega.{arith}
use lib.IntN.{pos}
use lib.Dec.{T, ltb, ltb→lt, not_T, lit<, lit≤}
use lib.Pow.{pow_pos}
use lib.Ieee.{Float, nan, inf, fin, binary64, hid, of_bits, of_int, to_bits, round, sum, lt, le, fits}
use lib.Ieee.Bits.{is_false}
use lib.Ieee.Fits.{add-fits, of_int-fits}
use lib.Ieee.Back.{round_whole}
use lib.Ieee.Exact.{HasValue}
use lib.Ieee.Scale.{finite, round_same}
use lib.Ieee.Positive.{num, den, den_pos, positive}
use Rattle.floats.specs.Range.{nonneg, within}
use Rattle.floats.specs.Double.{◌⊕◌, ◌⊖◌, zero64, one}
use Rattle.floats.proofs.Order.{signed, le→cross, cross→le, lt_not_le, not-lt-le, nonneg→finite, under, between-finite}
use Rattle.floats.proofs.Rounds.{Rounds, mono, of_signed, add_rounds}
use Rattle.floats.proofs.Ranges.{ge0-positive}
use Rattle.floats.proofs.Operations.{dens_pos, sub_is}
use Rattle.floats.proofs.Fields as fields
use Rattle.sine.specs.Sine.{steps, whole_part, float}
use Rattle.sine.proofs.Parts.{not_negative, at_most_lem, whole-at_most}

-- 2^52, from which on up to 2^53 the floats are the whole numbers
abbrev pub large : Float
large = of_bits binary64 0x4330_0000_0000_0000

-- ---- whole numbers
-- what x is, where it is the whole number n
pub record Whole (x : Float) (n : ℕ) : Type 0 where
  pub ends : T (finite x)
  pub plain : signed x ≡ false
  pub sign : T (nonneg x)
  pub is : num x ≡ n * den x

pub whole_of : (x : Float) (n : ℕ) → HasValue x false n 1 → Whole x n
whole_of nan n h = absurd h
whole_of (inf s) n h = absurd h
whole_of (fin true m e) n h = absurd (true≢false h.0)
whole_of (fin false m e) n h = record { ends = tt; plain = refl; sign = tt; is = sym (nat.mul-one _) ∙ h.1 }

pub float-whole : (n : ℕ) → n ≤ 2 ^ 53 → Whole (float (pos n)) n
unfolding of_int
float-whole n h = whole_of (round binary64 false n 1) n (round_whole binary64 false n h)

large_whole : Whole large (2 ^ 52)
unfolding of_bits
large_whole = record { ends = tt; plain = refl; sign = tt; is = refl }

one-whole : Whole one 1
unfolding of_bits
one-whole = record { ends = tt; plain = refl; sign = tt; is = refl }

naught_whole : Whole zero64 0
unfolding of_bits
naught_whole = record { ends = tt; plain = refl; sign = tt; is = refl }

unsigned : (x : Float) → T (positive x) → signed x ≡ false
unsigned (fin false m e) q = refl
unsigned nan q = elim q [ ]
unsigned (inf _) q = elim q [ ]
unsigned (fin true m e) q = elim q [ ]

-- the difference of two is exact
minus_is : (a b c : ℕ) → b ≤ a → sum binary64 false a true b c ≡ round binary64 false (a - b) c
unfolding sum
minus_is a b c h = rw (is_false (ltb a b) (not_T (ltb a b) (λ (t : T (ltb a b)). omega (arith, ltb→lt a b t)))) refl

pub whole-less : (x y : Float) (b k : ℕ) → Whole x (b + k) → Whole y b → x ⊖ y ≡ float (pos k)
unfolding of_int
whole-less x y b k v w =
    sub_is binary64 x y v.ends w.ends
    ∙ rw (v.plain, w.plain, v.is, w.is)
    (minus_is ((b + k) * den x * den y) (b * den y * den x) (den x * den y) (less (den x) (den y))
    ∙ round_same binary64 false ((b + k) * den x * den y - b * den y * den x) (den x * den y) k 1 (dens_pos x y) (lit< tt) (left (den x) (den y)))
  where
    less : (c d : ℕ) → b * d * c ≤ (b + k) * c * d
    less c d = omega arith

    left : (c d : ℕ) → ((b + k) * c * d - b * d * c) * 1 ≡ k * (c * d)
    left c d = omega arith

-- ---- from 2^52 up to 2^53
-- the digits are the number above 2^52
digits_are : (x : Float) → T (fits binary64 x) → T (positive x) → 2 ^ 52 * den x ≤ num x → num x < 2 ^ 53 * den x → num x ≡ (2 ^ 52 + to_bits binary64 x % hid binary64) * den x
digits_are x w p from to =
    let e : to_bits binary64 x / hid binary64 ≡ 1075 = nat.le_antisymm (nat.le_of_suc-le-suc (fields.field_lt binary64 x w p 53 to)) (fields.field_ge binary64 x w p 52 from) in
    cancel (num x) (den x) (to_bits binary64 x % hid binary64) (2 ^ 1074) (pow_pos 1074) (rw e at (fields.crossed binary64 x w p))
  where
    cancel : (a c t u : ℕ) → 0 < u → a * u ≡ (2 ^ 52 + t) * u * c → a ≡ (2 ^ 52 + t) * c
    cancel a c t u U h = nat.eq_of_mul-eq-mul_right u U a ((2 ^ 52 + t) * c) (omega arith)

-- so they are what a whole number has above 2^52
above-is : (x : Float) (k : ℕ) → k < 2 ^ 52 → T (fits binary64 x) → T (positive x) → Whole x (2 ^ 52 + k) → to_bits binary64 x % hid binary64 ≡ k
above-is x k few w p v = cancel (num x) (den x) (to_bits binary64 x % hid binary64) (den_pos x) v.is (digits_are x w p (from (num x) (den x) v.is) (to (num x) (den x) (den_pos x) v.is))
  where
    from : (a c : ℕ) → a ≡ (2 ^ 52 + k) * c → 2 ^ 52 * c ≤ a
    from a c e = omega arith

    to : (a c : ℕ) → 0 < c → a ≡ (2 ^ 52 + k) * c → a < 2 ^ 53 * c
    to a c C e = rw e (nat.mul-lt-mul_of_pos_right (omega (arith, few)) C)

    cancel : (a c t : ℕ) → 0 < c → a ≡ (2 ^ 52 + k) * c → a ≡ (2 ^ 52 + t) * c → t ≡ k
    cancel a c t C e f = nat.eq_of_mul-eq-mul_right c C t k (omega arith)

-- ---- 2^52 + n, for an n up to 4096
module _ (n : ℕ) (few : n ≤ 4096) where
  abbrev raised : Float
  raised = float (pos (2 ^ 52 + n))

  raised-whole : Whole raised (2 ^ 52 + n)
  raised-whole = float-whole (2 ^ 52 + n) (omega (arith, few))

  raised-positive : T (positive raised)
  raised-positive = ge0-positive large raised (unfold of_bits in tt) (cross→le large raised large_whole.sign raised-whole.sign (rw (large_whole.is, raised-whole.is) (omega arith))) raised-whole.ends

  -- 2^52 less it is n, and its digits are those of n
  pub raised-less : raised ⊖ large ≡ float (pos n)
  raised-less = whole-less raised large (2 ^ 52) n raised-whole large_whole

  pub raised_digits : to_bits binary64 raised % 4096 ≡ n % 4096
  raised_digits =
      sym (nat.mod-mod_of_dvd 4096 {b = hid binary64} (to_bits binary64 raised) (nat.dvd-mul_right 4096 (2 ^ 40)))
      ∙ ap (λ (t : ℕ). t % 4096) (above-is raised n (omega (arith, few)) (of_int-fits binary64 (pos (2 ^ 52 + n))) raised-positive raised-whole)

-- ---- a number from 0 to 4096
module _ (p : Float) (h : T (within zero64 steps p)) where
  abbrev n : ℕ
  n = whole_part p

  abbrev m : Float
  m = p ⊕ large

  few : n ≤ 4096
  few = whole-at_most p h

  rounds : Rounds binary64 m (num p * den large + num large * den p) (den p * den large)
  rounds = add_rounds binary64 p large (not_negative p h) large_whole.sign

  -- 2^52 + n is exact, and so is one more; 2^52 + p lies between them
  from : T (le (float (pos (2 ^ 52 + n))) m)
  unfolding of_int of_bits
  from =
      mono binary64 _ m (2 ^ 52 + n) 1 _ _ (of_signed binary64 false (2 ^ 52 + n) 1 (lit< tt) (λ (t : ⊥). absurd t)) rounds (lit< tt) (dens_pos p large)
      (low (num p) (den p) n (nat.div-mul-le_self (num p) (den p)))
    where
      low : (a c i : ℕ) → i * c ≤ a → (2 ^ 52 + i) * (c * 1) ≤ (a * 1 + 2 ^ 52 * c) * 1
      low a c i l = omega (arith, l)

  to : T (le m (float (pos (2 ^ 52 + suc n))))
  unfolding of_int of_bits
  to =
      mono binary64 m _ _ _ (2 ^ 52 + suc n) 1 rounds (of_signed binary64 false (2 ^ 52 + suc n) 1 (lit< tt) (λ (t : ⊥). absurd t)) (dens_pos p large) (lit< tt)
      (high (num p) (den p) n (nat.lt-div-mul-add (den_pos p)))
    where
      high : (a c i : ℕ) → a < i * c + c → (a * 1 + 2 ^ 52 * c) * 1 ≤ (2 ^ 52 + suc i) * (c * 1)
      high a c i l = omega (arith, l)

  -- so it is a whole number itself, at n or one more
  m_ends : T (finite m)
  m_ends = between-finite _ m _ (float-whole (2 ^ 52 + n) (omega (arith, few))).ends (float-whole (2 ^ 52 + suc n) (omega (arith, few))).ends from to

  m_sign : T (nonneg m)
  m_sign = under m _ rounds.sign (float-whole (2 ^ 52 + suc n) (omega (arith, few))).ends to

  m_positive : T (positive m)
  m_positive = ge0-positive _ m (raised-positive n few) from m_ends

  -- over the denominators
  m_from : (2 ^ 52 + n) * den m ≤ num m
  m_from =
      let w = float-whole (2 ^ 52 + n) (omega (arith, few)) in
      over (2 ^ 52 + n) (num m) (den m) (den (float (pos (2 ^ 52 + n)))) (den_pos (float (pos (2 ^ 52 + n)))) (rw w.is at (le→cross (float (pos (2 ^ 52 + n))) m w.sign m_sign from))
    where
      over : (a b c d : ℕ) → 0 < d → a * d * c ≤ b * d → a * c ≤ b
      over a b c d D l = nat.le_of_mul-le-mul_right {m = a * c} {n = b} {k = d} (nat.le_trans (nat.le_of_eq (omega arith)) l) D

  m_to : num m ≤ (2 ^ 52 + suc n) * den m
  m_to =
      let w = float-whole (2 ^ 52 + suc n) (omega (arith, few)) in
      over (2 ^ 52 + suc n) (num m) (den m) (den (float (pos (2 ^ 52 + suc n)))) (den_pos (float (pos (2 ^ 52 + suc n)))) (rw w.is at (le→cross m (float (pos (2 ^ 52 + suc n))) m_sign w.sign to))
    where
      over : (a b c d : ℕ) → 0 < d → b * d ≤ a * d * c → b ≤ a * c
      over a b c d D l = nat.le_of_mul-le-mul_right {m = b} {n = a * c} {k = d} (nat.le_trans l (nat.le_of_eq (omega arith))) D

  -- 2^52 + k, where k is n or one more
  abbrev k : ℕ
  k = to_bits binary64 m % hid binary64

  m_whole : Whole m (2 ^ 52 + k)
  m_whole =
      record {
        ends = m_ends;
        plain = unsigned m m_positive;
        sign = m_sign;
        is = digits_are m (add-fits binary64 p large) m_positive (low (num m) (den m) n m_from) (high (num m) (den m) n (den_pos m) few m_to);
      }
    where
      low : (a c i : ℕ) → (2 ^ 52 + i) * c ≤ a → 2 ^ 52 * c ≤ a
      low a c i l = omega (arith, l)

      high : (a c i : ℕ) → 0 < c → i ≤ 4096 → a ≤ (2 ^ 52 + suc i) * c → a < 2 ^ 53 * c
      high a c i C few l = nat.lt_of_le_of_lt l (nat.mul-lt-mul_of_pos_right (omega (arith, few)) C)

  k_from : n ≤ k
  k_from = over n k (num m) (den m) (den_pos m) m_whole.is m_from
    where
      over : (i j a c : ℕ) → 0 < c → a ≡ (2 ^ 52 + j) * c → (2 ^ 52 + i) * c ≤ a → i ≤ j
      over i j a c C e l = nat.le_of_mul-le-mul_right {m = i} {n = j} {k = c} (omega (arith, l)) C

  k_to : k ≤ suc n
  k_to = over n k (num m) (den m) (den_pos m) m_whole.is m_to
    where
      over : (i j a c : ℕ) → 0 < c → a ≡ (2 ^ 52 + j) * c → a ≤ (2 ^ 52 + suc i) * c → j ≤ suc i
      over i j a c C e l = nat.le_of_mul-le-mul_right {m = j} {n = suc i} {k = c} (omega (arith, l)) C

  k_whole : Whole (float (pos k)) k
  k_whole = float-whole k (omega (arith, k_to, few))

  back_is : m ⊖ large ≡ float (pos k)
  back_is = whole-less m large (2 ^ 52) k m_whole large_whole

  -- above p it is one more
  above : lt p (float (pos k)) ≡ true → k ≡ suc n
  above t =
      nat.le_antisymm k_to
      (nat.lt_of_not-le (λ (l : k ≤ n).
      lt_not_le p (float (pos k)) (subst T (sym t) tt)
      (cross→le (float (pos k)) p k_whole.sign (not_negative p h) (rw k_whole.is (under-it k n (num p) (den p) (den (float (pos k))) l (nat.div-mul-le_self (num p) (den p)))))))
    where
      under-it : (j i a c d : ℕ) → j ≤ i → i * c ≤ a → j * d * c ≤ a * d
      under-it j i a c d l e = nat.le_trans (nat.le_of_eq (omega arith)) (nat.mul-le-mul_right d (nat.le_trans (nat.mul-le-mul_right c l) e))

  -- and elsewhere it is n
  not-above : lt p (float (pos k)) ≡ false → k ≡ n
  not-above t =
      nat.le_antisymm
      ((nat.le-div_iff_mul-le (den_pos p)).1
      (over k (num p) (den p) (den (float (pos k))) (den_pos (float (pos k)))
      (rw k_whole.is at (le→cross (float (pos k)) p k_whole.sign (not_negative p h) (not-lt-le p (float (pos k)) (nonneg→finite p (not_negative p h)) k_whole.ends (subst (λ (b : Bool). T (not b)) (sym t) tt))))))
      k_from
    where
      over : (j a c d : ℕ) → 0 < d → j * d * c ≤ a * d → j * c ≤ a
      over j a c d D l = nat.le_of_mul-le-mul_right {m = j * c} {n = a} {k = d} (nat.le_trans (nat.le_of_eq (omega arith)) l) D

  -- 2^52 + p, less one where that is more than p
  pub raised_is : m ⊖ cond (lt p (m ⊖ large)) one zero64 ≡ float (pos (2 ^ 52 + n))
  raised_is = rw back_is (go (lt p (float (pos k))) refl)
    where
      go : (t : Bool) → lt p (float (pos k)) ≡ t → m ⊖ cond t one zero64 ≡ float (pos (2 ^ 52 + n))
      go true t = whole-less m one 1 (2 ^ 52 + n) (subst (Whole m) (ap (λ (j : ℕ). 2 ^ 52 + j) (above t) ∙ omega arith) m_whole) one-whole
      go false t = whole-less m zero64 0 (2 ^ 52 + n) (subst (Whole m) (ap (λ (j : ℕ). 2 ^ 52 + j) (not-above t) ∙ omega arith) m_whole) naught_whole

  -- of 4096 nothing is left
  steps-whole : Whole steps 4096 × T (positive steps)
  unfolding of_bits
  steps-whole = (record { ends = tt; plain = refl; sign = tt; is = refl }, tt)

  zero_is : float (pos 0) ≡ zero64
  unfolding of_int of_bits round
  zero_is = refl

  pub none_left : n ≡ 4096 → p ⊖ float (pos n) ≡ zero64
  none_left e = rw e (whole-less p (float (pos 4096)) 4096 0 last (float-whole 4096 (lit≤ tt))) ∙ zero_is
    where
      from : 4096 * den p ≤ num p
      from = subst (λ (i : ℕ). i * den p ≤ num p) e (nat.div-mul-le_self (num p) (den p))

      over : (a c d : ℕ) → 4096 * c ≤ a → 4096 * d * c ≤ a * d
      over a c d l = nat.le_trans (nat.le_of_eq (omega arith)) (nat.mul-le-mul_right d l)

      last : Whole p (4096 + 0)
      last =
          record {
            ends = nonneg→finite p (not_negative p h);
            plain = unsigned p (ge0-positive steps p steps-whole.1 (cross→le steps p steps-whole.0.sign (not_negative p h) (rw steps-whole.0.is (over (num p) (den p) (den steps) from))) (nonneg→finite p (not_negative p h)));
            sign = not_negative p h;
            is = nat.le_antisymm (at_most_lem p h) from;
          }
