-- The decimal digits of a number: they are those that `io::decimal` writes, and there are at most so many. Assumes
-- nothing.
use mathlib.Core.Path.{◌≡◌, refl}
use mathlib.Core.List.{[], ◌∷◌, ◌++◌}
use mathlib.Core.Logic.{⊎_elim}
use Prim.Native.Nat.{ℕ, zero, suc, ◌+◌, ◌*◌, ◌/◌, ◌%◌, ◌^◌, ◌-◌, ◌≤◌, ◌<◌}
use native.Mathlib.Nat.{pow-suc, pow-le-pow_right}
use native.Mathlib.Omega.{arith}
use lib.ListN.{length, length-append}
use lib.Dec.{lit<, lit≤}
use borrow.Author.Tests.{lt-ltb, le-ltb}
use Rattle.io.specs.Digits.{last_digits, IsDigitCount}
use Rattle.score.proofs.Cuts.{lt_or_ge}
use Rattle.score.specs.declared.Kind.{Kind}
use Rattle.score.specs.declared.Kind.TheVariants.{On, Off, Reset}
use Rattle.score.specs.declared.Record.{Record}
use Rattle.listing.specs.Listing.{spelt, decimal_of, kind_word}

clash : ◌≡◌ {A = ℕ} 0 1 → ⊥
clash h = omega arith

-- ---- one more digit
one-digit : (f n : ℕ) → n < 10 → spelt (suc f) n ≡ (48 + n) ∷ []
unfolding spelt
one-digit f n h = rw (lt-ltb n 10 h)

more_digits : (f n : ℕ) → 10 ≤ n → spelt (suc f) n ≡ spelt f (n / 10) ++ ((48 + n % 10) ∷ [])
unfolding spelt
more_digits f n h = rw (le-ltb n 10 h)

-- 10^(k + 1) is ten times 10^k
ten_times : (k : ℕ) → 10 ^ suc k ≡ 10 ^ k * 10
ten_times k = pow-suc 10 k

power_low : (k : ℕ) → 1 ≤ 10 ^ k
power_low zero = lit≤ tt
power_low (suc k) = let h : 1 ≤ 10 ^ k = power_low k in rw (ten_times k) (omega arith)

-- ---- the fewest digits that represent n are its decimal digits
digits_spelt : (f k n : ℕ) → suc k ≤ f → n < 10 ^ suc k → (1 < suc k → 10 ^ k ≤ n) → last_digits 10 (suc k) n ≡ spelt f n
digits_spelt zero k n room high low = absurd (clash (omega arith))
digits_spelt (suc f) zero n room high low =
    let small : n < 10 = high in
    let same : n % 10 ≡ n = omega arith in
    rw (one-digit f n small, same, lt-ltb n 10 small) refl
digits_spelt (suc f) (suc k) n room high low =
    let p = 10 ^ k in
    let one : 1 ≤ p = power_low k in
    let floor : p * 10 ≤ n = rw (ten_times k) at (low (omega arith)) in
    let ceiling : n < p * 10 * 10 = rw (ten_times (suc k), ten_times k) at high in
    let last : n % 10 < 10 = omega arith in
    let rest : last_digits 10 (suc k) (n / 10) ≡ spelt f (n / 10) = digits_spelt f k (n / 10) (omega arith) (rw (ten_times k) (omega arith)) (λ h. omega arith) in
    rw (more_digits f n (omega arith), ← rest, lt-ltb (n % 10) 10 last) refl

-- a u64 has at most 20 digits
few_digits : (n k : ℕ) → n < 18446744073709551616 → IsDigitCount 10 1 n k → k ≤ 20
few_digits n k h f =
    ⊎_elim
    (λ g. let floor : 10 ^ (k - 1) ≤ n = f.2 (omega arith) in
    let more : 20 ≤ k - 1 = omega arith in
    let high : 10 ^ 20 ≤ 10 ^ (k - 1) = pow-le-pow_right (lit< tt) more in absurd (clash (omega arith)))
    (λ l. l) (lt_or_ge 20 k)

pub fewest_decimal : (n k : ℕ) → n < 18446744073709551616 → IsDigitCount 10 1 n k → last_digits 10 k n ≡ decimal_of n
fewest_decimal n zero h f = absurd (clash (omega (arith, f.0)))
fewest_decimal n (suc k) h f =
    digits_spelt 20 k n (few_digits n (suc k) h f) f.1 (λ l. let e : suc k - 1 ≡ k = omega arith in rw e at (f.2 l))

-- ---- the largest number of digits
length-spelt : (f m n : ℕ) → n < 10 ^ suc m → length (spelt f n) ≤ suc m
unfolding spelt
length-spelt zero m n h = omega arith
length-spelt (suc f) m n h =
    ⊎_elim (λ l. rw (lt-ltb n 10 l) (omega arith))
    (λ g. rw (le-ltb n 10 g, length-append (spelt f (n / 10)) ((48 + n % 10) ∷ [])) (go m h g (λ k l. length-spelt f k (n / 10) l))) (lt_or_ge n 10)
  where
    go : (m : ℕ) → n < 10 ^ suc m → 10 ≤ n → ((k : ℕ) → n / 10 < 10 ^ suc k → length (spelt f (n / 10)) ≤ suc k) → length (spelt f (n / 10)) + 1 ≤ suc m
    go zero h g shorter = absurd (clash (omega arith))
    go (suc m) h g shorter =
        let p = 10 ^ suc m in
        let ceiling : n < p * 10 = rw (ten_times (suc m)) at h in
        omega (arith, shorter m (omega arith))

-- a byte has at most 3 digits, a number below 10,000 at most 4, a u32 at most 10, a u64 at most 20
pub three_digits : (n : ℕ) → n < 256 → length (decimal_of n) ≤ 3
three_digits n h = length-spelt 20 2 n (omega arith)

pub four_digits : (n : ℕ) → n ≤ 4096 → length (decimal_of n) ≤ 4
four_digits n h = length-spelt 20 3 n (omega arith)

pub ten_digits : (n : ℕ) → n < 4294967296 → length (decimal_of n) ≤ 10
ten_digits n h = length-spelt 20 9 n (omega arith)

length_most : (f n : ℕ) → length (spelt f n) ≤ f
unfolding spelt
length_most zero n = omega arith
length_most (suc f) n =
    ⊎_elim (λ l. rw (lt-ltb n 10 l) (omega arith))
    (λ g. rw (le-ltb n 10 g, length-append (spelt f (n / 10)) ((48 + n % 10) ∷ [])) (omega (arith, length_most f (n / 10)))) (lt_or_ge n 10)

pub twenty_digits : (n : ℕ) → length (decimal_of n) ≤ 20
twenty_digits n = length_most 20 n

kind_length : (k : Kind) → length (kind_word k) ≤ 7
kind_length On = omega arith
kind_length Off = omega arith
kind_length Reset = omega arith

-- ---- the lengths within a line
pub record Widths (g : Record) : Type 0 where
  pub position_width : length (decimal_of g.position) ≤ 10
  pub kind_width : length (kind_word g.kind) ≤ 7
  pub note_width : length (decimal_of g.note) ≤ 3
  pub velocity_width : length (decimal_of g.velocity) ≤ 3

pub widths : (g : Record) → g.position < 4294967296 → g.note < 256 → g.velocity < 256 → Widths g
widths g p n v =
    record {
      position_width = ten_digits g.position p;
      kind_width = kind_length g.kind;
      note_width = three_digits g.note n;
      velocity_width = three_digits g.velocity v;
    }
