-- What the peak of finite samples means: of one sample at least it is the largest magnitude and the first sample where
-- it stands (`IsPeak`), and there is no other. Assumes nothing.
use mathlib.Core.Path.{◌≡◌, refl, sym, ap, subst, ◌∙◌}
use mathlib.Core.Bool.{Bool, true, false, cond}
use mathlib.Core.List.{List}
use mathlib.Core.Logic.{◌⊎◌, inl, inr, ⊎_elim}
use Prim.Native.Nat.{ℕ, zero, suc, ◌≤◌, ◌<◌}
use native.Mathlib.Nat.{eq-or-lt_of_le, le_of_suc-le-suc}
use native.Mathlib.Omega.{arith}
use lib.Dec.{T, ltb}
use lib.ListN.{length}
use lib.Ieee.{Float, lt, le}
use lib.Ieee.Scale.{finite}
use borrow.Author.Tests.{ltb-true, ltb-false}
use Rattle.std.proofs.lemmas.Float.{T_from_true, T_from_false}
use Rattle.floats.specs.Double.{zero64}
use Rattle.floats.proofs.Order.{lt-le, lt_not_le, not-lt-le, fle_refl, fle_trans, le-lt-lt}
use Rattle.peaks.specs.declared.Peak.{Peak}
use Rattle.peaks.specs.Peaks.{sample_at, magnitude_at, stands, higher, peak_to, peak_of, IsPeak}
use Rattle.peaks.proofs.Magnitudes.{magnitude_finite, magnitude_none}

-- ---- p is the peak of the first k samples
record PeakUpTo (xs : List Float) (k : ℕ) (p : Peak) : Type 0 where
  there : p.offset < k
  here : p.magnitude ≡ magnitude_at xs p.offset
  largest : (i : ℕ) → i < k → T (le (magnitude_at xs i) p.magnitude)
  first : (i : ℕ) → i < p.offset → T (lt (magnitude_at xs i) p.magnitude)

module _ (xs : List Float) (all : (i : ℕ) → i < length xs → T (finite (sample_at xs i))) where
  at-finite : (i : ℕ) → i < length xs → T (finite (magnitude_at xs i))
  at-finite i h = magnitude_finite (sample_at xs i) (all i h)

  up_to-first : 0 < length xs → PeakUpTo xs 1 (peak_to xs 1)
  unfolding peak_to
  up_to-first h = go (lt zero64 (magnitude_at xs 0)) refl
    where
      only : (i : ℕ) → i < 1 → T (le (magnitude_at xs i) (magnitude_at xs 0))
      only i l = let e : i ≡ 0 = omega arith in rw e (fle_refl (magnitude_at xs 0) (at-finite 0 h))

      go : (t : Bool) → lt zero64 (magnitude_at xs 0) ≡ t → PeakUpTo xs 1 (cond t (stands (magnitude_at xs 0) 0) (stands zero64 0))
      go true e = record { there = omega arith; here = refl; largest = only; first = λ i l. absurd (omega arith) }
      go false e =
          let z : magnitude_at xs 0 ≡ zero64 = magnitude_none (sample_at xs 0) (all 0 h) e in
          record { there = omega arith; here = sym z; largest = λ i l. rw z at (only i l); first = λ i l. absurd (omega arith) }

  -- sample k + 1 is larger, or it is not
  up_to_more : (k : ℕ) (p : Peak) → suc k < length xs → PeakUpTo xs (suc k) p → PeakUpTo xs (suc (suc k)) (higher p (magnitude_at xs (suc k)) (suc k))
  up_to_more k p h u = go (lt p.magnitude (magnitude_at xs (suc k))) refl
    where
      new : T (finite (magnitude_at xs (suc k)))
      new = at-finite (suc k) h

      best : T (finite p.magnitude)
      best = subst (λ (x : Float). T (finite x)) (sym u.here) (at-finite p.offset (omega (arith, u.there)))

      go : (t : Bool) → lt p.magnitude (magnitude_at xs (suc k)) ≡ t → PeakUpTo xs (suc (suc k)) (cond t (stands (magnitude_at xs (suc k)) (suc k)) p)
      go true e =
          let above : T (lt p.magnitude (magnitude_at xs (suc k))) = T_from_true _ e in
          record {
            there = omega arith;
            here = refl;
            largest = λ i l. ⊎_elim
                (λ q. rw q (fle_refl (magnitude_at xs (suc k)) new))
                (λ q. fle_trans (magnitude_at xs i) p.magnitude (magnitude_at xs (suc k)) (u.largest i q) (lt-le p.magnitude (magnitude_at xs (suc k)) above))
                (eq-or-lt_of_le (le_of_suc-le-suc l));
            first = λ i l. le-lt-lt (magnitude_at xs i) p.magnitude (magnitude_at xs (suc k)) (at-finite i (omega arith)) new (u.largest i l) above;
          }
      go false e =
          record {
            there = omega (arith, u.there);
            here = u.here;
            largest = λ i l. ⊎_elim
                (λ q. rw q (not-lt-le p.magnitude (magnitude_at xs (suc k)) best new (T_from_false _ e)))
                (λ q. u.largest i q)
                (eq-or-lt_of_le (le_of_suc-le-suc l));
            first = u.first;
          }

  up_to : (k : ℕ) → k < length xs → PeakUpTo xs (suc k) (peak_to xs (suc k))
  unfolding peak_to
  up_to zero h = up_to-first h
  up_to (suc k) h = up_to_more k (peak_to xs (suc k)) h (up_to k (omega arith))

  pub peak_is : 0 < length xs → IsPeak xs (peak_of xs)
  peak_is h = go (length xs) refl h
    where
      go : (n : ℕ) → length xs ≡ n → 0 < n → IsPeak xs (peak_to xs n)
      go zero e l = absurd (omega arith)
      go (suc n) e l =
          let u = up_to n (omega arith) in
          record { there = rw e u.there; here = u.here; largest = λ i q. u.largest i (rw e at q); first = u.first }

-- ---- there is one such peak
-- of two, neither stands later
not_later : (xs : List Float) (p q : Peak) → IsPeak xs p → IsPeak xs q → p.offset < q.offset → ⊥
not_later xs p q a b l =
    lt_not_le (magnitude_at xs p.offset) q.magnitude (b.first p.offset l)
    (subst (λ (x : Float). T (le q.magnitude x)) a.here (subst (λ (x : Float). T (le x p.magnitude)) (sym b.here) (a.largest q.offset b.there)))

lt_or_ge : (a b : ℕ) → (a < b) ⊎ (b ≤ a)
lt_or_ge a b = go (ltb a b) refl
  where
    go : (t : Bool) → ltb a b ≡ t → (a < b) ⊎ (b ≤ a)
    go true e = inl (ltb-true a b e)
    go false e = inr (ltb-false a b e)

pub is_peak_unique : (xs : List Float) (p q : Peak) → IsPeak xs p → IsPeak xs q → p ≡ q
is_peak_unique xs p q a b =
    let e : p.offset ≡ q.offset = ⊎_elim
    (λ l. absurd (not_later xs p q a b l))
    (λ g. ⊎_elim (λ s. sym s) (λ l. absurd (not_later xs q p b a l)) (eq-or-lt_of_le g))
    (lt_or_ge p.offset q.offset) in
    let m : p.magnitude ≡ q.magnitude = a.here ∙ ap (λ (i : ℕ). magnitude_at xs i) e ∙ sym b.here in
    ap (λ (x : Float). stands x p.offset) m ∙ ap (λ (i : ℕ). stands q.magnitude i) e
