-- What holds of the peak of every list, NaN and infinities in it or not: the offset is within the list, and the
-- magnitude is at least 0, so no NaN, and is not -0. Assumes nothing.
use mathlib.Core.Path.{◌≡◌, refl, sym, ap}
use mathlib.Core.Bool.{Bool, true, false, cond, true≢false}
use mathlib.Core.List.{List}
use Prim.Native.Nat.{ℕ, zero, suc, ◌+◌, ◌-◌, ◌≤◌, ◌<◌}
use native.Mathlib.Omega.{arith}
use lib.Dec.{T}
use lib.ListN.{length}
use lib.Ieee.{Float, of_bits, lt, le, neg}
use Rattle.std.proofs.lemmas.Float.{T_from_true}
use Rattle.floats.specs.Double.{zero64}
use Rattle.floats.proofs.Order.{signed, fle_trans, lt-le, lt_not_le}
use Rattle.peaks.specs.declared.Peak.{Peak}
use Rattle.peaks.specs.Peaks.{magnitude_at, stands, higher, peak_to, peak_of}
use Rattle.peaks.specs.Inner.{peak_after}

least-higher : (p : Peak) (a : Float) (i : ℕ) → T (le zero64 p.magnitude) → T (le zero64 (higher p a i).magnitude)
least-higher p a i h = go (lt p.magnitude a) refl
  where
    go : (t : Bool) → lt p.magnitude a ≡ t → T (le zero64 (cond t (stands a i) p).magnitude)
    go true e = fle_trans zero64 p.magnitude a h (lt-le p.magnitude a (T_from_true _ e))
    go false e = h

module _ (xs : List Float) where
  -- ---- of the first k samples
  offset_to : (k : ℕ) → (peak_to xs k).offset ≤ k - 1
  unfolding peak_to
  offset_to zero = omega arith
  offset_to (suc k) = go (offset_to k) (lt (peak_to xs k).magnitude (magnitude_at xs k))
    where
      go : (peak_to xs k).offset ≤ k - 1 → (t : Bool) → (cond t (stands (magnitude_at xs k) k) (peak_to xs k)).offset ≤ suc k - 1
      go h true = omega arith
      go h false = omega (arith, h)

  pub least-to : (k : ℕ) → T (le zero64 (peak_to xs k).magnitude)
  unfolding peak_to
  least-to zero = unfold of_bits le in tt
  least-to (suc k) = least-higher (peak_to xs k) (magnitude_at xs k) k (least-to k)

  pub least-after : (p : Peak) (n k : ℕ) → T (le zero64 p.magnitude) → T (le zero64 (peak_after p xs n k).magnitude)
  unfolding peak_after
  least-after p n zero h = h
  least-after p n (suc k) h = least-higher (peak_after p xs n k) (magnitude_at xs k) (n + k) (least-after p n k h)

  not-minus-to : (k : ℕ) → (peak_to xs k).magnitude ≡ neg zero64 → ⊥
  unfolding peak_to
  not-minus-to zero = λ e. true≢false (unfold of_bits neg in sym (ap signed e))
  not-minus-to (suc k) = go (peak_to xs k) (least-to k) (not-minus-to k) (lt (peak_to xs k).magnitude (magnitude_at xs k)) refl
    where
      go : (p : Peak) → T (le zero64 p.magnitude) → (p.magnitude ≡ neg zero64 → ⊥) → (t : Bool) → lt p.magnitude (magnitude_at xs k) ≡ t → (cond t (stands (magnitude_at xs k) k) p).magnitude ≡ neg zero64 → ⊥
      go p z h true e q = lt_not_le p.magnitude (magnitude_at xs k) (T_from_true _ e) (rw q (fle_trans (neg zero64) zero64 p.magnitude (unfold of_bits neg le in tt) z))
      go p z h false e q = h q

-- ---- of all
pub offset_below : (xs : List Float) → (peak_of xs).offset ≤ length xs
offset_below xs = omega (arith, offset_to xs (length xs))

pub offset_inside : (xs : List Float) → 0 < length xs → (peak_of xs).offset < length xs
offset_inside xs h = omega (arith, offset_to xs (length xs))

pub magnitude_least : (xs : List Float) → T (le zero64 (peak_of xs).magnitude)
magnitude_least xs = least-to xs (length xs)

pub magnitude_not-minus : (xs : List Float) → (peak_of xs).magnitude ≡ neg zero64 → ⊥
magnitude_not-minus xs = not-minus-to xs (length xs)
