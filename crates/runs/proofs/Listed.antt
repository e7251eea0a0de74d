-- `listed f k` has the length k, its element i is f i, it may be cut anywhere, and functions that agree below k give
-- the same list. Assumes nothing.
use mathlib.Core.Path.{◌≡◌, refl, sym}
use mathlib.Core.List.{[], ◌∷◌, ◌++◌, append_assoc, append-nil}
use mathlib.Core.Logic.{⊎_elim}
use Prim.Native.Nat.{ℕ, zero, suc, ◌+◌, ◌<◌}
use native.Mathlib.Nat.{add-zero, add-suc, eq-or-lt_of_le, le_of_suc-le-suc}
use native.Mathlib.Numerals.{add-one}
use native.Mathlib.Omega.{arith}
use lib.ListN.{length, get_or, length-append, get_or-append}
use lib.Seq.{get_or_at}
use Rattle.runs.specs.Runs.{listed}

module _ {A : Type 0} (f : ℕ → A) where
  pub listed_more : (k : ℕ) → listed f (k + 1) ≡ listed f k ++ (f k ∷ [])
  unfolding listed
  listed_more k = rw (add-one k) refl

  pub listed-length : (k : ℕ) → length (listed f k) ≡ k
  unfolding listed
  listed-length zero = refl
  listed-length (suc k) = rw (length-append (listed f k) (f k ∷ []), listed-length k) (add-one k)

  pub listed_at : (k i : ℕ) (d : A) → i < k → get_or (listed f k) i d ≡ f i
  unfolding listed
  listed_at zero i d h = absurd (omega arith)
  listed_at (suc k) i d h =
      ⊎_elim
      (λ e. rw e (get_or_at (listed f k) (f k) [] d k (listed-length k)))
      (λ l. rw (get_or-append (listed f k) (f k ∷ []) d i (omega (arith, listed-length k))) (listed_at k i d l))
      (eq-or-lt_of_le (le_of_suc-le-suc h))

  pub listed_on : (j k : ℕ) → listed f (j + k) ≡ listed f j ++ listed (λ (i : ℕ). f (j + i)) k
  unfolding listed
  listed_on j zero = rw (add-zero j) (sym (append-nil (listed f j)))
  listed_on j (suc k) = rw (add-suc j k, listed_on j k) (append_assoc (listed f j) (listed (λ (i : ℕ). f (j + i)) k) (f (j + k) ∷ []))

pub listed_same : {A : Type 0} (f g : ℕ → A) (k : ℕ) → ((i : ℕ) → i < k → f i ≡ g i) → listed f k ≡ listed g k
unfolding listed
listed_same f g zero e = refl
listed_same f g (suc k) e = rw (listed_same f g k (λ i l. e i (omega arith)), e k (omega arith)) refl
