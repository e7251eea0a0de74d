-- The list of f 0 to f (k - 1) and its elements; consecutive elements of a list as such a list. Assumes nothing.
use mathlib.Core.Path.{◌≡◌, refl, ◌∙◌}
use mathlib.Core.List.{List, [], ◌∷◌, ◌++◌}
use mathlib.Core.Logic.{⊎_elim}
use Prim.Native.Nat.{ℕ, zero, suc, ◌+◌, ◌≤◌, ◌<◌}
use native.Mathlib.Nat.{eq-or-lt_of_le, le_of_suc-le-suc}
use native.Mathlib.Omega.{arith}
use lib.ListN.{length, get_or, take, drop, length-append, length-drop, get_or-append}
use lib.Seq.{take-suc, get_or-drop, get_or_at}

module _ {A : Type 0} (f : ℕ → A) where
  unfoldable pub up_to : ℕ → List A
  up_to zero = []
  up_to (suc k) = up_to k ++ (f k ∷ [])

  pub length-up_to : (k : ℕ) → length (up_to k) ≡ k
  unfolding up_to
  length-up_to zero = refl
  length-up_to (suc k) = let h : length (up_to k) ≡ k = length-up_to k in rw (length-append, h) (omega arith)

  pub get_d_up_to : (k i : ℕ) (d : A) → i < k → get_or (up_to k) i d ≡ f i
  unfolding up_to
  get_d_up_to zero i d h = absurd (none i h)
    where
      none : (i : ℕ) → i < 0 → ⊥
      none i h = omega arith
  get_d_up_to (suc k) i d h = ⊎_elim
      (λ e. rw e (get_or_at (up_to k) (f k) [] d k (length-up_to k)))
      (λ l. let m : i < length (up_to k) = rw (length-up_to k) l in get_or-append (up_to k) (f k ∷ []) d i m ∙ get_d_up_to k i d l)
      (eq-or-lt_of_le (le_of_suc-le-suc h))

-- the k elements of s from index n on
pub stretch : (s : List ℕ) (n k : ℕ) → n + k ≤ length s → up_to (λ j. get_or s (n + j) 0) k ≡ take k (drop n s)
unfolding up_to
stretch s n zero h = refl
stretch s n (suc k) h =
    let short : k < length (drop n s) = rw length-drop (omega arith) in
    rw (stretch s n k (omega arith), take-suc (drop n s) k 0 short, get_or-drop n s k 0)
