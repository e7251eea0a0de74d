-- Laws of runs. j steps, and then k steps from the state reached, are j + k steps: the law behind odd buffers and
-- re-renders. What every step keeps holds after any number of steps. Two runs side by side keep a relation that their
-- steps keep; so steps that agree on the states of a run give the same run, and a run whose step ignores its number may
-- begin at any number. Assumes nothing.
use mathlib.Core.Path.{◌≡◌, refl, ap, ◌∙◌}
use mathlib.Core.List.{◌++◌}
use Prim.Native.Nat.{ℕ, zero, suc, ◌+◌, ◌<◌}
use native.Mathlib.Nat.{add-zero, add-suc, add_assoc}
use native.Mathlib.Numerals.{add-one}
use native.Mathlib.Omega.{arith}
use Rattle.runs.specs.Runs.{run, repeated, seen}
use Rattle.runs.proofs.Listed.{listed_on, listed_same}

-- ---- two runs side by side, from n and from m: R i relates the states after i steps of each
pub run_beside : {A B : Type 0} (f : ℕ → A → A) (g : ℕ → B → B) (n m : ℕ) (a : A) (b : B) (R : ℕ → A → B → Type 0) → R 0 a b → (k : ℕ)
    → ((i : ℕ) → i < k → R i (run f n a i) (run g m b i) → R (suc i) (f (n + i) (run f n a i)) (g (m + i) (run g m b i))) → R k (run f n a k) (run g m b k)
unfolding run
run_beside f g n m a b R h zero s = h
run_beside f g n m a b R h (suc k) s = s k (omega arith) (run_beside f g n m a b R h k (λ i l. s i (omega arith)))

module _ {A : Type 0} (step : ℕ → A → A) (n : ℕ) (v : A) where
  pub run_more : (k : ℕ) → run step n v (k + 1) ≡ step (n + k) (run step n v k)
  unfolding run
  run_more k = rw (add-one k) refl

  -- ---- cut anywhere
  pub run_on : (j k : ℕ) → run step n v (j + k) ≡ run step (n + j) (run step n v j) k
  unfolding run
  run_on j zero = rw (add-zero j) refl
  run_on j (suc k) = rw (add-suc j k, run_on j k, add_assoc n j k) refl

  pub seen_on : {B : Type 0} (see : ℕ → A → B) (j k : ℕ) → seen step see n v (j + k) ≡ seen step see n v j ++ seen step see (n + j) (run step n v j) k
  seen_on see j k =
      listed_on (λ (i : ℕ). see (n + i) (run step n v i)) j k
      ∙ ap (◌++◌ (seen step see n v j)) (listed_same (λ (i : ℕ). see (n + (j + i)) (run step n v (j + i))) (λ (i : ℕ). see (n + j + i) (run step (n + j) (run step n v j) i)) k (λ i l. rw (run_on j i, add_assoc n j i) refl))

  -- ---- what every step keeps
  pub run_keeps : (P : ℕ → A → Type 0) → ((m : ℕ) (x : A) → P m x → P (suc m) (step m x)) → P n v → (k : ℕ) → P (n + k) (run step n v k)
  unfolding run
  run_keeps P s h zero = rw (add-zero n) h
  run_keeps P s h (suc k) = rw (add-suc n k) (s (n + k) (run step n v k) (run_keeps P s h k))

  -- ---- steps that agree on the states of the run
  pub run-same : (other : ℕ → A → A) (k : ℕ) → ((i : ℕ) → i < k → step (n + i) (run step n v i) ≡ other (n + i) (run step n v i)) → run step n v k ≡ run other n v k
  run-same other k e = run_beside step other n n v v (λ (i : ℕ) (x y : A). x ≡ y) refl k (λ i l h. e i l ∙ ap (other (n + i)) h)

-- ---- a step that ignores its number
module _ {A : Type 0} (step : A → A) (v : A) where
  pub run_shifts : (n m k : ℕ) → run (λ i. step) n v k ≡ run (λ i. step) m v k
  run_shifts n m k = run_beside (λ i. step) (λ i. step) n m v v (λ i x y. x ≡ y) refl k (λ i l h. ap step h)

  pub repeated_more : (k : ℕ) → repeated step v (k + 1) ≡ step (repeated step v k)
  repeated_more = run_more (λ i. step) 0 v

  pub repeated_keeps : (P : A → Type 0) → ((x : A) → P x → P (step x)) → P v → (k : ℕ) → P (repeated step v k)
  repeated_keeps P s = run_keeps (λ i. step) 0 v (λ i. P) (λ i. s)

pub repeated_on : {A : Type 0} (step : A → A) (v : A) (j k : ℕ) → repeated step v (j + k) ≡ repeated step (repeated step v j) k
repeated_on step v j k = run_on (λ i. step) 0 v j k ∙ run_shifts step (repeated step v j) (0 + j) 0 k
