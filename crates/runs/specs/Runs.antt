-- A run: a step applied k times, and what is seen of the state before each step; and the first number that passes a
-- test.
--
-- A step is given its number and the state before it; a step that ignores its number may be given any. A run begins
-- from a state v before step n, so that a run from step 0 and a run that continues are one definition.
-- Definitions only.
use Rattle.std.specs.Prelude.{Bool, cond, List, [], ◌∷◌, ◌++◌, ℕ, zero, suc, ◌+◌}

-- the state after the steps n to n + k - 1
unfoldable pub run : {A : Type 0} → (ℕ → A → A) → ℕ → A → ℕ → A
run step n v zero = v
run step n v (suc k) = step (n + k) (run step n v k)

-- the state after k steps that ignore their numbers
abbrev pub repeated : {A : Type 0} → (A → A) → A → ℕ → A
repeated step v k = run (λ i. step) 0 v k

-- the list f 0, f 1, .., f (k - 1)
unfoldable pub listed : {A : Type 0} → (ℕ → A) → ℕ → List A
listed f zero = []
listed f (suc k) = listed f k ++ (f k ∷ [])

-- what is seen of the states before the steps n to n + k - 1
abbrev pub seen : {A B : Type 0} → (ℕ → A → A) → (ℕ → A → B) → ℕ → A → ℕ → List B
seen step see n v k = listed (λ (i : ℕ). see (n + i) (run step n v i)) k

-- the first of the k numbers from n on that passes the test, or n + k where none does
unfoldable pub first_passing : (ℕ → Bool) → ℕ → ℕ → ℕ
first_passing passes zero n = n
first_passing passes (suc k) n = cond (passes n) n (first_passing passes k (suc n))
