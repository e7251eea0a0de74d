-- A score that grows only at its end keeps its records. The number below p stays the same exactly where no record is
-- added below p: what a stage player may add while a continuing render is at p. Assumes nothing.
use mathlib.Core.Path.{◌≡◌, refl, ◌∙◌}
use mathlib.Core.Bool.{Bool, true, false, cond}
use mathlib.Core.List.{List, ◌++◌}
use Prim.Native.Nat.{ℕ, zero, suc, ◌+◌, ◌*◌, ◌-◌, ◌≤◌, ◌<◌}
use native.Mathlib.Nat.{add-zero, add-suc}
use native.Mathlib.Omega.{arith}
use lib.Dec.{ltb}
use lib.ListN.{length, length-append, get_or-append}
use borrow.Author.Tests.{le-ltb}
use Rattle.score.specs.Record.{count_of, byte_at, position_at, record_at}
use Rattle.score.specs.Below.{below, count_below, Sorted}
use Rattle.score.proofs.Cuts.{count_cut}

-- records at p or above do not count as below p
below_more : (t : List ℕ) (p n k : ℕ) → ((i : ℕ) → n ≤ i → i < n + k → p ≤ position_at t i) → below t p (n + k) ≡ below t p n
unfolding below
below_more t p n zero f = rw (add-zero n)
below_more t p n (suc k) f =
    rw (add-suc n k, le-ltb (position_at t (n + k)) p (f (n + k) (omega arith) (omega arith)), add-zero (below t p (n + k)))
    (below_more t p n k (λ i a b. f i a (omega arith)))

pub below-few : (s : List ℕ) (p n : ℕ) → below s p n ≤ n
unfolding below
below-few s p zero = omega arith
below-few s p (suc n) = go (ltb (position_at s n) p) (below-few s p n)
  where
    go : (b : Bool) → below s p n ≤ n → below s p n + cond b 1 0 ≤ suc n
    go true h = omega arith
    go false h = omega arith

-- s, whose bytes are whole records, and u appended to s
module _ (s u : List ℕ) (whole : length s ≡ count_of s * 10) where
  pub byte-kept : (i j : ℕ) → i < count_of s → j < 10 → byte_at (s ++ u) i j ≡ byte_at s i j
  byte-kept i j h k = let inside : i * 10 + j < length s = omega arith in get_or-append s u 0 (i * 10 + j) inside

  pub position-kept : (i : ℕ) → i < count_of s → position_at (s ++ u) i ≡ position_at s i
  unfolding position_at
  position-kept i h = rw (byte-kept i 2 h (omega arith), byte-kept i 3 h (omega arith), byte-kept i 4 h (omega arith), byte-kept i 5 h (omega arith))

  pub record_kept : (i : ℕ) → i < count_of s → record_at (s ++ u) i ≡ record_at s i
  record_kept i h = rw (position-kept i h, byte-kept i 6 h (omega arith), byte-kept i 7 h (omega arith), byte-kept i 8 h (omega arith)) refl

  pub count_grows : count_of s ≤ count_of (s ++ u)
  count_grows = rw (length-append s u) (omega arith)

  below-kept : (p n : ℕ) → n ≤ count_of s → below (s ++ u) p n ≡ below s p n
  unfolding below
  below-kept p zero h = refl
  below-kept p (suc n) h = rw (position-kept n h, below-kept p n (omega arith))

  -- if no record is added below p, as many are below p as before
  pub none-added : (p : ℕ) → ((i : ℕ) → count_of s ≤ i → i < count_of (s ++ u) → p ≤ position_at (s ++ u) i) → count_below (s ++ u) p ≡ count_below s p
  none-added p f =
      let grows : count_of s ≤ count_of (s ++ u) = count_grows in
      let e : count_of (s ++ u) ≡ count_of s + (count_of (s ++ u) - count_of s) = omega arith in
      rw e (below_more (s ++ u) p (count_of s) (count_of (s ++ u) - count_of s) (λ i a b. f i a (omega arith)) ∙ below-kept p (count_of s) (omega arith))

  -- if as many are below p as before, no record was added below p
  pub as_many : (p : ℕ) → Sorted (s ++ u) → count_below (s ++ u) p ≡ count_below s p → (i : ℕ) → count_of s ≤ i → i < count_of (s ++ u) → p ≤ position_at (s ++ u) i
  as_many p o e i a b = (count_cut (s ++ u) o p).highs i (omega (arith, below-few s p (count_of s))) b
