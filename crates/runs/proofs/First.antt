-- `first_passing` gives the first of k numbers from n on that passes a test: none before it passes, it passes itself
-- where it is one of them, and it is the only such number. So tests that agree on those numbers give the same first.
-- What a search by `find` gives, or else the end, is it. Assumes nothing.
use Rattle.std.specs.Prelude.{MatchOption, None, Option, Some, ⊤}
use Rattle.std.specs.declared.ops.Range.{Range}
use Rattle.std.specs.Fn.{CalledAt}
use Rattle.std.specs.Iterator.{YieldsThen}
use Rattle.std.specs.List.{FoldsTo}
use Rattle.std.specs.Option.{unwrap_or}
use Rattle.std.proofs.iter.Yields.{nat_range_steps}
use Rattle.std.proofs.lemmas.Iterator.{first_from_Range}
use denote.Param.Members.{Mut}
use denote.Ref.{Bor}
use mathlib.Core.List.{List}
use mathlib.Core.Path.{◌≡◌, refl, sym, ◌∙◌}
use mathlib.Core.Bool.{Bool, true, false, cond, true≢false}
use mathlib.Core.Logic.{⊎_elim}
use Prim.Native.Nat.{ℕ, zero, suc, ◌+◌, ◌-◌, ◌≤◌, ◌<◌, max}
use native.Mathlib.Nat.{eq-or-lt_of_le}
use native.Mathlib.Omega.{arith}
use lib.Dec.{ltb}
use borrow.Author.Tests.{ltb-true, ltb-false}
use Rattle.runs.specs.Runs.{first_passing}

-- r is the first of the k numbers from n on that passes, or n + k
pub record First (passes : ℕ → Bool) (k n r : ℕ) : Type 0 where
  pub low : n ≤ r
  pub high : r ≤ n + k
  pub none : (j : ℕ) → n ≤ j → j < r → passes j ≡ false
  pub here : r < n + k → passes r ≡ true

module _ (passes : ℕ → Bool) where
  pub first_passing_lem : (k n : ℕ) → First passes k n (first_passing passes k n)
  unfolding first_passing
  first_passing_lem zero n = record { low = omega arith; high = omega arith; none = λ j a b. absurd (omega arith); here = λ h. absurd (omega arith) }
  first_passing_lem (suc k) n = go (first_passing_lem k (suc n)) (passes n) refl
    where
      go : First passes k (suc n) (first_passing passes k (suc n)) → (b : Bool) → passes n ≡ b → First passes (suc k) n (cond b n (first_passing passes k (suc n)))
      go f true e = record { low = omega arith; high = omega arith; none = λ j a b. absurd (omega arith); here = λ h. e }
      go f false e =
          let low : suc n ≤ first_passing passes k (suc n) = f.low in
          let high : first_passing passes k (suc n) ≤ suc n + k = f.high in
          record {
            low = omega arith;
            high = omega arith;
            none = λ j a b. ⊎_elim (λ q. rw (← q) e) (λ l. f.none j l b) (eq-or-lt_of_le a);
            here = λ h. f.here (omega arith);
          }

  -- ---- it is the only one
  first-le : (k n r q : ℕ) → First passes k n r → First passes k n q → r ≤ q
  first-le k n r q x y = go (ltb q r) refl
    where
      go : (b : Bool) → ltb q r ≡ b → r ≤ q
      go true e =
          let l : q < r = ltb-true q r e in
          let high : r ≤ n + k = x.high in
          absurd (true≢false (sym (y.here (omega arith)) ∙ x.none q y.low l))
      go false e = ltb-false q r e

  pub first_only : (k n r : ℕ) → First passes k n r → r ≡ first_passing passes k n
  first_only k n r f =
      let a = first-le k n r (first_passing passes k n) f (first_passing_lem k n) in
      let b = first-le k n (first_passing passes k n) r (first_passing_lem k n) f in
      omega (arith, a, b)

  -- ---- `(a..b).find(|&i| passes(i)).unwrap_or(d)`, where d is b, or a where a is more
  found : (s : Range ℕ) (r : Option ℕ) (d : ℕ) → d ≡ max s.start s.end → MatchOption r ((k : ℕ) → s.start ≤ k → k < s.end → passes k ≡ false) (λ i. (s.start ≤ i) × (i < s.end) × (passes i ≡ true) × ((k : ℕ) → s.start ≤ k → k < i → passes k ≡ false)) → unwrap_or r d ≡ first_passing passes (s.end - s.start) s.start
  found s None d e h = first_only _ _ _ (record { low = omega arith; high = omega arith; none = λ j l m. h j l (omega arith); here = λ l. absurd (omega arith) })
  found s (Some i) d e h = first_only _ _ i (record { low = h.0; high = omega (arith, h.1); none = h.3; here = λ l. h.2 })

  pub first_found : {F : Type 0} {g : Mut F (Bor ℕ × Unit {0}) Bool} (s u : Range ℕ) (f : F) (r : Option ℕ) (d k : ℕ) → (xs : List ℕ) × (j : F) × YieldsThen nat_range_steps s xs r u × FoldsTo (λ p x q. CalledAt g p x false q) f xs j × MatchOption r ⊤ (λ x. (h : F) × CalledAt g j x true h) → ((x : ℕ) (b : Bool) (q : F) → CalledAt g f x b q → (q ≡ f) × (b ≡ passes x)) → d ≡ max s.start s.end → k ≡ s.end - s.start → unwrap_or r d ≡ first_passing passes k s.start
  first_found s u f r d k ran calls e n =
      rw n (found s r d e (first_from_Range s u f r (λ i. passes i ≡ true) (λ i. passes i ≡ false) ran (λ x q k. sym (calls x true q k).1) (λ x q k. let b = calls x false q k in (b.0, sym b.1))))

-- tests that agree on the k numbers from n on
pub first-same : (passes other : ℕ → Bool) (k n : ℕ) → ((j : ℕ) → n ≤ j → j < n + k → passes j ≡ other j) → first_passing passes k n ≡ first_passing other k n
unfolding first_passing
first-same passes other zero n f = refl
first-same passes other (suc k) n f =
    rw (f n (omega arith) (omega arith), first-same passes other k (suc n) (λ j a b. f j (omega arith) (omega arith)))
