-- The first difference of two scores: the records before its index are the same, its position is not above that of
-- either score there, and the order of the two scores does not matter. Assumes nothing.
use Rattle.std.specs.Prelude.{None, Some}
use mathlib.Core.Path.{◌≡◌, refl, sym, ap, ◌∙◌}
use mathlib.Core.Bool.{Bool, true, false, not, cond, true≢false}
use mathlib.Core.List.{List}
use mathlib.Core.Logic.{⊎_elim}
use Prim.Native.Nat.{ℕ, zero, suc, ◌+◌, ◌<◌, ◌≤◌, min}
use native.Mathlib.Nat.{eq-or-lt_of_le, le_of_suc-le-suc}
use native.Mathlib.Omega.{arith}
use lib.Dec.{ltb, eqb}
use borrow.Author.Tests.{ltb-false, eqb-true, eq-eqb, not-true, not-false}
use Rattle.runs.specs.Runs.{first_passing}
use Rattle.runs.proofs.First.{first_passing_lem, first-same}
use Rattle.score.specs.Record.{count_of, byte_at, position_at, record_at}
use Rattle.score.specs.Apart.{same_to, same_record, same_at, first_index, same_back, same_end, difference_at, difference_of}

pub clash : ◌≡◌ {A = ℕ} 0 1 → ⊥
clash h = omega arith

pub none_below : (i : ℕ) → i < 0 → ⊥
none_below i h = omega arith

-- ---- one record of each score: record i of s and record j of t
pub same_bytes : (s : List ℕ) (i : ℕ) (t : List ℕ) (j n : ℕ) → same_to s i t j n ≡ true → (k : ℕ) → k < n → byte_at s i k ≡ byte_at t j k
unfolding same_to
same_bytes s i t j zero e k h = absurd (none_below k h)
same_bytes s i t j (suc n) e k h = go (same_bytes s i t j n) (eqb (byte_at s i n) (byte_at t j n)) refl e
  where
    go : (same_to s i t j n ≡ true → (k : ℕ) → k < n → byte_at s i k ≡ byte_at t j k) → (b : Bool) → eqb (byte_at s i n) (byte_at t j n) ≡ b → cond b (same_to s i t j n) false ≡ true → byte_at s i k ≡ byte_at t j k
    go ih true q e = ⊎_elim (λ x. rw x (eqb-true _ _ q)) (λ l. ih e k l) (eq-or-lt_of_le (le_of_suc-le-suc h))
    go ih false q e = absurd (true≢false (sym e))

pub bytes_same : (s : List ℕ) (i : ℕ) (t : List ℕ) (j n : ℕ) → ((k : ℕ) → k < n → byte_at s i k ≡ byte_at t j k) → same_to s i t j n ≡ true
unfolding same_to
bytes_same s i t j zero f = refl
bytes_same s i t j (suc n) f = rw (eq-eqb _ _ (f n (omega arith))) (bytes_same s i t j n (λ k h. f k (omega arith)))

pub same-position : (s : List ℕ) (i : ℕ) (t : List ℕ) (j : ℕ) → same_record s i t j ≡ true → position_at s i ≡ position_at t j
unfolding position_at
same-position s i t j e =
    let f : (k : ℕ) → k < 10 → byte_at s i k ≡ byte_at t j k = same_bytes s i t j 10 e in
    rw (f 2 (omega arith), f 3 (omega arith), f 4 (omega arith), f 5 (omega arith))

pub same_record_lem : (s : List ℕ) (i : ℕ) (t : List ℕ) (j : ℕ) → same_record s i t j ≡ true → record_at s i ≡ record_at t j
same_record_lem s i t j e =
    let f : (k : ℕ) → k < 10 → byte_at s i k ≡ byte_at t j k = same_bytes s i t j 10 e in
    rw (same-position s i t j e, f 6 (omega arith), f 7 (omega arith), f 8 (omega arith)) refl

-- ---- where two scores part
-- of the records of s and t, taken in an order, the first d are alike, and the next, if both have one, is not
pub record Parts (alike : ℕ → Bool) (s t : List ℕ) (d : ℕ) : Type 0 where
  pub in_s : d ≤ count_of s
  pub in_t : d ≤ count_of t
  pub same : (i : ℕ) → i < d → alike i ≡ true
  pub differs : d < count_of s → d < count_of t → alike d ≡ false

pub parts : (alike : ℕ → Bool) (s t : List ℕ) → Parts alike s t (first_passing (λ (i : ℕ). not (alike i)) (min (count_of s) (count_of t)) 0)
parts alike s t =
    let d = first_passing (λ (i : ℕ). not (alike i)) (min (count_of s) (count_of t)) 0 in
    let f = first_passing_lem (λ (i : ℕ). not (alike i)) (min (count_of s) (count_of t)) 0 in
    let high : d ≤ 0 + min (count_of s) (count_of t) = f.high in
    record {
      in_s = omega arith;
      in_t = omega arith;
      same = λ i h. not-false (alike i) (f.none i (omega arith) h);
      differs = λ a b. not-true (alike d) (f.here (omega arith));
    }

-- from the front: the first d records are the same, and record d, if both have one, is not
abbrev pub First : List ℕ → List ℕ → ℕ → Type 0
First s t d = Parts (same_at s t) s t d

pub first_index_lem : (s t : List ℕ) → First s t (first_index s t)
first_index_lem s t = parts (same_at s t) s t

-- from the end: the last d records are the same, and the record before them, if both have one, is not
abbrev pub Last : List ℕ → List ℕ → ℕ → Type 0
Last s t d = Parts (same_back s t) s t d

pub same_end_lem : (s t : List ℕ) → Last s t (same_end s t)
same_end_lem s t = parts (same_back s t) s t

-- the order of the two scores does not matter
same-sym : (s : List ℕ) (i : ℕ) (t : List ℕ) (j : ℕ) → same_record s i t j ≡ same_record t j s i
same-sym s i t j = go (same_record s i t j) refl (same_record t j s i) refl
  where
    back : (s : List ℕ) (i : ℕ) (t : List ℕ) (j : ℕ) → same_record s i t j ≡ true → same_record t j s i ≡ true
    back s i t j e = bytes_same t j s i 10 (λ k h. sym (same_bytes s i t j 10 e k h))

    go : (a : Bool) → same_record s i t j ≡ a → (b : Bool) → same_record t j s i ≡ b → a ≡ b
    go true e b f = sym (back s i t j e) ∙ f
    go false e true f = sym e ∙ back t j s i f
    go false e false f = refl

pub index_symmetric : (s t : List ℕ) → first_index s t ≡ first_index t s
index_symmetric s t =
    let fewer : min (count_of s) (count_of t) ≡ min (count_of t) (count_of s) = omega arith in
    rw (← fewer)
    (first-same (λ (i : ℕ). not (same_at s t i)) (λ (i : ℕ). not (same_at t s i)) (min (count_of s) (count_of t)) 0 (λ i a b. ap not (same-sym s i t i)))

-- ---- the difference
difference_swap : (s t : List ℕ) (i : ℕ) → difference_at s t i ≡ difference_at t s i
difference_swap s t i = go (ltb i (count_of s)) (ltb i (count_of t))
  where
    go : (a b : Bool) → cond a (cond b (Some (min (position_at s i) (position_at t i))) (Some (position_at s i))) (cond b (Some (position_at t i)) None)
        ≡ cond b (cond a (Some (min (position_at t i) (position_at s i))) (Some (position_at t i))) (cond a (Some (position_at s i)) None)
    go true true = ap Some (omega arith)
    go true false = refl
    go false true = refl
    go false false = refl

-- the order of the two scores does not matter
pub symmetric : (s t : List ℕ) → difference_of s t ≡ difference_of t s
symmetric s t = difference_swap s t (first_index s t) ∙ ap (difference_at t s) (index_symmetric s t)

-- p is at or below the position of record d in either score
pub record AtOrBelow (s t : List ℕ) (p d : ℕ) : Type 0 where
  pub high_s : d < count_of s → p ≤ position_at s d
  pub high_t : d < count_of t → p ≤ position_at t d

pub at_inj : {p q : ℕ} → Some p ≡ Some q → p ≡ q
at_inj e = cc

pub at-below : (s t : List ℕ) (p d : ℕ) → difference_at s t d ≡ Some p → AtOrBelow s t p d
at-below s t p d e = go (ltb d (count_of s)) refl (ltb d (count_of t)) refl e
  where
    go : (a : Bool) → ltb d (count_of s) ≡ a → (b : Bool) → ltb d (count_of t) ≡ b
        → cond a (cond b (Some (min (position_at s d) (position_at t d))) (Some (position_at s d))) (cond b (Some (position_at t d)) None) ≡ Some p → AtOrBelow s t p d
    go true f true g e = let z : min (position_at s d) (position_at t d) ≡ p = at_inj e in record { high_s = λ h. omega arith; high_t = λ h. omega arith }
    go true f false g e = let z : position_at s d ≡ p = at_inj e in let w : count_of t ≤ d = ltb-false _ _ g in record { high_s = λ h. omega arith; high_t = λ h. omega arith }
    go false f true g e = let z : position_at t d ≡ p = at_inj e in let w : count_of s ≤ d = ltb-false _ _ f in record { high_s = λ h. omega arith; high_t = λ h. omega arith }
    go false f false g e = absurd (clash (cc))

-- no difference: neither score has a record at the first index
pub equal-ends : (s t : List ℕ) (d : ℕ) → difference_at s t d ≡ None → (count_of s ≤ d) × (count_of t ≤ d)
equal-ends s t d e = go (ltb d (count_of s)) refl (ltb d (count_of t)) refl e
  where
    go : (a : Bool) → ltb d (count_of s) ≡ a → (b : Bool) → ltb d (count_of t) ≡ b
        → cond a (cond b (Some (min (position_at s d) (position_at t d))) (Some (position_at s d))) (cond b (Some (position_at t d)) None) ≡ None → (count_of s ≤ d) × (count_of t ≤ d)
    go true f true g e = absurd (clash (cc))
    go true f false g e = absurd (clash (cc))
    go false f true g e = absurd (clash (cc))
    go false f false g e = (ltb-false _ _ f, ltb-false _ _ g)
