-- What a re-render rests on: two accepted scores have the same records below their first difference, and they are equal
-- exactly where they have no difference. Assumes nothing.
use Rattle.std.specs.Prelude.{None, Ok, Some}
use mathlib.Core.Path.{◌≡◌, refl, sym, ap, ◌∙◌}
use mathlib.Core.Bool.{true, false}
use mathlib.Core.List.{List}
use mathlib.Core.Logic.{⊎_elim}
use Prim.Native.Nat.{ℕ, ◌+◌, ◌*◌, ◌/◌, ◌%◌, ◌-◌, ◌<◌, ◌≤◌}
use native.Mathlib.Omega.{arith}
use lib.ListN.{length, get_or, take}
use lib.Seq.{ext_get_or, get_or-take, length-take-le, take_all}
use borrow.Author.Tests.{le-ltb}
use Rattle.score.specs.Record.{count_of, byte_at, position_at, record_at}
use Rattle.score.specs.Score.{verdict_of}
use Rattle.score.specs.Below.{count_below, Sorted, Cut}
use Rattle.score.specs.Apart.{same_at, first_index, difference_of}
use Rattle.score.proofs.Cuts.{lt_or_ge, accepted-length, accepted-sorted, sorted-le, count_cut, cut-count}
use Rattle.score.proofs.Parted.{clash, same_bytes, bytes_same, same-position, same_record_lem, First, first_index_lem, AtOrBelow, at-below, equal-ends}

-- two lists with the same first n records have the same first 10 n bytes
front_same : (s t : List ℕ) (n : ℕ) → n ≤ count_of s → n ≤ count_of t → ((i : ℕ) → i < n → same_at s t i ≡ true) → take (n * 10) s ≡ take (n * 10) t
front_same s t n a b f =
    let ls : length (take (n * 10) s) ≡ n * 10 = length-take-le (n * 10) s (omega arith) in
    let lt : length (take (n * 10) t) ≡ n * 10 = length-take-le (n * 10) t (omega arith) in
    ext_get_or 0 (take (n * 10) s) (take (n * 10) t) (ls ∙ sym lt)
    (λ k h. let l : k < n * 10 = omega arith in
    let e : k ≡ k / 10 * 10 + k % 10 = omega arith in
    rw (get_or-take (n * 10) s k 0 l, get_or-take (n * 10) t k 0 l)
    (ap (λ (m : ℕ). get_or s m 0) e ∙ same_bytes s (k / 10) t (k / 10) 10 (f (k / 10) (omega arith)) (k % 10) (omega arith) ∙ ap (λ (m : ℕ). get_or t m 0) (sym e)))

-- below q both lists have the same records
pub record SameBelow (s t : List ℕ) (q : ℕ) : Type 0 where
  pub count : count_below s q ≡ count_below t q
  pub records : (i : ℕ) → i < count_below s q → record_at s i ≡ record_at t i
  pub bytes : (i : ℕ) → i < count_below s q → (j : ℕ) → j < 10 → byte_at s i j ≡ byte_at t i j
  pub front : take (count_below s q * 10) s ≡ take (count_below s q * 10) t

module _ (s t : List ℕ) (os : Sorted s) (ot : Sorted t) (p : ℕ) (found : difference_of s t ≡ Some p) (q : ℕ) (h : q ≤ p) where
  abbrev d : ℕ
  d = first_index s t

  abbrev c : ℕ
  c = count_below s q

  first : First s t d
  first = first_index_lem s t

  bound : AtOrBelow s t p d
  bound = at-below s t p d found

  cut : Cut s q c
  cut = count_cut s os q

  -- a record below q comes before the first index
  before : (i : ℕ) → i < c → i < d
  before i l =
      ⊎_elim (λ x. x)
      (λ g. let low : position_at s i < q = cut.lows i l in
      let w : c ≤ count_of s = cut.inside in
      let e : position_at s d ≤ position_at s i = sorted-le s os d i g (omega arith) in
      let high : p ≤ position_at s d = bound.high_s (omega arith) in absurd (clash (omega arith))) (lt_or_ge i d)

  cut-other : Cut t q c
  cut-other =
      let in_s : d ≤ count_of s = first.in_s in
      let in_t : d ≤ count_of t = first.in_t in
      record {
        inside = ⊎_elim (λ l. let u : c - 1 < d = before (c - 1) (omega arith) in omega arith) (λ g. omega arith) (lt_or_ge 0 c);
        lows = λ i l. (let e : position_at s i ≡ position_at t i = same-position s i t i (first.same i (before i l)) in let a : position_at s i < q = cut.lows i l in omega arith);
        highs = λ i a b. ⊎_elim
            (λ l. let e : position_at s i ≡ position_at t i = same-position s i t i (first.same i l) in let u : q ≤ position_at s i = cut.highs i a (omega arith) in omega arith)
            (λ g. let e : position_at t d ≤ position_at t i = sorted-le t ot d i g b in let u : p ≤ position_at t d = bound.high_t (omega arith) in omega arith)
            (lt_or_ge i d);
      }

  -- the records below the first difference are the same in both
  pub same-below : SameBelow s t q
  same-below =
      let same : (i : ℕ) → i < c → same_at s t i ≡ true = λ i l. first.same i (before i l) in
      record {
        count = cut-count t ot q c cut-other;
        records = λ i l. same_record_lem s i t i (same i l);
        bytes = λ i l. same_bytes s i t i 10 (same i l);
        front = front_same s t c cut.inside cut-other.inside same;
      }

-- ---- no difference
-- a list has no difference from itself
pub self-equal : (s : List ℕ) → difference_of s s ≡ None
self-equal s =
    let f : First s s (first_index s s) = first_index_lem s s in
    let end : count_of s ≤ first_index s s =
    ⊎_elim (λ l. let z : true ≡ false = sym (bytes_same s (first_index s s) s (first_index s s) 10 (λ j h. refl)) ∙ f.differs l l in absurd (clash (cc))) (λ g. g) (lt_or_ge (first_index s s) (count_of s)) in
    rw (le-ltb (first_index s s) (count_of s) end)

pub record EqualExactly (s t : List ℕ) : Type 0 where
  pub no_difference : s ≡ t → difference_of s t ≡ None
  pub no_other : difference_of s t ≡ None → s ≡ t

pub equal_exactly : (s t : List ℕ) (n m : ℕ) → verdict_of s ≡ Ok n → verdict_of t ≡ Ok m → EqualExactly s t
equal_exactly s t n m a b =
    record {
      no_difference = λ e. rw (← e) (self-equal s);
      no_other = λ e. (
          let f : First s t (first_index s t) = first_index_lem s t in
          let ends = equal-ends s t (first_index s t) e in
          let in_s : first_index s t ≤ count_of s = f.in_s in
          let in_t : first_index s t ≤ count_of t = f.in_t in
          let ls : length s ≡ count_of s * 10 = accepted-length s n a in
          let lt : length t ≡ count_of t * 10 = accepted-length t m b in
          sym (take_all (first_index s t * 10) s (omega (arith, ends.0))) ∙ front_same s t (first_index s t) in_s in_t f.same ∙ take_all (first_index s t * 10) t (omega (arith, ends.1)));
    }

-- for accepted scores
pub accepted-below : (s t : List ℕ) (n m p q : ℕ) → verdict_of s ≡ Ok n → verdict_of t ≡ Ok m → difference_of s t ≡ Some p → q ≤ p → SameBelow s t q
accepted-below s t n m p q a b found h = same-below s t (accepted-sorted s n a) (accepted-sorted t m b) p found q h
