-- The position where two accepted scores first differ is that of the first changed record: below it they have the same
-- records, up to and including it they do not. Assumes nothing.
use Rattle.std.specs.Prelude.{None, Option, Some}
use mathlib.Core.Path.{◌≡◌, refl, sym, ap, ◌∙◌}
use mathlib.Core.Bool.{Bool, true, false, cond}
use mathlib.Core.List.{List}
use mathlib.Core.Logic.{◌⊎◌, inl, inr, ⊎_elim}
use Prim.Native.Nat.{ℕ, suc, ◌+◌, ◌*◌, ◌≤◌, ◌<◌, min}
use native.Mathlib.Omega.{arith}
use borrow.Author.Tests.{ltb-true}
use lib.Dec.{ltb}
use lib.ListN.{length, get_or, take}
use lib.Seq.{get_or-take, length-take-le}
use Rattle.score.specs.Record.{count_of, byte_at, position_at}
use Rattle.score.specs.Below.{count_below, Cut}
use Rattle.score.specs.Apart.{first_index, difference_of}
use Rattle.score.proofs.Cuts.{lt_or_ge, accepted-length, accepted-sorted, count_cut}
use Rattle.score.proofs.Parted.{clash, bytes_same, First, first_index_lem, at_inj}
use Rattle.score.proofs.Agree.{accepted-below, equal_exactly}
use Rattle.demands.specs.Demand3.{Taken, records_below, FirstChange}

-- a record at or below p is one of those below p + 1
in_cut : (s : List ℕ) (p d c : ℕ) → Cut s (suc p) c → d < count_of s → position_at s d ≤ p → d < c
in_cut s p d c cut h l = ⊎_elim (λ x. x) (λ y. let high : suc p ≤ position_at s d = cut.highs d y h in absurd (clash (omega arith))) (lt_or_ge d c)

module _ (s t : List ℕ) (x : Taken s) (y : Taken t) (p : ℕ) (found : difference_of s t ≡ Some p) where
  abbrev d : ℕ
  d = first_index s t

  abbrev cs : ℕ
  cs = count_below s (suc p)

  abbrev ct : ℕ
  ct = count_below t (suc p)

  cut_s : Cut s (suc p) cs
  cut_s = count_cut s (accepted-sorted s x.records x.accepted) (suc p)

  cut_t : Cut t (suc p) ct
  cut_t = count_cut t (accepted-sorted t y.records y.accepted) (suc p)

  -- one of the two scores has a record at the first index where they differ, and its position is p
  reaches : (d < cs) ⊎ (d < ct)
  reaches = go (ltb d (count_of s)) refl (ltb d (count_of t)) refl found
    where
      go : (a : Bool) → ltb d (count_of s) ≡ a → (b : Bool) → ltb d (count_of t) ≡ b
          → cond a (cond b (Some (min (position_at s d) (position_at t d))) (Some (position_at s d))) (cond b (Some (position_at t d)) None) ≡ Some p → (d < cs) ⊎ (d < ct)
      go true f true g e =
          let z : min (position_at s d) (position_at t d) ≡ p = at_inj e in
          ⊎_elim (λ l. inl (in_cut s p d cs cut_s (ltb-true _ _ f) (omega arith))) (λ l. inr (in_cut t p d ct cut_t (ltb-true _ _ g) (omega arith))) (lt_or_ge (position_at s d) (position_at t d))
      go true f false g e = let z : position_at s d ≡ p = at_inj e in inl (in_cut s p d cs cut_s (ltb-true _ _ f) (omega arith))
      go false f true g e = let z : position_at t d ≡ p = at_inj e in inr (in_cut t p d ct cut_t (ltb-true _ _ g) (omega arith))
      go false f false g e = absurd (clash (cc))

  apart : records_below s (suc p) ≡ records_below t (suc p) → ⊥
  apart same =
      let in_s : cs ≤ count_of s = cut_s.inside in
      let in_t : ct ≤ count_of t = cut_t.inside in
      let long-s : length s ≡ count_of s * 10 = accepted-length s x.records x.accepted in
      let long-t : length t ≡ count_of t * 10 = accepted-length t y.records y.accepted in
      let many : cs * 10 ≡ ct * 10 = sym (length-take-le (cs * 10) s (omega arith)) ∙ ap length same ∙ length-take-le (ct * 10) t (omega arith) in
      let here : d < cs = ⊎_elim (λ l. l) (λ l. omega arith) reaches in
      let bytes : (j : ℕ) → j < 10 → byte_at s d j ≡ byte_at t d j =
      λ j h. sym (get_or-take (cs * 10) s (d * 10 + j) 0 (omega arith)) ∙ ap (λ (l : List ℕ). get_or l (d * 10 + j) 0) same ∙ get_or-take (ct * 10) t (d * 10 + j) 0 (omega arith) in
      let first : First s t d = first_index_lem s t in
      let z : true ≡ false = sym (bytes_same s d t d 10 bytes) ∙ first.differs (omega arith) (omega arith) in
      clash (cc)

  pub first_change : FirstChange s t p
  first_change =
      let b = accepted-below s t x.records y.records p p x.accepted y.accepted found (omega arith) in
      record { same-below = b.front ∙ ap (λ (c : ℕ). take (c * 10) t) b.count; apart-at = apart }

-- accepted scores that are not equal have such a position
pub differ : (s t : List ℕ) → Taken s → Taken t → (s ≡ t → ⊥) → (p : ℕ) × (difference_of s t ≡ Some p)
differ s t a b other = go (difference_of s t) refl
  where
    go : (d : Option ℕ) → difference_of s t ≡ d → (p : ℕ) × (difference_of s t ≡ Some p)
    go None e = absurd (other ((equal_exactly s t a.records b.records a.accepted b.accepted).no_other e))
    go (Some p) e = (p, e)
