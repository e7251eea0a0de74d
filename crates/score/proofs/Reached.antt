-- 01's P cannot be higher: where two scores part at p, one of them has at the first index a record at p that the other
-- does not have there.
-- So two scores in order do not have the same records below p + 1, while `accepted-below` shows that they have the same
-- below p. Assumes nothing.
use Rattle.std.specs.Prelude.{None, Ok, Some}
use mathlib.Core.Path.{◌≡◌, refl, sym, ◌∙◌}
use mathlib.Core.Bool.{Bool, true, false, cond}
use mathlib.Core.List.{List}
use mathlib.Core.Logic.{◌⊎◌, inl, inr, ⊎_elim}
use Prim.Native.Nat.{ℕ, suc, ◌<◌, ◌≤◌, min}
use native.Mathlib.Omega.{arith}
use lib.Dec.{ltb}
use borrow.Author.Tests.{ltb-true}
use Rattle.score.specs.Record.{count_of, position_at}
use Rattle.score.specs.Score.{verdict_of}
use Rattle.score.specs.Below.{count_below, Sorted}
use Rattle.score.specs.Apart.{first_index, difference_at, difference_of}
use Rattle.score.proofs.Cuts.{lt_or_ge, accepted-sorted, count_cut}
use Rattle.score.proofs.Parted.{clash, at_inj, bytes_same, first_index_lem}
use Rattle.score.proofs.Agree.{SameBelow}

-- s has a record d, and its position is p
abbrev pub StandsAt : List ℕ → ℕ → ℕ → Type 0
StandsAt s d p = (d < count_of s) × (position_at s d ≡ p)

pub reached : (s t : List ℕ) (p d : ℕ) → difference_at s t d ≡ Some p → StandsAt s d p ⊎ StandsAt t d p
reached s t p d e = go (ltb d (count_of s)) refl (ltb d (count_of t)) refl e
  where
    lower : (x y : ℕ) → min x y ≡ p → (x ≡ p) ⊎ (y ≡ p)
    lower x y e = ⊎_elim (λ l. inl (omega arith)) (λ g. inr (omega arith)) (lt_or_ge x y)

    go : (a : Bool) → ltb d (count_of s) ≡ a → (b : Bool) → ltb d (count_of t) ≡ b
        → cond a (cond b (Some (min (position_at s d) (position_at t d))) (Some (position_at s d))) (cond b (Some (position_at t d)) None) ≡ Some p → StandsAt s d p ⊎ StandsAt t d p
    go true f true g e = ⊎_elim (λ x. inl (ltb-true _ _ f, x)) (λ y. inr (ltb-true _ _ g, y)) (lower (position_at s d) (position_at t d) (at_inj e))
    go true f false g e = inl (ltb-true _ _ f, at_inj e)
    go false f true g e = inr (ltb-true _ _ g, at_inj e)
    go false f false g e = absurd (clash (cc))

-- a record at p is among the records below p + 1
below_next : (s : List ℕ) (p d : ℕ) → Sorted s → StandsAt s d p → d < count_below s (suc p)
below_next s p d o h =
    ⊎_elim (λ l. l)
    (λ g. let high : suc p ≤ position_at s d = (count_cut s o (suc p)).highs d g h.0 in absurd (clash (omega (arith, h.1))))
    (lt_or_ge d (count_below s (suc p)))

-- scores that part do not have the same records below p + 1
module _ (s t : List ℕ) (p : ℕ) (os : Sorted s) (ot : Sorted t) (same : SameBelow s t (suc p)) where
  abbrev d : ℕ
  d = first_index s t

  not-both : d < count_below s (suc p) → ⊥
  not-both l =
      let in_s : d < count_of s = omega (arith, (count_cut s os (suc p)).inside) in
      let in_t : d < count_of t = omega (arith, (count_cut t ot (suc p)).inside, same.count) in
      let z : true ≡ false = sym (bytes_same s d t d 10 (same.bytes d l)) ∙ (first_index_lem s t).differs in_s in_t in
      clash (cc)

  pub parted-there : difference_of s t ≡ Some p → ⊥
  parted-there e = ⊎_elim (λ h. not-both (below_next s p d os h)) (λ h. not-both (omega (arith, below_next t p d ot h, same.count))) (reached s t p d e)

-- for accepted scores
pub accepted-parted : (s t : List ℕ) (n m p : ℕ) → verdict_of s ≡ Ok n → verdict_of t ≡ Ok m → difference_of s t ≡ Some p → SameBelow s t (suc p) → ⊥
accepted-parted s t n m p a b e same = parted-there s t p (accepted-sorted s n a) (accepted-sorted t m b) same e
