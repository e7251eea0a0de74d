-- Words compared in three parts: those before the number of records acted, the word that has it, without it, and those
-- after it. Assumes nothing.
use mathlib.Core.Path.{◌≡◌, refl, sym, ap, ◌∙◌}
use mathlib.Core.Bool.{false, ◌&&◌, and_assoc}
use mathlib.Core.List.{List, [], ◌∷◌}
use Prim.Native.Nat.{ℕ, zero, suc, ◌-◌, ◌%◌, ◌≤◌, ◌<◌}
use native.Mathlib.Nat.{add-zero}
use native.Mathlib.Omega.{arith}
use lib.Dec.{eqb}
use lib.ListN.{length, get_or, take, drop, set, length-set, length-drop}
use lib.Seq.{take_all}
use lib.Pointwise.{pointwise}
use Rattle.words.specs.Words.{same}
use Rattle.words.proofs.Same.{unlike-same}
use Rattle.shelf.specs.Shelf.{with_count}

-- slices are compared as `same` compares lists
same_as : (xs ys : List ℕ) → pointwise eqb xs ys ≡ same xs ys
unfolding same
same_as [] [] = refl
same_as [] (y ∷ ys) = refl
same_as (x ∷ xs) [] = refl
same_as (x ∷ xs) (y ∷ ys) = rw (same_as xs ys) refl

-- words with another word n
parts-same : (n p q : ℕ) (xs ys : List ℕ) → n < length xs → n < length ys → same (take n xs) (take n ys) && eqb p q && same (drop (suc n) xs) (drop (suc n) ys) ≡ same (set xs n p) (set ys n q)
unfolding same
parts-same n p q [] ys h l = absurd (omega arith)
parts-same n p q (x ∷ xs) [] h l = absurd (omega arith)
parts-same zero p q (x ∷ xs) (y ∷ ys) h l = refl
parts-same (suc n) p q (x ∷ xs) (y ∷ ys) h l = rw (← parts-same n p q xs ys (omega arith) (omega arith)) (simp and_assoc)

renewed : (xs : List ℕ) → with_count xs 0 ≡ set xs 5 (get_or xs 5 0 % 65536)
renewed xs = ap (λ (w : ℕ). set xs 5 w) (add-zero (get_or xs 5 0 % 65536))

module _ (xs ys : List ℕ) where
  pub other_length : (length xs ≡ length ys → ⊥) → same (with_count xs 0) (with_count ys 0) ≡ false
  other_length n = unlike-same _ _ (λ e. n (sym (length-set xs 5 _) ∙ ap length e ∙ length-set ys 5 _))

  pub parts_decide : length xs ≡ 13 → length ys ≡ 13 → pointwise eqb (take 5 xs) (take 5 ys) && eqb (get_or xs 5 0 % 65536) (get_or ys 5 0 % 65536) && pointwise eqb (take (length xs - 6) (drop 6 xs)) (take 7 (drop 6 ys)) ≡ same (with_count xs 0) (with_count ys 0)
  parts_decide hx hy =
      let lx : length (drop 6 xs) ≤ length xs - 6 = omega (arith, length-drop 6 xs) in
      let ly : length (drop 6 ys) ≤ 7 = omega (arith, length-drop 6 ys) in
      rw (renewed xs, renewed ys, take_all (length xs - 6) (drop 6 xs) lx, take_all 7 (drop 6 ys) ly, same_as (take 5 xs) (take 5 ys), same_as (drop 6 xs) (drop 6 ys)) (parts-same 5 _ _ xs ys (omega arith) (omega arith))
