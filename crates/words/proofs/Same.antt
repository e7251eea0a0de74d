-- `same` holds exactly of lists that are equal. Assumes nothing.
use mathlib.Core.Path.{◌≡◌, refl, sym}
use mathlib.Core.Bool.{Bool, true, false, ◌&&◌, true≢false}
use mathlib.Core.List.{List, [], ◌∷◌}
use Prim.Native.Nat.{ℕ}
use lib.Dec.{eqb}
use borrow.Author.Tests.{eq-eqb, eqb-true}
use Rattle.words.specs.Words.{same}

pub same-equal : (xs ys : List ℕ) → same xs ys ≡ true → xs ≡ ys
unfolding same
same-equal [] [] e = refl
same-equal [] (y ∷ ys) e = absurd (true≢false (sym e))
same-equal (x ∷ xs) [] e = absurd (true≢false (sym e))
same-equal (x ∷ xs) (y ∷ ys) e = go (same-equal xs ys) (eqb x y) refl e
  where
    go : (same xs ys ≡ true → xs ≡ ys) → (b : Bool) → eqb x y ≡ b → b && same xs ys ≡ true → x ∷ xs ≡ y ∷ ys
    go ih true q e = rw (eqb-true x y q, ih e)
    go ih false q e = absurd (true≢false (sym e))

same_self : (xs : List ℕ) → same xs xs ≡ true
unfolding same
same_self [] = refl
same_self (x ∷ xs) = rw (eq-eqb x x refl) (same_self xs)

pub equal-same : (xs ys : List ℕ) → xs ≡ ys → same xs ys ≡ true
equal-same xs ys e = rw (← e) (same_self xs)

pub unlike-same : (xs ys : List ℕ) → (xs ≡ ys → ⊥) → same xs ys ≡ false
unlike-same xs ys h = go (same xs ys) refl
  where
    go : (b : Bool) → same xs ys ≡ b → b ≡ false
    go true e = absurd (h (same-equal xs ys e))
    go false e = refl
