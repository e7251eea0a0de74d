-- A lent part is multiplied: none of its samples, and one more. Assumes nothing.
use mathlib.Core.Path.{◌≡◌, refl, ◌∙◌}
use mathlib.Core.List.{List}
use Prim.Native.Nat.{ℕ, ◌+◌, ◌<◌, ◌≤◌}
use native.Mathlib.Numerals.{add-one}
use native.Mathlib.Omega.{arith}
use lib.ListN.{length, take, get_or, set, length-set}
use lib.Seq.{take-suc-set, get_or-set_other}
use lib.Ieee.{Float, nan}
use Rattle.runs.specs.Runs.{listed}
use Rattle.floats.specs.Double.{◌⊗◌}
use Rattle.tremolo.specs.Tremolo.{factor_of, multiplied_to}

-- of a part that held xs the first i samples are multiplied, and the others are as they came
pub record Upto (depth : Float) (ws xs ys : List Float) (i : ℕ) : Type 0 where
  pub long : length ys ≡ length xs
  pub within : i ≤ length xs
  pub first : take i ys ≡ multiplied_to depth ws xs i
  pub others : (j : ℕ) → i ≤ j → get_or ys j nan ≡ get_or xs j nan

module _ (depth : Float) (ws xs : List Float) where
  pub upto_none : Upto depth ws xs xs 0
  unfolding multiplied_to listed
  upto_none = record { long = refl; within = omega arith; first = refl; others = λ j h. refl }

  pub upto_more : (ys : List Float) (v : Float) (i : ℕ) → i < length ys → v ≡ get_or ys i nan ⊗ factor_of depth (get_or ws i nan ⊗ depth) → Upto depth ws xs ys i → Upto depth ws xs (set ys i v) (i + 1)
  unfolding multiplied_to listed
  upto_more ys v i h e b =
      record {
        long = simp length-set b.long;
        within = omega (arith, b.long);
        first = rw (add-one i, take-suc-set ys i v h, b.first, e, b.others i (omega arith)) refl;
        others = λ j g. get_or-set_other ys i j _ nan (λ q. omega arith) ∙ b.others j (omega arith);
      }
