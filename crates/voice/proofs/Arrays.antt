-- The test of an array's unused places. Assumes nothing.
use mathlib.Core.Path.{◌≡◌, refl}
use mathlib.Core.List.{List, [], ◌∷◌}
use Prim.Native.Nat.{ℕ, zero, suc}
use native.Mathlib.Omega.{arith}
use borrow.Author.Tests.{ne_eqb, lt-leb}
use Rattle.std.proofs.Common.{nat_eq}
use Rattle.std.specs.List.{list_all}
use Rattle.voice.specs.Keys.{at_most}

-- the bytes are 0 where they are at most 0
pub zeros_tested : (xs : List ℕ) → list_all (λ x. nat_eq x 0) xs ≡ at_most 0 xs
unfolding at_most
zeros_tested [] = refl
zeros_tested (zero ∷ xs) = rw (zeros_tested xs) refl
zeros_tested (suc x ∷ xs) = rw (ne_eqb (suc x) 0 (λ e. absurd (omega arith)), lt-leb (suc x) 0 (omega arith)) refl
