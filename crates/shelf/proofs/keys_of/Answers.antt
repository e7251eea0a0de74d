-- `shelf::keys_of` meets its contract. Assumes nothing.
use mathlib.Core.Path.{◌≡◌, refl}
use mathlib.Core.Bool.{Bool, true, false, not, cond}
use Prim.Native.Nat.{ℕ}
use Rattle.std.specs.Prelude.{Some, None}
use Rattle.std.specs.Bool.{then_some}
use Rattle.shelf.specs.Shelf.{pair_byte}
use Rattle.shelf.proofs.Digits.{sixteen_are}
use Rattle.shelf.proofs.keys_of.Goals as goal

noted : (none : Bool) (b : ℕ) → then_some (not none) b ≡ cond none None (Some b)
noted true b = refl
noted false b = refl

pub returns : goal.returns
returns c = let ws = c.args.pairs in
    let notes = sixteen_are (pair_byte ws 0) c.every_second.result c.every_second.ensures.long c.every_second.ensures.bytes in
    let velocities = sixteen_are (pair_byte ws 1) c.every_second-2.result c.every_second-2.ensures.long c.every_second-2.ensures.bytes in
    rw (notes, velocities, c.then_some.ensures, noted _ _) refl
