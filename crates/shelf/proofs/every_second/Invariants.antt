use mathlib.Core.Path.{◌≡◌}
use Prim.Native.Nat.{ℕ, ◌<◌}
use lib.ListN.{length, get_or}
use Rattle.shelf.specs.Shelf.{pair_byte}
use Rattle.shelf.proofs.every_second.Given as goal

abbrev pub invariant-loop-k : goal.invariant-loop-k
invariant-loop-k l = record { long : length l.bytes ≡ 16; bytes : (i : ℕ) → i < l.k → get_or l.bytes i 0 ≡ pair_byte l.pairs l.from i }
