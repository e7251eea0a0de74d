-- `waveform::remainder` meets its contract. Assumes nothing.
use borrow.Author.Rules.{rules}
use mathlib.Core.Path.{ap}
use Prim.Native.Nat.{ℕ, ◌%◌}
use native.Mathlib.Omega.{arith}
use lib.IntN.{pos}
use lib.Dec.{T, le→leb}
use lib.Ieee.{binary64, in_float}
use Rattle.waveform.specs.Waveform.{radians}
use Rattle.waveform.proofs.Remainders.{below-tau, from-tau, next_cycle, remainder_is}
use Rattle.waveform.proofs.remainder.Goals as goal

-- a remainder by TAU * 2^50 is below 2^53, so it is exact as an f64
kept : (n : ℕ) → T (in_float binary64 (pos (n % 7074237752028440)))
unfolding in_float
kept n = le→leb (n % 7074237752028440) 9007199254740992 (omega arith)

pub returns-then-x-2 : goal.returns-then-x-2
returns-then-x-2 c = ap radians (below-tau c.args.phase.0 c.if-x.true (search rules) c.if-x-2.true)

pub returns-then-x-3 : goal.returns-then-x-3
returns-then-x-3 c = ap radians (next_cycle c.args.phase.0 c.if-x.true c.if-x-2.false c.if-x-3.true)

pub in_fixed_point-requires : goal.in_fixed_point-requires
in_fixed_point-requires c = from-tau c.args.phase.0 c.if-x.true c.if-x-2.false

pub int_to_float-result : goal.int_to_float-result
int_to_float-result c = kept c.in_fixed_point.result

pub returns-then-x : goal.returns-then-x
returns-then-x c = ap radians (remainder_is c.args.phase.0 c.if-x.true c.in_fixed_point.result c.if-x-2.false c.in_fixed_point.ensures)
