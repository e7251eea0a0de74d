-- `sine::whole_part` meets its contract. Assumes nothing.
use borrow.Author.Rules.{rules}
use mathlib.Core.Path.{sym}
use native.Mathlib.Nat.{lt_of_le_of_lt}
use native.Mathlib.Omega.{arith}
use lib.Dec.{lit<, lit≤}
use Rattle.sine.proofs.Parts.{not-nan, below_none, field_ge, field_le, whole_is, bits-at_most}
use Rattle.sine.proofs.whole_part.Goals as goal

pub returns-then-p : goal.returns-then-p
returns-then-p c = (sym (below_none c.args.p c.requires c.if-p.true), lit≤ tt)

pub float_to_bits-bits : goal.float_to_bits-bits
float_to_bits-bits c = not-nan c.args.p c.requires

pub overflow_sub-result : goal.overflow_sub-result
overflow_sub-result c = omega (arith, field_le c.args.p c.requires (search rules) c.if-p.false)

pub overflow_shr-result : goal.overflow_shr-result
overflow_shr-result c = omega (arith, field_ge c.args.p c.requires (search rules) c.if-p.false)

pub overflow_cast-result : goal.overflow_cast-result
overflow_cast-result c = record { fits = lt_of_le_of_lt (bits-at_most c.args.p c.requires (search rules) c.if-p.false) (lit< tt) }

pub returns : goal.returns
returns c = (whole_is c.args.p c.requires (search rules) c.if-p.false, bits-at_most c.args.p c.requires (search rules) c.if-p.false)
