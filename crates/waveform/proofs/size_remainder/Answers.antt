-- `waveform::size_remainder` meets its contract. Assumes nothing.
use borrow.Author.Rules.{rules}
use Rattle.floats.proofs.Order.{nonneg→finite}
use Rattle.waveform.proofs.Remainders.{own, not-below, left_over, few}
use Rattle.waveform.proofs.size_remainder.Goals as goal

pub returns-then-x : goal.returns-then-x
returns-then-x c = own c.args.x c.requires (search rules) c.if-x.true

pub units_left-requires : goal.units_left-requires
units_left-requires c = (not-below c.args.x c.requires c.if-x.false, nonneg→finite c.args.x c.requires)

pub int_to_float-result : goal.int_to_float-result
int_to_float-result c = rw c.units_left.ensures.2 (few c.units_left.ensures.0)

pub returns : goal.returns
returns c = rw c.units_left.ensures.2 (left_over c.args.x c.requires c.units_left.ensures.0 c.if-x.false c.units_left.ensures.1)
