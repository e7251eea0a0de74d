-- `floats::floor_f64` meets its contract: inside 0 < x < 2 by Low.antt, else by `floor_by_bits`. Assumes nothing.
use Rattle.floats.proofs.Low.{below_one_lem, from_one_lem}
use Rattle.floats.proofs.floor_f64.Goals as goal

pub returns-then-x-2 : goal.returns-then-x-2
returns-then-x-2 c = below_one_lem c.args.x c.if-x.true c.if-x-2.true

pub returns-then-x : goal.returns-then-x
returns-then-x c = from_one_lem c.args.x c.if-x.true c.if-x-2.false
