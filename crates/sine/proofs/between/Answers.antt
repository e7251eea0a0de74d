-- `sine::between` meets its contract. Assumes nothing.
use Rattle.sine.proofs.Quadrants.{up_is, down_is}
use Rattle.sine.proofs.between.Goals as goal

pub returns-then-i-eq0 : goal.returns-then-i-eq0
returns-then-i-eq0 c = up_is c.args.wave.now c.args.i c.requires c.args.f _ _ _ _ _ c.signed.ensures c.signed-then-i-eq0.ensures c.line.ensures
    c.if-i-eq0.true c.entry.ensures c.entry-then-i-eq0.ensures

pub returns : goal.returns
returns c = down_is c.args.wave.now c.args.i c.requires c.args.f _ _ _ _ _ c.signed-2.ensures c.signed-3.ensures c.line-2.ensures
    c.if-i-eq0.false c.entry-2.ensures c.entry-3.ensures
