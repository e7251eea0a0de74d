-- `envelope::levels::scale_all` meets its contract. The loop's invariant: the values up to x are scaled, and the others
-- are as they were. Assumes nothing.
use Rattle.std.proofs.Common.{◌<◌, length, arith}
use Rattle.std.proofs.lemmas.List.{get_or_default}
use Rattle.std.proofs.lemmas.List.Edits.{map_over_more}
use Rattle.envelope.specs.Inner.{scaled_by}
use Rattle.envelope.proofs.levels.scale_all.Goals as goal

pub loop-x-preserved : goal.loop-x-preserved
loop-x-preserved c =
    let h : c.loop-x.x-index < length c.args.values.now = omega arith in
    map_over_more (scaled_by c.args.level c.args.velocity) c.args.values.now c.loop-x.values c.loop-x.x-index _ h c.loop-x.invariant (get_or_default c.loop-x.values c.loop-x.x-index _ _ (omega arith))
