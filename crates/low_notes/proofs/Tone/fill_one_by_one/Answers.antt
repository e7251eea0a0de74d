-- `low_notes::Tone::fill_one_by_one` meets its contract. The loop's invariant is `SegmentFilled` of
-- proofs/SegmentLoops.antt. Assumes nothing.
use borrow.Author.Rules.{rules}
use Rattle.low_notes.proofs.SegmentLoops.{filled-one}
use Rattle.low_notes.proofs.Tone.fill_one_by_one.Goals as goal

pub loop-at-preserved : goal.loop-at-preserved
loop-at-preserved c = filled-one c.args.segment _ _ _ _ _ _ _ _ _ c.loop-at.invariant (search rules) (search rules) c.value_at.ensures
