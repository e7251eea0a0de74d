-- `spans::Player::play` meets its contract. The loop's invariant: `Upto` of proofs/Loops.antt, and what was read of the
-- next record agrees with the score. Assumes nothing.
use native.Mathlib.Omega.{arith}
use borrow.Rule.Slice.PartMut.{mid_len}
use Rattle.spans.proofs.Loops.{begins, goes_on, ends}
use Rattle.spans.proofs.Player.play.Goals as goal

pub loop-i-init : goal.loop-i-init
loop-i-init c = (begins _ _ _ _ _, c.walker_at-at.ensures.sees)

pub play_span-state-requires : goal.play_span-state-requires
play_span-state-requires c = let end = c.span_end-end in omega (arith, end.ensures.near, mid_len c.loop-i.i end.result c.loop-i.part end.ensures.within)

pub loop-i-preserved : goal.loop-i-preserved
loop-i-preserved c = (goes_on _ _ _ _ _ _ _ _ _ _ _ _ c.loop-i.invariant.0 c.begin-begun.ensures c.span_end-end.ensures c.play_span-state.ensures, c.begin-begun.ensures.sees)

pub returns : goal.returns
returns c = rw (← c.walker_at-at.ensures.place) (ends _ _ _ _ _ _ _ _ c.loop-i.invariant.0 (omega arith))
