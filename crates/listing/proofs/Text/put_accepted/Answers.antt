-- `listing::Text::put_accepted` meets its contract. Assumes nothing.
use mathlib.Core.List.{◌++◌}
use native.Mathlib.Omega.{arith}
use Rattle.listing.proofs.Digits.{four_digits}
use Rattle.listing.proofs.Puts.{put_both, put-none, put_next}
use Rattle.listing.specs.Listing.{records_word, newline, decimal_of, lines_to}
use Rattle.listing.proofs.Text.put_accepted.Goals as goal

pub put_number-requires : goal.put_number-requires
put_number-requires c = omega (arith, four_digits c.args.n c.requires.few)

pub put-requires-2 : goal.put-requires-2
put-requires-2 c = omega (arith, four_digits c.args.n c.requires.few)

pub loop-i-init : goal.loop-i-init
unfolding lines_to
loop-i-init c = (
  put_both (put_both (put_both c.put.ensures c.put_number.ensures) c.put-2.ensures) (put-none _ (omega (arith, c.put-2.ensures.room, c.put-2.ensures.same_length))),
  omega (arith, four_digits c.args.n c.requires.few),
)

pub put_line-requires : goal.put_line-requires
put_line-requires c = omega (arith, c.loop-i.invariant.0.same_length)

pub loop-i-preserved : goal.loop-i-preserved
loop-i-preserved c = (
  put_next (records_word ++ decimal_of c.args.n ++ newline) _ c.loop-i.i _ _ _ _ c.record_at.ensures c.loop-i.invariant.0 c.put_line.ensures.0,
  omega (arith, c.put_line.ensures.1),
)
