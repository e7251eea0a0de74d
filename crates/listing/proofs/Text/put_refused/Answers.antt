-- `listing::Text::put_refused` meets its contract. Assumes nothing.
use native.Mathlib.Omega.{arith}
use Rattle.listing.proofs.Digits.{twenty_digits}
use Rattle.listing.proofs.Puts.{put_both}
use Rattle.listing.proofs.Text.put_refused.Goals as goal

pub put_number-requires : goal.put_number-requires
put_number-requires c = omega (arith, twenty_digits c.from-numbers.result.number)

pub put-requires-2 : goal.put-requires-2
put-requires-2 c = omega (arith, twenty_digits c.from-numbers.result.number)

pub put_number-requires-2 : goal.put_number-requires-2
put_number-requires-2 c = let numbers = c.from-numbers.result in omega (arith, twenty_digits numbers.number, twenty_digits numbers.place)

pub put-requires-3 : goal.put-requires-3
put-requires-3 c = let numbers = c.from-numbers.result in omega (arith, twenty_digits numbers.number, twenty_digits numbers.place)

pub returns : goal.returns
returns c =
    let upto-gap = put_both (put_both c.put.ensures c.put_number.ensures) c.put-2.ensures in
    rw c.from-numbers.ensures at (put_both (put_both upto-gap c.put_number-2.ensures) c.put-3.ensures)
