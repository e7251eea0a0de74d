-- `listing::Text::put_number` meets its contract. Assumes nothing.
use borrow.Author.Rules.{rules}
use mathlib.Core.Path.{◌∙◌}
use Prim.Native.Nat.{◌<◌}
use Rattle.listing.proofs.Digits.{fewest_decimal}
use Rattle.listing.proofs.Text.put_number.Goals as goal

pub put-requires : goal.put-requires
put-requires c = let a = c.args in let made = c.decimal-k in let small : a.n < 18446744073709551616 = search rules in
    rw (made.ensures.digits ∙ fewest_decimal a.n made.result small made.ensures.len) c.requires

pub returns : goal.returns
returns c = let a = c.args in let made = c.decimal-k in let small : a.n < 18446744073709551616 = search rules in
    rw (← fewest_decimal a.n made.result small made.ensures.len, ← made.ensures.digits) c.put.ensures
