-- `listing::Text::put_line` meets its contract. Assumes nothing.
use borrow.Author.Rules.{rules}
use native.Mathlib.Omega.{arith}
use Prim.Native.Nat.{◌≤◌}
use lib.ListN.{length}
use Rattle.listing.proofs.Digits.{Widths, widths}
use Rattle.listing.proofs.Puts.{put_both}
use Rattle.listing.proofs.Text.put_line.Goals as goal

pub put_number-requires : goal.put_number-requires
put_number-requires c = let g = c.args.given in let w : Widths g = widths g (search rules) (search rules) (search rules) in
    omega arith

pub put-requires : goal.put-requires
put-requires c = let g = c.args.given in let w : Widths g = widths g (search rules) (search rules) (search rules) in
    rw c.kind_word.ensures (omega arith)

pub put_number-requires-2 : goal.put_number-requires-2
put_number-requires-2 c = let g = c.args.given in let w : Widths g = widths g (search rules) (search rules) (search rules) in
    let kind : length c.kind_word.result.now ≤ 7 = rw c.kind_word.ensures w.kind_width in omega arith

pub put-requires-2 : goal.put-requires-2
put-requires-2 c = let g = c.args.given in let w : Widths g = widths g (search rules) (search rules) (search rules) in
    let kind : length c.kind_word.result.now ≤ 7 = rw c.kind_word.ensures w.kind_width in omega arith

pub put_number-requires-3 : goal.put_number-requires-3
put_number-requires-3 c = let g = c.args.given in let w : Widths g = widths g (search rules) (search rules) (search rules) in
    let kind : length c.kind_word.result.now ≤ 7 = rw c.kind_word.ensures w.kind_width in omega arith

pub put-requires-3 : goal.put-requires-3
put-requires-3 c = let g = c.args.given in let w : Widths g = widths g (search rules) (search rules) (search rules) in
    let kind : length c.kind_word.result.now ≤ 7 = rw c.kind_word.ensures w.kind_width in omega arith

pub returns : goal.returns
returns c = let g = c.args.given in let w : Widths g = widths g (search rules) (search rules) (search rules) in
    let upto-kind = put_both c.put_number.ensures (rw c.kind_word.ensures at c.put.ensures) in
    let upto-gap = put_both (put_both upto-kind c.put_number-2.ensures) c.put-2.ensures in
    let kind : length c.kind_word.result.now ≤ 7 = rw c.kind_word.ensures w.kind_width in
    (put_both (put_both upto-gap c.put_number-3.ensures) c.put-3.ensures, omega arith)
