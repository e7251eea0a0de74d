-- `floats::floor_f32` meets its contract: each return is one law of Tests.antt, at 32 bits. Assumes nothing.
use borrow.Author.Rules.{rules}
use mathlib.Core.Path.{◌∙◌}
use mathlib.Core.Bool.{true, false}
use lib.Ieee.{binary32}
use Rattle.floats.proofs.Floors.{from-whole, from-whole-neg}
use Rattle.floats.proofs.Tests.{no_nan, floor_nan, returns_large, returns_zero, returns_small, returns_middle, plus_zero-is, minus_one_is}
use Rattle.floats.proofs.floor_f32.Goals as goal

pub returns-then-x : goal.returns-then-x
returns-then-x c = floor_nan binary32 c.args.x c.if-x.true

pub float_to_bits-bits : goal.float_to_bits-bits
float_to_bits-bits c = no_nan c.args.x c.if-x.false

pub returns-then-size-ge1258291200 : goal.returns-then-size-ge1258291200
returns-then-size-ge1258291200 c = returns_large binary32 c.args.x (search rules) c.if-size-ge1258291200.true

pub returns-then-size-eq0 : goal.returns-then-size-eq0
returns-then-size-eq0 c = returns_zero binary32 c.args.x (search rules) c.if-size-eq0.true

pub returns-then-negative : goal.returns-then-negative
returns-then-negative c = minus_one_is binary32 ∙ returns_small binary32 c.args.x (search rules) true c.if-negative.true-raw c.if-size-eq0.false c.if-size-lt1065353216.true

pub returns-then-size-lt1065353216 : goal.returns-then-size-lt1065353216
returns-then-size-lt1065353216 c = plus_zero-is binary32 ∙ returns_small binary32 c.args.x (search rules) false c.if-negative.false-raw c.if-size-eq0.false c.if-size-lt1065353216.true

pub returns-then-negative-2 : goal.returns-then-negative-2
returns-then-negative-2 c = let n = c.whole-n in from-whole-neg binary32 n.result ∙ returns_middle binary32 c.args.x (search rules) true n.result c.if-negative-2.true-raw c.if-size-lt1065353216.false c.if-size-ge1258291200.false n.ensures.0

pub returns-else-negative-2 : goal.returns-else-negative-2
returns-else-negative-2 c = let n = c.whole-n in from-whole binary32 n.result ∙ returns_middle binary32 c.args.x (search rules) false n.result c.if-negative-2.false-raw c.if-size-lt1065353216.false c.if-size-ge1258291200.false n.ensures.0
