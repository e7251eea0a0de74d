-- `floats::floor_by_bits` meets its contract: each return is one law of Tests.antt, at 64 bits. Assumes nothing.
use borrow.Author.Rules.{rules}
use mathlib.Core.Path.{◌∙◌}
use mathlib.Core.Bool.{true, false}
use lib.Ieee.{binary64}
use Rattle.floats.proofs.Floors.{from-whole, from-whole-neg}
use Rattle.floats.proofs.Tests.{no_nan, floor_nan, returns_large, returns_zero, returns_small, returns_middle, plus_zero-is, minus_one_is}
use Rattle.floats.proofs.floor_by_bits.Goals as goal

pub returns-then-x : goal.returns-then-x
returns-then-x c = floor_nan binary64 c.args.x c.if-x.true

pub float_to_bits-bits : goal.float_to_bits-bits
float_to_bits-bits c = no_nan c.args.x c.if-x.false

pub returns-then-size-ge4841369599423283200 : goal.returns-then-size-ge4841369599423283200
returns-then-size-ge4841369599423283200 c = returns_large binary64 c.args.x (search rules) c.if-size-ge4841369599423283200.true

pub returns-then-size-eq0 : goal.returns-then-size-eq0
returns-then-size-eq0 c = returns_zero binary64 c.args.x (search rules) c.if-size-eq0.true

pub returns-then-negative : goal.returns-then-negative
returns-then-negative c = minus_one_is binary64 ∙ returns_small binary64 c.args.x (search rules) true c.if-negative.true-raw c.if-size-eq0.false c.if-size-lt4607182418800017408.true

pub returns-then-size-lt4607182418800017408 : goal.returns-then-size-lt4607182418800017408
returns-then-size-lt4607182418800017408 c = plus_zero-is binary64 ∙ returns_small binary64 c.args.x (search rules) false c.if-negative.false-raw c.if-size-eq0.false c.if-size-lt4607182418800017408.true

pub returns-then-negative-2 : goal.returns-then-negative-2
returns-then-negative-2 c = let n = c.whole-n in from-whole-neg binary64 n.result ∙ returns_middle binary64 c.args.x (search rules) true n.result c.if-negative-2.true-raw c.if-size-lt4607182418800017408.false c.if-size-ge4841369599423283200.false n.ensures.0

pub returns-else-negative-2 : goal.returns-else-negative-2
returns-else-negative-2 c = let n = c.whole-n in from-whole binary64 n.result ∙ returns_middle binary64 c.args.x (search rules) false n.result c.if-negative-2.false-raw c.if-size-lt4607182418800017408.false c.if-size-ge4841369599423283200.false n.ensures.0
