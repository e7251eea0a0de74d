-- `waveform::far_remainder` meets its contract. Assumes nothing.
use mathlib.Core.Path.{◌≡◌, subst, sym}
use mathlib.Core.Bool.{true}
use lib.Dec.{T}
use lib.Ieee.Scale.{finite}
use Rattle.waveform.proofs.Remainders.{none_left, negated, above, below}
use Rattle.waveform.proofs.far_remainder.Goals as goal

pub returns-then-not-is_finite : goal.returns-then-not-is_finite
returns-then-not-is_finite c = none_left c.args.x (rw c.is_finite.ensures at c.if-not-is_finite.true)

pub size_remainder-requires : goal.size_remainder-requires
size_remainder-requires c =
    let e : finite c.args.x ≡ true = rw c.is_finite.ensures at c.if-not-is_finite.false in
    below c.args.x (subst T (sym e) tt) c.if-x.true

pub returns-then-x : goal.returns-then-x
returns-then-x c =
    let e : finite c.args.x ≡ true = rw c.is_finite.ensures at c.if-not-is_finite.false in
    negated c.args.x c.size_remainder.result (subst T (sym e) tt) c.size_remainder.ensures

pub size_remainder-requires-2 : goal.size_remainder-requires-2
size_remainder-requires-2 c =
    let e : finite c.args.x ≡ true = rw c.is_finite.ensures at c.if-not-is_finite.false in
    above c.args.x (subst T (sym e) tt) c.if-x.false
