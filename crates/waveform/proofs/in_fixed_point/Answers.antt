-- `waveform::in_fixed_point` meets its contract: the shift loses no bit. Assumes nothing.
use borrow.Author.Rules.{rules}
use native.Mathlib.Nat.{mod-eq_of_lt}
use native.Mathlib.Omega.{arith}
use Rattle.waveform.proofs.Remainders.{near-finite, field_least, field_most, shifted, units_are}
use Rattle.waveform.proofs.in_fixed_point.Goals as goal

pub overflow_sub-result : goal.overflow_sub-result
overflow_sub-result c = field_least c.args.x (search rules) c.requires.0 (near-finite c.args.x (search rules) c.requires.0 c.requires.1)

pub overflow_shl-result : goal.overflow_shl-result
overflow_shl-result c = omega (arith, field_most c.args.x (search rules) c.requires.0 c.requires.1)

pub returns : goal.returns
returns c = let x = c.args.x in rw (mod-eq_of_lt (shifted x (search rules) c.requires.0 c.requires.1)) (units_are x (search rules) c.requires.0 (near-finite x (search rules) c.requires.0 c.requires.1))
