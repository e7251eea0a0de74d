-- `floats::is_finite` meets its contract: a finite f64 lies between the largest f64 and its negation. Assumes nothing.
use borrow.Author.Rules.{rules}
use mathlib.Core.Path.{refl}
use lib.Ieee.{binary64}
use Rattle.floats.proofs.Largest.{finite-is-bounded, largest_bits64}
use Rattle.floats.proofs.is_finite.Goals as goal

pub returns : goal.returns
returns g c = let x = c.widened-x in rw (← x.ensures.0, finite-is-bounded binary64 x.result (search rules), largest_bits64) refl
