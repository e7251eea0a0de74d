-- `ffi::manner_of` meets its contract. Assumes nothing.
use mathlib.Core.Path.{refl}
use borrow.Author.Tests.{ne_eqb}
use Rattle.ffi.specs.Ffi.{manner_of}
use Rattle.ffi.proofs.manner_of.Goals as goal

pub returns-in-0 : goal.returns-in-0
unfolding manner_of
returns-in-0 c = rw c.in-0.is refl

pub returns-in-1 : goal.returns-in-1
unfolding manner_of
returns-in-1 c = rw c.in-1.is refl

pub returns-in_default : goal.returns-in_default
unfolding manner_of
returns-in_default c = let joined = c.args.joined in let n = c.in_default.in_default-own.rest in rw (ne_eqb joined 0 n.0.1, ne_eqb joined 1 n.1) refl
