-- `ffi::shape_of` meets its contract. Assumes nothing.
use mathlib.Core.Path.{refl}
use borrow.Author.Tests.{ne_eqb}
use Rattle.ffi.specs.Ffi.{shape_of}
use Rattle.ffi.proofs.shape_of.Goals as goal

pub returns-in-0 : goal.returns-in-0
unfolding shape_of
returns-in-0 c = rw c.in-0.is refl

pub returns-in-1 : goal.returns-in-1
unfolding shape_of
returns-in-1 c = rw c.in-1.is refl

pub returns-in-2 : goal.returns-in-2
unfolding shape_of
returns-in-2 c = rw c.in-2.is refl

pub returns-in-3 : goal.returns-in-3
unfolding shape_of
returns-in-3 c = rw c.in-3.is refl

pub returns-in-4 : goal.returns-in-4
unfolding shape_of
returns-in-4 c = rw c.in-4.is refl

pub returns-in-6 : goal.returns-in-6
unfolding shape_of
returns-in-6 c = rw c.in-6.is refl

pub returns-in_default : goal.returns-in_default
unfolding shape_of
returns-in_default c = let code = c.args.code in let n = c.in_default.in_default-own.rest in rw (ne_eqb code 0 n.0.0.0.0.0.1, ne_eqb code 1 n.0.0.0.0.1, ne_eqb code 2 n.0.0.0.1, ne_eqb code 3 n.0.0.1, ne_eqb code 4 n.0.1, ne_eqb code 6 n.1) refl
