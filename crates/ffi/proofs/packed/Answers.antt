-- `ffi::packed` meets its contract. Assumes nothing.
use mathlib.Core.Path.{refl}
use Rattle.ffi.specs.Packed.{packed_of}
use Rattle.ffi.proofs.packed.Goals as goal

pub returns : goal.returns
unfolding packed_of
returns c = rw (c.word_of.ensures, c.from.ensures) refl
