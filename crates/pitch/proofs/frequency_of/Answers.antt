-- `pitch::frequency_of` meets its contract: the table of the code is the list of the definition. Assumes nothing.
use mathlib.Core.Path.{sym, ap}
use lib.Ieee.{nan, binary32, of_bits}
use lib.ListN.{get_or-eq_default}
use Rattle.pitch.specs.Patterns.{patterns}
use Rattle.pitch.specs.Pitch.{frequency_of}
use Rattle.floats.proofs.Carried.{entry_of}
use Rattle.pitch.proofs.frequency_of.Goals as goal

pub returns-then-note-lt128 : goal.returns-then-note-lt128
unfolding patterns frequency_of
returns-then-note-lt128 c = entry_of (of_bits binary32) patterns c.args.note nan c.if-note-lt128.true

pub returns : goal.returns
unfolding patterns frequency_of
returns c = sym (ap (of_bits binary32) (get_or-eq_default patterns 0 c.if-note-lt128.false))
