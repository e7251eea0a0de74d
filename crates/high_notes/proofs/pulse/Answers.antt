-- `high_notes::pulse` meets its contract. Assumes nothing.
use borrow.Author.Rules.{rules}
use mathlib.Core.Path.{refl}
use Rattle.polyblep.specs.Polyblep.{pulse_of}
use Rattle.high_notes.proofs.Remaking.{duty_low}
use Rattle.high_notes.proofs.pulse.Goals as goal

pub fract-requires : goal.fract-requires
fract-requires c = duty_low c.args.u c.requires c.args.duty (search rules)

pub returns : goal.returns
unfolding pulse_of
returns c = rw (c.naive_pulse.ensures, c.blep-fall.ensures, c.fract.ensures, c.blep-rise.ensures) refl
