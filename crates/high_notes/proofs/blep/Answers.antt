-- `high_notes::blep` meets its contract. Assumes nothing.
use mathlib.Core.Path.{◌∙◌}
use Rattle.polyblep.specs.Polyblep.{blep_of, blep_after, blep_before}
use Rattle.high_notes.proofs.Remaking.{branchless_is}
use Rattle.high_notes.proofs.blep.Goals as goal

pub returns : goal.returns
unfolding blep_of
returns c = c.select-2.ensures ∙ rw (c.select-before.ensures, c.select.ensures) (branchless_is blep_after blep_before c.args.t c.args.dt)
