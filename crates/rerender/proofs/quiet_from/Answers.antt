-- `rerender::quiet_from` meets its contract. Assumes nothing.
use mathlib.Core.Path.{sym, ◌∙◌}
use Rattle.rerender.proofs.Cases.{quiet_equal, quiet_at_lem}
use Rattle.rerender.proofs.quiet_from.Goals as goal

pub returns-in-None : goal.returns-in-None
returns-in-None c = quiet_equal _ _ (sym c.last_difference.ensures ∙ c.in-None.is)

pub returns-in-Some : goal.returns-in-Some
returns-in-Some c = quiet_at_lem _ _ _ (sym c.last_difference.ensures ∙ c.in-Some.is)
