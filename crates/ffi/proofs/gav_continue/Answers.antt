-- `ffi::gav_continue` meets its contract. Assumes nothing.
use mathlib.Core.Path.{sym, ◌∙◌}
use Rattle.ffi.proofs.Cases.{continue_known, continue_unknown}
use Rattle.ffi.proofs.gav_continue.Goals as goal

pub returns-in_default : goal.returns-in_default
returns-in_default c = continue_unknown _ (sym c.choice_of-choice.ensures ∙ c.in_default.is) _ c.packed.ensures _ _ _ _

pub returns : goal.returns
returns c = continue_known _ _ (sym c.choice_of-choice.ensures ∙ c.in-Some.is) _ _ _ _ _ c.continue_in.ensures
