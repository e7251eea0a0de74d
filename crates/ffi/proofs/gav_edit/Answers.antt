-- `ffi::gav_edit` meets its contract. Assumes nothing.
use mathlib.Core.Path.{sym, ◌∙◌}
use Rattle.std.proofs.Common.{rules}
use Rattle.ffi.proofs.Cases.{edit-known, edit_unknown}
use Rattle.ffi.proofs.gav_edit.Goals as goal

pub returns-in_default : goal.returns-in_default
returns-in_default c = edit_unknown _ (sym c.choice_of-choice.ensures ∙ c.in_default.is) _ c.packed.ensures _ _ _ _

pub returns : goal.returns
returns c = edit-known _ _ (sym c.choice_of-choice.ensures ∙ c.in-Some.is) _ _ _ _ _ _ c.edit.result (search rules) _ c.packed_page.ensures
