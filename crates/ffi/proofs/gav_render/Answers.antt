-- `ffi::gav_render` meets its contract. Assumes nothing.
use mathlib.Core.Path.{sym, ◌∙◌}
use Rattle.std.proofs.Common.{rules}
use Rattle.ffi.proofs.Cases.{render-known, render_unknown}
use Rattle.ffi.proofs.gav_render.Goals as goal

pub returns-in_default : goal.returns-in_default
returns-in_default c = render_unknown _ (sym c.choice_of-choice.ensures ∙ c.in_default.is) _ c.packed.ensures _ _

pub returns : goal.returns
returns c = render-known _ _ (sym c.choice_of-choice.ensures ∙ c.in-Some.is) _ _ _ c.render.result (search rules) _ c.packed-2.ensures
