-- `ffi::gav_rerender` meets its contract. Assumes nothing.
use mathlib.Core.Path.{sym, ◌∙◌}
use Rattle.std.proofs.Common.{rules}
use Rattle.ffi.proofs.Cases.{rerender-known, rerender_unknown}
use Rattle.ffi.proofs.gav_rerender.Goals as goal

pub returns-in_default : goal.returns-in_default
returns-in_default c = rerender_unknown _ (sym c.choice_of-choice.ensures ∙ c.in_default.is) _ c.packed.ensures _ _ _

pub returns : goal.returns
returns c = rerender-known _ _ (sym c.choice_of-choice.ensures ∙ c.in-Some.is) _ _ _ _ c.rerender.result (search rules) _ c.packed-2.ensures
