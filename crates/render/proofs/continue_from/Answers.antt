-- `render::continue_from` meets its contract. Assumes nothing.
use mathlib.Core.Bool.{◌&&◌}
use borrow.Author.Tests.{not-true, not-false}
use Rattle.render.proofs.Outcomes.{goes_refused, goes_on}
use Rattle.render.proofs.continue_from.Goals as goal

pub returns-then-not-is_state-is_count_below : goal.returns-then-not-is_state-is_count_below
returns-then-not-is_state-is_count_below c = let test = c.is_state.result && c.is_count_below.result in
    goes_refused _ _ _ _ _ c.requires (rw (c.is_state.ensures, c.is_count_below.ensures) at (not-true test c.if-not-is_state-is_count_below.true-raw))

pub returns : goal.returns
returns c = let test = c.is_state.result && c.is_count_below.result in
    goes_on _ _ _ _ _ c.requires (rw (c.is_state.ensures, c.is_count_below.ensures) at (not-false test c.if-not-is_state-is_count_below.false-raw)) _ _ c.play-end.ensures
