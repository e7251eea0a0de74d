-- `ffi::continue_in` meets its contract. Assumes nothing.
use mathlib.Core.Path.{sym, ◌∙◌}
use Rattle.ffi.proofs.Cases.{continue_none, continue_stored, continue_left}
use Rattle.ffi.proofs.continue_in.Goals as goal
use Rattle.ffi.proofs.continue_in.Goals.{then-is_ok, else-is_ok}

pub returns-in_default : goal.returns-in_default
returns-in_default c = continue_none _ _ _ _ _ (sym c.decode.ensures ∙ c.in_default.is) _ c.part_fits-stretch.ensures _ c.judged.ensures _ c.packed.ensures

pub returns : goal.returns
returns c = let h = sym c.decode.ensures ∙ c.in-Some.is in
    elim c.if-is_ok.branch [
      | then-is_ok w ↦ rw w.words-is (continue_stored _ _ _ _ _ _ h _ _ c.continue_render-rendered.ensures (sym c.is_ok.ensures.value ∙ w.if-is_ok.true) _ w.store.ensures _ c.packed-2.ensures)
      | else-is_ok w ↦ rw w.words-is (continue_left _ _ _ _ _ _ h _ _ c.continue_render-rendered.ensures (sym c.is_ok.ensures.value ∙ w.if-is_ok.false) _ c.packed-2.ensures)
    ]
