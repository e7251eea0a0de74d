-- `page::Room::apply_one` meets its contract. Assumes nothing.
use mathlib.Core.Path.{◌≡◌, sym, ◌∙◌}
use Prim.Native.Nat.{◌+◌, ◌-◌, ◌*◌}
use native.Mathlib.Omega.{arith}
use borrow.Author.Tests.{eq-eqb, ne_eqb}
use Rattle.std.proofs.lemmas.Result.{err_from_is_err_and}
use Rattle.page.proofs.Steps.{edit_stopped, edit_inserts, edit_removes}
use Rattle.page.proofs.Room.apply_one.Goals as goal

pub returns-in_err-judged_edit : goal.returns-in_err-judged_edit
returns-in_err-judged_edit c =
    let p = err_from_is_err_and c.from_residual.result c.from_residual.ensures.1 in
    rw (p.1, p.2) (edit_stopped _ _ _ _ _ (sym c.judged_edit.ensures ∙ c.in_err-judged_edit.was))

pub returns-then-edits-at-eq1 : goal.returns-then-edits-at-eq1
returns-then-edits-at-eq1 c = let i = c.args.i in let ten : i * 14 + 14 - (i * 14 + 4) ≡ 10 = omega arith in
    edit_inserts _ _ _ _ _ (sym c.judged_edit.ensures ∙ c.in_ok-judged_edit.was) _ (eq-eqb _ _ c.if-edits-at-eq1.true) (rw ten at c.insert.ensures)

pub returns-else-edits-at-eq1 : goal.returns-else-edits-at-eq1
returns-else-edits-at-eq1 c = let i = c.args.i in let ten : i * 14 + 14 - (i * 14 + 4) ≡ 10 = omega arith in
    edit_removes _ _ _ _ _ (sym c.judged_edit.ensures ∙ c.in_ok-judged_edit.was) _ (ne_eqb _ _ c.if-edits-at-eq1.false) (rw ten at c.remove.ensures)
