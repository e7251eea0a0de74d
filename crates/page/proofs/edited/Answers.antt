-- `page::edited` meets its contract. Assumes nothing.
use mathlib.Core.Path.{sym, ap, ◌∙◌}
use lib.Seq.{length-take-le}
use Rattle.std.proofs.lemmas.Result.{err_from_is_err_and}
use Rattle.page.proofs.Calls.{call_refused, page_refused, none_before, old-accepted, list_refused, new-fits, run_refused, run_done, rewritten_on}
use Rattle.sections.specs.Lending.{held}
use Rattle.sections.proofs.Lending.{left-held}
use Rattle.page.specs.Page.{rewritten_in}
use Rattle.page.proofs.edited.Goals as goal

pub returns-in_err-judged : goal.returns-in_err-judged
returns-in_err-judged c =
    let p = err_from_is_err_and c.from_residual.result c.from_residual.ensures.1 in
    rw (p.1, p.2) (ap (rewritten_in c.args.lent.now) (call_refused _ _ _ _ _ _ (sym (rw c.fits.ensures at c.judged.ensures) ∙ c.in_err-judged.was)))

pub returns-in_err-judged_page : goal.returns-in_err-judged_page
returns-in_err-judged_page c =
    let p = err_from_is_err_and c.from_residual-in_err-judged_page.result c.from_residual-in_err-judged_page.ensures.1 in
    rw (p.1, p.2)
    (ap (rewritten_in c.args.lent.now) (page_refused _ _ _ _ _ _ (sym (rw c.fits.ensures at c.judged.ensures) ∙ c.in_ok-judged.was) _ (sym c.judged_page.ensures ∙ c.in_err-judged_page.was)))

pub hold-requires : goal.hold-requires
hold-requires c =
    let lent = held c.args.lent.now in
    old-accepted c.args.settings _ c.args.edits.now lent c.args.new_score.now (none_before _ _ _ _ _ _ (sym (rw c.fits.ensures at c.judged.ensures) ∙ c.in_ok-judged.was) _ (sym c.judged_page.ensures ∙ c.in_ok-judged_page.was))

pub apply-requires : goal.apply-requires
apply-requires c =
    let lent = held c.args.lent.now in
    rw c.hold.ensures (old-accepted c.args.settings _ c.args.edits.now lent c.args.new_score.now (none_before _ _ _ _ _ _ (sym (rw c.fits.ensures at c.judged.ensures) ∙ c.in_ok-judged.was) _ (sym c.judged_page.ensures ∙ c.in_ok-judged_page.was)))

pub returns-in_err-apply : goal.returns-in_err-apply
returns-in_err-apply c =
    let p = err_from_is_err_and c.from_residual-in_err-apply.result c.from_residual-in_err-apply.ensures.1 in
    rw (p.1, p.2) (ap (rewritten_in c.args.lent.now) (list_refused _ _ _ _ _ (none_before _ _ _ _ _ _ (sym (rw c.fits.ensures at c.judged.ensures) ∙ c.in_ok-judged.was) _ (sym c.judged_page.ensures ∙ c.in_ok-judged_page.was)) _ _ (rw c.hold.ensures at c.apply.ensures) _ c.in_err-apply.was))

pub returns-in_err-count : goal.returns-in_err-count
returns-in_err-count c =
    let p = err_from_is_err_and c.from_residual-in_err-count.result c.from_residual-in_err-count.ensures.1 in
    rw (p.1, p.2) (rewritten_on c.args.lent.now _ _ _ c.rerender.ensures _ _ _ (run_refused _ _ _ _ _ (none_before _ _ _ _ _ _ (sym (rw c.fits.ensures at c.judged.ensures) ∙ c.in_ok-judged.was) _ (sym c.judged_page.ensures ∙ c.in_ok-judged_page.was)) _ _ (rw c.hold.ensures at c.apply.ensures) _ c.in_ok-apply.was _ c.score-new.ensures _ _ (left-held _ _ _ c.rerender.ensures) _ c.in_err-count.was))

pub slice_bounds-copy_from_slice-end : goal.slice_bounds-copy_from_slice-end
slice_bounds-copy_from_slice-end c =
    let lent = held c.args.lent.now in
    new-fits c.args.settings _ _ lent _ (none_before _ _ _ _ _ _ (sym (rw c.fits.ensures at c.judged.ensures) ∙ c.in_ok-judged.was) _ (sym c.judged_page.ensures ∙ c.in_ok-judged_page.was)) _ _ (rw c.hold.ensures at c.apply.ensures) _ c.in_ok-apply.was _ c.score-new.ensures

pub slice_bounds-copy_from_slice-end-2 : goal.slice_bounds-copy_from_slice-end-2
slice_bounds-copy_from_slice-end-2 c =
    let lent = held c.args.lent.now in
    sym (length-take-le _ _ (new-fits c.args.settings _ _ lent _ (none_before _ _ _ _ _ _ (sym (rw c.fits.ensures at c.judged.ensures) ∙ c.in_ok-judged.was) _ (sym c.judged_page.ensures ∙ c.in_ok-judged_page.was)) _ _ (rw c.hold.ensures at c.apply.ensures) _ c.in_ok-apply.was _ c.score-new.ensures))

pub copy_from_slice-requires : goal.copy_from_slice-requires
copy_from_slice-requires c =
    let lent = held c.args.lent.now in
    length-take-le _ _ (new-fits c.args.settings _ _ lent _ (none_before _ _ _ _ _ _ (sym (rw c.fits.ensures at c.judged.ensures) ∙ c.in_ok-judged.was) _ (sym c.judged_page.ensures ∙ c.in_ok-judged_page.was)) _ _ (rw c.hold.ensures at c.apply.ensures) _ c.in_ok-apply.was _ c.score-new.ensures)

pub returns : goal.returns
returns c =
    rw c.copy_from_slice.ensures.after
    (rewritten_on c.args.lent.now _ _ _ c.rerender.ensures _ _ _ (run_done _ _ _ _ _ (none_before _ _ _ _ _ _ (sym (rw c.fits.ensures at c.judged.ensures) ∙ c.in_ok-judged.was) _ (sym c.judged_page.ensures ∙ c.in_ok-judged_page.was)) _ _ (rw c.hold.ensures at c.apply.ensures) _ c.in_ok-apply.was _ c.score-new.ensures _ _ (left-held _ _ _ c.rerender.ensures) _ c.in_ok-count.was))
