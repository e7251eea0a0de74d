-- `judging::judged_new` meets its contract. Assumes nothing.
use Rattle.std.proofs.Common.{sym}
use Rattle.std.proofs.lemmas.Result.{err_from_is_err_and}
use Rattle.score.proofs.Verdicts.{judged_on, judged_out}
use Rattle.judging.specs.Judging.{new_refusals_of}
use Rattle.judging.proofs.judged_new.Goals as goal

pub returns-in_err-map_err : goal.returns-in_err-map_err
unfolding new_refusals_of
returns-in_err-map_err c =
    let p = err_from_is_err_and c.from_residual.result c.from_residual.ensures.1 in
    rw (p.1, p.2) (sym (judged_out _ _ _ c.judge.result c.judge.ensures c.map_err.ensures.cases _ c.in_err-map_err.was _ _))

pub returns : goal.returns
unfolding new_refusals_of
returns c = sym (judged_on _ _ _ c.judge.result c.judge.ensures c.map_err.ensures.cases _ c.in_ok-map_err.was _ _)
