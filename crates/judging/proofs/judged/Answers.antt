-- `judging::judged` meets its contract. Assumes nothing.
use Rattle.std.proofs.Common.{◌≡◌, true, rules, sym}
use Rattle.std.proofs.lemmas.Result.{err_from_is_err_and}
use Rattle.score.proofs.Verdicts.{judged_on, judged_out}
use Rattle.state.specs.Settings.{settings_ok}
use Rattle.judging.specs.Judging.{refusals_of}
use Rattle.judging.proofs.judged.Goals as goal

pub returns-in_err-map_err : goal.returns-in_err-map_err
unfolding refusals_of
returns-in_err-map_err c =
    let p = err_from_is_err_and c.from_residual.result c.from_residual.ensures.1 in
    let settled : settings_ok c.args.settings ≡ true = search rules in
    let roomy : c.args.room ≡ true = search rules in
    rw (p.1, p.2, settled, roomy) (sym (judged_out _ _ _ c.judge.result c.judge.ensures c.map_err.ensures.cases _ c.in_err-map_err.was _ _))

pub returns : goal.returns
unfolding refusals_of
returns c =
    let settled : settings_ok c.args.settings ≡ true = search rules in
    let roomy : c.args.room ≡ true = search rules in
    rw (settled, roomy) (sym (judged_on _ _ _ c.judge.result c.judge.ensures c.map_err.ensures.cases _ c.in_ok-map_err.was _ _))
