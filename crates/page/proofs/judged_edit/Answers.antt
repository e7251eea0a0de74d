-- `page::judged_edit` meets its contract. Assumes nothing.
use Rattle.std.proofs.Common.{◌≡◌, true, rules, sym, ◌+◌, ◌-◌, ◌*◌, arith}
use Rattle.std.proofs.lemmas.Result.{err_from_is_err_and}
use Rattle.answers.specs.declared.Refusal.TheVariants.{Edit}
use Rattle.answers.specs.declared.ScoreFault.{ScoreFault}
use Rattle.score.proofs.Verdicts.{judged_on, judged_out}
use Rattle.page.specs.Page.{frame_right}
use Rattle.page.specs.Inner.{placed_at}
use Rattle.page.proofs.Judging.{ten-bytes, refused_as}
use Rattle.page.proofs.judged_edit.Goals as goal

pub returns-in_err-map_err : goal.returns-in_err-map_err
returns-in_err-map_err c =
    let i = c.args.i in
    let p = err_from_is_err_and c.from_residual.result c.from_residual.ensures.1 in
    let framed : frame_right c.args.edits.now i ≡ true = search rules in
    let d : i * 14 + 14 - (i * 14 + 4) ≡ 10 = omega arith in
    rw (p.1, p.2, framed, refused_as _ i (ten-bytes _ i c.requires))
    (sym (judged_out (λ (f : ScoreFault). Edit (placed_at f i)) _ _ c.judge-judged.result (rw d at c.judge-judged.ensures) (search rules) _ c.in_err-map_err.was _ _))

pub returns : goal.returns
returns c =
    let i = c.args.i in
    let framed : frame_right c.args.edits.now i ≡ true = search rules in
    let d : i * 14 + 14 - (i * 14 + 4) ≡ 10 = omega arith in
    rw (framed, refused_as _ i (ten-bytes _ i c.requires))
    (sym (judged_on (λ (f : ScoreFault). Edit (placed_at f i)) _ _ c.judge-judged.result (rw d at c.judge-judged.ensures) (search rules) _ c.in_ok-map_err.was _ _))
