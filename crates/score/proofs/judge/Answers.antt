-- `score::judge` meets its contract. Assumes nothing.
use mathlib.Core.Path.{sym, ◌∙◌}
use native.Mathlib.Omega.{arith}
use Rattle.std.proofs.lemmas.Result.{err_from_is_err_and}
use Rattle.score.proofs.Turns.{judge-length, judge-first, order-first, order-next, judge_on, judge_stop, judge_end}
use Rattle.score.specs.Record.{position_at}
use Rattle.score.proofs.judge.Goals as goal
use Rattle.score.proofs.judge.Goals.{then-score-ne0-via-then-score-ne0, then-score-ne0-via-else-score-ne0+then-n-gt-MOST_RECORDS}

pub returns-then-score-ne0 : goal.returns-then-score-ne0
returns-then-score-ne0 c =
    elim c.then-score-ne0.branch [
      | then-score-ne0-via-then-score-ne0 w ↦ sym (judge-length _ (λ e l. w.if-score-ne0.true e))
      | then-score-ne0-via-else-score-ne0+then-n-gt-MOST_RECORDS w ↦ sym (judge-length _ (λ e l. let g = w.if-n-gt-MOST_RECORDS.true in absurd (omega arith)))
    ]

pub loop-i-init : goal.loop-i-init
loop-i-init c = (judge-first _ _ c.count-n.ensures c.if-score-ne0.false c.if-n-gt-MOST_RECORDS.false, order-first _)

pub judge_in_order-requires : goal.judge_in_order-requires
unfolding position_at
judge_in_order-requires c = record { i_bound = omega arith; order_value = rw c.word_at-here.ensures (sym c.loop-i.invariant.1) }

pub returns-in_err-judge_in_order : goal.returns-in_err-judge_in_order
returns-in_err-judge_in_order c =
    let p = err_from_is_err_and c.from_residual.result c.from_residual.ensures.1 in
    rw (p.1, p.2) (sym (c.loop-i.invariant.0 ∙ judge_stop _ _ c.loop-i.i (omega arith) _ (sym c.judge_in_order.ensures ∙ c.in_err-judge_in_order.was)))

pub loop-i-preserved : goal.loop-i-preserved
unfolding position_at
loop-i-preserved c = (c.loop-i.invariant.0 ∙ judge_on _ _ c.loop-i.i (omega arith) _ (sym c.judge_in_order.ensures ∙ c.in_ok-judge_in_order.was), rw c.word_at-here.ensures (order-next _ c.loop-i.i))

pub returns : goal.returns
returns c = sym (c.loop-i.invariant.0 ∙ judge_end _ _ c.loop-i.i (omega arith))
