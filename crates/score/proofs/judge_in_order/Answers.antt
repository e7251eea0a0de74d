-- `score::judge_in_order` meets its contract. Assumes nothing.
use Rattle.std.proofs.Common.{sym, ◌∙◌, refl}
use Rattle.score.proofs.Codec.{both}
use Rattle.score.proofs.Verdicts.{right-none}
use Rattle.score.proofs.judge_in_order.Goals as goal

pub returns-then-order-passes_fast_check : goal.returns-then-order-passes_fast_check
returns-then-order-passes_fast_check c = let b = both _ _ c.if-order-passes_fast_check.true in
    rw (right-none _ _ (c.passes_fast_check.ensures b.1) (sym c.requires.order_value ∙ b.0)) refl
