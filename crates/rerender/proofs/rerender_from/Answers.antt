-- `rerender::rerender_from` meets its contract. Assumes nothing.
use mathlib.Core.Path.{sym, ap, ◌∙◌}
use Rattle.sections.specs.Lending.{left_in}
use Rattle.sections.proofs.Lending.{left-on}
use Rattle.rerender.proofs.Cases.{started_none, run_walked, from-refused, stop_past, next_behind, few_words, from-made}
use Rattle.rerender.proofs.rerender_from.Goals as goal

pub returns-in_default : goal.returns-in_default
returns-in_default c = ap (left_in c.args.lent.now) (from-refused _ _ _ _ _ (started_none c.args.new.now c.args.section c.args.lent.now.stored.now (sym c.start_at.ensures ∙ c.in_default.is)))

pub recount-requires-clause-behind : goal.recount-requires-clause-behind
recount-requires-clause-behind c = let pre = c.requires in let w = run_walked _ _ _ _ c.args.lent.now _ _ _ _ (sym c.start_at.ensures ∙ c.in-Some.is) c.quiet_from-quiet.ensures c.play_on-end.ensures in
    rw c.entries.ensures (next_behind _ _ _ _ _ pre.section_bound pre.fits pre.in_order pre.in_order_2 w.0 _ _ w.1)

pub recount-requires-clause-shelf_len_bound : goal.recount-requires-clause-shelf_len_bound
recount-requires-clause-shelf_len_bound c = let pre = c.requires in let w = run_walked _ _ _ _ c.args.lent.now _ _ _ _ (sym c.start_at.ensures ∙ c.in-Some.is) c.quiet_from-quiet.ensures c.play_on-end.ensures in
    few_words _ _ _ _ _ pre.section_bound pre.fits pre.in_order pre.in_order_2 w.0 _ _ w.1

pub overflow_sub-count : goal.overflow_sub-count
overflow_sub-count c = let pre = c.requires in let w = run_walked _ _ _ _ c.args.lent.now _ _ _ _ (sym c.start_at.ensures ∙ c.in-Some.is) c.quiet_from-quiet.ensures c.play_on-end.ensures in
    stop_past _ _ _ _ _ pre.section_bound pre.fits pre.in_order pre.in_order_2 w.0 _ _ w.1

pub returns : goal.returns
returns c = let pre = c.requires in let w = run_walked _ _ _ _ c.args.lent.now _ _ _ _ (sym c.start_at.ensures ∙ c.in-Some.is) c.quiet_from-quiet.ensures c.play_on-end.ensures in
    left-on c.args.lent.now _ _ _ _ _ _ c.play_on-end.ensures (from-made _ _ _ _ _ pre.section_bound pre.fits pre.in_order pre.in_order_2 w.0 _ _ w.1 _ (rw c.entries.ensures at c.recount.ensures))
