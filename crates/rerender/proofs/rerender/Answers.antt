-- `rerender::rerender` meets its contract. Assumes nothing.
use mathlib.Core.Path.{sym, ap, ◌∙◌}
use Rattle.std.proofs.lemmas.Result.{err_from_is_err_and}
use Rattle.score.proofs.Cuts.{accepted-length, accepted-sorted}
use Rattle.sections.specs.Lending.{left_in}
use Rattle.rerender.proofs.Cases.{plan_there, answer-checked, checks_refuse, nothing_run, section_run}
use Rattle.rerender.proofs.rerender.Goals as goal

pub returns-in_err-judged : goal.returns-in_err-judged
returns-in_err-judged c = let p = err_from_is_err_and c.from_residual.result c.from_residual.ensures.1 in
    rw (p.1, p.2) (ap (left_in c.args.lent.now) (checks_refuse _ _ _ _ _ (sym (rw (c.judged_new.ensures, c.fits-room.ensures) at c.judged.ensures) ∙ c.in_err-judged.was)))

pub rerender_from-requires : goal.rerender_from-requires
rerender_from-requires c = let k = answer-checked _ _ _ _ _ (sym (rw (c.judged_new.ensures, c.fits-room.ensures) at c.judged.ensures) ∙ c.in_ok-judged.was) in
    record {
      in_order = record { sorted = accepted-sorted _ _ k.old_accepted; records = accepted-length _ _ k.old_accepted };
      in_order_2 = record { sorted = accepted-sorted _ _ k.new-accepted; records = accepted-length _ _ k.new-accepted };
      fits = k.fits;
      section_bound = plan_there _ _ _ _ (sym c.planned.ensures ∙ c.in-Some.is);
    }

pub returns-in-None : goal.returns-in-None
returns-in-None c = ap (left_in c.args.lent.now) (nothing_run _ _ _ _ _ (sym (rw (c.judged_new.ensures, c.fits-room.ensures) at c.judged.ensures) ∙ c.in_ok-judged.was) (sym c.planned.ensures ∙ c.in-None.is))

pub returns-in-Some : goal.returns-in-Some
returns-in-Some c = c.rerender_from.ensures ∙ ap (left_in c.args.lent.now) (section_run _ _ _ _ _ (sym (rw (c.judged_new.ensures, c.fits-room.ensures) at c.judged.ensures) ∙ c.in_ok-judged.was) _ (sym c.planned.ensures ∙ c.in-Some.is))
