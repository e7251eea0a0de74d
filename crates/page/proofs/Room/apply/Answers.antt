-- `page::Room::apply` meets its contract. Assumes nothing.
use native.Mathlib.Omega.{arith}
use Rattle.std.proofs.lemmas.Result.{err_from_is_err_and}
use Rattle.page.proofs.Steps.{applying_begins, applying_ends, applying_stops, applying_on}
use Rattle.page.proofs.Room.apply.Goals as goal

pub loop-i-init : goal.loop-i-init
loop-i-init c = applying_begins _ _ c.requires

pub apply_one-requires-clause-accepted : goal.apply_one-requires-clause-accepted
apply_one-requires-clause-accepted c = c.loop-i.invariant.accepted

pub returns-in_err-apply_one : goal.returns-in_err-apply_one
returns-in_err-apply_one c =
    let p = err_from_is_err_and c.from_residual.result c.from_residual.ensures.1 in
    rw (p.1, p.2) (applying_stops _ _ _ _ c.loop-i.invariant (omega arith) _ _ c.apply_one.ensures _ c.in_err-apply_one.was _)

pub loop-i-preserved : goal.loop-i-preserved
loop-i-preserved c = applying_on _ _ _ _ c.loop-i.invariant (omega arith) _ _ c.apply_one.ensures _ c.in_ok-apply_one.was

pub returns : goal.returns
returns c = applying_ends _ _ _ _ c.loop-i.invariant (omega arith)
