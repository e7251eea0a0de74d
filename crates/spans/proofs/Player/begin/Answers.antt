-- `spans::Player::begin` meets its contract. The loop's invariant: the records that are left give the place that all
-- give, and what was read of the next record agrees with the score. Assumes nothing.
use mathlib.Core.Path.{refl, sym, ap, ◌∙◌}
use Prim.Native.Nat.{◌+◌}
use native.Mathlib.Omega.{arith}
use Rattle.spans.specs.declared.Place.{Place}
use Rattle.spans.specs.Inner.{place_in}
use Rattle.spans.proofs.Acting.{act_on, act_stop, is-there, begun_on, begun_off}
use Rattle.spans.proofs.Offsets.{due_so}
use Rattle.spans.proofs.Player.begin.Goals as goal
use Rattle.spans.proofs.Player.begin.Goals.{then-into_block-is_due, else-into_block-is_due}

pub loop-event-init : goal.loop-event-init
loop-event-init c = (elim c.if-into_block-is_due.branch [ then-into_block-is_due w ↦ rw w.at-is c.requires | else-into_block-is_due w ↦ rw w.at-is c.requires ], refl)

pub overflow_add-next : goal.overflow_add-next
overflow_add-next c = let p = c.args.self.now in let m = p.position + c.args.offset in let h = is-there p.score.now _ _ (due_so p.score.now p.position c.args.offset c.loop-event.at _ _ c.loop-event.invariant.0 c.is_due-in-loop-event.ensures c.loop-event-test.true) in
    omega (arith, h)

pub loop-event-smaller : goal.loop-event-smaller
loop-event-smaller c = let p = c.args.self.now in let m = p.position + c.args.offset in let h = is-there p.score.now _ _ (due_so p.score.now p.position c.args.offset c.loop-event.at _ _ c.loop-event.invariant.0 c.is_due-in-loop-event.ensures c.loop-event-test.true) in
    let q = ap (λ (p : Place). p.next) c.walker_at-at.ensures.place in
    omega arith

pub loop-event-preserved : goal.loop-event-preserved
loop-event-preserved c = let p = c.args.self.now in let m = p.position + c.args.offset in (
  c.walker_at-at.ensures.sees,
  c.loop-event.invariant.1 ∙ act_on p.settings p.score.now m c.loop-event.at.next c.loop-event.at.state (place_in c.walker_at-at.result)
      (due_so p.score.now p.position c.args.offset c.loop-event.at _ _ c.loop-event.invariant.0 c.is_due-in-loop-event.ensures c.loop-event-test.true)
      (c.walker_at-at.ensures.place ∙ rw (c.act-state.ensures, c.event_of-event.ensures, c.record_at.ensures) refl),
)

pub returns : goal.returns
returns c = let p = c.args.self.now in let m = p.position + c.args.offset in let f = due_so p.score.now p.position c.args.offset c.loop-event.at _ _ c.loop-event.invariant.0 c.is_due-in-loop-event.ensures c.loop-event-test.false in
    record {
      place =
          sym (act_stop p.settings p.score.now m _ (place_in c.loop-event.at) f) ∙ sym c.loop-event.invariant.1
          ∙ (elim c.if-into_block-is_due.branch [
            | then-into_block-is_due w ↦ let t = rw (c.into_block.ensures, c.is_due.ensures, c.requires c.args.offset) at w.if-into_block-is_due.true in rw (w.at-is, w.reduce-at.ensures) (begun_on p.settings p.score.now m c.args.walker.next c.args.walker.state t)
            | else-into_block-is_due w ↦ let f = rw (c.into_block.ensures, c.is_due.ensures, c.requires c.args.offset) at w.if-into_block-is_due.false in rw w.at-is (begun_off p.settings p.score.now m c.args.walker.next c.args.walker.state f)
          ]);
      sees = c.loop-event.invariant.0;
    }
