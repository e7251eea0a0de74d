-- `peaks::peak_of` meets its contract. The loop's invariant: the best is the peak of the first n groups. Assumes
-- nothing.
use mathlib.Core.Path.{◌≡◌, refl, sym, ◌∙◌}
use native.Mathlib.Omega.{arith}
use lib.ListN.{length}
use Rattle.peaks.specs.Peaks.{peak_to}
use Rattle.peaks.proofs.Bounds.{least-to}
use Rattle.peaks.proofs.Groups.{group_passed, group_after, rest_after}
use Rattle.peaks.proofs.peak_of.Goals as goal
use Rattle.peaks.proofs.peak_of.Goals.{then-not-is_quiet, else-not-is_quiet}

pub loop-n-init : goal.loop-n-init
unfolding peak_to
loop-n-init c = refl

pub one_by_one-best-requires-clause-start_least : goal.one_by_one-best-requires-clause-start_least
one_by_one-best-requires-clause-start_least c = rw c.loop-n.invariant (least-to c.args.section.now _)

pub one_by_one-requires-clause-start_least : goal.one_by_one-requires-clause-start_least
one_by_one-requires-clause-start_least c = rw c.loop-n.invariant (least-to c.args.section.now _)

pub loop-n-preserved : goal.loop-n-preserved
loop-n-preserved c =
    let xs = c.args.section.now in
    let at = c.loop-n in
    let g = c.as_chunks in
    elim c.if-not-is_quiet.branch [
      | then-not-is_quiet w ↦ w.best-is ∙ w.one_by_one-best.ensures ∙ rw at.invariant (group_after xs g.result.0.now g.ensures.front g.ensures.front_len at.n c.loop-n-test.true)
      | else-not-is_quiet w ↦ w.best-is ∙ at.invariant ∙ group_passed xs g.result.0.now g.ensures.front g.ensures.front_len at.n c.loop-n-test.true (rw at.invariant at (sym c.is_quiet.ensures ∙ w.if-not-is_quiet.false))
    ]

pub returns : goal.returns
returns c =
    let g = c.as_chunks in
    let all : c.loop-n.n ≡ length g.result.0.now = omega arith in
    c.one_by_one.ensures ∙ rw (c.loop-n.invariant, all) (rest_after c.args.section.now g.result.0.now g.ensures.front g.ensures.front_len g.result.1.now g.ensures.back)
