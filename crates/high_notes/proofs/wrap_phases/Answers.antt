-- `high_notes::wrap_phases` meets its contract. Assumes nothing.
use borrow.Author.Rules.{rules}
use mathlib.Core.Path.{◌≡◌, refl, sym, subst}
use native.Mathlib.Omega.{arith}
use native.Mathlib.Numerals.{add-one}
use lib.Dec.{T}
use lib.Ieee.{of_bits}
use Rattle.high_notes.specs.Inner.{thirty_two_tau}
use Rattle.high_notes.proofs.Wraps.{over_at, wrapped-not, wrapped-below, wrapped-all}
use Rattle.high_notes.proofs.wrap_phases.Goals as goal

pub loop-over-init : goal.loop-over-init
loop-over-init c = record { under = c.requires thirty_two_tau (unfold of_bits in tt) (search rules); within = c.requires; same = refl }

pub loop-over-preserved-then-end-over : goal.loop-over-preserved-then-end-over
loop-over-preserved-then-end-over c = rw (add-one c.loop-over.over-index) (wrapped-not _ _ _ (over_at c.loop-over.over-index c.loop-over-test.true) _ _ c.loop-over.invariant (subst T (sym c.if-end-over.true) tt))

pub loop-over-preserved : goal.loop-over-preserved
loop-over-preserved c = rw (add-one c.loop-over.over-index) (wrapped-below _ _ _ (over_at c.loop-over.over-index c.loop-over-test.true) _ _ c.loop-over.invariant _ c.wrap_once.ensures)

pub returns-then-end : goal.returns-then-end
returns-then-end c = let all : c.loop-over.over-index ≡ 5 = omega arith in wrapped-all _ _ _ (rw all at c.loop-over.invariant)
