-- `sections::play_sections` meets its contract. The loop's invariant is `Walked` of proofs/Turns.antt. Assumes nothing.
use mathlib.Core.Path.{◌≡◌, sym, ◌∙◌}
use Prim.Native.Nat.{◌-◌, ◌+◌, ◌*◌}
use native.Mathlib.Omega.{arith}
use Rattle.std.proofs.Common.{rules}
use Rattle.shelf.specs.Shelf.{entry_words}
use Rattle.sections.proofs.Lending.{same_first, left-same}
use Rattle.sections.proofs.Turns.{put_same, walk_first, walk_last, turn_stops, number_fits, turn_on}
use Rattle.sections.proofs.play_sections.Goals as goal

pub loop-k-init : goal.loop-k-init
loop-k-init c = record { same = same_first _; walked = walk_first _ _ _ _ _ _ c.requires.fits c.requires.section_bound }

pub returns-then-is_stop : goal.returns-then-is_stop
returns-then-is_stop c =
    let d : c.loop-k.k * entry_words + entry_words - c.loop-k.k * entry_words ≡ entry_words = omega arith in
    rw (put_same (c.loop-k.k * entry_words) (c.loop-k.k * entry_words + entry_words - c.loop-k.k * entry_words) c.loop-k.lent.stored.now)
    (left-same _ _ _ _ c.loop-k.invariant.same (turn_stops _ _ _ _ _ _ c.requires.fits c.requires.section_bound _ _ _ _ _ _ c.loop-k.invariant.walked (rw c.entries-k-end.ensures at c.loop-k-test.true) (sym c.is_stop.ensures ∙ c.if-is_stop.true)))

pub overflow_add-lent : goal.overflow_add-lent
overflow_add-lent c =
    let n = number_fits _ _ _ _ _ _ c.requires.fits c.requires.section_bound _ _ _ _ _ _ c.loop-k.invariant.walked (rw c.entries-k-end.ensures at c.loop-k-test.true) (sym c.is_stop.ensures ∙ c.if-is_stop.false) _ c.min-end.ensures _ _ c.play-place.ensures _ c.store.ensures _ c.peak_of-peak.ensures in
    omega (arith, n.0, n.1)

pub loop-k-preserved : goal.loop-k-preserved
loop-k-preserved c =
    let d : c.loop-k.k * entry_words + entry_words - c.loop-k.k * entry_words ≡ entry_words = omega arith in
    record {
      same = search rules;
      walked = rw d (turn_on _ _ _ _ _ _ c.requires.fits c.requires.section_bound _ _ _ _ _ _ c.loop-k.invariant.walked (rw c.entries-k-end.ensures at c.loop-k-test.true) (sym c.is_stop.ensures ∙ c.if-is_stop.false) _ c.min-end.ensures _ _ c.play-place.ensures _ c.store.ensures _ c.peak_of-peak.ensures);
    }

pub returns : goal.returns
returns c = left-same _ _ _ _ c.loop-k.invariant.same (walk_last _ _ _ _ _ _ c.requires.fits c.requires.section_bound _ _ _ _ _ _ c.loop-k.invariant.walked (rw c.entries-k-end.ensures at c.loop-k-test.false))
