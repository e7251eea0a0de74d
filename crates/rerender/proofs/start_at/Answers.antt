-- `rerender::start_at` meets its contract. Assumes nothing.
use mathlib.Core.Path.{◌≡◌, refl, sym, ◌∙◌}
use Prim.Native.Nat.{◌+◌, ◌-◌, ◌*◌}
use native.Mathlib.Omega.{arith}
use Rattle.shelf.specs.Shelf.{entry_words}
use Rattle.shelf.proofs.There.{decoded-there}
use Rattle.rerender.proofs.Cases.{start_is}
use Rattle.rerender.proofs.start_at.Goals as goal

pub returns : goal.returns
returns c = let w = c.args.section * entry_words in
    let d : w + entry_words - w ≡ entry_words = omega arith in
    let e = decoded-there _ _ (sym (rw d at c.decode.ensures) ∙ c.in_ok-state.was) in
    rw (c.then_some.ensures, c.is_count_below-counted.ensures, ← start_is c.args.new.now c.args.section c.args.shelf.now c.requires.sorted, e.0, e.1) refl
