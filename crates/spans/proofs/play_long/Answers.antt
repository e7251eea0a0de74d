-- `spans::play_long` meets its contract. Assumes nothing.
use mathlib.Core.Path.{sym}
use Rattle.sine.proofs.Whole.{whole_long}
use Rattle.filling.proofs.Lent.{whole-value}
use Rattle.spans.proofs.play_long.Goals as goal

pub slice_bounds-player-end : goal.slice_bounds-player-end
slice_bounds-player-end c = rw c.whole_wave.ensures (sym whole_long)

pub invariant_of-player : goal.invariant_of-player
invariant_of-player c = record { wave_table = rw c.whole_wave.ensures whole-value }
