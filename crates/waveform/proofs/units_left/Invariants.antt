use mathlib.Core.Path.{◌≡◌}
use Prim.Native.Nat.{◌-◌, ◌*◌, ◌%◌, ◌^◌}
use Rattle.waveform.proofs.units_left.Given as goal

abbrev pub invariant-loop-doubled : goal.invariant-loop-doubled
invariant-loop-doubled l = l.left ≡ l.digits * 2 ^ (l.doubled - 1025) % 0x19_21fb_5444_2d18
