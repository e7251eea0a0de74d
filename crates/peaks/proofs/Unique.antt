-- Two outcomes that meet a public function's statement are equal. Assumes nothing.
use mathlib.Core.Path.{◌≡◌, sym, ◌∙◌}
use mathlib.Core.List.{List}
use lib.Ieee.{Float}
use Rattle.peaks.specs.declared.Peak.{Peak}
use Rattle.peaks.specs.Peaks.{peak_of}

pub peak_of_unique : (section : List Float) (r t : Peak) → r ≡ peak_of section → t ≡ peak_of section → r ≡ t
peak_of_unique section r t p q = p ∙ sym q
