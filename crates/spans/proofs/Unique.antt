-- Two outcomes that meet a public function's statement are equal. Assumes nothing.
use mathlib.Core.Path.{◌≡◌, sym, ◌∙◌}
use mathlib.Core.List.{List}
use Prim.Native.Nat.{ℕ}
use lib.Ieee.{Float}
use Rattle.state.specs.declared.Settings.{Settings}
use Rattle.spans.specs.declared.Place.{Place}
use Rattle.spans.specs.Walk.{Played}

pub play_unique : (g : Settings) (s : List ℕ) (n : ℕ) (p : Place) (before a b : List Float) (r t : Place) → Played g s n p before a r → Played g s n p before b t → (a ≡ b) × (r ≡ t)
play_unique g s n p before a b r t x y = (x.samples ∙ sym y.samples, x.place ∙ sym y.place)
