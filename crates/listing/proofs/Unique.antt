-- Two outcomes that meet a public function's statement are equal, the count and every byte. Assumes nothing.
use mathlib.Core.Path.{◌≡◌, sym, ◌∙◌}
use mathlib.Core.List.{List}
use Prim.Native.Nat.{ℕ}
use Rattle.listing.specs.Outcome.{Listed}

pub list_unique : (s x y z : List ℕ) (m n : ℕ) → Listed s x y m → Listed s x z n → (m ≡ n) × (y ≡ z)
list_unique s x y z m n p q = (p.counted ∙ sym q.counted, p.written ∙ sym q.written)
