-- What private functions are held to: how far the wave is unfolded. No public statement cites it. Definitions only.
use Rattle.std.specs.Prelude.{List, ◌≡◌, ℕ, length, take, Float}
use Rattle.sine.specs.Whole.{levels}

-- the first n points are written in a table that has room for all
pub record Unfolded (n : ℕ) (wave : List Float) : Type 0 where
  pub size : length wave ≡ 4097
  pub points : take n wave ≡ levels n
