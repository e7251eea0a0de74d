-- Two outcomes that meet the statement of `run` are equal. Assumes nothing.
use mathlib.Core.Path.{◌≡◌}
use mathlib.Core.List.{List}
use Prim.Native.Nat.{ℕ}
use lib.Ieee.{Float}
use Rattle.answers.specs.Outcome.{leaves}
use Rattle.answers.proofs.Unique.{same_left}
use Rattle.blocks.specs.Block.{run_of}
use Rattle.blocks.specs.declared.Ran.{Ran}
use Rattle.blocks.specs.declared.Tone.{Tone}

-- the result and every lent number
pub run_unique : (t : Tone) (highest : Float) (rate : ℕ) (xs ys zs : List Float) (r u : Ran) → leaves r ys ≡ run_of t highest rate xs → leaves u zs ≡ run_of t highest rate xs → (r ≡ u) × (ys ≡ zs)
run_unique t highest rate xs ys zs r u = same_left (run_of t highest rate xs) r u ys zs
