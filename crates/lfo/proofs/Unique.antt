-- Two outcomes that meet a public function's statement are equal. Assumes nothing.
use mathlib.Core.Path.{◌≡◌, sym, ◌∙◌}
use mathlib.Core.List.{List}
use Prim.Native.Nat.{ℕ}
use lib.Ieee.{Float}
use Rattle.floats.specs.Double.{zero64}
use Rattle.answers.specs.Outcome.{leaves}
use Rattle.answers.proofs.Unique.{same_left}
use Rattle.waveform.specs.declared.Waveform.{Waveform}
use Rattle.waveform.specs.Waveform.{radians}
use Rattle.lfo.specs.Lfo.{new_of, with_phase, process_of}
use Rattle.lfo.specs.declared.LfoBlock.{LfoBlock}
use Rattle.lfo.specs.declared.Processed.{Processed}

pub new_unique : (f d : Float) (w : Waveform) (r t : LfoBlock) → r ≡ new_of f d w → t ≡ new_of f d w → r ≡ t
new_unique f d w r t p q = p ∙ sym q

pub reset_unique : (b r t : LfoBlock) → r ≡ with_phase b (radians zero64) → t ≡ with_phase b (radians zero64) → r ≡ t
reset_unique b r t p q = p ∙ sym q

-- the result and every lent number
pub process_unique : (b : LfoBlock) (rate : ℕ) (xs ys zs : List Float) (r t : Processed) → leaves r ys ≡ process_of b rate xs → leaves t zs ≡ process_of b rate xs → (r ≡ t) × (ys ≡ zs)
process_unique b rate xs ys zs r t = same_left (process_of b rate xs) r t ys zs
