-- Two outcomes that meet a public function's statement are equal: each statement is an equation with one definition of
-- specs/. Assumes nothing.
use Rattle.std.specs.Prelude.{None, Some}
use mathlib.Core.Path.{◌≡◌, sym, ◌∙◌}
use mathlib.Core.List.{List}
use Prim.Native.Nat.{ℕ}
use lib.Ieee.{Float}
use Rattle.floats.specs.Double.{zero64}
use Rattle.answers.specs.Outcome.{leaves}
use Rattle.answers.proofs.Unique.{same_left}
use Rattle.waveform.specs.declared.Waveform.{Waveform}
use Rattle.waveform.specs.Waveform.{radians}
use Rattle.oscillator.specs.Oscillator.{new_of, with_midi, with_waveform, with_phase, process_of}
use Rattle.oscillator.specs.declared.OscillatorBlock.{OscillatorBlock}
use Rattle.oscillator.specs.declared.Processed.{Processed}

pub new_unique : (f : Float) (w : Waveform) (r t : OscillatorBlock) → r ≡ new_of f w → t ≡ new_of f w → r ≡ t
new_unique f w r t p q = p ∙ sym q

pub set_midi_frequency_unique : (b : OscillatorBlock) (f : Float) (r t : OscillatorBlock) → r ≡ with_midi b (Some f) → t ≡ with_midi b (Some f) → r ≡ t
set_midi_frequency_unique b f r t p q = p ∙ sym q

pub clear_midi_frequency_unique : (b r t : OscillatorBlock) → r ≡ with_midi b None → t ≡ with_midi b None → r ≡ t
clear_midi_frequency_unique b r t p q = p ∙ sym q

pub set_waveform_unique : (b : OscillatorBlock) (w : Waveform) (r t : OscillatorBlock) → r ≡ with_waveform b w → t ≡ with_waveform b w → r ≡ t
set_waveform_unique b w r t p q = p ∙ sym q

pub reset_unique : (b r t : OscillatorBlock) → r ≡ with_phase b (radians zero64) → t ≡ with_phase b (radians zero64) → r ≡ t
reset_unique b r t p q = p ∙ sym q

-- the result and every lent number
pub process_unique : (b : OscillatorBlock) (rate : ℕ) (xs ys zs : List Float) (r t : Processed) → leaves r ys ≡ process_of b rate xs → leaves t zs ≡ process_of b rate xs → (r ≡ t) × (ys ≡ zs)
process_unique b rate xs ys zs r t = same_left (process_of b rate xs) r t ys zs
