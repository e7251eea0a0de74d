-- `ffi::choice_of` meets its contract. Assumes nothing.
use mathlib.Core.Path.{refl}
use Rattle.ffi.specs.Ffi.{choice_of}
use Rattle.ffi.proofs.choice_of.Goals as goal

pub returns-in_err-waveform : goal.returns-in_err-waveform
unfolding choice_of
returns-in_err-waveform c = rw (c.from_residual.ensures, ← c.shape_of.ensures, c.in_err-waveform.was) refl

pub returns-in_err-lfo_waveform : goal.returns-in_err-lfo_waveform
unfolding choice_of
returns-in_err-lfo_waveform c = rw (c.from_residual-in_err-lfo_waveform.ensures, ← c.shape_of.ensures, c.in_ok-waveform.was, ← c.shape_of-2.ensures, c.in_err-lfo_waveform.was) refl

pub returns-in_err-keying : goal.returns-in_err-keying
unfolding choice_of
returns-in_err-keying c = rw (c.from_residual-in_err-keying.ensures, ← c.shape_of.ensures, c.in_ok-waveform.was, ← c.shape_of-2.ensures, c.in_ok-lfo_waveform.was, ← c.manner_of.ensures, c.in_err-keying.was) refl

pub returns : goal.returns
unfolding choice_of
returns c = rw (← c.shape_of.ensures, c.in_ok-waveform.was, ← c.shape_of-2.ensures, c.in_ok-lfo_waveform.was, ← c.manner_of.ensures, c.in_ok-keying.was) refl
