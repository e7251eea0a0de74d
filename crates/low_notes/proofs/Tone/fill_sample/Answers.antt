-- `low_notes::Tone::fill_sample` meets its contract. Assumes nothing.
use native.Mathlib.Omega.{arith}
use Rattle.waveform.proofs.Loops.{goes_on}
use Rattle.low_notes.proofs.Tone.fill_sample.Goals as goal

pub returns : goal.returns
returns c = (λ l. omega arith, omega arith, λ p₀ xs u. goes_on _ _ _ p₀ xs _ _ _ _ u c.if-out-count.false c.wave_at.ensures)
