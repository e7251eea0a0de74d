-- Settings and states apart from the tremolo. 02, R-7: "With depth 0 the samples equal the old ones". The laws of
-- proofs/ButLfo.antt use these definitions. Definitions only.
use Rattle.std.specs.Prelude.{◌≡◌}
use Rattle.floats.specs.Double.{zero64}
use Rattle.tremolo.specs.declared.Lfo.{Lfo}
use Rattle.waveform.specs.declared.Radians.{Radians}
use Rattle.waveform.specs.Waveform.{radians}
use Rattle.state.specs.declared.Settings.{Settings}
use Rattle.state.specs.declared.State.{State}

-- g with another LFO
abbrev pub with_tremolo : Settings → Lfo → Settings
with_tremolo g l = record { rate = g.rate; waveform = g.waveform; adsr = g.adsr; lfo = l; keying = g.keying }

-- v with another phase of the LFO
abbrev pub with_lfo_phase : State → Radians → State
with_lfo_phase v p = record { phase = v.phase; envelope = v.envelope; frequency = v.frequency; velocity = v.velocity; keys = v.keys; acted = v.acted; lfo = p }

-- equal in every other field
abbrev pub SameButLfo : State → State → Type 0
SameButLfo v u = with_lfo_phase v (radians zero64) ≡ with_lfo_phase u (radians zero64)
