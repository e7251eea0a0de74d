-- The oscillator's calls. 01, "Domain of the ported calls": "frequency 0 to 20,000 Hz"; "Steps": "the increment is
-- frequency / rate * TAU. For each sample the value is taken from (phase % TAU) * INV_TAU with dt = increment *
-- INV_TAU", "then phase grows by the increment. After the block, phase is reduced by TAU".
--
-- What is refused, and what a refusal leaves, is defined in specs/Block.antt of `blocks`. oscillator.rs decides the
-- rest: a note's frequency, where it is set, sounds in place of the block's own, and the frequency that does not sound
-- is not judged. Only `process` uses a setting, so only `process` judges one; the other calls refuse nothing.
-- Definitions only.
use Rattle.std.specs.Prelude.{◌&&◌, List, ◌++◌, ℕ, length, Float, None, Option, Some}
use Rattle.runs.specs.Runs.{listed}
use Rattle.floats.specs.Double.{zero64}
use Rattle.domain.specs.Domain.{highest_tone, is_frequency, is_radians}
use Rattle.answers.specs.declared.Refusal.TheVariants.{Setting, Argument}
use Rattle.answers.specs.Order.{unless}
use Rattle.answers.specs.Outcome.{Outcome, leaves}
use Rattle.waveform.specs.declared.Radians.{Radians}
use Rattle.waveform.specs.declared.Waveform.{Waveform}
use Rattle.waveform.specs.Waveform.{increment_of, radians}
use Rattle.waveform.specs.Filled.{phase_from, value_at}
use Rattle.blocks.specs.declared.Ran.{Ran}
use Rattle.blocks.specs.Block.{is_setting, outcome_or, phase_after}
use Rattle.oscillator.specs.declared.OscillatorBlock.{OscillatorBlock}
use Rattle.oscillator.specs.declared.Processed.{Processed}

-- ---- the calls that refuse nothing
abbrev pub new_of : Float → Waveform → OscillatorBlock
new_of frequency w = record { frequency = frequency; midi_frequency = None; phase = radians zero64; waveform = w }

abbrev pub with_midi : OscillatorBlock → Option Float → OscillatorBlock
with_midi b m = record { frequency = b.frequency; midi_frequency = m; phase = b.phase; waveform = b.waveform }

abbrev pub with_waveform : OscillatorBlock → Waveform → OscillatorBlock
with_waveform b w = record { frequency = b.frequency; midi_frequency = b.midi_frequency; phase = b.phase; waveform = w }

abbrev pub with_phase : OscillatorBlock → Radians → OscillatorBlock
with_phase b p = record { frequency = b.frequency; midi_frequency = b.midi_frequency; phase = p; waveform = b.waveform }

-- ---- the block call
-- the frequency that sounds: the note's where it is set, else the block's own
abbrev pub sounds_at : Option Float → Float → Float
sounds_at None own = own
sounds_at (Some frequency) own = frequency

unfoldable pub played_of : OscillatorBlock → Float
played_of b = sounds_at b.midi_frequency b.frequency

-- the first k values of the waveform, from the phase p
unfoldable pub values_from : Waveform → Float → Float → ℕ → List Float
values_from w step p k = listed (λ (i : ℕ). value_at w step (phase_from step p i)) k

-- what a run leaves, handed on: the block has the phase after the run
abbrev pub handed_of : OscillatorBlock → Outcome Ran → Outcome Processed
handed_of b o = leaves (record { answer = o.result.answer; block = with_phase b o.result.phase }) o.lent

-- every lent number becomes a value of the waveform
unfoldable pub ran_of : OscillatorBlock → ℕ → List Float → Outcome Ran
ran_of b rate xs =
    let n = length xs in
    let step = increment_of (played_of b) rate in
    outcome_or (unless (is_setting rate b.waveform) Setting ++ unless (is_frequency highest_tone (played_of b) && is_radians b.phase.0) Argument) b.phase xs (phase_after step b.phase n) (values_from b.waveform step b.phase.0 n)

abbrev pub process_of : OscillatorBlock → ℕ → List Float → Outcome Processed
process_of b rate xs = handed_of b (ran_of b rate xs)
