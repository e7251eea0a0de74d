-- The LFO's calls. 01, "Domain of the ported calls": frequency "(LFO 0 to 100), depth 0 to 1"; "Steps": "times depth in
-- the LFO".
--
-- A block call, what it refuses and what a refusal leaves are defined in specs/Block.antt of `blocks`. Only `process`
-- uses a setting, so only `process` judges one; the other calls refuse nothing. Definitions only.
use Rattle.std.specs.Prelude.{List, ℕ, Float}
use Rattle.floats.specs.Double.{zero64}
use Rattle.domain.specs.Domain.{highest_lfo}
use Rattle.answers.specs.Outcome.{Outcome, leaves}
use Rattle.waveform.specs.declared.Radians.{Radians}
use Rattle.waveform.specs.declared.Waveform.{Waveform}
use Rattle.waveform.specs.Waveform.{radians}
use Rattle.blocks.specs.declared.Tone.{Tone}
use Rattle.blocks.specs.declared.Ran.{Ran}
use Rattle.blocks.specs.Block.{run_of}
use Rattle.lfo.specs.declared.LfoBlock.{LfoBlock}
use Rattle.lfo.specs.declared.Processed.{Processed}

abbrev pub new_of : Float → Float → Waveform → LfoBlock
new_of frequency depth w = record { frequency = frequency; depth = depth; phase = radians zero64; waveform = w }

abbrev pub with_phase : LfoBlock → Radians → LfoBlock
with_phase b p = record { frequency = b.frequency; depth = b.depth; phase = p; waveform = b.waveform }

-- ---- the block call
abbrev pub tone_of : LfoBlock → Tone
tone_of b = record { frequency = b.frequency; depth = b.depth; phase = b.phase; waveform = b.waveform }

-- what a run leaves, handed on: the block has the phase after the run
abbrev pub handed_of : LfoBlock → Outcome Ran → Outcome Processed
handed_of b o = leaves (record { answer = o.result.answer; block = with_phase b o.result.phase }) o.lent

-- every lent number becomes a value of the waveform times the depth
abbrev pub process_of : LfoBlock → ℕ → List Float → Outcome Processed
process_of b rate xs = handed_of b (run_of (tone_of b) highest_lfo rate xs)
