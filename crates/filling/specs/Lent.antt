-- The value at a phase where a sine may be read from a lent table, by the rule of sine's specs/Whole.antt. If the table
-- is the whole wave, the value is the waveform's own (proofs/Lent.antt). Definitions only.
use Rattle.std.specs.Prelude.{cond, List, eqb, length, Float}
use Rattle.sine.specs.Whole.{whole_reading}
use Rattle.waveform.specs.declared.Waveform.{Waveform}
use Rattle.waveform.specs.declared.Waveform.TheVariants.{Sine, Square, Sawtooth, Triangle, Pulse, RoundedTriangle}
use Rattle.waveform.specs.Waveform.{normal_of}
use Rattle.waveform.specs.Filled.{value_at}

-- W is read for a sine, if W has the whole wave's 4,097 numbers; else the value is the waveform's own
unfoldable pub value_in : List Float → Waveform → Float → Float → Float
value_in W Sine step p = cond (eqb (length W) 4097) (whole_reading W (normal_of p)) (value_at Sine step p)
value_in W Square step p = value_at Square step p
value_in W Sawtooth step p = value_at Sawtooth step p
value_in W Triangle step p = value_at Triangle step p
value_in W (Pulse duty) step p = value_at (Pulse duty) step p
value_in W RoundedTriangle step p = value_at RoundedTriangle step p
