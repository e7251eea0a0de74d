-- `waveform::value_at` meets its contract. Assumes nothing.
use Rattle.waveform.specs.Waveform.{value_of}
use Rattle.waveform.proofs.value_at.Goals as goal

pub returns-in-Sine : goal.returns-in-Sine
unfolding value_of
returns-in-Sine c = rw c.in-Sine.is c.reading.ensures

pub returns-in-Square : goal.returns-in-Square
unfolding value_of
returns-in-Square c = rw c.in-Square.is c.square.ensures

pub returns-in-Sawtooth : goal.returns-in-Sawtooth
unfolding value_of
returns-in-Sawtooth c = rw c.in-Sawtooth.is c.saw.ensures

pub returns-in-Triangle : goal.returns-in-Triangle
unfolding value_of
returns-in-Triangle c = rw c.in-Triangle.is c.triangle.ensures

pub returns-in-Pulse : goal.returns-in-Pulse
unfolding value_of
returns-in-Pulse c = rw c.in-Pulse.is c.pulse.ensures

pub returns-in-RoundedTriangle : goal.returns-in-RoundedTriangle
unfolding value_of
returns-in-RoundedTriangle c = rw c.in-RoundedTriangle.is c.rounded.ensures
