-- `low_notes::segment_from` meets its contract. Assumes nothing.
use Rattle.waveform.specs.Waveform.{value_of}
use Rattle.low_notes.proofs.Segments.{square_lines, triangle_lines, rounded_lines}
use Rattle.low_notes.proofs.segment_from.Goals as goal

pub returns-in-Square : goal.returns-in-Square
unfolding value_of
returns-in-Square c = rw c.in-Square.is (c.up_to_half.ensures _ (square_lines c.args.dt))

pub returns-in-Sawtooth : goal.returns-in-Sawtooth
unfolding value_of
returns-in-Sawtooth c = rw c.in-Sawtooth.is c.up_to_end.ensures

pub returns-in-Triangle : goal.returns-in-Triangle
unfolding value_of
returns-in-Triangle c = rw c.in-Triangle.is (c.up_to_half-in-Triangle.ensures _ (triangle_lines c.args.dt))

pub returns-in-Pulse : goal.returns-in-Pulse
unfolding value_of
returns-in-Pulse c = rw c.in-Pulse.is c.up_to_duty.ensures

pub returns-in-RoundedTriangle : goal.returns-in-RoundedTriangle
unfolding value_of
returns-in-RoundedTriangle c = rw c.in-RoundedTriangle.is (c.up_to_half-in-RoundedTriangle.ensures _ (rounded_lines c.args.dt))
