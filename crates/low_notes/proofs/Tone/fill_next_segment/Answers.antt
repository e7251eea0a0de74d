-- `low_notes::Tone::fill_next_segment` meets its contract. Assumes nothing.
use Rattle.waveform.specs.Filled.{value_at}
use Rattle.low_notes.proofs.Tone.fill_next_segment.Goals as goal

pub returns : goal.returns
returns c = let tone = c.args.self in let straight = rw c.in_cycles.ensures at c.in-Some.ensures in
    (c.fill_segment.ensures.0, c.fill_segment.ensures.1 (value_at tone.waveform tone.step.0) straight)
