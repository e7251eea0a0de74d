-- `oscillator::OscillatorBlock::process` meets its contract: a run at depth 1, handed on. Assumes nothing.
use Rattle.std.proofs.Common.{◌≡◌, refl, ap, ◌∙◌}
use Rattle.std.specs.Prelude.{Float, Option, None, Some}
use Rattle.std.specs.Option.{unwrap_or}
use Rattle.oscillator.specs.Oscillator.{sounds_at, played_of, handed_of}
use Rattle.oscillator.proofs.Plain.{run_is}
use Rattle.oscillator.proofs.OscillatorBlock.process.Goals as goal

sounds : (note : Option Float) (own : Float) → unwrap_or note own ≡ sounds_at note own
sounds None own = refl
sounds (Some frequency) own = refl

pub returns : goal.returns
unfolding played_of
returns c =
    let a = c.args in
    ap (handed_of a.self) (c.run-ran.ensures ∙ rw (c.unwrap_or.ensures, sounds a.self.midi_frequency a.self.frequency) (run_is a.self a.rate a.out.now))
