-- `spans::Player::play_span` meets its contract. Assumes nothing.
use native.Mathlib.Omega.{arith}
use Rattle.spans.proofs.Sounding.{sounding_long, sounding}
use Rattle.spans.proofs.Player.play_span.Goals as goal

pub sway-lfo-requires : goal.sway-lfo-requires
sway-lfo-requires c = omega (arith, c.requires, sounding_long _ _ _ _ _ _ _ _ _ _ _ _ _ c.fill_in-phase.ensures c.scale-envelope.ensures)

pub returns : goal.returns
returns c = let p = c.args.self.now in sounding p.settings c.args.state p.wave.now _ _ _ _ _ _ _ _ _ _ p.wave_table c.increment-step.ensures c.clamped.ensures c.sample_time.ensures c.fill_in-phase.ensures c.scale-envelope.ensures c.sway-lfo.ensures
