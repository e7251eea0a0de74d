-- `lanes::apply_polyblep_pulse` meets its contract. Assumes nothing.
use Rattle.std.proofs.Common.{refl, rules}
use Rattle.polyblep.specs.Polyblep.{pulse_by}
use Rattle.lanes.specs.Lanes.{blep_lane}
use Rattle.lanes.proofs.apply_polyblep_pulse.Goals as goal

pub returns : goal.returns
returns c = rw (c.lanes_if.ensures, c.both-corrected.ensures (λ x p. pulse_by blep_lane x p c.args.phase_inc c.args.duty_cycle) (λ x p r h. search rules), c.are_taken.ensures, c.is_duty.ensures) refl
