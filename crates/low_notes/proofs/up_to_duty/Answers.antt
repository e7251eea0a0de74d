-- `low_notes::up_to_duty` meets its contract. Assumes nothing.
use borrow.Author.Rules.{rules}
use mathlib.Core.Path.{◌≡◌}
use mathlib.Core.Bool.{true, ◌&&◌}
use Rattle.polyblep.proofs.Clear.{unit_finite, duty_away, and_true}
use Rattle.low_notes.proofs.Segments.{pulse_lines}
use Rattle.low_notes.proofs.up_to_duty.Goals as goal

pub returns : goal.returns
returns c = let dt = c.args.dt in let duty = c.args.duty in
    let passed : (c.is_duty.result && c.is_clear_of_edge.result) ≡ true = search rules in
    let (unit, clear) = and_true _ _ c.is_duty.ensures passed in
    c.on_a_side.ensures dt _ c.in_ok-guess.ensures (unit_finite duty unit)
    (λ t l. let (away, other) = duty_away t _ _ dt duty unit l (c.is_clear_of_edge.ensures clear) in pulse_lines t dt duty away other)
