-- `high_notes::square_apart` meets its contract. Assumes nothing.
use mathlib.Core.Path.{refl, sym, ◌∙◌}
use lib.Ieee.{Float}
use Rattle.polyblep.specs.Polyblep.{square_of, blep_of}
use Rattle.high_notes.proofs.Remaking.{half-low}
use Rattle.high_notes.proofs.Edges.{nearer_is, no_blep}
use Rattle.high_notes.proofs.square_apart.Goals as goal

pub fract-requires : goal.fract-requires
fract-requires c = half-low c.args.u c.requires.0

pub returns : goal.returns
unfolding square_of
returns c = let u = c.args.u in let dt = c.args.dt in let (first, other) = c.requires.1 u c.requires.0 in
    nearer_is c.naive_pulse.result (λ (t : Float). blep_of t dt) _ u c.fract.result _ _ _ _ c.select.ensures c.blep-c.ensures c.select-2.ensures c.select-3.ensures (λ e. no_blep u dt (first (sym c.is_second-second.ensures ∙ e)))
    (λ e. rw c.fract.ensures (no_blep _ dt (other (sym c.is_second-second.ensures ∙ e))))
    ∙ rw (c.naive_pulse.ensures, c.fract.ensures) refl
