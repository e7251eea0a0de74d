-- `high_notes::rounded_blamp` meets its contract. Assumes nothing.
use mathlib.Core.Path.{◌∙◌}
use lib.Ieee.{Float}
use Rattle.floats.specs.Double.{◌⊕◌, ◌⊗◌}
use Rattle.polyblep.specs.Polyblep.{third, rounded_blamp_of}
use Rattle.high_notes.proofs.Remaking.{knee-is}
use Rattle.high_notes.proofs.rounded_blamp.Goals as goal

pub returns : goal.returns
unfolding rounded_blamp_of
returns c = let t = c.args.t in let dt = c.args.dt in c.select.ensures ∙ rw (c.knee.ensures, c.is_near.ensures) (knee-is (λ (z : Float). (z ⊕ third) ⊗ dt) t dt)
