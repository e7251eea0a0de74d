-- `lanes::poly_blep_simd` meets its contract. Assumes nothing.
use Rattle.std.proofs.Common.{refl, rules}
use Rattle.lanes.specs.Lanes.{blep_lane}
use Rattle.lanes.proofs.poly_blep_simd.Goals as goal

pub returns : goal.returns
returns c = rw (c.lanes_if.ensures, c.both.ensures blep_lane (λ a b r h. search rules), c.are_phases.ensures) refl
