-- `lanes::are_phases` meets its contract. Assumes nothing.
use Rattle.std.proofs.Common.{◌≡◌, refl, ℕ, Bool, true, false, [], ◌∷◌, rules}
use Rattle.std.specs.Prelude.{◌&&◌}
use mathlib.Core.Bool.{beq}
use lib.Pointwise.{pointwise}
use Rattle.domain.specs.Domain.{is_phase}
use Rattle.lanes.specs.Lanes.{lane}
use Rattle.lanes.proofs.are_phases.Goals as goal

-- four tests are equal to four times true where all hold
all_true : (a b c d : Bool) → pointwise beq (a ∷ b ∷ c ∷ d ∷ []) (true ∷ true ∷ true ∷ true ∷ []) ≡ (a && b && c && d)
all_true false b c d = refl
all_true true false c d = refl
all_true true true false d = refl
all_true true true true false = refl
all_true true true true true = refl

pub returns : goal.returns
returns c = rw (c.eq.ensures, c.both.ensures is_phase (λ a b r h. search rules)) (let inside = λ (i : ℕ). is_phase (lane c.args.t i) (lane c.args.dt i) in all_true (inside 0) (inside 1) (inside 2) (inside 3))
