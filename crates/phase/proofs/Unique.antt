-- Two outcomes that meet a public function's statement are equal: each statement is an equation with one definition of
-- specs/Phase.antt. Assumes nothing.
use Rattle.std.specs.Prelude.{Result}
use mathlib.Core.Path.{◌≡◌, sym, ◌∙◌}
use lib.Ieee.{Float}
use Rattle.answers.specs.declared.Changed.{Changed}
use Rattle.answers.specs.declared.Refusal.{Refusal}
use Rattle.phase.specs.Phase.{new_of, set_frequency_of, set_increment_of, increment_of, next_of, phase_of, set_phase_of, reset_of}
use Rattle.phase.specs.declared.Cycles.{Cycles}
use Rattle.phase.specs.declared.PhaseAccumulator.{PhaseAccumulator}
use Rattle.phase.specs.declared.Stepped.{Stepped}

pub new_unique : (r t : PhaseAccumulator) → r ≡ new_of → t ≡ new_of → r ≡ t
new_unique r t p q = p ∙ sym q

pub set_frequency_unique : (a : PhaseAccumulator) (f s : Float) (r t : Changed PhaseAccumulator) → r ≡ set_frequency_of a f s → t ≡ set_frequency_of a f s → r ≡ t
set_frequency_unique a f s r t p q = p ∙ sym q

pub set_increment_unique : (a : PhaseAccumulator) (x : Cycles) (r t : Changed PhaseAccumulator) → r ≡ set_increment_of a x → t ≡ set_increment_of a x → r ≡ t
set_increment_unique a x r t p q = p ∙ sym q

pub increment_unique : (a : PhaseAccumulator) (r t : Result Cycles Refusal) → r ≡ increment_of a → t ≡ increment_of a → r ≡ t
increment_unique a r t p q = p ∙ sym q

pub next_unique : (a : PhaseAccumulator) (r t : Stepped) → r ≡ next_of a → t ≡ next_of a → r ≡ t
next_unique a r t p q = p ∙ sym q

pub phase_unique : (a : PhaseAccumulator) (r t : Result Cycles Refusal) → r ≡ phase_of a → t ≡ phase_of a → r ≡ t
phase_unique a r t p q = p ∙ sym q

pub set_phase_unique : (a : PhaseAccumulator) (x : Cycles) (r t : Changed PhaseAccumulator) → r ≡ set_phase_of a x → t ≡ set_phase_of a x → r ≡ t
set_phase_unique a x r t p q = p ∙ sym q

pub reset_unique : (a : PhaseAccumulator) (r t : Changed PhaseAccumulator) → r ≡ reset_of a → t ≡ reset_of a → r ≡ t
reset_unique a r t p q = p ∙ sym q
