-- The phase stays from 0 to 1: from an accepted state every call hands back an accepted one. 01: "The comment claims
-- [0, 1); the true range is 0 to 1, both ends reached". An accumulator is `Good` where it is accepted and its fields
-- are values of an f32, as the fields of every accumulator of the code are. Assumes nothing.
use mathlib.Core.Path.{◌≡◌, refl}
use mathlib.Core.List.{List, [], ◌∷◌}
use mathlib.Core.Bool.{◌&&◌}
use lib.Dec.{T}
use lib.Ieee.{Float, binary32, add, div, lt, le, fits, of_bits}
use lib.Ieee.Fits.{and_i, and_l, and_r, add-fits, sub-fits, div-fits}
use lib.Ieee.Bits.{of_bits-fits}
use lib.Ieee.Scale.{finite}
use Rattle.floats.specs.Range.{plus_zero, plus_one, zero_of, one_of, within}
use Rattle.floats.specs.Floor.{floor_of}
use Rattle.floats.proofs.Literals.{zero_of-is, one_of-is}
use Rattle.floats.proofs.Fraction.{fraction_in}
use Rattle.floats.proofs.Largest.{add-finite_unit}
use Rattle.answers.specs.declared.Changed.{Changed}
use Rattle.answers.specs.declared.Refusal.TheVariants.{Argument}
use Rattle.answers.specs.Order.{unless}
use Rattle.answers.proofs.Order.{held, first_keeps}
use Rattle.phase.specs.Phase.{is_state, wrap_of, with_phase, with_increment}
use Rattle.phase.specs.Phase.{new_of, set_frequency_of, set_increment_of, next_of, set_phase_of, reset_of}
use Rattle.phase.specs.declared.Cycles.{Cycles}
use Rattle.phase.specs.declared.PhaseAccumulator.{PhaseAccumulator}
use Rattle.phase.specs.declared.Stepped.{Stepped}

pub record Good (a : PhaseAccumulator) : Type 0 where
  pub phase-fits : T (fits binary32 a.phase.0)
  pub increment-fits : T (fits binary32 a.increment.0)
  pub accepted : T (is_state a)

-- the range from the literal 0.0 to the literal 1.0 is that from `plus_zero` to `plus_one`
unit_is : (x : Float) → within (zero_of binary32) (one_of binary32) x ≡ within plus_zero plus_one x
unit_is x = rw (zero_of-is binary32, one_of-is binary32) refl

pub wrap_in : (x : Float) → T (fits binary32 x) → T (finite x) → T (within (zero_of binary32) (one_of binary32) (wrap_of x))
wrap_in x w h = rw (unit_is (wrap_of x)) (fraction_in binary32 x w h)

pub new_good : Good new_of
new_good = record { phase-fits = of_bits-fits binary32 0; increment-fits = of_bits-fits binary32 0; accepted = unfold of_bits in unfold le in tt }

module _ (a : PhaseAccumulator) (g : Good a) where
  phase_in : T (within (zero_of binary32) (one_of binary32) a.phase.0)
  phase_in = and_l (within (zero_of binary32) (one_of binary32) a.phase.0) (finite a.increment.0) g.accepted

  increment-finite : T (finite a.increment.0)
  increment-finite = and_r (within (zero_of binary32) (one_of binary32) a.phase.0) (finite a.increment.0) g.accepted

  -- phase + increment is finite: 1 plus the largest f32 rounds to the largest f32
  sum-finite : T (finite (add binary32 a.phase.0 a.increment.0))
  sum-finite = add-finite_unit binary32 a.phase.0 a.increment.0 g.increment-fits increment-finite (rw (unit_is a.phase.0) at phase_in)

  at-phase : (x : Float) → T (fits binary32 x) → T (within (zero_of binary32) (one_of binary32) x) → Good (with_phase a x)
  at-phase x w p = record { phase-fits = w; increment-fits = g.increment-fits; accepted = and_i (within (zero_of binary32) (one_of binary32) x) (finite a.increment.0) p increment-finite }

  at-increment : (x : Float) → T (fits binary32 x) → T (finite x) → Good (with_increment a x)
  at-increment x w p = record { phase-fits = g.phase-fits; increment-fits = w; accepted = and_i (within (zero_of binary32) (one_of binary32) a.phase.0) (finite x) phase_in p }

  at-wrap : (x : Float) → T (fits binary32 x) → T (finite x) → Good (with_phase a (wrap_of x))
  at-wrap x w p = at-phase (wrap_of x) (sub-fits binary32 x (floor_of binary32 x)) (wrap_in x w p)

  pub set_frequency_keeps : (f r : Float) → Good (set_frequency_of a f r).state
  set_frequency_keeps f r =
      let q = div binary32 f r in
      let before = is_state a && finite f && finite r && lt (zero_of binary32) r in
      first_keeps (unless (before && finite q) Argument) _ _ (λ (s : Changed PhaseAccumulator). Good s.state) (λ why. g) (λ e. at-increment q (div-fits binary32 f r) (and_r before (finite q) (held (before && finite q) Argument e)))

  pub set_increment_keeps : (x : Cycles) → T (fits binary32 x.0) → Good (set_increment_of a x).state
  set_increment_keeps x w = first_keeps (unless (is_state a && finite x.0) Argument) _ _ (λ (r : Changed PhaseAccumulator). Good r.state) (λ why. g) (λ e. at-increment x.0 w (and_r (is_state a) (finite x.0) (held (is_state a && finite x.0) Argument e)))

  pub next_keeps : Good (next_of a).accumulator
  next_keeps =
      let sum = add binary32 a.phase.0 a.increment.0 in
      first_keeps (unless (is_state a) Argument) _ _ (λ (r : Stepped). Good r.accumulator) (λ why. g) (λ e. at-wrap sum (add-fits binary32 a.phase.0 a.increment.0) sum-finite)

  pub set_phase_keeps : (x : Cycles) → T (fits binary32 x.0) → Good (set_phase_of a x).state
  set_phase_keeps x w = first_keeps (unless (is_state a && finite x.0) Argument) _ _ (λ (r : Changed PhaseAccumulator). Good r.state) (λ why. g) (λ e. at-wrap x.0 w (and_r (is_state a) (finite x.0) (held (is_state a && finite x.0) Argument e)))

  pub reset_keeps : Good (reset_of a).state
  reset_keeps = first_keeps (unless (is_state a) Argument) _ _ (λ (r : Changed PhaseAccumulator). Good r.state) (λ why. g) (λ e. at-phase (zero_of binary32) (of_bits-fits binary32 0) (unfold of_bits in unfold le in tt))

-- ---- any calls, one after the other
pub data Call : Type 0 where
  frequency : Float → Float → Call
  increment to : Cycles → Call
  step reset : Call

-- the state after a call
abbrev pub after : PhaseAccumulator → Call → PhaseAccumulator
after a (frequency f r) = (set_frequency_of a f r).state
after a (increment x) = (set_increment_of a x).state
after a (to x) = (set_phase_of a x).state
after a step = (next_of a).accumulator
after a reset = (reset_of a).state

-- the cycles that a call is given are values of an f32
abbrev pub Given : Call → Type 0
Given (frequency f r) = Unit
Given (increment x) = T (fits binary32 x.0)
Given (to x) = T (fits binary32 x.0)
Given step = Unit
Given reset = Unit

after_keeps : (a : PhaseAccumulator) (c : Call) → Good a → Given c → Good (after a c)
after_keeps a (frequency f r) g w = set_frequency_keeps a g f r
after_keeps a (increment x) g w = set_increment_keeps a g x w
after_keeps a (to x) g w = set_phase_keeps a g x w
after_keeps a step g w = next_keeps a g
after_keeps a reset g w = reset_keeps a g

-- the state after the calls of a list, from the state a
unfoldable pub run : PhaseAccumulator → List Call → PhaseAccumulator
run a [] = a
run a (c ∷ cs) = run (after a c) cs

unfoldable pub AllGiven : List Call → Type 0
AllGiven [] = Unit
AllGiven (c ∷ cs) = Given c × AllGiven cs

run_keeps : (a : PhaseAccumulator) (cs : List Call) → Good a → AllGiven cs → Good (run a cs)
unfolding run AllGiven
run_keeps a [] g w = g
run_keeps a (c ∷ cs) g w = run_keeps (after a c) cs (after_keeps a c g w.0) w.1

-- after any calls from `new`, refused ones included, the state is accepted: its phase is 0 to 1
pub stays : (cs : List Call) → AllGiven cs → T (is_state (run new_of cs))
stays cs w = (run_keeps new_of cs new_good w).accepted
