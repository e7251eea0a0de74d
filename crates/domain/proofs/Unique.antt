-- Two outcomes that meet a public function's statement are equal: each statement is an equation with one definition of
-- specs/Domain.antt. Assumes nothing.
use mathlib.Core.Path.{◌≡◌, sym, ◌∙◌}
use mathlib.Core.Bool.{Bool}
use Prim.Native.Nat.{ℕ}
use lib.Ieee.{Float}
use Rattle.domain.specs.Domain.{is_phase, is_duty, is_rate, is_depth, is_radians, is_midi}

pub is_phase_unique : (t dt : Float) (r u : Bool) → r ≡ is_phase t dt → u ≡ is_phase t dt → r ≡ u
is_phase_unique t dt r u p q = p ∙ sym q

pub is_duty_unique : (duty : Float) (r t : Bool) → r ≡ is_duty duty → t ≡ is_duty duty → r ≡ t
is_duty_unique duty r t p q = p ∙ sym q

pub is_rate_unique : (rate : ℕ) (r t : Bool) → r ≡ is_rate rate → t ≡ is_rate rate → r ≡ t
is_rate_unique rate r t p q = p ∙ sym q

pub is_depth_unique : (depth : Float) (r t : Bool) → r ≡ is_depth depth → t ≡ is_depth depth → r ≡ t
is_depth_unique depth r t p q = p ∙ sym q

pub is_radians_unique : (phase : Float) (r t : Bool) → r ≡ is_radians phase → t ≡ is_radians phase → r ≡ t
is_radians_unique phase r t p q = p ∙ sym q

pub is_midi_unique : (n : ℕ) (r t : Bool) → r ≡ is_midi n → t ≡ is_midi n → r ≡ t
is_midi_unique n r t p q = p ∙ sym q
