-- Two outcomes that meet a public function's statement are equal: each statement is an equation with one definition of
-- specs/. Assumes nothing.
use Rattle.std.proofs.Common.{◌≡◌, List, sym, ◌∙◌}
use lib.Ieee.{Float}
use Rattle.lanes.specs.declared.Lanes.{Lanes}
use Rattle.lanes.specs.Calls.{poly_blep_simd_of, poly_blamp_simd_of, apply_polyblep_saw_of, apply_polyblep_square_of, apply_polyblep_pulse_of, apply_polyblamp_triangle_of}

pub poly_blep_simd_unique : (t dt : List Float) (r s : Lanes) → r ≡ poly_blep_simd_of t dt → s ≡ poly_blep_simd_of t dt → r ≡ s
poly_blep_simd_unique t dt r s p q = p ∙ sym q

pub poly_blamp_simd_unique : (t dt : List Float) (r s : Lanes) → r ≡ poly_blamp_simd_of t dt → s ≡ poly_blamp_simd_of t dt → r ≡ s
poly_blamp_simd_unique t dt r s p q = p ∙ sym q

pub apply_polyblep_saw_unique : (xs ps : List Float) (dt : Float) (r s : Lanes) → r ≡ apply_polyblep_saw_of xs ps dt → s ≡ apply_polyblep_saw_of xs ps dt → r ≡ s
apply_polyblep_saw_unique xs ps dt r s p q = p ∙ sym q

pub apply_polyblep_square_unique : (xs ps : List Float) (dt : Float) (r s : Lanes) → r ≡ apply_polyblep_square_of xs ps dt → s ≡ apply_polyblep_square_of xs ps dt → r ≡ s
apply_polyblep_square_unique xs ps dt r s p q = p ∙ sym q

pub apply_polyblep_pulse_unique : (xs ps : List Float) (dt duty : Float) (r s : Lanes) → r ≡ apply_polyblep_pulse_of xs ps dt duty → s ≡ apply_polyblep_pulse_of xs ps dt duty → r ≡ s
apply_polyblep_pulse_unique xs ps dt duty r s p q = p ∙ sym q

pub apply_polyblamp_triangle_unique : (xs ps : List Float) (dt : Float) (r s : Lanes) → r ≡ apply_polyblamp_triangle_of xs ps dt → s ≡ apply_polyblamp_triangle_of xs ps dt → r ≡ s
apply_polyblamp_triangle_unique xs ps dt r s p q = p ∙ sym q
