-- In the domain every lane's value is finite: a correction is at most 16 in size, as the single one is, and a given
-- sample, however large, stays finite under corrections of that size. Assumes nothing.
use Rattle.std.proofs.Common.{◌≡◌, Bool, true, false, not, T, sym, subst}
use lib.Ieee.{Float, binary64, of_bits, neg, add, mul, lt, le, fits}
use lib.Ieee.Fits.{and_i, and_r}
use lib.Ieee.Scale.{finite}
use Rattle.floats.specs.Range.{largest}
use Rattle.floats.specs.Double.{◌⊕◌, ◌⊖◌, ◌⊘◌, half, one, eight}
use Rattle.floats.proofs.Largest.{finite-at_most, finite-at-least}
use Rattle.floats.proofs.Bounded.{Size, size_own}
use Rattle.floats.proofs.Expression.{leaf, ◌⊹◌, ◌⊸◌, ◌⊛◌}
use Rattle.domain.specs.Domain.{is_duty}
use Rattle.polyblep.specs.Polyblep.{fract_of, saw_by, square_by, pulse_by, triangle_by}
use Rattle.polyblep.proofs.Finite.{Domain, sixteen, finite_of, blep_before_lem, blamp_before_lem, dt_size, near_before, blep-size, blamp-size, half_on, duty_on, unit_size}
use Rattle.lanes.specs.Lanes.{blep_lane, blamp_lane}
use Rattle.lanes.specs.Single.{both_hold, Rule}
use Rattle.lanes.proofs.Rules.{blep_rule, blamp_rule}

-- ---- the corrections
module _ (t dt : Float) (h : Domain t dt) where
  -- a correction that follows the rule is at most 16 in size, if the single one and its value before the step are
  lane-size : {after before single lane : Float} → Rule t dt after before single lane → (T (lt (one ⊖ dt) t) → Size sixteen before) → Size sixteen single → Size sixteen lane
  lane-size {after} {before} {single} {lane} r b s = go (both_hold t dt) r.lane-is r.elsewhere (λ (p : T (both_hold t dt)). b (and_r (lt t dt) (lt (one ⊖ dt) t) p))
    where
      go : (c : Bool) → (T c → lane ≡ before) → (T (not c) → lane ≡ single) → (T c → Size sixteen before) → Size sixteen lane
      go true p q k = subst (Size sixteen) (sym (p tt)) (k tt)
      go false p q k = subst (Size sixteen) (sym (q tt)) s

  pub blep_lane-size : Size sixteen (blep_lane t dt)
  blep_lane-size = lane-size (blep_rule t dt) (λ (l : T (lt (one ⊖ dt) t)). blep_before_lem ((t ⊖ one) ⊘ dt) dt (near_before t dt h l) (dt_size t dt h)) (blep-size t dt h)

  pub blamp_lane-size : Size sixteen (blamp_lane t dt)
  blamp_lane-size = lane-size (blamp_rule t dt) (λ (l : T (lt (one ⊖ dt) t)). blamp_before_lem ((t ⊖ one) ⊘ dt) dt (near_before t dt h l) (dt_size t dt h)) (blamp-size t dt h)

-- ---- the apply calls: a finite sample x, at the phase p
own_eight : Size eight eight
own_eight = size_own eight (unfold of_bits in tt)

module _ (x p dt : Float) (w : T (fits binary64 x)) (k : T (finite x)) (h : Domain p dt) where
  x_size : Size (largest binary64) x
  x_size = record { bound = tt; between = and_i (le (neg (largest binary64)) x) (le x (largest binary64)) (finite-at-least binary64 x w k) (finite-at_most binary64 x w k) }

  pub saw-finite : T (finite (saw_by blep_lane x p dt))
  saw-finite = finite_of (leaf (largest binary64) x ⊸ leaf sixteen (blep_lane p dt)) (x_size, blep_lane-size p dt h) (unfold of_bits in unfold add in tt)

  -- corrected at p, and at q, which is from the other edge
  edged_finite : (q : Float) → Domain q dt → T (finite (x ⊕ blep_lane p dt ⊖ blep_lane q dt))
  edged_finite q j = finite_of (leaf (largest binary64) x ⊹ leaf sixteen (blep_lane p dt) ⊸ leaf sixteen (blep_lane q dt)) ((x_size, blep_lane-size p dt h), blep_lane-size q dt j) (unfold of_bits in unfold add in tt)

  pub square-finite : T (finite (square_by blep_lane x p dt))
  square-finite = edged_finite (fract_of (p ⊕ half)) (half_on p dt h)

  pub pulse-finite : (duty : Float) → T (is_duty duty) → T (finite (pulse_by blep_lane x p dt duty))
  pulse-finite duty d = edged_finite (fract_of (p ⊖ duty ⊕ one)) (duty_on p dt h duty (unit_size duty d))

  pub triangle-finite : T (finite (triangle_by eight blamp_lane x p dt))
  triangle-finite =
      finite_of (leaf (largest binary64) x ⊹ leaf eight eight ⊛ leaf sixteen (blamp_lane p dt) ⊸ leaf eight eight ⊛ leaf sixteen (blamp_lane (fract_of (p ⊕ half)) dt))
      ((x_size, (own_eight, blamp_lane-size p dt h)), (own_eight, blamp_lane-size (fract_of (p ⊕ half)) dt (half_on p dt h))) (unfold of_bits in unfold add in unfold mul in tt)
