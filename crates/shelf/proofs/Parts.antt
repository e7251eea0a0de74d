-- What the limits of a state imply beyond the laws of `state`: no float is a NaN, and every note and velocity is a
-- byte. Assumes nothing.
use mathlib.Core.Path.{◌≡◌}
use mathlib.Core.Bool.{Bool, true, not, ◌&&◌}
use mathlib.Core.List.{List, [], ◌∷◌}
use Prim.Native.Nat.{ℕ, zero, suc, ◌≤◌, ◌<◌}
use native.Mathlib.Omega.{arith}
use lib.Dec.{T, leb, leb→le, le→leb}
use lib.ListN.{get_or, take, drop}
use lib.Ieee.{is_nan}
use lib.Ieee.Fits.{and_i, and_l, and_r}
use Rattle.voice.specs.Keys.{at_most, is_filled, is_gate_right, is_keys}
use Rattle.voice.specs.declared.keys.Keys.{Keys}
use Rattle.state.specs.declared.State.{State}
use Rattle.state.specs.Limits.{is_state}
use Rattle.state.proofs.Limits.{state_in, in_finite, no_nan}

-- ---- no NaN
pub record Numbers (v : State) : Type 0 where
  pub phase_number : T (not (is_nan v.phase.0))
  pub level_number : T (not (is_nan v.envelope.level))
  pub time_number : T (not (is_nan v.envelope.stage_time))
  pub release_number : T (not (is_nan v.envelope.release_level))
  pub frequency_number : T (not (is_nan v.frequency))
  pub velocity_number : T (not (is_nan v.velocity))
  pub lfo_number : T (not (is_nan v.lfo.0))

pub all_numbers : (v : State) → is_state v ≡ true → Numbers v
all_numbers v h =
    let f = in_finite v (state_in v h) in
    record {
      phase_number = no_nan v.phase.0 f.phase-finite;
      level_number = no_nan v.envelope.level f.envelope-finite.level-finite;
      time_number = no_nan v.envelope.stage_time f.envelope-finite.time_finite;
      release_number = no_nan v.envelope.release_level f.envelope-finite.release_finite;
      frequency_number = no_nan v.frequency f.frequency-finite;
      velocity_number = no_nan v.velocity f.velocity-finite;
      lfo_number = no_nan v.lfo.0 f.lfo-finite;
    }

-- ---- the keys
at_most_lem : (m : ℕ) (xs : List ℕ) (i : ℕ) → T (at_most m xs) → get_or xs i 0 ≤ m
unfolding at_most
at_most_lem m [] i t = omega arith
at_most_lem m (x ∷ xs) zero t = leb→le x m (and_l (leb x m) (at_most m xs) t)
at_most_lem m (x ∷ xs) (suc i) t = at_most_lem m xs i (and_r (leb x m) (at_most m xs) t)

filled-bytes : (c : ℕ) (xs : List ℕ) (i : ℕ) → T (is_filled c xs) → get_or xs i 0 < 256
unfolding at_most
filled-bytes zero xs i t = omega (arith, at_most_lem 0 xs i t)
filled-bytes (suc c) [] i t = omega arith
filled-bytes (suc c) (x ∷ xs) zero t = omega (arith, leb→le x 127 (and_l (leb x 127) (at_most 127 (take c xs)) (and_l (leb x 127 && at_most 127 (take c xs)) (at_most 0 (drop c xs)) t)))
filled-bytes (suc c) (x ∷ xs) (suc i) t =
    let a = leb x 127 in
    let b = at_most 127 (take c xs) in
    let z = at_most 0 (drop c xs) in
    filled-bytes c xs i (and_i b z (and_r a b (and_l (a && b) z t)) (and_r (a && b) z t))

module _ (k : Keys) where
  abbrev few : Bool
  few = is_gate_right k.active k.gate && leb k.count 16

  abbrev notes : Bool
  notes = is_filled k.count k.notes

  abbrev velocities : Bool
  velocities = is_filled k.count k.velocities

  pub keys_notes : T (is_keys k) → T (is_filled k.count k.notes)
  unfolding is_keys
  keys_notes t = and_r few notes (and_l (few && notes) velocities t)

  pub keys_velocities : T (is_keys k) → T (is_filled k.count k.velocities)
  unfolding is_keys
  keys_velocities t = and_r (few && notes) velocities t

  pub keys_are : T (is_gate_right k.active k.gate) → k.count ≤ 16 → T (is_filled k.count k.notes) → T (is_filled k.count k.velocities) → T (is_keys k)
  unfolding is_keys
  keys_are s c n v = and_i (few && notes) velocities (and_i few notes (and_i (is_gate_right k.active k.gate) (leb k.count 16) s (le→leb k.count 16 c)) n) v

  pub notes_bytes : T (is_keys k) → (i : ℕ) → get_or k.notes i 0 < 256
  notes_bytes t i = filled-bytes k.count k.notes i (keys_notes t)

  pub velocities_bytes : T (is_keys k) → (i : ℕ) → get_or k.velocities i 0 < 256
  velocities_bytes t i = filled-bytes k.count k.velocities i (keys_velocities t)
