-- The limits of the keys: what they say of the held list, and that keys made of a list in range are within them.
-- Assumes nothing.
use Rattle.std.specs.Prelude.{Option}
use mathlib.Core.Path.{◌≡◌, refl, ap, sym, ◌∙◌}
use mathlib.Core.Bool.{Bool, ◌&&◌}
use mathlib.Core.List.{List, [], ◌∷◌, ◌++◌, map}
use Prim.Native.Nat.{ℕ, zero, suc, ◌+◌, ◌-◌, ◌≤◌}
use native.Mathlib.Omega.{arith}
use lib.Dec.{T, leb, leb→le, le→leb}
use lib.ListN.{length, take, drop, get_or, replicate, length-take, length-drop, length-map, take-append-drop}
use lib.Seq.{take_at, drop_at, get_or-drop, length-take-le}
use lib.Ieee.Fits.{and_i, and_l, and_r}
use Rattle.voice.specs.Keys.{Pair, note_of, velocity_in, pairs, held_of, padded, keys_of, at_most, is_filled, is_gate_right, is_keys}
use Rattle.voice.specs.declared.keys.Keys.{Keys}
use Rattle.voice.proofs.Pairs.{pairs-length, pairs-most, pairs_notes, pairs_velocities, pairs_again}

-- each note and each velocity is at most 127
pub record Ranged (p : Pair) : Type 0 where
  pub note_in : p.note ≤ 127
  pub velocity_in_lem : p.velocity ≤ 127

unfoldable pub AllRanged : List Pair → Type 0
AllRanged [] = Unit
AllRanged (p ∷ ps) = Ranged p × AllRanged ps

-- ---- the parts of the test
module _ (k : Keys) (t : T (is_keys k)) where
  abbrev sounding : Bool
  sounding = is_gate_right k.active k.gate

  abbrev counted : Bool
  counted = leb k.count 16

  abbrev notes_filled : Bool
  notes_filled = is_filled k.count k.notes

  abbrev velocities_filled : Bool
  velocities_filled = is_filled k.count k.velocities

  pub keys_sound : T (is_gate_right k.active k.gate)
  unfolding is_keys
  keys_sound = and_l sounding counted (and_l (sounding && counted) notes_filled (and_l (sounding && counted && notes_filled) velocities_filled t))

  pub keys-few : k.count ≤ 16
  unfolding is_keys
  keys-few = leb→le k.count 16 (and_r sounding counted (and_l (sounding && counted) notes_filled (and_l (sounding && counted && notes_filled) velocities_filled t)))

  notes_in : T (is_filled k.count k.notes)
  unfolding is_keys
  notes_in = and_r (sounding && counted) notes_filled (and_l (sounding && counted && notes_filled) velocities_filled t)

  velocities_in : T (is_filled k.count k.velocities)
  unfolding is_keys
  velocities_in = and_r (sounding && counted && notes_filled) velocities_filled t

-- ---- bytes that are at most 0 are zeros, and zeros pass
zeros_are : (xs : List ℕ) → T (at_most 0 xs) → xs ≡ replicate (length xs) 0
unfolding at_most
zeros_are [] t = refl
zeros_are (x ∷ xs) t =
    let z : x ≡ 0 = omega (arith, leb→le x 0 (and_l (leb x 0) (at_most 0 xs) t)) in
    rw (z, sym (zeros_are xs (and_r (leb x 0) (at_most 0 xs) t))) refl

zero-at : (xs : List ℕ) (i : ℕ) → T (at_most 0 xs) → get_or xs i 0 ≡ 0
unfolding at_most
zero-at [] i t = refl
zero-at (x ∷ xs) zero t = omega (arith, leb→le x 0 (and_l (leb x 0) (at_most 0 xs) t))
zero-at (x ∷ xs) (suc i) t = zero-at xs i (and_r (leb x 0) (at_most 0 xs) t)

at_most_zeros : (n : ℕ) → T (at_most 0 (replicate n 0))
unfolding at_most
at_most_zeros zero = tt
at_most_zeros (suc n) = at_most_zeros n

-- ---- the held list of keys within the limits is in range
pairs_ranged : (ns vs : List ℕ) → T (at_most 127 ns) → T (at_most 127 vs) → AllRanged (pairs ns vs)
unfolding at_most pairs AllRanged
pairs_ranged [] vs s t = tt
pairs_ranged (n ∷ ns) [] s t = tt
pairs_ranged (n ∷ ns) (v ∷ vs) s t = (
  record { note_in = leb→le n 127 (and_l (leb n 127) (at_most 127 ns) s); velocity_in_lem = leb→le v 127 (and_l (leb v 127) (at_most 127 vs) t) },
  pairs_ranged ns vs (and_r (leb n 127) (at_most 127 ns) s) (and_r (leb v 127) (at_most 127 vs) t),
)

pub held_ranged : (k : Keys) → T (is_keys k) → AllRanged (held_of k)
held_ranged k t =
    pairs_ranged (take k.count k.notes) (take k.count k.velocities)
    (and_l (at_most 127 (take k.count k.notes)) (at_most 0 (drop k.count k.notes)) (notes_in k t))
    (and_l (at_most 127 (take k.count k.velocities)) (at_most 0 (drop k.count k.velocities)) (velocities_in k t))

pub held-few : (k : Keys) → T (is_keys k) → length (held_of k) ≤ 16
held-few k t =
    omega (arith, keys-few k t, pairs-most (take k.count k.notes) (take k.count k.velocities), length-take k.count k.notes)

past : (c i : ℕ) (xs : List ℕ) → T (is_filled c xs) → c ≤ i → get_or xs i 0 ≡ 0
past c i xs t h =
    let e : c + (i - c) ≡ i = omega arith in
    ap (λ (j : ℕ). get_or xs j 0) (sym e) ∙ sym (get_or-drop c xs (i - c) 0) ∙ zero-at (drop c xs) (i - c) (and_r (at_most 127 (take c xs)) (at_most 0 (drop c xs)) t)

-- every unused pair is 0
pub unused-zero : (k : Keys) (i : ℕ) → T (is_keys k) → k.count ≤ i → (get_or k.notes i 0 ≡ 0) × (get_or k.velocities i 0 ≡ 0)
unused-zero k i t h = (past k.count i k.notes (notes_in k t) h, past k.count i k.velocities (velocities_in k t) h)

-- ---- keys made of a list in range are within the limits
notes_at_most : (ps : List Pair) → AllRanged ps → T (at_most 127 (map note_of ps))
unfolding at_most AllRanged
notes_at_most [] r = tt
notes_at_most (p ∷ ps) r = and_i (leb p.note 127) (at_most 127 (map note_of ps)) (le→leb p.note 127 r.0.note_in) (notes_at_most ps r.1)

velocities_at_most : (ps : List Pair) → AllRanged ps → T (at_most 127 (map velocity_in ps))
unfolding at_most AllRanged
velocities_at_most [] r = tt
velocities_at_most (p ∷ ps) r =
    and_i (leb p.velocity 127) (at_most 127 (map velocity_in ps)) (le→leb p.velocity 127 r.0.velocity_in_lem) (velocities_at_most ps r.1)

padded-filled : (xs : List ℕ) (c : ℕ) → length xs ≡ c → T (at_most 127 xs) → T (is_filled c (padded xs))
padded-filled xs c h t =
    let z = replicate {A = ℕ} (16 - length xs) 0 in
    rw (take_at xs z c h, drop_at xs z c h) (and_i (at_most 127 xs) (at_most 0 z) t (at_most_zeros (16 - length xs)))

pub holds_limits : (a : Option ℕ) (g : Bool) (ps : List Pair) → T (is_gate_right a g) → length ps ≤ 16 → AllRanged ps → T (is_keys (keys_of a g ps))
unfolding is_keys
holds_limits a g ps s l r =
    let c = length ps in
    let fn = is_filled c (padded (map note_of ps)) in
    let fv = is_filled c (padded (map velocity_in ps)) in
    and_i (is_gate_right a g && leb c 16 && fn) fv
    (and_i (is_gate_right a g && leb c 16) fn (and_i (is_gate_right a g) (leb c 16) s (le→leb c 16 l)) (padded-filled (map note_of ps) c (length-map ps note_of) (notes_at_most ps r)))
    (padded-filled (map velocity_in ps) c (length-map ps velocity_in) (velocities_at_most ps r))

-- ---- from keys to list and back
-- the held list of the keys made of ps is ps
pub held_again : (a : Option ℕ) (g : Bool) (ps : List Pair) → held_of (keys_of a g ps) ≡ ps
held_again a g ps =
    rw (take_at (map note_of ps) _ (length ps) (length-map ps note_of), take_at (map velocity_in ps) _ (length ps) (length-map ps velocity_in)) (pairs_again ps)

filled_again : (c : ℕ) (xs : List ℕ) → length xs ≡ 16 → c ≤ 16 → T (is_filled c xs) → padded (take c xs) ≡ xs
filled_again c xs h l t =
    let z = zeros_are (drop c xs) (and_r (at_most 127 (take c xs)) (at_most 0 (drop c xs)) t) in
    rw (length-take-le c xs (omega arith)) (ap (λ (n : ℕ). take c xs ++ replicate n 0) (sym (length-drop c xs ∙ ap (λ (n : ℕ). n - c) h)) ∙ ap (λ (d : List ℕ). take c xs ++ d) (sym z) ∙ take-append-drop c xs)

-- keys within the limits, with arrays of 16, are the keys made of their own held list
module _ (k : Keys) (hn : length k.notes ≡ 16) (hv : length k.velocities ≡ 16) (t : T (is_keys k)) where
  same_length : length (take k.count k.notes) ≡ length (take k.count k.velocities)
  same_length = rw (length-take k.count k.notes, length-take k.count k.velocities, hn, hv) refl

  -- the count is the length of the held list
  pub count-is : length (held_of k) ≡ k.count
  count-is =
      pairs-length (take k.count k.notes) (take k.count k.velocities) same_length ∙ length-take-le k.count k.notes (omega (arith, keys-few k t))

  pub keys_again : keys_of k.active k.gate (held_of k) ≡ k
  keys_again =
      let c = k.count in
      rw (
        pairs_notes (take c k.notes) (take c k.velocities) same_length,
        pairs_velocities (take c k.notes) (take c k.velocities) same_length,
        count-is,
        filled_again c k.notes hn (keys-few k t) (notes_in k t),
        filled_again c k.velocities hv (keys-few k t) (velocities_in k t),
      ) refl
