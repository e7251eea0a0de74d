-- The list of the held keys, and the keys made of a list: what the proof of each function over the keys needs.
-- Assumes nothing.
use Rattle.std.specs.Prelude.{Option}
use mathlib.Core.Path.{◌≡◌, refl, ◌∙◌}
use mathlib.Core.Bool.{Bool, true, false}
use mathlib.Core.List.{List, [], ◌∷◌, ◌++◌}
use Prim.Native.Nat.{ℕ, suc, min, ◌+◌, ◌-◌, ◌≤◌, ◌<◌}
use native.Mathlib.Numerals.{add-one, sub-one}
use native.Mathlib.Omega.{arith}
use lib.Dec.{leb}
use borrow.Author.Tests.{leb-true, leb-false, lt-ltb, le-ltb}
use lib.ListN.{length, take, get_or, set, length-take}
use lib.Seq.{take_all, length-take-le, take-suc-set, get_or-take}
use Rattle.voice.specs.Keys.{Pair, pairs, held_of, padded, keys_of, pushed, last_of, fall_back_to, released, fell_back_to}
use Rattle.voice.specs.declared.keys.Keys.{Keys}
use Rattle.voice.proofs.Pairs.{unused, pairs-length, pairs-most, pairs_notes, pairs_velocities, pairs_append, pairs-at}

-- never more than 16 are held
pub held-few : (k : Keys) → length k.notes ≡ 16 → length (held_of k) ≤ 16
held-few k h = omega (arith, pairs-most (take k.count k.notes) (take k.count k.velocities), length-take k.count k.notes)

-- two arrays of 16 places
module _ (ns vs : List ℕ) (hn : length ns ≡ 16) (hv : length vs ≡ 16) where
  -- the first c pairs
  abbrev first : ℕ → List Pair
  first c = pairs (take c ns) (take c vs)

  same_length : (c : ℕ) → length (take c ns) ≡ length (take c vs)
  same_length c = rw (length-take c ns, length-take c vs, hn, hv) refl

  -- there are c pairs, but at most 16
  pub first-count : (c : ℕ) → length (first c) ≡ min c 16
  first-count c = rw (pairs-length (take c ns) (take c vs) (same_length c), length-take c ns, hn) refl

  pub first-length : (c : ℕ) → c ≤ 16 → length (first c) ≡ c
  first-length c h = pairs-length (take c ns) (take c vs) (same_length c) ∙ length-take-le c ns (omega arith)

  pub first-few : (c : ℕ) → length (first c) ≤ 16
  first-few c = rw (pairs-length (take c ns) (take c vs) (same_length c), length-take c ns, hn) (omega arith)

  pub first-full : (c : ℕ) → 16 ≤ c → first c ≡ first 16
  first-full c h = rw (take_all c ns (omega arith), take_all c vs (omega arith), take_all 16 ns (omega arith), take_all 16 vs (omega arith)) refl

  -- the pairs do not change if c is cut to the number of pairs
  pub first-cut : (c : ℕ) → first (length (first c)) ≡ first c
  first-cut c = go (leb c 16) refl
    where
      go : (t : Bool) → leb c 16 ≡ t → first (length (first c)) ≡ first c
      go true e = rw (first-length c (leb-true c 16 e)) refl
      go false e =
          let l : 16 ≤ c = omega (arith, leb-false c 16 e) in
          rw (first-full c l, first-length 16 (omega arith)) refl

  -- the keys made of the first c pairs have both arrays cleared from c on
  pub first-held : (a : Option ℕ) (g : Bool) (c : ℕ) → c ≤ 16 → record { active = a; gate = g; notes = padded (take c ns); velocities = padded (take c vs); count = c } ≡ keys_of a g (first c)
  first-held a g c h = rw (pairs_notes (take c ns) (take c vs) (same_length c), pairs_velocities (take c ns) (take c vs) (same_length c), first-length c h) refl

  -- one more pair at the end
  pub first-pushed : (c n v : ℕ) → c < 16 → pairs (take (c + 1) (set ns c n)) (take (c + 1) (set vs c v)) ≡ first c ++ (record { note = n; velocity = v } ∷ [])
  unfolding pairs
  first-pushed c n v h =
      rw (add-one c, take-suc-set ns c n (omega arith), take-suc-set vs c v (omega arith), pairs_append (take c ns) (take c vs) (n ∷ []) (v ∷ []) (same_length c)) refl

  pub pushed_grows : (c n v : ℕ) → length (first c) < 16
      → pairs (take (length (first c) + 1) (set ns (length (first c)) n)) (take (length (first c) + 1) (set vs (length (first c)) v)) ≡ pushed (first c) (record { note = n; velocity = v })
  pushed_grows c n v h = rw (first-pushed (length (first c)) n v h, first-cut c, lt-ltb (length (first c)) 16 h) refl

  pub pushed-stays : (c n v : ℕ) → 16 ≤ length (first c) → first (length (first c)) ≡ pushed (first c) (record { note = n; velocity = v })
  pushed-stays c n v h = rw (first-cut c, le-ltb (length (first c)) 16 h) refl

-- ---- the last held pair
last-is : (p : Pair) (ps : List Pair) → last_of p ps ≡ get_or (p ∷ ps) (length ps) unused
unfolding last_of
last-is p [] = refl
last-is p (q ∷ ps) = last-is q ps

pub fall-none : (k : Keys) (ps : List Pair) → length ps ≡ 0 → fall_back_to k ps ≡ released k
fall-none k [] h = refl
fall-none k (p ∷ ps) h = absurd (omega arith)

fall-last : (k : Keys) (ps : List Pair) → (length ps ≡ 0 → ⊥) → fall_back_to k ps ≡ fell_back_to k (get_or ps (length ps - 1) unused)
fall-last k [] h = absurd (h refl)
fall-last k (p ∷ ps) h = rw (sub-one (suc (length ps)), last-is p ps) refl

-- if a key is held, the last pair is at index length - 1 of both arrays, where length is that of the held list
pub held-last : (k : Keys) → (length (held_of k) ≡ 0 → ⊥)
    → fall_back_to k (held_of k) ≡ fell_back_to k (record { note = get_or k.notes (length (held_of k) - 1) 0; velocity = get_or k.velocities (length (held_of k) - 1) 0 })
held-last k h =
    let i = length (held_of k) - 1 in
    let l : i < length (held_of k) = omega arith in
    let m : i < k.count = omega (arith, pairs-most (take k.count k.notes) (take k.count k.velocities), length-take k.count k.notes) in
    rw (fall-last k (held_of k) h, pairs-at i (take k.count k.notes) (take k.count k.velocities) l, get_or-take k.count k.notes i 0 m, get_or-take k.count k.velocities i 0 m) refl
