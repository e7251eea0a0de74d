-- Two lists side by side: joined and separated again. Assumes nothing.
use mathlib.Core.Path.{◌≡◌, refl, ap}
use mathlib.Core.List.{List, [], ◌∷◌, ◌++◌, map}
use Prim.Native.Nat.{ℕ, zero, suc, ◌≤◌, ◌<◌}
use native.Mathlib.Omega.{arith}
use lib.ListN.{length, get_or}
use Rattle.voice.specs.Keys.{Pair, note_of, velocity_in, pairs}

-- ---- two lists of the same length
pub pairs-length : (ns vs : List ℕ) → length ns ≡ length vs → length (pairs ns vs) ≡ length ns
unfolding pairs
pairs-length [] vs h = refl
pairs-length (n ∷ ns) [] h = absurd (omega arith)
pairs-length (n ∷ ns) (v ∷ vs) h = ap suc (pairs-length ns vs (omega arith))

pub pairs_notes : (ns vs : List ℕ) → length ns ≡ length vs → map note_of (pairs ns vs) ≡ ns
unfolding pairs
pairs_notes [] vs h = refl
pairs_notes (n ∷ ns) [] h = absurd (omega arith)
pairs_notes (n ∷ ns) (v ∷ vs) h = ap (λ (l : List ℕ). n ∷ l) (pairs_notes ns vs (omega arith))

pub pairs_velocities : (ns vs : List ℕ) → length ns ≡ length vs → map velocity_in (pairs ns vs) ≡ vs
unfolding pairs
pairs_velocities [] [] h = refl
pairs_velocities [] (v ∷ vs) h = absurd (omega arith)
pairs_velocities (n ∷ ns) [] h = absurd (omega arith)
pairs_velocities (n ∷ ns) (v ∷ vs) h = ap (λ (l : List ℕ). v ∷ l) (pairs_velocities ns vs (omega arith))

pub pairs_append : (ns vs ns' vs' : List ℕ) → length ns ≡ length vs → pairs (ns ++ ns') (vs ++ vs') ≡ pairs ns vs ++ pairs ns' vs'
unfolding pairs
pairs_append [] [] ns' vs' h = refl
pairs_append [] (v ∷ vs) ns' vs' h = absurd (omega arith)
pairs_append (n ∷ ns) [] ns' vs' h = absurd (omega arith)
pairs_append (n ∷ ns) (v ∷ vs) ns' vs' h = ap (λ (l : List Pair). record { note = n; velocity = v } ∷ l) (pairs_append ns vs ns' vs' (omega arith))

-- ---- lists of any lengths: no more pairs than notes
pub pairs-most : (ns vs : List ℕ) → length (pairs ns vs) ≤ length ns
unfolding pairs
pairs-most [] vs = omega arith
pairs-most (n ∷ ns) [] = omega arith
pairs-most (n ∷ ns) (v ∷ vs) = omega (arith, pairs-most ns vs)

-- ---- the pair at i
abbrev pub unused : Pair
unused = record { note = 0; velocity = 0 }

pub pairs-at : (i : ℕ) (ns vs : List ℕ) → i < length (pairs ns vs) → get_or (pairs ns vs) i unused ≡ record { note = get_or ns i 0; velocity = get_or vs i 0 }
unfolding pairs
pairs-at i [] vs h = absurd (omega arith)
pairs-at i (n ∷ ns) [] h = absurd (omega arith)
pairs-at zero (n ∷ ns) (v ∷ vs) h = refl
pairs-at (suc i) (n ∷ ns) (v ∷ vs) h = pairs-at i ns vs (omega arith)

-- ---- a list of pairs, separated and joined again
pub pairs_again : (ps : List Pair) → pairs (map note_of ps) (map velocity_in ps) ≡ ps
unfolding pairs
pairs_again [] = refl
pairs_again (p ∷ ps) = ap (λ (l : List Pair). p ∷ l) (pairs_again ps)
