-- The actions on the keys: the three cases of lifting a key, and that every action keeps the limits. Assumes nothing.
use Rattle.std.specs.Prelude.{Option, Some, None}
use mathlib.Core.Path.{◌≡◌, refl}
use mathlib.Core.Bool.{Bool, true, false, false≢true, cond}
use mathlib.Core.List.{List, [], ◌∷◌, ◌++◌}
use Prim.Native.Nat.{ℕ, suc, ◌≤◌}
use native.Mathlib.Omega.{arith}
use lib.Dec.{T, ltb, leb, eqb, le→leb}
use borrow.Author.Tests.{ltb-true}
use lib.ListN.{length, length-append}
use lib.Ieee.Fits.{and_i, and_r}
use Rattle.voice.specs.Keys.{Pair, held_of, keys_of, pushed, others, last_of, is_sounding, fall_back_to, pressed_of, without_of, lifted_of, is_gate_right, is_keys}
use Rattle.voice.specs.declared.keys.NoteOff.{NoteOff}
use Rattle.voice.specs.declared.keys.NoteOff.TheVariants.{Released, FellBack, NoChange}
use Rattle.voice.specs.declared.keys.Keys.{Keys}
use Rattle.voice.specs.declared.keys.AfterLift.{AfterLift}
use Rattle.voice.proofs.Limits.{Ranged, AllRanged, keys_sound, held_ranged, held-few, holds_limits, held_again}

-- ---- lifting n
module _ (k : Keys) (n : ℕ) where
  -- n does not sound: only the held keys change
  pub lift_keeps_sound : is_sounding k.active n ≡ false → lifted_of k n ≡ record { keys = keys_of k.active k.gate (others n (held_of k)); off = NoChange }
  unfolding lifted_of without_of
  lift_keeps_sound e = rw e refl

  sounded : is_sounding k.active n ≡ true → lifted_of k n ≡ fall_back_to (keys_of k.active k.gate (others n (held_of k))) (others n (held_of k))
  unfolding lifted_of without_of
  sounded e = rw (e, held_again k.active k.gate (others n (held_of k))) refl

  -- n sounds and no other note is held: no note sounds, and none is held
  pub lift-releases : is_sounding k.active n ≡ true → others n (held_of k) ≡ [] → lifted_of k n ≡ record { keys = keys_of None false []; off = Released }
  lift-releases e h = rw (sounded e, h) refl

  -- n sounds and others are held: the last of them sounds, with its velocity
  pub lift_falls_back : (p : Pair) (ps : List Pair) → is_sounding k.active n ≡ true → others n (held_of k) ≡ p ∷ ps
      → lifted_of k n ≡ record { keys = keys_of (Some (last_of p ps).note) k.gate (p ∷ ps); off = FellBack (last_of p ps).note (last_of p ps).velocity }
  lift_falls_back p ps e h = rw (sounded e, h) refl

  -- what holds in each of the three cases holds of the lift
  pub by_cases : (P : AfterLift → Type 0)
      → (is_sounding k.active n ≡ false → P (record { keys = keys_of k.active k.gate (others n (held_of k)); off = NoChange }))
      → (is_sounding k.active n ≡ true → others n (held_of k) ≡ [] → P (record { keys = keys_of None false []; off = Released }))
      → ((p : Pair) (ps : List Pair) → is_sounding k.active n ≡ true → others n (held_of k) ≡ p ∷ ps
      → P (record { keys = keys_of (Some (last_of p ps).note) k.gate (p ∷ ps); off = FellBack (last_of p ps).note (last_of p ps).velocity }))
      → P (lifted_of k n)
  by_cases P same none back = go (is_sounding k.active n) refl (others n (held_of k)) refl
    where
      go : (t : Bool) → is_sounding k.active n ≡ t → (qs : List Pair) → others n (held_of k) ≡ qs → P (lifted_of k n)
      go false e qs h = rw (lift_keeps_sound e) (same e)
      go true e [] h = rw (lift-releases e h) (none e h)
      go true e (p ∷ ps) h = rw (lift_falls_back p ps e h) (back p ps e h)

-- ---- lists of pairs in range
snoc_ranged : (ps : List Pair) (p : Pair) → AllRanged ps → Ranged p → AllRanged (ps ++ p ∷ [])
unfolding AllRanged
snoc_ranged [] p r q = (q, tt)
snoc_ranged (o ∷ ps) p r q = (r.0, snoc_ranged ps p r.1 q)

pushed_ranged : (ps : List Pair) (p : Pair) → AllRanged ps → Ranged p → AllRanged (pushed ps p)
pushed_ranged ps p r q = go (ltb (length ps) 16)
  where
    go : (t : Bool) → AllRanged (cond t (ps ++ p ∷ []) ps)
    go true = snoc_ranged ps p r q
    go false = r

pub pushed-few : (ps : List Pair) (p : Pair) → length ps ≤ 16 → length (pushed ps p) ≤ 16
pushed-few ps p h = go (ltb (length ps) 16) refl
  where
    go : (t : Bool) → ltb (length ps) 16 ≡ t → length (cond t (ps ++ p ∷ []) ps) ≤ 16
    go true e = omega (arith, ltb-true (length ps) 16 e, length-append ps (p ∷ []))
    go false e = h

others_ranged : (n : ℕ) (ps : List Pair) → AllRanged ps → AllRanged (others n ps)
unfolding others AllRanged
others_ranged n [] r = tt
others_ranged n (p ∷ ps) r = go (eqb p.note n) (others_ranged n ps r.1)
  where
    go : (t : Bool) → AllRanged (others n ps) → AllRanged (cond t (others n ps) (p ∷ others n ps))
    go true a = a
    go false a = (r.0, a)

pub others-few : (n : ℕ) (ps : List Pair) → length (others n ps) ≤ length ps
unfolding others
others-few n [] = omega arith
others-few n (p ∷ ps) = go (eqb p.note n) (others-few n ps)
  where
    go : (t : Bool) → length (others n ps) ≤ length ps → length (cond t (others n ps) (p ∷ others n ps)) ≤ suc (length ps)
    go true l = omega arith
    go false l = omega arith

last_ranged : (p : Pair) (ps : List Pair) → AllRanged (p ∷ ps) → Ranged (last_of p ps)
unfolding last_of AllRanged
last_ranged p [] r = r.0
last_ranged p (q ∷ ps) r = last_ranged q ps r.1

-- ---- every action keeps the limits
pub pressed_keeps : (k : Keys) (n v : ℕ) → T (is_keys k) → n ≤ 127 → v ≤ 127 → T (is_keys (pressed_of k n v))
unfolding pressed_of
pressed_keeps k n v t hn hv =
    let p : Pair = record { note = n; velocity = v } in
    holds_limits (Some n) true (pushed (held_of k) p) (and_i (leb n 127) true (le→leb n 127 hn) tt)
    (pushed-few (held_of k) p (held-few k t)) (pushed_ranged (held_of k) p (held_ranged k t) (record { note_in = hn; velocity_in_lem = hv }))

-- the note and the velocity of a fall back are at most 127
abbrev pub BackRanged : NoteOff → Type 0
BackRanged Released = Unit
BackRanged (FellBack n v) = (n ≤ 127) × (v ≤ 127)
BackRanged NoChange = Unit

pub record LiftKept (l : AfterLift) : Type 0 where
  pub within : T (is_keys l.keys)
  pub back : BackRanged l.off

-- a note of keys within the limits sounds only with the gate up
pub gate-up : (a : Option ℕ) (g : Bool) (n : ℕ) → T (is_gate_right a g) → is_sounding a n ≡ true → T g
gate-up None g n s e = absurd (false≢true e)
gate-up (Some m) g n s e = and_r (leb m 127) g s

pub lifted_keeps : (k : Keys) (n : ℕ) → T (is_keys k) → LiftKept (lifted_of k n)
lifted_keeps k n t = by_cases k n LiftKept same none back
  where
    ranged : AllRanged (others n (held_of k))
    ranged = others_ranged n (held_of k) (held_ranged k t)

    few : length (others n (held_of k)) ≤ 16
    few = omega (arith, others-few n (held_of k), held-few k t)

    same : is_sounding k.active n ≡ false → LiftKept (record { keys = keys_of k.active k.gate (others n (held_of k)); off = NoChange })
    same e = record { within = holds_limits k.active k.gate (others n (held_of k)) (keys_sound k t) few ranged; back = tt }

    none : is_sounding k.active n ≡ true → others n (held_of k) ≡ [] → LiftKept (record { keys = keys_of None false []; off = Released })
    none e h = record { within = holds_limits None false [] tt (omega arith) (rw h at ranged); back = tt }

    back : (p : Pair) (ps : List Pair) → is_sounding k.active n ≡ true → others n (held_of k) ≡ p ∷ ps
        → LiftKept (record { keys = keys_of (Some (last_of p ps).note) k.gate (p ∷ ps); off = FellBack (last_of p ps).note (last_of p ps).velocity })
    back p ps e h =
        let r : AllRanged (p ∷ ps) = rw h at ranged in
        let q = last_ranged p ps r in
        let g = gate-up k.active k.gate n (keys_sound k t) e in
        record {
          within = holds_limits (Some (last_of p ps).note) k.gate (p ∷ ps) (and_i (leb (last_of p ps).note 127) k.gate (le→leb (last_of p ps).note 127 q.note_in) g) (rw h at few) r;
          back = (q.note_in, q.velocity_in_lem);
        }
