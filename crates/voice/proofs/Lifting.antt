-- `note_off` says released, fell back or no change exactly where the claim of specs/Lifting.antt has it, and leaves
-- what the claim says. Assumes nothing.
use Rattle.std.specs.Prelude.{Err, Ok, Option, Some, None}
use mathlib.Core.Path.{◌≡◌, refl, ap}
use mathlib.Core.Bool.{Bool, true, false, false≢true, cond, ◌&&◌}
use mathlib.Core.List.{List, [], ◌∷◌, ◌++◌}
use Prim.Native.Nat.{ℕ, suc, ◌≤◌}
use lib.Dec.{T, eqb}
use lib.Ieee.Bits.{is_true}
use lib.Ieee.Fits.{and_l}
use lib.ListN.{length}
use native.Mathlib.Omega.{arith}
use borrow.Author.Tests.{eqb-true, eqb-false, eq-eqb, ne_eqb, le-leb}
use Rattle.domain.specs.Domain.{is_midi}
use Rattle.answers.specs.declared.Refusal.TheVariants.{Argument}
use Rattle.answers.specs.Order.{unless}
use Rattle.answers.proofs.Order.{none-refused}
use Rattle.voice.specs.declared.keys.NoteOff.{NoteOff}
use Rattle.voice.specs.declared.keys.NoteOff.TheVariants.{Released, FellBack, NoChange}
use Rattle.voice.specs.declared.keys.Keys.{Keys}
use Rattle.voice.specs.declared.keys.AfterLift.{AfterLift}
use Rattle.voice.specs.declared.VoiceState.{VoiceState}
use Rattle.voice.specs.declared.Off.{Off}
use Rattle.voice.specs.Keys.{Pair, held_of, keys_of, others, last_of, is_sounding, lifted_of}
use Rattle.voice.specs.Voice.{is_voice, is_released, after_lift_of, note_off_of}
use Rattle.voice.specs.Lifting.{EndsIn, OffWhen, returns_true, OffLeaves, Told, OffTells}
use Rattle.voice.proofs.Limits.{keys_sound}
use Rattle.voice.proofs.Actions.{lift-releases, lift_falls_back, by_cases, gate-up, lifted_keeps}
use Rattle.voice.proofs.Keeps.{voice_keys}

-- ---- the note that sounds
sounds : (a : Option ℕ) (n : ℕ) → is_sounding a n ≡ true → a ≡ Some n
sounds None n e = absurd (false≢true e)
sounds (Some m) n e = rw (eqb-true m n e) refl

sounding : (a : Option ℕ) (n : ℕ) → a ≡ Some n → is_sounding a n ≡ true
sounding a n e = rw e (eq-eqb n n refl)

-- ---- the last of a list
last-added : (p : Pair) (ps : List Pair) (q : Pair) → last_of p (ps ++ q ∷ []) ≡ q
unfolding last_of
last-added p [] q = refl
last-added p (o ∷ ps) q = last-added o ps q

ends_in_last : (p : Pair) (ps : List Pair) → EndsIn (p ∷ ps) (last_of p ps).note (last_of p ps).velocity
unfolding last_of
ends_in_last p [] = record { earlier = []; ends = refl }
ends_in_last p (q ∷ ps) = let e = ends_in_last q ps in record { earlier = p ∷ e.earlier; ends = ap (λ (qs : List Pair). p ∷ qs) e.ends }

-- if the list has a last pair, that is of another note than n
abbrev LastIsOther : ℕ → List Pair → Type 0
LastIsOther n [] = Unit
LastIsOther n (p ∷ ps) = (last_of p ps).note ≡ n → ⊥

other-before : (n : ℕ) (p : Pair) (ps : List Pair) → (p.note ≡ n → ⊥) → LastIsOther n ps → LastIsOther n (p ∷ ps)
unfolding last_of
other-before n p [] d l = d
other-before n p (q ∷ ps) d l = l

last-is-other : (n : ℕ) (ps : List Pair) → LastIsOther n (others n ps)
unfolding others
last-is-other n [] = tt
last-is-other n (p ∷ ps) = go (eqb p.note n) refl (last-is-other n ps)
  where
    go : (t : Bool) → eqb p.note n ≡ t → LastIsOther n (others n ps) → LastIsOther n (cond t (others n ps) (p ∷ others n ps))
    go true e l = l
    go false e l = other-before n p (others n ps) (eqb-false p.note n e) l

-- ---- lifting note n of keys k
module _ (k : Keys) (n : ℕ) where
  not-active : is_sounding k.active n ≡ false → k.active ≡ Some n → ⊥
  not-active e a = false≢true (cc (e, sounding k.active n a))

  pub off_when : OffWhen k n (lifted_of k n).off
  off_when =
      by_cases k n (λ (l : AfterLift). OffWhen k n l.off) not-active (λ e h. (sounds k.active n e, h))
      (λ p ps e h. (sounds k.active n e, rw h (ends_in_last p ps)))

  falls_back_to : (m v : ℕ) (ps : List Pair) → is_sounding k.active n ≡ true → others n (held_of k) ≡ ps ++ record { note = m; velocity = v } ∷ [] → (lifted_of k n).off ≡ FellBack m v
  unfolding last_of
  falls_back_to m v [] e h = rw (lift_falls_back k n _ [] e h) refl
  falls_back_to m v (p ∷ ps) e h =
      let q : Pair = record { note = m; velocity = v } in
      rw (lift_falls_back k n p (ps ++ q ∷ []) e h, last-added p ps q) refl

  pub when_off : (off : NoteOff) → OffWhen k n off → (lifted_of k n).off ≡ off
  when_off Released w = rw (lift-releases k n (sounding k.active n w.0) w.1) refl
  when_off (FellBack m v) w = falls_back_to m v w.1.earlier (sounding k.active n w.0) w.1.ends
  when_off NoChange w =
      by_cases k n (λ (l : AfterLift). l.off ≡ NoChange) (λ e. refl) (λ e h. absurd (w (sounds k.active n e)))
      (λ p ps e h. absurd (w (sounds k.active n e)))

  -- the bool of the original
  returned : is_released (lifted_of k n).off ≡ returns_true k n
  returned =
      by_cases k n (λ (l : AfterLift). is_released l.off ≡ returns_true k n) (λ e. rw e refl) (λ e h. rw (e, h) refl)
      (λ p ps e h. rw (e, h, ne_eqb (suc (length ps)) 0 (λ l. absurd (omega arith))) refl)

-- ---- the call
module _ (s : VoiceState) (n : ℕ) where
  abbrev keys : Keys
  keys = s.keys

  -- the voice after a lift
  abbrev after : AfterLift → VoiceState
  after l = after_lift_of s l.keys l.off

  -- what the claim says that a lift leaves
  abbrev Left : AfterLift → Type 0
  Left l = OffLeaves s (after l) n l.off × ((after l).keys ≡ keys_of (after l).keys.active (after l).keys.gate (others n (held_of keys)))

  fallen_back : T (is_voice s) → (p : Pair) (ps : List Pair) → is_sounding keys.active n ≡ true → others n (held_of keys) ≡ p ∷ ps
      → Left (record { keys = keys_of (Some (last_of p ps).note) keys.gate (p ∷ ps); off = FellBack (last_of p ps).note (last_of p ps).velocity })
  fallen_back t p ps e h =
      let other : ((last_of p ps).note ≡ n → ⊥) = rw h at (last-is-other n (held_of keys)) in
      let up = is_true keys.gate (gate-up keys.active keys.gate n (keys_sound keys (voice_keys s t)) e) in
      let ranged : ((last_of p ps).note ≤ 127) × ((last_of p ps).velocity ≤ 127) = rw (lift_falls_back keys n p ps e h) at (lifted_keeps keys n (voice_keys s t)).back in
      let midi : is_midi (last_of p ps).note && is_midi (last_of p ps).velocity ≡ true = rw (le-leb (last_of p ps).note 127 ranged.0, le-leb (last_of p ps).velocity 127 ranged.1) refl in
      (record { midi = midi; other = other; active = refl; gate = up; velocity = refl; frequency = refl }, rw h refl)

  left : T (is_voice s) → Left (lifted_of keys n)
  left t =
      by_cases keys n Left (λ e. (record { active = refl; gate = refl; velocity = refl; frequency = refl }, refl))
      (λ e h. (record { active = refl; gate = refl; velocity = refl; frequency = refl }, rw h refl)) (fallen_back t)

  -- a call that is done answers what the lift says, and leaves what the lift leaves
  pub off-done : (note_off_of s n).answer ≡ Ok 0 → note_off_of s n ≡ record { answer = Ok 0; off = (lifted_of keys n).off; voice = after (lifted_of keys n) }
  off-done d = rw (none-refused (unless (is_voice s && is_midi n) Argument) _ _ (λ (r : Off). r.answer) 0 (λ why. refl) d) refl

  told : is_voice s && is_midi n ≡ true → Told s n
  told e =
      let kept = left (and_l (is_voice s) (is_midi n) (rw e tt)) in
      record {
        answer = rw e refl;
        only_when = rw e (off_when keys n);
        whenever = λ off w. rw e (when_off keys n off w);
        bool = rw e (returned keys n);
        leaves = rw e kept.0;
        keys = rw e kept.1;
      }

  off-refused : is_voice s && is_midi n ≡ false → note_off_of s n ≡ record { answer = Err Argument; off = NoChange; voice = s }
  off-refused e = rw e refl

pub off-tells : OffTells
off-tells = record { done = told; refused = off-refused }
