-- The test of an entry is 01's sentence, word by word: "An entry is a state if phase is at least 0 and below 1,000,
-- stage_time 0 to 11, levels and velocity 0 to 1, frequency above 0 and at most 12,544, active note 0 to 127 or 255,
-- gate 1 exactly when it is not 255, held count at most 16, pairs in range, and the rest of these words zero." 02, R-7,
-- adds the LFO's phase, "a thirteenth word in each shelf entry, under the limits of the first".
-- Assumes that the packed word is below 2^64, as every u64 is, and nothing else.
use Rattle.std.specs.Prelude.{Some, None}
use mathlib.Core.Path.{◌≡◌, refl}
use mathlib.Core.Bool.{Bool, true, false, cond, ◌&&◌}
use mathlib.Core.List.{List}
use mathlib.Core.Logic.{◌⊎◌, inl, inr, ⊎_elim}
use Prim.Native.Nat.{ℕ, zero, suc, ◌/◌, ◌%◌, ◌≤◌, ◌<◌}
use native.Mathlib.Omega.{arith}
use borrow.Author.Tests.{eqb-true, eqb-false}
use lib.Dec.{T, eqb, leb, leb→le, le→leb, eqb→eq}
use lib.ListN.{length}
use lib.Ieee.{binary64}
use lib.Ieee.Fits.{and_i, and_l, and_r}
use lib.Ieee.Bits.{is_true, is_false}
use Rattle.floats.specs.Range.{within}
use Rattle.floats.specs.Double.{zero64, one}
use Rattle.envelope.specs.Limits.{eleven}
use Rattle.envelope.proofs.Inside.{is-inside, accepted}
use Rattle.voice.specs.Keys.{is_filled, is_gate_right, is_keys}
use Rattle.voice.proofs.Limits.{keys_sound, keys-few}
use Rattle.domain.specs.Domain.{is_radians, is_pitch}
use Rattle.state.specs.Limits.{is_state}
use Rattle.state.proofs.Limits.{from-true, in_kept, kept_in_lem, state_in, in_state}
use Rattle.shelf.specs.Shelf.{entry_words, word, float, active_of, notes_of, velocities_of, keys_in, state_of, is_entry}
use Rattle.shelf.proofs.Digits.{beyond}
use Rattle.shelf.proofs.Parts.{keys_notes, keys_velocities, keys_are}
use Rattle.shelf.proofs.Back.{entry-is-long, entry_has_stage, entry-is_state}

-- the active note's byte b and the gate's bit g
pub record Sounding (b g : ℕ) : Type 0 where
  pub a_note_or_none : (b ≤ 127) ⊎ (b ≡ 255)
  pub gate-up : (b ≡ 255 → ⊥) → g ≡ 1
  pub gate-down : b ≡ 255 → g ≡ 0

pub record Sentence (ws : List ℕ) : Type 0 where
  pub thirteen-words : length ws ≡ entry_words
  pub phase_in : T (is_radians (float ws 0))
  pub stage_in : word ws 1 ≤ 4
  pub level_in : T (within zero64 one (float ws 2))
  pub time_in : T (within zero64 eleven (float ws 3))
  pub release_in : T (within zero64 one (float ws 4))
  pub sounding : Sounding (word ws 5 % 256) (word ws 5 / 256 % 2)
  pub held_in : word ws 5 / 512 % 128 ≤ 16
  pub frequency_in : T (is_pitch binary64 (float ws 6))
  pub velocity_in_lem : T (within zero64 one (float ws 7))
  pub notes_in : T (is_filled (word ws 5 / 512 % 128) (notes_of (word ws 8) (word ws 9) (word ws 10) (word ws 11)))
  pub velocities_in : T (is_filled (word ws 5 / 512 % 128) (velocities_of (word ws 8) (word ws 9) (word ws 10) (word ws 11)))
  pub lfo_in : T (is_radians (float ws 12))

-- ---- the note and the gate
two : (g : ℕ) → g < 2 → (g ≡ 1 → ⊥) → g ≡ 0
two zero h n = refl
two (suc zero) h n = absurd (n refl)
two (suc (suc g)) h n = absurd (omega arith)

says_sounding : (b g : ℕ) → g < 2 → T (is_gate_right (active_of b) (eqb g 1)) → Sounding b g
says_sounding b g h = go (eqb b 255) refl
  where
    go : (t : Bool) → eqb b 255 ≡ t → T (is_gate_right (cond t None (Some b)) (eqb g 1)) → Sounding b g
    go true e s =
        let z = eqb-true b 255 e in
        record { a_note_or_none = inr z; gate-up = λ n. absurd (n z); gate-down = λ n. two g h (eqb-false g 1 (is_false (eqb g 1) s)) }
    go false e s =
        let n = eqb-false b 255 e in
        record { a_note_or_none = inl (leb→le b 127 (and_l (leb b 127) (eqb g 1) s)); gate-up = λ m. eqb→eq g 1 (and_r (leb b 127) (eqb g 1) s); gate-down = λ m. absurd (n m) }

sounding_is : (b g : ℕ) → Sounding b g → T (is_gate_right (active_of b) (eqb g 1))
sounding_is b g s = go (eqb b 255) refl
  where
    go : (t : Bool) → eqb b 255 ≡ t → T (is_gate_right (cond t None (Some b)) (eqb g 1))
    go true e = rw (s.gate-down (eqb-true b 255 e)) tt
    go false e =
        let n = eqb-false b 255 e in
        and_i (leb b 127) (eqb g 1) (⊎_elim (λ l. le→leb b 127 l) (λ z. absurd (n z)) s.a_note_or_none) (rw (s.gate-up n) tt)

-- ---- the whole
pub entry-says : (ws : List ℕ) → is_entry ws ≡ true → Sentence ws
unfolding state_of
entry-says ws h =
    let w = in_kept (state_of ws) (state_in (state_of ws) (entry-is_state ws h)) in
    let i = is-inside (state_of ws).envelope w.envelope_in_lem in
    let k = (state_of ws).keys in
    record {
      thirteen-words = entry-is-long ws h;
      phase_in = w.phase_in;
      stage_in = entry_has_stage ws h;
      level_in = i.level_in;
      time_in = i.time_in;
      release_in = i.release_in;
      sounding = says_sounding (word ws 5 % 256) (word ws 5 / 256 % 2) (omega arith) (keys_sound k w.keys_in);
      held_in = keys-few k w.keys_in;
      frequency_in = w.pitch_in;
      velocity_in_lem = w.velocity_in_lem;
      notes_in = keys_notes k w.keys_in;
      velocities_in = keys_velocities k w.keys_in;
      lfo_in = w.lfo_in;
    }

pub says-entry : (ws : List ℕ) → word ws 5 < beyond → Sentence ws → is_entry ws ≡ true
unfolding is_entry state_of
says-entry ws l s =
    let p = word ws 5 in
    let k = keys_in p (word ws 8) (word ws 9) (word ws 10) (word ws 11) in
    let keys : T (is_keys k) = keys_are k (sounding_is (p % 256) (p / 256 % 2) s.sounding) s.held_in s.notes_in s.velocities_in in
    let limits =
    kept_in_lem (state_of ws)
    (record {
      phase_in = s.phase_in;
      envelope_in_lem = accepted (state_of ws).envelope (record { level_in = s.level_in; release_in = s.release_in; time_in = s.time_in });
      pitch_in = s.frequency_in;
      velocity_in_lem = s.velocity_in_lem;
      keys_in = keys;
      lfo_in = s.lfo_in;
    }) in
    let state = from-true (is_state (state_of ws)) (in_state (state_of ws) limits (omega arith)) in
    is_true (is_entry ws)
    (and_i (eqb (length ws) entry_words && leb (word ws 1) 4) (is_state (state_of ws))
    (and_i (eqb (length ws) entry_words) (leb (word ws 1) 4) (rw s.thirteen-words tt) (le→leb (word ws 1) 4 s.stage_in)) state)
