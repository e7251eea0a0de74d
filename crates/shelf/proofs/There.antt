-- The words of a state are an entry, and are read as that state. Assumes that the state is within its limits and has
-- values of its types (`Fitting`), as every state of a program has, and nothing else.
use Rattle.std.specs.Prelude.{Option, Some, None}
use Rattle.std.specs.Bool.{then_some}
use mathlib.Core.Path.{◌≡◌, refl, ◌∙◌}
use mathlib.Core.Bool.{Bool, true, false}
use mathlib.Core.List.{List, [], ◌∷◌}
use Prim.Native.Nat.{ℕ, ◌+◌, ◌/◌, ◌%◌, ◌≤◌, ◌<◌}
use native.Mathlib.Omega.{arith}
use borrow.Author.Tests.{eq-eqb, ne_eqb}
use lib.Dec.{T, eqb, leb, leb→le, lit<}
use lib.ListN.{length, get_or}
use lib.Ieee.{binary64, fits}
use lib.Ieee.Fits.{and_l}
use lib.Ieee.Bits.{of_bits-to_bits}
use Rattle.envelope.proofs.Holds.{Held}
use Rattle.envelope.specs.declared.EnvelopeStage.{EnvelopeStage}
use Rattle.envelope.specs.declared.EnvelopeStage.TheVariants.{Idle, Attack, Decay, Sustain, Release}
use Rattle.voice.specs.Keys.{is_gate_right, is_keys}
use Rattle.voice.specs.declared.keys.Keys.{Keys}
use Rattle.voice.proofs.Limits.{keys_sound, keys-few}
use Rattle.state.specs.declared.State.{State}
use Rattle.state.specs.Limits.{is_state}
use Rattle.state.proofs.Limits.{in_kept, state_in, state-few}
use Rattle.shelf.specs.Shelf.{entry_words, stage_word, active_byte, gate_bit, packed_word, four_pairs, entry_of, stored_in, stage_of, active_of, notes_then, velocities_then, notes_of, velocities_of, keys_in, state_of, is_entry, decoded_of}
use Rattle.shelf.proofs.Digits.{Bytes, byte_in, bit_in, count_in, rest_in, bytes_in, sixteen}
use Rattle.shelf.proofs.Parts.{notes_bytes, velocities_bytes}

-- values of an f64, and arrays of 16
pub record Fitting (v : State) : Type 0 where
  pub phase-fits : T (fits binary64 v.phase.0)
  pub envelope-fits : Held v.envelope
  pub frequency-fits : T (fits binary64 v.frequency)
  pub velocity-fits : T (fits binary64 v.velocity)
  pub notes_long : length v.keys.notes ≡ 16
  pub velocities_long : length v.keys.velocities ≡ 16
  pub lfo-fits : T (fits binary64 v.lfo.0)

-- ---- the stage, the note and the gate
stage_back : (s : EnvelopeStage) → stage_of (stage_word s) ≡ s
stage_back Idle = refl
stage_back Attack = refl
stage_back Decay = refl
stage_back Sustain = refl
stage_back Release = refl

stage_low : (s : EnvelopeStage) → leb (stage_word s) 4 ≡ true
stage_low Idle = refl
stage_low Attack = refl
stage_low Decay = refl
stage_low Sustain = refl
stage_low Release = refl

note-low : (n : ℕ) (g : Bool) → T (is_gate_right (Some n) g) → n ≤ 127
note-low n g t = leb→le n 127 (and_l (leb n 127) g t)

pub active-low : (a : Option ℕ) (g : Bool) → T (is_gate_right a g) → active_byte a < 256
active-low None g t = lit< tt
active-low (Some n) g t = omega (arith, note-low n g t)

active_back : (a : Option ℕ) (g : Bool) → T (is_gate_right a g) → active_of (active_byte a) ≡ a
active_back None g t = refl
active_back (Some n) g t =
    let l = note-low n g t in
    rw (ne_eqb n 255 (λ e. omega arith)) refl

pub gate-low : (g : Bool) → gate_bit g < 2
gate-low false = lit< tt
gate-low true = lit< tt

gate_back : (g : Bool) → eqb (gate_bit g) 1 ≡ g
gate_back false = refl
gate_back true = refl

-- ---- the keys
module _ (k : Keys) (t : T (is_keys k)) where
  four_bytes : (i : ℕ) → Bytes (four_pairs k i) (get_or k.notes i 0) (get_or k.velocities i 0) (get_or k.notes (i + 1) 0) (get_or k.velocities (i + 1) 0) (get_or k.notes (i + 2) 0) (get_or k.velocities (i + 2) 0) (get_or k.notes (i + 3) 0) (get_or k.velocities (i + 3) 0)
  unfolding four_pairs
  four_bytes i =
      bytes_in (get_or k.notes i 0) (get_or k.velocities i 0) (get_or k.notes (i + 1) 0) (get_or k.velocities (i + 1) 0) (get_or k.notes (i + 2) 0) (get_or k.velocities (i + 2) 0) (get_or k.notes (i + 3) 0) (get_or k.velocities (i + 3) 0)
      (notes_bytes k t i) (velocities_bytes k t i) (notes_bytes k t (i + 1)) (velocities_bytes k t (i + 1)) (notes_bytes k t (i + 2)) (velocities_bytes k t (i + 2)) (notes_bytes k t (i + 3)) (velocities_bytes k t (i + 3))

  notes_four : (i : ℕ) (l : List ℕ) → notes_then (four_pairs k i) l ≡ get_or k.notes i 0 ∷ get_or k.notes (i + 1) 0 ∷ get_or k.notes (i + 2) 0 ∷ get_or k.notes (i + 3) 0 ∷ l
  notes_four i l = rw ((four_bytes i).b0, (four_bytes i).b2, (four_bytes i).b4, (four_bytes i).b6) refl

  velocities_four : (i : ℕ) (l : List ℕ) → velocities_then (four_pairs k i) l ≡ get_or k.velocities i 0 ∷ get_or k.velocities (i + 1) 0 ∷ get_or k.velocities (i + 2) 0 ∷ get_or k.velocities (i + 3) 0 ∷ l
  velocities_four i l = rw ((four_bytes i).b1, (four_bytes i).b3, (four_bytes i).b5, (four_bytes i).b7) refl

  notes_back : length k.notes ≡ 16 → notes_of (four_pairs k 0) (four_pairs k 4) (four_pairs k 8) (four_pairs k 12) ≡ k.notes
  notes_back h = rw (notes_four 12 [], notes_four 8 _, notes_four 4 _, notes_four 0 _) (sixteen k.notes h)

  velocities_back : length k.velocities ≡ 16 → velocities_of (four_pairs k 0) (four_pairs k 4) (four_pairs k 8) (four_pairs k 12) ≡ k.velocities
  velocities_back h = rw (velocities_four 12 [], velocities_four 8 _, velocities_four 4 _, velocities_four 0 _) (sixteen k.velocities h)

  module _ (n : ℕ) (h : n < 281474976710656) where
    low : active_byte k.active < 256
    low = active-low k.active k.gate (keys_sound k t)

    few : k.count % 128 ≡ k.count
    few = omega (arith, keys-few k t)

    small : k.count % 128 < 128
    small = omega arith

    active_again : active_of (packed_word k n % 256) ≡ k.active
    unfolding packed_word
    active_again =
        rw (byte_in (active_byte k.active) (gate_bit k.gate) (k.count % 128) (n % 281474976710656) low (gate-low k.gate) small) (active_back k.active k.gate (keys_sound k t))

    gate_again : eqb (packed_word k n / 256 % 2) 1 ≡ k.gate
    unfolding packed_word
    gate_again =
        rw (bit_in (active_byte k.active) (gate_bit k.gate) (k.count % 128) (n % 281474976710656) low (gate-low k.gate) small) (gate_back k.gate)

    count_again : packed_word k n / 512 % 128 ≡ k.count
    unfolding packed_word
    count_again =
        count_in (active_byte k.active) (gate_bit k.gate) (k.count % 128) (n % 281474976710656) low (gate-low k.gate) small ∙ few

    acted_again : packed_word k n / 65536 ≡ n
    unfolding packed_word
    acted_again =
        rest_in (active_byte k.active) (gate_bit k.gate) (k.count % 128) (n % 281474976710656) low (gate-low k.gate) small ∙ omega arith

    keys_back : length k.notes ≡ 16 → length k.velocities ≡ 16 → keys_in (packed_word k n) (four_pairs k 0) (four_pairs k 4) (four_pairs k 8) (four_pairs k 12) ≡ k
    keys_back hn hv = rw (active_again, gate_again, count_again, notes_back hn, velocities_back hv) refl

-- ---- the state
state_back : (v : State) → Fitting v → is_state v ≡ true → state_of (entry_of v) ≡ v
unfolding entry_of state_of
state_back v f i =
    let w = in_kept v (state_in v i) in
    let h : v.acted < 281474976710656 = omega (arith, state-few v i) in
    rw (
      of_bits-to_bits binary64 v.phase.0 f.phase-fits,
      stage_back v.envelope.stage,
      of_bits-to_bits binary64 v.envelope.level f.envelope-fits.level-fits,
      of_bits-to_bits binary64 v.envelope.stage_time f.envelope-fits.time_fits,
      of_bits-to_bits binary64 v.envelope.release_level f.envelope-fits.release_fits,
      of_bits-to_bits binary64 v.frequency f.frequency-fits,
      of_bits-to_bits binary64 v.velocity f.velocity-fits,
      keys_back v.keys w.keys_in v.acted h f.notes_long f.velocities_long,
      acted_again v.keys w.keys_in v.acted h,
      of_bits-to_bits binary64 v.lfo.0 f.lfo-fits,
    ) refl

-- every state has thirteen words
pub entry_length : (v : State) → length (entry_of v) ≡ entry_words
unfolding entry_of
entry_length v = refl

-- thirteen words become those of the state that is kept in them
pub kept-thirteen : (ws : List ℕ) (v : State) → length ws ≡ entry_words → stored_in ws v ≡ entry_of v
kept-thirteen ws v e = rw (eq-eqb (length ws) entry_words e) refl

entry_stage : (v : State) → leb (get_or (entry_of v) 1 0) 4 ≡ true
unfolding entry_of
entry_stage v = stage_low v.envelope.stage

pub encode-decode : (v : State) → Fitting v → is_state v ≡ true → decoded_of (entry_of v) ≡ Some v
unfolding is_entry
encode-decode v f h = rw (entry_length v, entry_stage v, state_back v f h, h) refl

-- words with a state are an entry, and are read as that state
pub decoded-there : (ws : List ℕ) (v : State) → decoded_of ws ≡ Some v → (is_entry ws ≡ true) × (state_of ws ≡ v)
decoded-there ws v = go (is_entry ws) refl
  where
    go : (t : Bool) → is_entry ws ≡ t → then_some t (state_of ws) ≡ Some v → (is_entry ws ≡ true) × (state_of ws ≡ v)
    go true e d = (e, cc)
    go false e d = cc

-- words with none are no entry
pub decoded-none : (ws : List ℕ) → decoded_of ws ≡ None → is_entry ws ≡ false
decoded-none ws = go (is_entry ws) refl
  where
    go : (t : Bool) → is_entry ws ≡ t → then_some t (state_of ws) ≡ None → is_entry ws ≡ false
    go true e d = cc
    go false e d = e
