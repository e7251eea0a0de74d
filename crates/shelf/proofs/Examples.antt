-- Entries by example: the words of the fresh state and of a state with two keys held, and words just inside and just
-- outside the limits. Assumes nothing.
use Rattle.std.specs.Prelude.{Some}
use mathlib.Core.Path.{◌≡◌, refl}
use mathlib.Core.Bool.{true, false}
use mathlib.Core.List.{List, [], ◌∷◌, ◌++◌, map}
use Prim.Native.Nat.{ℕ, ◌+◌, ◌*◌}
use lib.ListN.{set, take}
use lib.Ieee.{binary64, lt, eq, le, of_bits, to_bits}
use Rattle.words.specs.Words.{same}
use Rattle.floats.specs.Double.{zero64, half, one}
use Rattle.domain.specs.Domain.{highest_pitch}
use Rattle.envelope.specs.Limits.{eleven, is_envelope}
use Rattle.envelope.specs.declared.EnvelopeStage.TheVariants.{Sustain, Release}
use Rattle.voice.specs.Keys.{at_most, is_keys, keys_of}
use Rattle.waveform.specs.Waveform.{radians}
use Rattle.state.specs.declared.State.{State}
use Rattle.state.specs.State.{fresh_of, concert}
use Rattle.state.specs.Limits.{in_limits, is_state}
use Rattle.shelf.specs.Shelf.{packed_word, four_pairs, entry_of, state_of, is_entry, with_count, meets}

-- the fresh state
abbrev rest : List ℕ
rest = 0 ∷ 0 ∷ 0 ∷ 0 ∷ 0 ∷ 255 ∷ 0x407b_8000_0000_0000 ∷ 0 ∷ 0 ∷ 0 ∷ 0 ∷ 0 ∷ 0 ∷ []

pub fresh-words : entry_of (fresh_of 0) ≡ rest
unfolding entry_of packed_word four_pairs of_bits to_bits
fresh-words = refl

-- note 60 at velocity 100 and then 64 at 90, which sounds; 2 records acted; the LFO's phase at 1
abbrev playing : State
playing =
    record {
      phase = radians half;
      envelope = record { stage = Sustain; level = half; stage_time = zero64; release_level = zero64 };
      frequency = concert;
      velocity = one;
      keys = keys_of (Some 64) true (record { note = 60; velocity = 100 } ∷ record { note = 64; velocity = 90 } ∷ []);
      acted = 2;
      lfo = radians one;
    }

abbrev played : List ℕ
played =
    0x3fe0_0000_0000_0000
    ∷ 3
    ∷ 0x3fe0_0000_0000_0000
    ∷ 0
    ∷ 0
    ∷ 0x2_0540
    ∷ 0x407b_8000_0000_0000
    ∷ 0x3ff0_0000_0000_0000
    ∷ 0x5a40_643c
    ∷ 0
    ∷ 0
    ∷ 0
    ∷ 0x3ff0_0000_0000_0000
    ∷ []

pub played-words : entry_of playing ≡ played
unfolding entry_of packed_word four_pairs of_bits to_bits
played-words = refl

-- accepted: a phase of -0, the highest frequency, 440.1 Hz (no f32), the largest number of records acted, an LFO's
-- phase of -0
pub taken : map is_entry (rest ∷ played ∷ set rest 0 0x8000_0000_0000_0000 ∷ set rest 6 0x40c8_8000_0000_0000 ∷ set rest 6 0x407b_8199_9999_999a ∷ set rest 5 0xffff_ffff_ffff_00ff ∷ set rest 12 0x8000_0000_0000_0000 ∷ []) ≡ true ∷ true ∷ true ∷ true ∷ true ∷ true ∷ true ∷ []
unfolding is_entry state_of is_state in_limits is_envelope is_keys at_most of_bits lt eq le
taken = refl

-- refused: twelve words, fourteen words, a phase of 1,000, a NaN's bits, a stage of 5, a frequency of -0
pub not_taken : map is_entry (take 12 rest ∷ (rest ++ 0 ∷ []) ∷ set rest 0 0x408f_4000_0000_0000 ∷ set rest 0 0x7ff8_0000_0000_0000 ∷ set rest 1 5 ∷ set rest 6 0x8000_0000_0000_0000 ∷ []) ≡ false ∷ false ∷ false ∷ false ∷ false ∷ false ∷ []
unfolding is_entry state_of is_state in_limits is_envelope is_keys at_most of_bits lt eq le
not_taken = refl

-- refused: an LFO's phase of 1,000, of -1, and a NaN's bits
pub not_swaying : map is_entry (set rest 12 0x408f_4000_0000_0000 ∷ set rest 12 0xbff0_0000_0000_0000 ∷ set rest 12 0x7ff8_0000_0000_0000 ∷ []) ≡ false ∷ false ∷ false ∷ []
unfolding is_entry state_of is_state in_limits is_envelope is_keys at_most of_bits lt eq le
not_swaying = refl

-- refused: note 128 with the gate down and up, a note with the gate down, none with the gate up, 17 held, an unused
-- pair that is not 0, a held note of 128
pub not-keys : map is_entry (set rest 5 128 ∷ set rest 5 (128 + 256) ∷ set rest 5 60 ∷ set rest 5 (255 + 256) ∷ set rest 5 (255 + 512 * 17) ∷ set rest 11 1 ∷ set played 8 0x5a80_643c ∷ []) ≡ false ∷ false ∷ false ∷ false ∷ false ∷ false ∷ false ∷ []
unfolding is_entry state_of is_state in_limits is_envelope is_keys at_most of_bits lt eq le
not-keys = refl

-- every limit reached: the largest phase below 1,000, level and velocity 1, a time of 11 and a release level of a half,
-- 12,544 Hz, sixteen keys held, 4,096 records acted, an LFO's phase one float below. No two words are the same, so that
-- exchanged words would show
abbrev full : State
full =
    record {
      phase = radians (of_bits binary64 0x408f_3fff_ffff_ffff);
      envelope = record { stage = Release; level = one; stage_time = eleven; release_level = half };
      frequency = highest_pitch binary64;
      velocity = of_bits binary64 0x3fef_ffff_ffff_ffff;
      keys = keys_of (Some 127) true (record { note = 112; velocity = 127 } ∷ record { note = 113; velocity = 126 } ∷ record { note = 114; velocity = 125 } ∷ record { note = 115; velocity = 124 } ∷ record { note = 116; velocity = 123 } ∷ record { note = 117; velocity = 122 } ∷ record { note = 118; velocity = 121 } ∷ record { note = 119; velocity = 120 } ∷ record { note = 120; velocity = 119 } ∷ record { note = 121; velocity = 118 } ∷ record { note = 122; velocity = 117 } ∷ record { note = 123; velocity = 116 } ∷ record { note = 124; velocity = 115 } ∷ record { note = 125; velocity = 114 } ∷ record { note = 126; velocity = 113 } ∷ record { note = 127; velocity = 112 } ∷ []);
      acted = 4096;
      lfo = radians (of_bits binary64 0x408f_3fff_ffff_fffe);
    }

abbrev filled : List ℕ
filled = 0x408f_3fff_ffff_ffff ∷ 4 ∷ 0x3ff0_0000_0000_0000 ∷ 0x4026_0000_0000_0000 ∷ 0x3fe0_0000_0000_0000 ∷ 0x1000_217f ∷ 0x40c8_8000_0000_0000 ∷ 0x3fef_ffff_ffff_ffff ∷ 0x7c73_7d72_7e71_7f70 ∷ 0x7877_7976_7a75_7b74 ∷ 0x747b_757a_7679_7778 ∷ 0x707f_717e_727d_737c ∷ 0x408f_3fff_ffff_fffe ∷ []

pub filled-words : entry_of full ≡ filled
unfolding entry_of packed_word four_pairs of_bits to_bits
filled-words = refl

-- accepted: that state, also with a velocity of 1, with a release level of 1 and with the largest LFO's phase
pub at_limits : map is_entry (filled ∷ set filled 7 0x3ff0_0000_0000_0000 ∷ set filled 4 0x3ff0_0000_0000_0000 ∷ set filled 12 0x408f_3fff_ffff_ffff ∷ []) ≡ true ∷ true ∷ true ∷ true ∷ []
unfolding is_entry state_of is_state in_limits is_envelope is_keys at_most of_bits lt eq le
at_limits = refl

-- refused: the next float above the limit of the phase, the level, the time, the release level, the frequency, the
-- velocity and the LFO's phase
pub past_limits : map is_entry (set filled 0 0x408f_4000_0000_0000 ∷ set filled 2 0x3ff0_0000_0000_0001 ∷ set filled 3 0x4026_0000_0000_0001 ∷ set filled 4 0x3ff0_0000_0000_0001 ∷ set filled 6 0x40c8_8000_0000_0001 ∷ set filled 7 0x3ff0_0000_0000_0001 ∷ set filled 12 0x408f_4000_0000_0000 ∷ []) ≡ false ∷ false ∷ false ∷ false ∷ false ∷ false ∷ false ∷ []
unfolding is_entry state_of is_state in_limits is_envelope is_keys at_most of_bits lt eq le
past_limits = refl

-- ---- the number of records acted
-- words of ones are no entry, and get the number 2 all the same: bits 0 to 15 of word 5 stay
abbrev ones : ℕ
ones = 0xffff_ffff_ffff_ffff

pub renewed : with_count (ones ∷ ones ∷ ones ∷ ones ∷ ones ∷ ones ∷ ones ∷ ones ∷ ones ∷ ones ∷ ones ∷ ones ∷ ones ∷ []) 2 ≡ ones ∷ ones ∷ ones ∷ ones ∷ ones ∷ 0x2_ffff ∷ ones ∷ ones ∷ ones ∷ ones ∷ ones ∷ ones ∷ ones ∷ []
renewed = refl

-- 4,096 in place of 2; no more than 48 bits; five words stay
pub renewed_more : with_count played 4096 ∷ with_count played 0x1_0000_0000_0001 ∷ with_count (take 5 played) 7 ∷ [] ≡ set played 5 0x1000_0540 ∷ set played 5 0x1_0540 ∷ take 5 played ∷ []
renewed_more = refl

-- the state's own words meet it, and so do words with another number
pub met : map (λ (ws : List ℕ). meets ws playing) (played ∷ set played 5 0x0540 ∷ set played 5 0xffff_ffff_ffff_0540 ∷ []) ≡ true ∷ true ∷ true ∷ []
unfolding meets same is_entry entry_of packed_word four_pairs state_of is_state in_limits is_envelope is_keys at_most of_bits to_bits lt eq le
met = refl

-- entries that do not: a release level of -0 in place of 0, a stage time of -0, a velocity held of 91 in place of 90,
-- another LFO's phase, the entry of the fresh state
abbrev others : List (List ℕ)
others = set played 4 0x8000_0000_0000_0000 ∷ set played 3 0x8000_0000_0000_0000 ∷ set played 8 0x5b40_643c ∷ set played 12 0 ∷ rest ∷ []

pub others-taken : map is_entry others ≡ true ∷ true ∷ true ∷ true ∷ true ∷ []
unfolding is_entry state_of is_state in_limits is_envelope is_keys at_most of_bits lt eq le
others-taken = refl

pub not_met : map (λ (ws : List ℕ). meets ws playing) others ≡ false ∷ false ∷ false ∷ false ∷ false ∷ []
unfolding meets same is_entry entry_of packed_word four_pairs state_of is_state in_limits is_envelope is_keys at_most of_bits to_bits lt eq le
not_met = refl

-- a state with a frequency of 0 is outside the limits, and its own words do not meet it
abbrev outside : State
outside = record { phase = playing.phase; envelope = playing.envelope; frequency = zero64; velocity = playing.velocity; keys = playing.keys; acted = playing.acted; lfo = playing.lfo }

pub not_itself : meets (entry_of outside) outside ≡ false
unfolding meets same is_entry entry_of packed_word four_pairs state_of is_state in_limits is_envelope is_keys at_most of_bits to_bits lt eq le
not_itself = refl
