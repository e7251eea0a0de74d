-- 01's worked examples, "Marks on both sides": "To prove, as a set", (a) to (m), one field each, over the definitions
-- that the contracts cite.
--
-- A number that a call returns is in its answer, `Ok`. `fin s m e` is m * 2 ^ e, negative where s is true;
-- `negsuc k` is -(k + 1). Definitions only.
use Rattle.std.specs.Prelude.{◌≡◌, Bool, true, false, List, [], ◌∷◌, ◌++◌, ℕ, zero, suc, ◌+◌, pos, negsuc, length, get_or, replicate, Float, Ok, Result, Some}
use Rattle.std.specs.Float.{nan, fin, binary32, binary64}
use Rattle.std.specs.Float.Ieee.{of_bits, neg}
use Rattle.floats.specs.Double.{zero64, half, one}
use Rattle.floats.specs.Range.{one_of}
use Rattle.answers.specs.Answer.{Answer}
use Rattle.polyblep.specs.Calls.{poly_blep_of, polyblep_saw_of, polyblep_square_of}
use Rattle.phase.specs.Phase.{cycles_of, phase_of, set_phase_of}
use Rattle.phase.specs.declared.Cycles.{Cycles}
use Rattle.answers.specs.Outcome.{Outcome}
use Rattle.envelope.specs.Calls.{process_of}
use Rattle.envelope.specs.declared.EnvelopeBlock.{EnvelopeBlock}
use Rattle.envelope.specs.declared.Processed.{Processed}
use Rattle.voice.specs.Voice.{is_released, note_on_of, note_off_of, held_note_count_of}
use Rattle.voice.specs.declared.VoiceState.{VoiceState}
use Rattle.phase.specs.Phase as phase
use Rattle.envelope.specs.Calls as envelope
use Rattle.voice.specs.Voice as voice
use Rattle.answers.specs.declared.Refusal.{Refusal}

-- ---- (a) to (g): the corrections, and the waveforms made with them
abbrev pub eighth : Float
eighth = of_bits binary64 0x3fc0_0000_0000_0000

abbrev pub quarter : Float
quarter = of_bits binary64 0x3fd0_0000_0000_0000

abbrev pub three_quarters : Float
three_quarters = of_bits binary64 0x3fe8_0000_0000_0000

abbrev pub seven_eighths : Float
seven_eighths = of_bits binary64 0x3fec_0000_0000_0000

-- the answer done, with the number x
abbrev pub is : Float → Result Float Refusal
is x = Ok x

-- ---- (h): the accumulator, in f32
-- a new accumulator, set to x, then asked for its phase
abbrev pub set_to : Float → Result Cycles Refusal
set_to x = phase_of (set_phase_of phase.new_of (cycles_of x)).state

abbrev pub shows : Float → Result Cycles Refusal
shows x = Ok (cycles_of x)

-- ---- (i) and (j): the envelope, in one block call
-- a new block, triggered: attack 0.25 s, decay 0.25 s, sustain 0.5; the release is never reached
abbrev pub triggered : EnvelopeBlock
triggered = (envelope.note_on_of (envelope.new_of quarter quarter half quarter)).block

-- the block call at 16,384 Hz, lent the numbers xs
abbrev pub called : List Float → Outcome Processed
called xs = process_of triggered 16384 xs

-- the level of sample i
abbrev pub sample : List Float → ℕ → Float
sample xs i = get_or (called xs).lent i nan

-- (i), whatever the 4,098 lent numbers were
pub record ExampleI (xs : List Float) : Type 0 where
  pub answer : (called xs).result.answer ≡ Ok 4098
  pub sample_4095 : sample xs 4095 ≡ fin false 4095 (negsuc 11)
  pub sample_4096 : sample xs 4096 ≡ fin false 1 (pos 0)

-- ---- (k) to (m): the keys of a new voice, each struck with velocity 100
-- the k notes from n on
abbrev pub from : ℕ → ℕ → List ℕ
from n zero = []
from n (suc k) = n ∷ from (n + 1) k

-- the voice after these keys were struck, or lifted
abbrev pub strike_all : VoiceState → List ℕ → VoiceState
strike_all s [] = s
strike_all s (n ∷ ns) = strike_all (note_on_of s n 100).state ns

abbrev pub lift_all : VoiceState → List ℕ → VoiceState
lift_all s [] = s
lift_all s (n ∷ ns) = lift_all (note_off_of s n).voice ns

-- what the voice answers as each of these keys is lifted, and whether the sound is released: 01's true and false
abbrev pub says : VoiceState → List ℕ → List (Answer × Bool)
says s [] = []
says s (n ∷ ns) = ((note_off_of s n).answer, is_released (note_off_of s n).off) ∷ says (note_off_of s n).voice ns

abbrev pub holds : ℕ → Result ℕ Refusal
holds n = Ok n

-- notes 40 to 55 on, 60 on
abbrev pub full : VoiceState
full = strike_all voice.new_of (from 40 16 ++ 60 ∷ [])

pub record ExampleK : Type 0 where
  pub held : held_note_count_of full ≡ holds 16
  pub active : full.keys.active ≡ Some 60
  pub off : says full (60 ∷ []) ≡ (Ok 0, false) ∷ []
  pub active_then : (lift_all full (60 ∷ [])).keys.active ≡ Some 55

-- instead 40 to 55 off
abbrev pub emptied : VoiceState
emptied = lift_all full (from 40 16)

pub record ExampleL : Type 0 where
  pub offs : says full (from 40 16) ≡ replicate 16 (Ok 0, false)
  pub held : held_note_count_of emptied ≡ holds 0
  pub active : emptied.keys.active ≡ Some 60
  pub off : says emptied (60 ∷ []) ≡ (Ok 0, true) ∷ []

-- 60 on twice
abbrev pub twice : VoiceState
twice = strike_all voice.new_of (60 ∷ 60 ∷ [])

pub record ExampleM : Type 0 where
  pub off : says twice (60 ∷ []) ≡ (Ok 0, true) ∷ []
  pub held : held_note_count_of (lift_all twice (60 ∷ [])) ≡ holds 0

-- ---- the table
pub record Examples : Type 0 where
  -- (a) blep(0, 0.25) = -1
  pub example_a : poly_blep_of zero64 quarter ≡ is (neg one)
  -- (b) blep(0.125, 0.25) = -0.25
  pub example_b : poly_blep_of eighth quarter ≡ is (neg quarter)
  -- (c) blep(0.875, 0.25) = 0.25
  pub example_c : poly_blep_of seven_eighths quarter ≡ is quarter
  -- (d) blep(0.25, 0.25) = blep(0.75, 0.25) = 0
  pub example_d : (poly_blep_of quarter quarter ≡ is zero64) × (poly_blep_of three_quarters quarter ≡ is zero64)
  -- (e) blep(0.5, 1) = -0.25
  pub example_e : poly_blep_of half one ≡ is (neg quarter)
  -- (f) saw(0.125, 0.25) = -0.5
  pub example_f : polyblep_saw_of eighth quarter ≡ is (neg half)
  -- (g) square(0, 0.25) = 0
  pub example_g : polyblep_square_of zero64 quarter ≡ is zero64
  -- (h) accumulator set to -0.25 shows 0.75, to -2^-30 shows 1
  pub example_h : (set_to (of_bits binary32 0xbe80_0000) ≡ shows (of_bits binary32 0x3f40_0000)) × (set_to (of_bits binary32 0xb080_0000) ≡ shows (one_of binary32))
  -- (i) rate 16,384, attack 0.25: envelope sample 4095 is 4095/4096, 4096 is 1
  pub example_i : (xs : List Float) → length xs ≡ 4098 → ExampleI xs
  -- (j) then decay 0.25, sustain 0.5: sample 4097 is 1 - 1/8192
  pub example_j : (xs : List Float) → length xs ≡ 4098 → sample xs 4097 ≡ fin false 8191 (negsuc 12)
  -- (k) notes 40 to 55 on, 60 on: 16 held, active 60; 60 off: false, active 55
  pub example_k : ExampleK
  -- (l) instead 40 to 55 off: all false, none held, active 60; 60 off: true
  pub example_l : ExampleL
  -- (m) 60 on twice, off once: true, none held
  pub example_m : ExampleM
