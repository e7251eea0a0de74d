-- A block call. 01, "Domain of the ported calls": "Block calls take a rate of 8,000 to 192,000 (whole Hz), frequency 0
-- to 20,000 Hz (LFO 0 to 100), depth 0 to 1, start phase 0 up to but not including 1,000 radians"; "Steps": "the
-- increment is frequency / rate * TAU. For each sample the value is taken from (phase % TAU) * INV_TAU with dt =
-- increment * INV_TAU, times depth in the LFO, then phase grows by the increment. After the block, phase is reduced by
-- TAU"; "What a call says": 6 for "rate, waveform's duty or an ADSR setting outside the domain"; 9 for "any other
-- argument of a ported call outside its domain"; "9 after 6"; 0 for "done; count as in demand 3, or samples written";
-- "A refusal returns number, place, count 0", "hands back state by value as it came, and writes nowhere".
--
-- Ranges are comparisons of floats: a NaN is outside, and -0 counts as 0. The highest frequency is an argument.
-- Definitions only.
use Rattle.std.specs.Prelude.{Bool, ◌&&◌, List, ◌++◌, ℕ, length, Float, Err, Ok}
use Rattle.answers.specs.declared.Refusal.{Refusal}
use Rattle.answers.specs.declared.Refusal.TheVariants.{Setting, Argument}
use Rattle.answers.specs.Order.{unless, first_of}
use Rattle.answers.specs.Outcome.{Outcome, leaves}
use Rattle.domain.specs.Domain.{is_rate, is_frequency, is_depth, is_radians}
use Rattle.waveform.specs.declared.Radians.{Radians}
use Rattle.waveform.specs.declared.Waveform.{Waveform}
use Rattle.waveform.specs.Waveform.{is_waveform, reduce_of, increment_of, radians}
use Rattle.waveform.specs.Filled.{phase_from, samples_from}
use Rattle.blocks.specs.declared.Ran.{Ran}
use Rattle.blocks.specs.declared.Tone.{Tone}

-- ---- what is accepted
-- where this fails, the call is refused with 6
abbrev pub is_setting : ℕ → Waveform → Bool
is_setting rate w = is_rate rate && is_waveform w

-- where this fails, the call is refused with 9
unfoldable pub is_tone : Tone → Float → Bool
is_tone t highest = is_depth t.depth && is_frequency highest t.frequency && is_radians t.phase.0

-- 6, and 9 after 6
abbrev pub refusals_of : Tone → Float → ℕ → List Refusal
refusals_of t highest rate = unless (is_setting rate t.waveform) Setting ++ unless (is_tone t highest) Argument

-- ---- what a run leaves
abbrev pub refused_of : Refusal → Radians → Ran
refused_of why p = record { answer = Err why; phase = p }

-- the phase q and the numbers ys, unless the call is refused: then the phase p and the lent numbers xs, as they came
abbrev pub outcome_or : List Refusal → Radians → List Float → Radians → List Float → Outcome Ran
outcome_or refusals p xs q ys = first_of refusals (λ (why : Refusal). leaves (refused_of why p) xs) (leaves (record { answer = Ok (length xs); phase = q }) ys)

-- the phase after n samples, reduced
abbrev pub phase_after : Float → Radians → ℕ → Radians
phase_after step p n = radians (reduce_of (phase_from step p.0 n))

-- every lent number becomes a value of the waveform times the depth
unfoldable pub run_of : Tone → Float → ℕ → List Float → Outcome Ran
run_of t highest rate xs =
    let n = length xs in
    let step = increment_of t.frequency rate in
    outcome_or (refusals_of t highest rate) t.phase xs (phase_after step t.phase n)
    (samples_from t.waveform step t.depth t.phase.0 n)
