-- The calls of `EnvelopeBlock`. 01, "What a call says": 0 "done; count as in demand 3, or samples written"; 6 "rate,
-- waveform's duty or an ADSR setting outside the domain"; 9 "any other argument of a ported call outside its domain";
-- "9 after 6". "A refusal returns number, place, count 0 and any single value as +0 (a yes or no as false), hands back
-- state by value as it came, and writes nowhere."
-- The settings are judged by the one call that uses them, `process`; a given envelope is judged by every call that
-- takes one. Definitions only.
use Rattle.std.specs.Prelude.{◌&&◌, List, ◌++◌, ℕ, length, Float, Err, Ok}
use Rattle.answers.specs.declared.Refusal.{Refusal}
use Rattle.answers.specs.declared.Refusal.TheVariants.{Setting, Argument}
use Rattle.answers.specs.Order.{unless, first_of}
use Rattle.answers.specs.Outcome.{Outcome, leaves}
use Rattle.domain.specs.Domain.{is_rate}
use Rattle.envelope.specs.Limits.{is_adsr, is_envelope, clamped_of, sample_time_of}
use Rattle.envelope.specs.Stages.{fresh_of, triggered_of, released_of}
use Rattle.envelope.specs.Running.{envelope_from, levels_from}
use Rattle.envelope.specs.declared.Envelope.{Envelope}
use Rattle.envelope.specs.declared.EnvelopeBlock.{EnvelopeBlock}
use Rattle.envelope.specs.declared.Processed.{Processed}

abbrev pub with_envelope : EnvelopeBlock → Envelope → EnvelopeBlock
with_envelope b e = record { adsr = b.adsr; envelope = e }

-- done with the envelope e, or refused with the block as it came
abbrev pub changed_of : EnvelopeBlock → Envelope → Processed
changed_of b e = first_of (unless (is_envelope b.envelope) Argument) (λ (why : Refusal). record { answer = Err why; block = b }) (record { answer = Ok 0; block = with_envelope b e })

-- ---- the calls
-- a fresh envelope, and the settings as they are given
abbrev pub new_of : Float → Float → Float → Float → EnvelopeBlock
new_of attack decay sustain release = record { adsr = record { attack = attack; decay = decay; sustain = sustain; release = release }; envelope = fresh_of }

abbrev pub note_on_of : EnvelopeBlock → Processed
note_on_of b = changed_of b (triggered_of b.envelope)

abbrev pub note_off_of : EnvelopeBlock → Processed
note_off_of b = changed_of b (released_of b.envelope)

abbrev pub reset_of : EnvelopeBlock → Processed
reset_of b = changed_of b fresh_of

-- 6 if the settings or the rate are outside their domain, then 9 if the envelope is outside its limits
abbrev pub refusals_of : EnvelopeBlock → ℕ → List Refusal
refusals_of b rate = unless (is_adsr b.adsr && is_rate rate) Setting ++ unless (is_envelope b.envelope) Argument

-- the first refusal, and all is as it came; else every lent number is a level
unfoldable pub process_of : EnvelopeBlock → ℕ → List Float → Outcome Processed
process_of b rate xs =
    let n = length xs in
    let adsr = clamped_of b.adsr in
    let t = sample_time_of rate in
    first_of (refusals_of b rate)
    (λ (why : Refusal). leaves (record { answer = Err why; block = b }) xs)
    (leaves (record { answer = Ok n; block = with_envelope b (envelope_from adsr t b.envelope n) }) (levels_from adsr t b.envelope n))
