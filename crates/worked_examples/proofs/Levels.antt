-- The levels of (i) and (j), in one block call on any 4,098 lent numbers. The state before sample 4096 is computed
-- once, and the levels after it from that state. Assumes nothing.
use Rattle.std.specs.Prelude.{Ok}
use mathlib.Core.Path.{◌≡◌, refl, ap, ◌∙◌}
use mathlib.Core.List.{List}
use Prim.Native.Nat.{ℕ, suc, ◌+◌, ◌<◌}
use mathlib.Core.Bool.{false}
use lib.Dec.{lit<}
use lib.IntN.{pos, negsuc}
use lib.ListN.{length, get_or}
use lib.Ieee.{Float, nan, fin, of_bits, of_int, is_nan, add, sub, mul, div, le, lt}
use Rattle.floats.specs.Range.{plus_zero}
use Rattle.runs.specs.Runs.{run}
use Rattle.domain.specs.Domain.{is_rate}
use Rattle.envelope.specs.Limits.{is_adsr, is_envelope, clamped_of, sample_time_of}
use Rattle.envelope.specs.Stages.{step_of}
use Rattle.envelope.specs.Running.{envelope_from, levels_from}
use Rattle.envelope.specs.Calls.{process_of}
use Rattle.envelope.specs.declared.Adsr.{Adsr}
use Rattle.envelope.specs.declared.Envelope.{Envelope}
use Rattle.envelope.specs.declared.EnvelopeStage.TheVariants.{Attack}
use Rattle.envelope.proofs.RunsOn.{level-at, envelope_runs_on}
use Rattle.worked_examples.specs.Examples.{called, sample, ExampleI}

-- ---- the numbers to compute with
abbrev adsr : Adsr
adsr = record { attack = fin false 1 (negsuc 1); decay = fin false 1 (negsuc 1); sustain = fin false 1 (negsuc 0); release = fin false 1 (negsuc 1) }

abbrev tick : Float
tick = fin false 1 (negsuc 13)

abbrev start : Envelope
start = record { stage = Attack; level = plus_zero; stage_time = plus_zero; release_level = plus_zero }

-- the state before sample 4096: the level is that of sample 4095, and the stage time is 0.25 s
abbrev peak : Envelope
peak = record { stage = Attack; level = fin false 4095 (negsuc 11); stage_time = fin false 1 (negsuc 1); release_level = plus_zero }

-- 4,096 steps: the only long computation
to_peak : envelope_from adsr tick start 4096 ≡ peak
unfolding run envelope_from step_of of_bits add sub mul div le
to_peak = refl

-- the states after that one, without computing the 4,096 steps again
from_peak : (j : ℕ) → envelope_from adsr tick start (4096 + j) ≡ envelope_from adsr tick peak j
from_peak j = envelope_runs_on adsr tick start 4096 j ∙ ap (λ (e : Envelope). envelope_from adsr tick e j) to_peak

one_on : (envelope_from adsr tick peak 1).level ≡ fin false 1 (pos 0)
unfolding run envelope_from step_of of_bits add sub mul div le
one_on = refl

two_on : (envelope_from adsr tick peak 2).level ≡ fin false 8191 (negsuc 12)
unfolding run envelope_from step_of of_bits add sub mul div le
two_on = refl

-- ---- the block call is done, and its levels are those of the envelope
call-is : (n : ℕ) (xs : List Float) → length xs ≡ n → ((called xs).result.answer ≡ Ok n) × ((called xs).lent ≡ levels_from adsr tick start n)
unfolding process_of is_adsr is_rate is_envelope clamped_of sample_time_of of_bits of_int is_nan lt le div
call-is n xs e = rw e (refl, refl)

level-is : (xs : List Float) → length xs ≡ 4098 → (i : ℕ) → i < 4098 → sample xs i ≡ (envelope_from adsr tick start (suc i)).level
level-is xs e i h = ap (λ (ys : List Float). get_or ys i nan) (call-is 4098 xs e).1 ∙ level-at adsr tick start i 4098 h

pub levels_hold : (xs : List Float) → length xs ≡ 4098 → ExampleI xs × (sample xs 4097 ≡ fin false 8191 (negsuc 12))
levels_hold xs e = (
  record {
    answer = (call-is 4098 xs e).0;
    sample_4095 = level-is xs e 4095 (lit< tt) ∙ ap (λ (e : Envelope). e.level) to_peak;
    sample_4096 = level-is xs e 4096 (lit< tt) ∙ ap (λ (e : Envelope). e.level) (from_peak 1) ∙ one_on;
  },
  level-is xs e 4097 (lit< tt) ∙ ap (λ (e : Envelope). e.level) (from_peak 2) ∙ two_on,
)
