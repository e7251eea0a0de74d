-- After any number of samples, and after any calls from `new`, the envelope is accepted: both levels 0 to 1 and the
-- time 0 to 11 s; and every level on the way is 0 to 1.
-- The sustain setting is taken to be a value of an f64, as every f64 of a program is. Assumes nothing.
use Rattle.std.specs.Prelude.{Ok}
use mathlib.Core.Path.{◌≡◌}
use mathlib.Core.Bool.{◌&&◌}
use mathlib.Core.List.{List, [], ◌∷◌, ◌++◌}
use Prim.Native.Nat.{ℕ, suc, ◌<◌}
use native.Mathlib.Omega.{arith}
use lib.Dec.{T}
use lib.ListN.{length, get_or}
use lib.Ieee.{Float, nan, binary64, fits}
use lib.Ieee.Fits.{and_l, and_r}
use Rattle.floats.specs.Range.{within}
use Rattle.floats.specs.Double.{zero64, one}
use Rattle.runs.proofs.Laws.{repeated_keeps}
use Rattle.answers.specs.declared.Refusal.TheVariants.{Setting, Argument}
use Rattle.answers.specs.Order.{unless}
use Rattle.answers.specs.Outcome.{Outcome}
use Rattle.answers.proofs.Order.{both-held, first_keeps}
use Rattle.domain.specs.Domain.{is_rate}
use Rattle.envelope.specs.Limits.{is_adsr, is_envelope, clamped_of, sample_time_of}
use Rattle.envelope.specs.Stages.{fresh_of, step_of, triggered_of, released_of}
use Rattle.envelope.specs.Running.{envelope_from, levels_from}
use Rattle.envelope.specs.Calls.{changed_of, new_of, note_on_of, note_off_of, reset_of, process_of}
use Rattle.envelope.specs.declared.Adsr.{Adsr}
use Rattle.envelope.specs.declared.Envelope.{Envelope}
use Rattle.envelope.specs.declared.EnvelopeBlock.{EnvelopeBlock}
use Rattle.envelope.specs.declared.Processed.{Processed}
use Rattle.envelope.proofs.Inside.{is-inside}
use Rattle.envelope.proofs.Keeps.{step_keeps, fresh-accepted, triggered_keeps, released_keeps}
use Rattle.envelope.proofs.RunsOn.{level-at}

-- ---- samples
module _ (k : Adsr) (rate : ℕ) (e : Envelope) (a : T (is_adsr k)) (w : T (fits binary64 k.sustain)) (r : T (is_rate rate)) (h : T (is_envelope e)) where
  pub run_keeps : (n : ℕ) → T (is_envelope (envelope_from (clamped_of k) (sample_time_of rate) e n))
  unfolding envelope_from
  run_keeps = repeated_keeps (step_of (clamped_of k) (sample_time_of rate)) e (λ (x : Envelope). T (is_envelope x)) (λ x. step_keeps k rate x a w r) h

  -- every level is 0 to 1
  pub levels_in : (i n : ℕ) → i < n → T (within zero64 one (get_or (levels_from (clamped_of k) (sample_time_of rate) e n) i nan))
  levels_in i n l = rw (level-at (clamped_of k) (sample_time_of rate) e i n l) (is-inside _ (run_keeps (suc i))).level_in

-- ---- calls
pub record Good (b : EnvelopeBlock) : Type 0 where
  pub sustain_fits : T (fits binary64 b.adsr.sustain)
  pub accepted : T (is_envelope b.envelope)

-- a refused call hands the block back, and a done one leaves a good one
change_keeps : (b : EnvelopeBlock) (e : Envelope) → Good b → T (is_envelope e) → Good (changed_of b e).block
change_keeps b e g h = first_keeps (unless (is_envelope b.envelope) Argument) _ _ (λ (r : Processed). Good r.block) (λ why. g) (λ t. record { sustain_fits = g.sustain_fits; accepted = h })

process_keeps : (b : EnvelopeBlock) (rate : ℕ) (xs : List Float) → Good b → Good (process_of b rate xs).result.block
unfolding process_of
process_keeps b rate xs g =
    let usable = is_adsr b.adsr && is_rate rate in
    let sound = is_envelope b.envelope in
    first_keeps (unless usable Setting ++ unless sound Argument) _ _ (λ (o : Outcome Processed). Good o.result.block) (λ why. g)
    (λ e.
    let t = (both-held usable sound Setting Argument e).0 in
    record {
      sustain_fits = g.sustain_fits;
      accepted = run_keeps b.adsr rate b.envelope (and_l (is_adsr b.adsr) (is_rate rate) t) g.sustain_fits (and_r (is_adsr b.adsr) (is_rate rate) t) g.accepted (length xs);
    })

pub data Call : Type 0 where
  on off reset : Call
  process : ℕ → List Float → Call

-- the block after a call
abbrev pub after : EnvelopeBlock → Call → EnvelopeBlock
after b on = (note_on_of b).block
after b off = (note_off_of b).block
after b reset = (reset_of b).block
after b (process rate xs) = (process_of b rate xs).result.block

after_keeps : (b : EnvelopeBlock) (c : Call) → Good b → Good (after b c)
after_keeps b on g = change_keeps b (triggered_of b.envelope) g (triggered_keeps b.envelope g.accepted)
after_keeps b off g = change_keeps b (released_of b.envelope) g (released_keeps b.envelope g.accepted)
after_keeps b reset g = change_keeps b fresh_of g fresh-accepted
after_keeps b (process rate xs) g = process_keeps b rate xs g

-- the block after the calls of a list, from b
unfoldable pub run : EnvelopeBlock → List Call → EnvelopeBlock
run b [] = b
run b (c ∷ cs) = run (after b c) cs

calls_keep : (b : EnvelopeBlock) (cs : List Call) → Good b → Good (run b cs)
unfolding run
calls_keep b [] g = g
calls_keep b (c ∷ cs) g = calls_keep (after b c) cs (after_keeps b c g)

-- from `new`, after any calls, refused ones too, the envelope is within the limits: so no call refuses it
pub stays : (attack decay sustain release : Float) → T (fits binary64 sustain) → (cs : List Call) → T (is_envelope (run (new_of attack decay sustain release) cs).envelope)
stays attack decay sustain release w cs = (calls_keep (new_of attack decay sustain release) cs (record { sustain_fits = w; accepted = fresh-accepted })).accepted

clash : ◌≡◌ {A = ℕ} 0 1 → ⊥
clash e = omega arith

-- 01: "The level is proved to stay between 0 and 1 from a fresh envelope". Every level that `process` writes, after any
-- calls from `new`, is 0 to 1
pub process_in : (attack decay sustain release : Float) → T (fits binary64 sustain) → (cs : List Call) (rate : ℕ) (xs : List Float) (n : ℕ)
    → (process_of (run (new_of attack decay sustain release) cs) rate xs).result.answer ≡ Ok n → (i : ℕ) → i < length xs → T (within zero64 one (get_or (process_of (run (new_of attack decay sustain release) cs) rate xs).lent i nan))
unfolding process_of
process_in attack decay sustain release w cs rate xs n done i l =
    let b = run (new_of attack decay sustain release) cs in
    let g : Good b = calls_keep (new_of attack decay sustain release) cs (record { sustain_fits = w; accepted = fresh-accepted }) in
    let usable = is_adsr b.adsr && is_rate rate in
    let sound = is_envelope b.envelope in
    first_keeps (unless usable Setting ++ unless sound Argument) _ _ (λ (o : Outcome Processed). o.result.answer ≡ Ok n → T (within zero64 one (get_or o.lent i nan))) (λ why e. absurd (clash (cc)))
    (λ e d.
    let t = (both-held usable sound Setting Argument e).0 in
    levels_in b.adsr rate b.envelope (and_l (is_adsr b.adsr) (is_rate rate) t) g.sustain_fits (and_r (is_adsr b.adsr) (is_rate rate) t) g.accepted i (length xs) l)
    done
