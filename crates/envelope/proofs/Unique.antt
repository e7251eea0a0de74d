-- Two outcomes that meet a public function's statement are equal: each statement is an equation with one definition of
-- specs/. Assumes nothing.
use mathlib.Core.Path.{◌≡◌, sym, ◌∙◌}
use mathlib.Core.Bool.{Bool}
use mathlib.Core.List.{List}
use Prim.Native.Nat.{ℕ}
use lib.Ieee.{Float}
use Rattle.envelope.specs.Limits.{is_adsr, is_envelope, clamped_of, sample_time_of}
use Rattle.envelope.specs.Stages.{step_of, fresh_of, triggered_of, released_of}
use Rattle.envelope.specs.Scaled.{Scaled}
use Rattle.answers.specs.Outcome.{leaves}
use Rattle.answers.proofs.Unique.{same_left}
use Rattle.envelope.specs.Calls.{new_of, note_on_of, note_off_of, reset_of, process_of}
use Rattle.envelope.specs.declared.Adsr.{Adsr}
use Rattle.envelope.specs.declared.Envelope.{Envelope}
use Rattle.envelope.specs.declared.EnvelopeBlock.{EnvelopeBlock}
use Rattle.envelope.specs.declared.Processed.{Processed}

-- ---- the calls
pub new_unique : (a d s x : Float) (r t : EnvelopeBlock) → r ≡ new_of a d s x → t ≡ new_of a d s x → r ≡ t
new_unique a d s x r t p q = p ∙ sym q

pub note_on_unique : (b : EnvelopeBlock) (r t : Processed) → r ≡ note_on_of b → t ≡ note_on_of b → r ≡ t
note_on_unique b r t p q = p ∙ sym q

pub note_off_unique : (b : EnvelopeBlock) (r t : Processed) → r ≡ note_off_of b → t ≡ note_off_of b → r ≡ t
note_off_unique b r t p q = p ∙ sym q

pub reset_unique : (b : EnvelopeBlock) (r t : Processed) → r ≡ reset_of b → t ≡ reset_of b → r ≡ t
reset_unique b r t p q = p ∙ sym q

-- the result and every lent number
pub process_unique : (b : EnvelopeBlock) (rate : ℕ) (xs ys zs : List Float) (r t : Processed) → leaves r ys ≡ process_of b rate xs → leaves t zs ≡ process_of b rate xs → (r ≡ t) × (ys ≡ zs)
process_unique b rate xs ys zs r t = same_left (process_of b rate xs) r t ys zs

-- ---- the helpers
pub fresh_unique : (r t : Envelope) → r ≡ fresh_of → t ≡ fresh_of → r ≡ t
fresh_unique r t p q = p ∙ sym q

pub triggered_unique : (e r t : Envelope) → r ≡ triggered_of e → t ≡ triggered_of e → r ≡ t
triggered_unique e r t p q = p ∙ sym q

pub released_unique : (e r t : Envelope) → r ≡ released_of e → t ≡ released_of e → r ≡ t
released_unique e r t p q = p ∙ sym q

pub is_adsr_unique : (k : Adsr) (r t : Bool) → r ≡ is_adsr k → t ≡ is_adsr k → r ≡ t
is_adsr_unique k r t p q = p ∙ sym q

pub is_envelope_unique : (e : Envelope) (r t : Bool) → r ≡ is_envelope e → t ≡ is_envelope e → r ≡ t
is_envelope_unique e r t p q = p ∙ sym q

pub clamped_unique : (k r t : Adsr) → r ≡ clamped_of k → t ≡ clamped_of k → r ≡ t
clamped_unique k r t p q = p ∙ sym q

pub sample_time_unique : (rate : ℕ) (r t : Float) → r ≡ sample_time_of rate → t ≡ sample_time_of rate → r ≡ t
sample_time_unique rate r t p q = p ∙ sym q

pub step_unique : (k : Adsr) (x : Float) (e r t : Envelope) → r ≡ step_of k x e → t ≡ step_of k x e → r ≡ t
step_unique k x e r t p q = p ∙ sym q

-- the envelope and every lent number
pub scale_unique : (k : Adsr) (t : Float) (e : Envelope) (velocity : Float) (xs ys zs : List Float) (r u : Envelope) → Scaled k t e velocity xs ys r → Scaled k t e velocity xs zs u → (r ≡ u) × (ys ≡ zs)
scale_unique k t e velocity xs ys zs r u p q = (p.envelope ∙ sym q.envelope, p.samples ∙ sym q.samples)
