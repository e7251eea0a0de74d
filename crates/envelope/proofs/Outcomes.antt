-- What the block call leaves, done and refused, from the answers of its parts. Assumes nothing.
use Rattle.std.proofs.Common.{◌≡◌, refl, ℕ, List, [], ◌∷◌, true, false, length}
use Rattle.std.specs.Prelude.{Float, is_ok, Ok, Err}
use Rattle.envelope.specs.Limits.{clamped_of, sample_time_of}
use Rattle.envelope.specs.Running.{envelope_from, levels_from, Filled}
use Rattle.answers.specs.Answer.{Answer}
use Rattle.answers.specs.Outcome.{Outcome, leaves}
use Rattle.answers.specs.Order.{first_of}
use Rattle.answers.specs.Value.{value_or}
use Rattle.answers.specs.declared.Refusal.{Refusal}
use Rattle.envelope.specs.Calls.{refusals_of, with_envelope, process_of}
use Rattle.envelope.specs.declared.Adsr.{Adsr}
use Rattle.envelope.specs.declared.Envelope.{Envelope}
use Rattle.envelope.specs.declared.EnvelopeBlock.{EnvelopeBlock}
use Rattle.envelope.specs.declared.Processed.{Processed}

-- ---- an answer, and what is decided by the same refusals
done-decides : {R : Type 0} (w : List Refusal) (n : ℕ) (refused : Refusal → R) (done : R) → is_ok (value_or w n) ≡ true → (value_or w n ≡ Ok n) × (first_of w refused done ≡ done)
done-decides [] n refused done h = (refl, refl)
done-decides (why ∷ later) n refused done h = cc

module _ (b : EnvelopeBlock) (rate : ℕ) (xs : List Float) where
  refused_decides : (w : List Refusal) (n : ℕ) (done : Outcome Processed) → is_ok (value_or w n) ≡ false → leaves {R = Processed} (record { answer = value_or w n; block = b }) xs ≡ first_of w (λ (why : Refusal). leaves {R = Processed} (record { answer = Err why; block = b }) xs) done
  refused_decides [] n done h = cc
  refused_decides (why ∷ later) n done h = refl

  -- all tests hold: the lent numbers are the levels
  pub process-done : (a : Answer) (k : Adsr) (t : Float) (ys : List Float) (e : Envelope) → a ≡ value_or (refusals_of b rate) (length xs) → is_ok a ≡ true →
      k ≡ clamped_of b.adsr → t ≡ sample_time_of rate → Filled k t b.envelope (length xs) ys e → leaves {R = Processed} (record { answer = a; block = with_envelope b e }) ys ≡ process_of b rate xs
  unfolding process_of
  process-done a k t ys e q h p s f =
      let (done, decided) = done-decides (refusals_of b rate) (length xs) (λ (why : Refusal). leaves {R = Processed} (record { answer = Err why; block = b }) xs)
      (leaves {R = Processed} (record { answer = Ok (length xs); block = with_envelope b (envelope_from (clamped_of b.adsr) (sample_time_of rate) b.envelope (length xs)) }) (levels_from (clamped_of b.adsr) (sample_time_of rate) b.envelope (length xs)))
      (rw q at h) in
      rw (q, done, decided, ← p, ← s, f.levels, f.last) refl

  -- a test fails: all is as it came
  pub process-refused : (a : Answer) → a ≡ value_or (refusals_of b rate) (length xs) → is_ok a ≡ false → leaves {R = Processed} (record { answer = a; block = b }) xs ≡ process_of b rate xs
  unfolding process_of
  process-refused a q h = rw q (refused_decides (refusals_of b rate) (length xs) _ (rw q at h))
