-- Consecutive samples from an envelope e: the envelope after n of them, and their levels. Demand 2: "A render is those
-- steps applied sample by sample". Definitions only.
use Rattle.std.specs.Prelude.{List, ◌≡◌, ℕ, suc, Float}
use Rattle.runs.specs.Runs.{repeated, listed}
use Rattle.envelope.specs.Stages.{step_of}
use Rattle.envelope.specs.declared.Adsr.{Adsr}
use Rattle.envelope.specs.declared.Envelope.{Envelope}

-- the envelope after n samples
unfoldable pub envelope_from : Adsr → Float → Envelope → ℕ → Envelope
envelope_from adsr t e n = repeated (step_of adsr t) e n

-- the levels of the first n samples
unfoldable pub levels_from : Adsr → Float → Envelope → ℕ → List Float
levels_from adsr t e n = listed (λ (i : ℕ). (envelope_from adsr t e (suc i)).level) n

-- the lent numbers xs are the first n levels, and r is the envelope after them
pub record Filled (adsr : Adsr) (t : Float) (e : Envelope) (n : ℕ) (xs : List Float) (r : Envelope) : Type 0 where
  pub levels : xs ≡ levels_from adsr t e n
  pub last : r ≡ envelope_from adsr t e n
