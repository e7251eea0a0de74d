-- A lent part times the envelope: each value times the level of its sample times a velocity. 01, "Making sample n":
-- "the sample is oscillator value * envelope level * velocity, left to right". Definitions only.
use Rattle.std.specs.Prelude.{List, ◌≡◌, ℕ, suc, length, get_or, Float}
use Rattle.std.specs.Float.{nan}
use Rattle.runs.specs.Runs.{listed}
use Rattle.floats.specs.Double.{◌⊗◌}
use Rattle.envelope.specs.Running.{envelope_from}
use Rattle.envelope.specs.declared.Adsr.{Adsr}
use Rattle.envelope.specs.declared.Envelope.{Envelope}

-- the first n values of xs, scaled
unfoldable pub scaled_to : Adsr → Float → Envelope → Float → List Float → ℕ → List Float
scaled_to adsr t e velocity xs n = listed (λ (i : ℕ). get_or xs i nan ⊗ (envelope_from adsr t e (suc i)).level ⊗ velocity) n

-- a lent part is scaled to its end, and r is the envelope after it
pub record Scaled (adsr : Adsr) (t : Float) (e : Envelope) (velocity : Float) (before after : List Float) (r : Envelope) : Type 0 where
  pub samples : after ≡ scaled_to adsr t e velocity before (length before)
  pub envelope : r ≡ envelope_from adsr t e (length before)
