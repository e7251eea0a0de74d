-- What private functions are held to: a step split by its stage, and how many values of a lent part are scaled. No
-- public statement cites these definitions. Definitions only.
use Rattle.std.specs.Prelude.{Bool, true, List, ◌≡◌, ℕ, ◌+◌, ◌≤◌, length, take, get_or, set, Float}
use Rattle.std.specs.Float.{nan}
use Rattle.std.specs.Float.Ieee.{le}
use Rattle.floats.specs.Double.{◌⊕◌, ◌⊗◌, zero64, one}
use Rattle.envelope.specs.Stages.{release_floor, with_stage, attack_level, decay_level, release_level}
use Rattle.envelope.specs.Running.{envelope_from}
use Rattle.envelope.specs.Scaled.{scaled_to}
use Rattle.envelope.specs.declared.Adsr.{Adsr}
use Rattle.envelope.specs.declared.Envelope.{Envelope}
use Rattle.envelope.specs.declared.EnvelopeStage.{EnvelopeStage}
use Rattle.envelope.specs.declared.levels.Scaling.{Scaling}
use Rattle.envelope.specs.declared.levels.Progress.{Progress}
use Rattle.envelope.specs.declared.EnvelopeStage.TheVariants.{Idle, Attack, Decay, Sustain, Release}

-- ---- a step
-- the level in a stage, before the test for its end
abbrev pub level_of : EnvelopeStage → Adsr → Envelope → Float
level_of Idle adsr e = zero64
level_of Attack adsr e = attack_level adsr.attack e
level_of Decay adsr e = decay_level adsr.decay adsr.sustain e
level_of Sustain adsr e = adsr.sustain
level_of Release adsr e = release_level adsr.release e

-- whether a sample of level x ends its stage; for Idle and Sustain true, as `ended_in` gives both whole
abbrev pub ends_at : EnvelopeStage → Adsr → Float → Bool
ends_at Idle adsr x = true
ends_at Attack adsr x = le one x
ends_at Decay adsr x = le x adsr.sustain
ends_at Sustain adsr x = true
ends_at Release adsr x = le x release_floor

-- a step in two cases: `next_in` of a sample that does not end its stage, `ended_in` of one that does or is in Idle or
-- Sustain
abbrev pub next_in : EnvelopeStage → Adsr → Float → Envelope → Envelope
next_in s adsr t e = with_stage e s (level_of s adsr e) (e.stage_time ⊕ t)

abbrev pub ended_in : EnvelopeStage → Adsr → Float → Envelope → Envelope
ended_in Idle adsr t e = with_stage e Idle zero64 e.stage_time
ended_in Attack adsr t e = with_stage e Decay one (zero64 ⊕ t)
ended_in Decay adsr t e = with_stage e Sustain adsr.sustain zero64
ended_in Sustain adsr t e = with_stage e Sustain adsr.sustain e.stage_time
ended_in Release adsr t e = with_stage e Idle zero64 zero64

-- ---- a part
-- a value times a level times the velocity
abbrev pub scaled_by : Float → Float → Float → Float
scaled_by level velocity x = x ⊗ level ⊗ velocity

-- values i and i + 1 of a part, each times its level times the velocity
unfoldable pub scaled_two : Float → List Float → ℕ → Float → Float → List Float
scaled_two velocity ys i a b = let once = set ys i (get_or ys i nan ⊗ a ⊗ velocity) in set once (i + 1) (get_or once (i + 1) nan ⊗ b ⊗ velocity)

-- of a part that held xs the first i values are scaled and the others are as they were; c is the envelope after i
-- samples
pub record Reached (adsr : Adsr) (t : Float) (e : Envelope) (velocity : Float) (xs ys : List Float) (c : Envelope) (i : ℕ) : Type 0 where
  pub long : length ys ≡ length xs
  pub within : i ≤ length xs
  pub envelope : c ≡ envelope_from adsr t e i
  pub first : take i ys ≡ scaled_to adsr t e velocity xs i
  pub others : (j : ℕ) → i ≤ j → get_or ys j nan ≡ get_or xs j nan

-- from ys, c, i to zs, d, j: wherever a loop began, if it had reached the first three, it has now reached the others
abbrev pub ScalesOn : Adsr → Float → Float → List Float → Envelope → ℕ → List Float → Envelope → ℕ → Type 0
ScalesOn adsr t velocity ys c i zs d j = (e : Envelope) (xs : List Float) → Reached adsr t e velocity xs ys c i → Reached adsr t e velocity xs zs d j

-- from ys and the progress p to zs and q, no further back and within the part
abbrev pub Advances : Scaling → List Float → Progress → List Float → Progress → Type 0
Advances by ys p zs q = (p.count ≤ q.count) × (q.count ≤ length zs) × ScalesOn by.adsr by.sample_time by.velocity ys p.envelope p.count zs q.envelope q.count
