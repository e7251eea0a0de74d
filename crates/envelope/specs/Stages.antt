-- One sample of the envelope, and what a note does to it. 01, "Steps, each operation rounded once, in this order":
-- "Stage rules, the floor 1e-6, and the growth of stage_time in all stages but Idle and Sustain are those of
-- envelope.rs".
-- First the rule of the stage sets the level of the sample, and may change the stage and set the time to 0. Then the
-- time grows by one sample, unless the stage is now Idle or Sustain. So on the sample of the peak the decay's time is
-- already one sample.
-- Settings are taken as clamped. Definitions only.
use Rattle.std.specs.Prelude.{Bool, true, false, cond, Float}
use Rattle.std.specs.Float.{binary64}
use Rattle.std.specs.Float.Ieee.{of_bits, le}
use Rattle.floats.specs.Double.{◌⊕◌, ◌⊖◌, ◌⊗◌, ◌⊘◌, zero64, one}
use Rattle.envelope.specs.declared.Adsr.{Adsr}
use Rattle.envelope.specs.declared.Envelope.{Envelope}
use Rattle.envelope.specs.declared.EnvelopeStage.{EnvelopeStage}
use Rattle.envelope.specs.declared.EnvelopeStage.TheVariants.{Idle, Attack, Decay, Sustain, Release}

-- 1e-6, the floor of a release
abbrev pub release_floor : Float
release_floor = of_bits binary64 0x3eb0_c6f7_a0b5_ed8d

-- stage, level and time are set; the release level is kept
abbrev pub with_stage : Envelope → EnvelopeStage → Float → Float → Envelope
with_stage e stage level time = record { stage = stage; level = level; stage_time = time; release_level = e.release_level }

-- ---- the level in each stage in which it moves
-- from 0 to 1, whatever the level was before
abbrev pub attack_level : Float → Envelope → Float
attack_level attack e = e.stage_time ⊘ attack

-- from 1 to the sustain level
abbrev pub decay_level : Float → Float → Envelope → Float
decay_level decay sustain e = one ⊖ (one ⊖ sustain) ⊗ (e.stage_time ⊘ decay)

-- from the level at the release to 0
abbrev pub release_level : Float → Envelope → Float
release_level release e = e.release_level ⊗ (one ⊖ e.stage_time ⊘ release)

-- ---- the rules
abbrev pub attack_rule : Float → Envelope → Envelope
attack_rule attack e =
    let x = attack_level attack e in
    cond (le one x) (with_stage e Decay one zero64) (with_stage e Attack x e.stage_time)

abbrev pub decay_rule : Float → Float → Envelope → Envelope
decay_rule decay sustain e =
    let x = decay_level decay sustain e in
    cond (le x sustain) (with_stage e Sustain sustain zero64) (with_stage e Decay x e.stage_time)

abbrev pub release_rule : Float → Envelope → Envelope
release_rule release e =
    let x = release_level release e in
    cond (le x release_floor) (with_stage e Idle zero64 zero64) (with_stage e Release x e.stage_time)

abbrev pub rule_of : EnvelopeStage → Adsr → Envelope → Envelope
rule_of Idle adsr e = with_stage e Idle zero64 e.stage_time
rule_of Attack adsr e = attack_rule adsr.attack e
rule_of Decay adsr e = decay_rule adsr.decay adsr.sustain e
rule_of Sustain adsr e = with_stage e Sustain adsr.sustain e.stage_time
rule_of Release adsr e = release_rule adsr.release e

-- ---- the growth of the time
abbrev pub is_moving : EnvelopeStage → Bool
is_moving Idle = false
is_moving Attack = true
is_moving Decay = true
is_moving Sustain = false
is_moving Release = true

abbrev pub grown_of : Float → Envelope → Envelope
grown_of t e = cond (is_moving e.stage) (with_stage e e.stage e.level (e.stage_time ⊕ t)) e

-- one sample: its level is the level of the envelope after it
unfoldable pub step_of : Adsr → Float → Envelope → Envelope
step_of adsr t e = grown_of t (rule_of e.stage adsr e)

-- ---- notes
abbrev pub fresh_of : Envelope
fresh_of = record { stage = Idle; level = zero64; stage_time = zero64; release_level = zero64 }

-- a note starts: both levels are kept
abbrev pub triggered_of : Envelope → Envelope
triggered_of e = with_stage e Attack e.level zero64

abbrev pub is_idle : EnvelopeStage → Bool
is_idle Idle = true
is_idle Attack = false
is_idle Decay = false
is_idle Sustain = false
is_idle Release = false

-- a note ends: in Idle nothing changes, else the release starts from the present level
unfoldable pub released_of : Envelope → Envelope
released_of e = cond (is_idle e.stage) e (record { stage = Release; level = e.level; stage_time = zero64; release_level = e.level })
