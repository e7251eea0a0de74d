-- The limits of a state. 01, "The shelf": "An entry is a state if phase is at least 0 and below 1,000, stage_time 0 to
-- 11, levels and velocity 0 to 1, frequency above 0 and at most 12,544, active note 0 to 127 or 255, gate 1 exactly
-- when it is not 255, held count at most 16, pairs in range, and the rest of these words zero." 02, R-7: the LFO's
-- phase is "under the limits of the first" word, the phase.
-- A range is a comparison of floats: a NaN is outside, and -0 counts as 0, so that a frequency of -0 is refused.
-- Whether stage, level, note and keys agree with each other is not tested.
-- Stricter than 01 by one clause: the records acted fit in the 48 bits that an entry has for them. This refuses no
-- more: a score has at most 4,096 records, so a state with more acted differs from every score, and 8 or 10 is given
-- anyway. Definitions only.
use Rattle.std.specs.Prelude.{Bool, ◌&&◌, ℕ, leb}
use Rattle.std.specs.Float.{binary64}
use Rattle.floats.specs.Range.{within}
use Rattle.floats.specs.Double.{zero64, one}
use Rattle.domain.specs.Domain.{is_radians, is_pitch}
use Rattle.envelope.specs.Limits.{is_envelope}
use Rattle.voice.specs.Keys.{is_keys}
use Rattle.state.specs.declared.State.{State}

-- all fields but the number of records acted are within their limits
unfoldable pub in_limits : State → Bool
in_limits v = is_radians v.phase.0 && is_envelope v.envelope && is_pitch binary64 v.frequency && within zero64 one v.velocity && is_keys v.keys && is_radians v.lfo.0

-- 2^48 - 1
abbrev pub most_acted : ℕ
most_acted = 281474976710655

unfoldable pub is_state : State → Bool
is_state v = in_limits v && leb v.acted most_acted
