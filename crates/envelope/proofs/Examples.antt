-- Easy errors, by example, on the definitions that the contracts cite. 01's worked examples (i) and (j) take 4,098
-- steps and are in the crate `worked_examples`. Assumes nothing.
use mathlib.Core.Path.{◌≡◌, refl}
use mathlib.Core.Bool.{true, false}
use lib.IntN.{negsuc}
use lib.Ieee.{Float, nan, inf, fin, binary64, of_bits, is_nan, add, sub, mul, div, lt, le}
use Rattle.floats.specs.Double.{zero64, half, one}
use Rattle.envelope.specs.Limits.{milli, ten, is_adsr, clamped_of}
use Rattle.envelope.specs.Stages.{release_floor, decay_level, step_of, triggered_of, released_of}
use Rattle.envelope.specs.declared.Adsr.{Adsr}
use Rattle.envelope.specs.declared.Envelope.{Envelope}
use Rattle.envelope.specs.declared.EnvelopeStage.{EnvelopeStage}
use Rattle.envelope.specs.declared.EnvelopeStage.TheVariants.{Idle, Attack, Decay, Sustain, Release}

abbrev pub minus_zero : Float
minus_zero = of_bits binary64 0x8000_0000_0000_0000

abbrev pub settings : Float → Float → Float → Float → Adsr
settings a d s r = record { attack = a; decay = d; sustain = s; release = r }

abbrev pub at : EnvelopeStage → Float → Float → Float → Envelope
at s x t r = record { stage = s; level = x; stage_time = t; release_level = r }

-- infinities are clamped, and a sustain level of -0 is kept
pub clamps : clamped_of (settings (inf false) (inf true) minus_zero zero64) ≡ settings ten milli minus_zero milli
unfolding clamped_of of_bits lt
clamps = refl

-- a NaN is refused, infinities are not
pub judges : (is_adsr (settings one one nan one) ≡ false) × (is_adsr (settings (inf false) (inf true) one one) ≡ true)
unfolding is_adsr of_bits is_nan
judges = (refl, refl)

-- ---- one step, at 16,384 Hz and with times of 1 s
abbrev pub tick : Float
tick = fin false 1 (negsuc 13)

abbrev pub seconds : Float → Adsr
seconds s = settings one one s one

-- on the sample that reaches the peak the decay's time has already moved by one sample
pub peak_moves : step_of (seconds half) tick (at Attack half one zero64) ≡ at Decay one tick zero64
unfolding step_of of_bits add div le
peak_moves = refl

-- the attack starts at level 0, whatever the level was
pub attack_from-zero : step_of (seconds half) tick (triggered_of (at Sustain half zero64 zero64)) ≡ at Attack zero64 tick zero64
unfolding step_of of_bits add div le
attack_from-zero = refl

-- a release ends at 1e-6 itself
pub floor_ends : step_of (seconds half) tick (at Release release_floor zero64 release_floor) ≡ at Idle zero64 zero64 release_floor
unfolding step_of of_bits sub mul div le
floor_ends = refl

-- in Idle the end of a note changes nothing; in Decay the release starts from the present level
pub releases : (released_of (at Idle half one one) ≡ at Idle half one one) × (released_of (at Decay half one zero64) ≡ at Release half zero64 half)
unfolding released_of
releases = (refl, refl)

-- a decay need not end at progress 1: with sustain 0.3 the level there is 0.30000000000000004, above it
abbrev pub three_tenths : Float
three_tenths = of_bits binary64 0x3fd3_3333_3333_3333

pub decay_goes_on : (decay_level one three_tenths (at Decay one one zero64) ≡ of_bits binary64 0x3fd3_3333_3333_3334) × ((step_of (seconds three_tenths) tick (at Decay one one zero64)).stage ≡ Decay)
unfolding step_of of_bits add sub mul div le
decay_goes_on = (refl, refl)
