-- A block whose values equal a waveform's own is a block of that waveform, such as that of a sine read from the whole
-- wave. Assumes nothing.
use mathlib.Core.Path.{◌≡◌, refl, sym, ◌∙◌}
use mathlib.Core.List.{List}
use lib.ListN.{length}
use lib.Ieee.{Float}
use borrow.Author.Tests.{ne_eqb}
use Rattle.sine.specs.Whole.{whole_wave, whole_reading}
use Rattle.sine.proofs.Whole.{whole_long, whole_is}
use Rattle.waveform.specs.declared.Radians.{Radians}
use Rattle.waveform.specs.declared.Waveform.{Waveform}
use Rattle.waveform.specs.declared.Waveform.TheVariants.{Sine, Square, Sawtooth, Triangle, Pulse, RoundedTriangle}
use Rattle.waveform.specs.Waveform.{value_of, normal_of}
use Rattle.waveform.specs.Filled.{value_at, FilledBy}
use Rattle.waveform.proofs.Steps.{samples-same}
use Rattle.filling.specs.Lent.{value_in}

pub filled_as : (value other : Float → Float) (p step scale : Float) (before after : List Float) (r : Radians) → ((q : Float) → value q ≡ other q) → FilledBy value p step scale before after r → FilledBy other p step scale before after r
filled_as value other p step scale before after r e f = record { samples = f.samples ∙ samples-same value other step scale p e (length before); phase = f.phase }

-- a sine is read from a table of 4,097 numbers
pub table_read : (W : List Float) (step q : Float) → length W ≡ 4097 → whole_reading W (normal_of q) ≡ value_in W Sine step q
unfolding value_in
table_read W step q l = rw l refl

-- for another waveform or a table of another length, the value is the waveform's own
pub table_unread : (W : List Float) (w : Waveform) (step q : Float) → (w ≡ Sine → length W ≡ 4097 → ⊥) → value_at w step q ≡ value_in W w step q
unfolding value_in
table_unread W Sine step q n = rw (ne_eqb (length W) 4097 (n refl)) refl
table_unread W Square step q n = refl
table_unread W Sawtooth step q n = refl
table_unread W Triangle step q n = refl
table_unread W (Pulse duty) step q n = refl
table_unread W RoundedTriangle step q n = refl

-- with the whole wave for the table, the value is the waveform's own
pub whole-value : (w : Waveform) (step q : Float) → value_in whole_wave w step q ≡ value_at w step q
unfolding value_in value_of
whole-value Sine step q = sym (table_read whole_wave step q whole_long) ∙ whole_is (normal_of q)
whole-value Square step q = refl
whole-value Sawtooth step q = refl
whole-value Triangle step q = refl
whole-value (Pulse duty) step q = refl
whole-value RoundedTriangle step q = refl
