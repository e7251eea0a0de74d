-- `filling::fill_wave` meets its contract. Assumes nothing.
use borrow.Author.Rules.{rules}
use mathlib.Core.Path.{◌≡◌, refl, sym, ◌∙◌}
use mathlib.Core.Bool.{true, ◌&&◌}
use mathlib.Core.List.{List}
use Prim.Native.Nat.{ℕ}
use lib.Dec.{T}
use lib.Ieee.{Float, binary64, fits}
use Rattle.floats.specs.Range.{within}
use Rattle.floats.specs.Double.{zero64}
use Rattle.sine.specs.Whole.{whole_reading}
use Rattle.waveform.proofs.Values.{far, sixteen}
use Rattle.high_notes.specs.Remainders.{remainders_of}
use Rattle.high_notes.specs.Inner.{AllFractions}
use Rattle.high_notes.proofs.Remaking.{remainders_are, made_block}
use Rattle.high_notes.proofs.Wraps.{rising_fractions}
use Rattle.filling.proofs.fill_wave.Goals as goal

-- the remainders of phases that rise from 0 or above are fractions of a cycle
fractions : (step p : Float) → T (fits binary64 p) → (within zero64 far p && within zero64 sixteen step) ≡ true → (n : ℕ) (ys : List Float) → ys ≡ remainders_of step p n → AllFractions ys
fractions step p w h n ys e = rising_fractions step p w h n _ ys refl (e ∙ sym (remainders_are step p n _ _ refl refl))

pub read_pairs-requires : goal.read_pairs-requires
read_pairs-requires c = fractions _ _ (search rules) (rw (← c.is_within.ensures, ← c.is_within-2.ensures) c.if-is_within.true) _ _ c.fill_remainders-end.ensures.0

pub returns-then-is_within : goal.returns-then-is_within
returns-then-is_within c = let a = c.args in made_block a.step.0 a.start.0 (whole_reading a.wave.now) a.scale _ _ _ _ c.fill_remainders-end.ensures.0 c.fill_remainders-end.ensures.1 c.read_pairs.ensures

pub returns : goal.returns
returns c = let a = c.args in made_block a.step.0 a.start.0 (whole_reading a.wave.now) a.scale _ _ _ _ c.fill_remainders-end.ensures.0 c.fill_remainders-end.ensures.1 c.read_wave.ensures
