-- Two outcomes that meet a public function's statement are equal: each statement is an equation with one definition of
-- specs/. Assumes nothing.
use Rattle.std.specs.Prelude.{Result}
use mathlib.Core.Path.{◌≡◌, sym, ◌∙◌}
use mathlib.Core.List.{List}
use Prim.Native.Nat.{ℕ}
use lib.Ieee.{Float}
use Rattle.sine.specs.Table.{quarter}
use Rattle.sine.specs.Sine.{line_of, reading_in, reading_of, sine_of}
use Rattle.sine.specs.Whole.{whole_wave, whole_reading}
use Rattle.answers.specs.declared.Refusal.{Refusal}

pub sine_unique : (u : Float) (r t : Result Float Refusal) → r ≡ sine_of u → t ≡ sine_of u → r ≡ t
sine_unique u r t p q = p ∙ sym q

pub reading_unique : (u r t : Float) → r ≡ reading_of u → t ≡ reading_of u → r ≡ t
reading_unique u r t p q = p ∙ sym q

pub quarter_wave_unique : (r t : List ℕ) → r ≡ quarter → t ≡ quarter → r ≡ t
quarter_wave_unique r t p q = p ∙ sym q

pub reading_in_unique : (wave : List ℕ) (u r t : Float) → r ≡ reading_in wave u → t ≡ reading_in wave u → r ≡ t
reading_in_unique wave u r t p q = p ∙ sym q

pub line_unique : (a b f r t : Float) → r ≡ line_of a b f → t ≡ line_of a b f → r ≡ t
line_unique a b f r t p q = p ∙ sym q

pub whole_wave_unique : (r t : List Float) → r ≡ whole_wave → t ≡ whole_wave → r ≡ t
whole_wave_unique r t p q = p ∙ sym q

pub whole_reading_unique : (wave : List Float) (u r t : Float) → r ≡ whole_reading wave u → t ≡ whole_reading wave u → r ≡ t
whole_reading_unique wave u r t p q = p ∙ sym q
