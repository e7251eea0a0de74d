-- The f64 operations + - * / as infix ⊕ ⊖ ⊗ ⊘, each rounded once, and the numbers that other crates write as literals.
-- Definitions only.
use Rattle.std.specs.Prelude.{Float}
use Rattle.std.specs.Float.{binary64}
use Rattle.std.specs.Float.Ieee.{of_bits, add, sub, mul, div}
use Rattle.floats.specs.Range.{zero_of, one_of}

infixl 60 ◌⊕◌ ◌⊖◌
infixl 70 ◌⊗◌ ◌⊘◌
abbrev pub ◌⊕◌ : Float → Float → Float
x ⊕ y = add binary64 x y

abbrev pub ◌⊖◌ : Float → Float → Float
x ⊖ y = sub binary64 x y

abbrev pub ◌⊗◌ : Float → Float → Float
x ⊗ y = mul binary64 x y

abbrev pub ◌⊘◌ : Float → Float → Float
x ⊘ y = div binary64 x y

abbrev pub zero64 : Float
zero64 = zero_of binary64

abbrev pub half : Float
half = of_bits binary64 0x3fe0_0000_0000_0000

abbrev pub one : Float
one = one_of binary64

abbrev pub two : Float
two = of_bits binary64 0x4000_0000_0000_0000

abbrev pub three : Float
three = of_bits binary64 0x4008_0000_0000_0000

abbrev pub four : Float
four = of_bits binary64 0x4010_0000_0000_0000

abbrev pub eight : Float
eight = of_bits binary64 0x4020_0000_0000_0000
