-- Two outcomes that meet a public function's statement are equal. Assumes nothing.
use mathlib.Core.Path.{◌≡◌, sym, ◌∙◌}
use mathlib.Core.List.{List}
use Prim.Native.Nat.{ℕ}
use lib.Ieee.{Float, Format, of_bits, to_bits}
use Rattle.words.specs.Words.{word_of, word_at}

pub word_of_unique : (a b c d r t : ℕ) → r ≡ word_of a b c d → t ≡ word_of a b c d → r ≡ t
word_of_unique a b c d r t p q = p ∙ sym q

-- `u32_at` at n = 4, `u64_at` at n = 8
pub word_at_unique : (n : ℕ) (b : List ℕ) (at r t : ℕ) → r ≡ word_at n b at → t ≡ word_at n b at → r ≡ t
word_at_unique n b at r t p q = p ∙ sym q

-- `f32_of` and `f64_of`
pub of_bits_unique : (f : Format) (b : ℕ) (r t : Float) → r ≡ of_bits f b → t ≡ of_bits f b → r ≡ t
of_bits_unique f b r t p q = p ∙ sym q

-- `f32_bits` and `f64_bits`
pub to_bits_unique : (f : Format) (x : Float) (r t : ℕ) → r ≡ to_bits f x → t ≡ to_bits f x → r ≡ t
to_bits_unique f x r t p q = p ∙ sym q
