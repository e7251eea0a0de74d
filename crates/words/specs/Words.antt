-- A number in bytes, low byte first; and whether two lists have the same words. The bits of a float are those of the
-- logic's account of IEEE 754 (`of_bits`, `to_bits`), where every NaN pattern is the one NaN. Definitions only.
use Rattle.std.specs.Prelude.{Bool, true, false, cond, ◌&&◌, List, [], ◌∷◌, ℕ, zero, suc, ◌+◌, ◌*◌, leb, eqb, length, get_or}

-- four bytes as one number, low byte first
abbrev pub word_of : ℕ → ℕ → ℕ → ℕ → ℕ
word_of a b c d = a + b * 256 + c * 65536 + d * 16777216

-- the n bytes from index `at` on as one number: the first byte counts 1, the next 256, and so on
unfoldable pub low_first : ℕ → List ℕ → ℕ → ℕ
low_first zero bytes at = 0
low_first (suc n) bytes at = get_or bytes at 0 + 256 * low_first n bytes (at + 1)

-- the n bytes from index `at` on as one number, or 0 where they pass the end
unfoldable pub word_at : ℕ → List ℕ → ℕ → ℕ
unfolding low_first
word_at n bytes at = cond (leb (at + n) (length bytes)) (low_first n bytes at) 0

-- whether two lists of words are as long as each other and have the same words
unfoldable pub same : List ℕ → List ℕ → Bool
same [] [] = true
same [] (y ∷ ys) = false
same (x ∷ xs) [] = false
same (x ∷ xs) (y ∷ ys) = eqb x y && same xs ys
