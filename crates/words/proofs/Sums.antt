-- The bytes of a word one by one, and what the test of the length decides. Assumes nothing.
use mathlib.Core.Path.{◌≡◌, refl, ◌∙◌}
use mathlib.Core.List.{List}
use Prim.Native.Nat.{ℕ, ◌+◌, ◌≤◌, ◌<◌}
use native.Mathlib.Nat.{add_assoc, add-zero}
use native.Mathlib.Omega.{arith}
use borrow.Author.Tests.{le-leb, lt-leb}
use lib.ListN.{length, get_or, take, drop}
use Rattle.std.specs.Int.{w32, w64, from_le_bytes}
use Rattle.std.proofs.lemmas.List.{get_or-take, get_or-drop}
use Rattle.words.specs.Words.{low_first, word_at}

-- byte k of the n from index `at` on
byte : (n : ℕ) (b : List ℕ) (at k : ℕ) → k < n → get_or (take n (drop at b)) k 0 ≡ get_or b (at + k) 0
byte n b at k h = get_or-take n (drop at b) k 0 h ∙ get_or-drop at b k 0

-- what `from_le_bytes` makes of the bytes from index `at` on
pub four_are : (b : List ℕ) (at : ℕ) → from_le_bytes w32 (take 4 (drop at b)) ≡ low_first 4 b at
unfolding low_first
four_are b at =
    rw (byte 4 b at 0 (omega arith), byte 4 b at 1 (omega arith), byte 4 b at 2 (omega arith), byte 4 b at 3 (omega arith))
    (simp (add_assoc, add-zero) (omega arith))

pub eight_are : (b : List ℕ) (at : ℕ) → from_le_bytes w64 (take 8 (drop at b)) ≡ low_first 8 b at
unfolding low_first
eight_are b at =
    rw (byte 8 b at 0 (omega arith), byte 8 b at 1 (omega arith), byte 8 b at 2 (omega arith), byte 8 b at 3 (omega arith))
    (rw (byte 8 b at 4 (omega arith), byte 8 b at 5 (omega arith), byte 8 b at 6 (omega arith), byte 8 b at 7 (omega arith))
    (simp (add_assoc, add-zero) (omega arith)))

-- the n bytes pass the end: the word is 0; else it is their number
pub word-short : (n : ℕ) (b : List ℕ) (at : ℕ) → length b < at + n → 0 ≡ word_at n b at
unfolding word_at
word-short n b at h = rw (lt-leb (at + n) (length b) h) refl

pub word-there : (n : ℕ) (b : List ℕ) (at : ℕ) → at + n ≤ length b → low_first n b at ≡ word_at n b at
unfolding word_at
word-there n b at h = rw (le-leb (at + n) (length b) h) refl
