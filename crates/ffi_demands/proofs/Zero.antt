-- Number 0 in a word is an answer that is done: no refusal's number is 0, nor becomes 0 when cut to eight bits. Assumes
-- nothing.
use Rattle.std.specs.Prelude.{Err, Ok}
use mathlib.Core.Path.{◌≡◌, refl}
use Prim.Native.Nat.{ℕ, ◌+◌, ◌*◌, ◌%◌}
use native.Mathlib.Omega.{arith}
use Rattle.answers.specs.Answer.{Answer}
use Rattle.answers.specs.declared.Refusal.{Refusal}
use Rattle.answers.specs.Numbers.{refusal_number, refusal_place}
use Rattle.page.specs.declared.Paged.{Paged}
use Rattle.ffi.specs.Packed.{word_of, packed_of, paged_numbers, packed_page, numbers_in}
use Rattle.ffi.proofs.Fits.{Between, refusal_number_lem}

low_byte : (n p c : ℕ) → Between n 53 → (n + 256 * p + 4294967296 * c) % 256 ≡ 0 → ⊥
low_byte n p c b z = omega (arith, b.0, b.1)

pub refused-not-zero : (r : Refusal) → (numbers_in (packed_of (Err r))).number ≡ 0 → ⊥
unfolding packed_of
refused-not-zero r z = low_byte (refusal_number r) (refusal_place r % 16777216) (0 % 4294967296) (refusal_number_lem r) z

pub zero-done : (a : Answer) → (numbers_in (packed_of a)).number ≡ 0 → (n : ℕ) × (a ≡ Ok n)
zero-done (Ok n) z = (n, refl)
zero-done (Err r) z = absurd (refused-not-zero r z)

-- the word of a page, too
pub paged-zero : (p : Paged) → (numbers_in (packed_page p)).number ≡ 0 → (n : ℕ) × (p.answer ≡ Ok n)
unfolding packed_of packed_page
paged-zero p z = go p.answer z
  where
    go : (a : Answer) → (numbers_in (word_of (paged_numbers a p.bytes))).number ≡ 0 → (n : ℕ) × (a ≡ Ok n)
    go (Ok n) z = (n, refl)
    go (Err r) z = absurd (refused-not-zero r z)

-- an answer that is done has number 0 in its word
pub done-zero : (n : ℕ) → (numbers_in (packed_of (Ok n))).number ≡ 0
unfolding packed_of
done-zero n = omega arith
