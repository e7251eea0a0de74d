-- An answer in one word, for a host that has no enums: bits 0 to 7 are the number, 8 to 31 the place, 32 to 63 the
-- count.
-- 01, "What a call says": "A refusal returns number, place, count 0". 02, R-6: "its length is returned": of a page of
-- edits that is done, bits 8 to 31 are the bytes of the new score.
-- Every answer has a word: a place or a count too large for its bits is cut to its low bits, so that none spills into
-- the next; none of the desk's own answers is cut (proofs/ReadBack.antt) but the place of a refused edit from edit
-- 16,777,216 on. Definitions only.
use Rattle.std.specs.Prelude.{ℕ, ◌+◌, ◌*◌, ◌/◌, ◌%◌, Err, Ok}
use Rattle.answers.specs.Answer.{Answer}
use Rattle.answers.specs.declared.Numbers.{Numbers}
use Rattle.answers.specs.Numbers.{numbers_of}
use Rattle.page.specs.declared.Paged.{Paged}

-- 16777216 is 2^24, 4294967296 is 2^32
abbrev pub word_of : Numbers → ℕ
word_of n = n.number + 256 * (n.place % 16777216) + 4294967296 * (n.count % 4294967296)

unfoldable pub packed_of : Answer → ℕ
packed_of answer = word_of (numbers_of answer)

-- a page of edits: when done, the bytes of the new score stand in the place's bits, so a host reads the number first
abbrev pub paged_numbers : Answer → ℕ → Numbers
paged_numbers (Ok n) bytes = record { number = 0; place = bytes; count = n }
paged_numbers (Err why) bytes = numbers_of (Err why)

unfoldable pub packed_page : Paged → ℕ
packed_page p = word_of (paged_numbers p.answer p.bytes)

-- the three numbers that a host reads in a word
abbrev pub numbers_in : ℕ → Numbers
numbers_in w = record { number = w % 256; place = w / 256 % 16777216; count = w / 4294967296 }
