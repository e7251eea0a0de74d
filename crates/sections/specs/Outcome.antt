-- What a call is lent, and what it leaves: an output, its shelf and its summary. 02, R-3: "7 also when the summary has
-- not one entry a section".
-- Used for the sections, a render and a re-render, and for those calls as C makes them; a page of edits is lent one
-- buffer more, a continuing call others, and both have outcomes of their own. Definitions only.
use Rattle.std.specs.Prelude.{Bool, List, ℕ, ◌*◌, length, take, drop, Float}
use Rattle.judging.specs.Judging.{sizes_fit, Roomy}
use Rattle.shelf.specs.Shelf.{section_size, entry_words}

-- a summary: for each section a magnitude and a sample's number
pub record Summary : Type 0 where
  pub magnitudes : List Float
  pub numbers : List ℕ

-- the samples, the words of the shelf, the summary
pub record Buffers : Type 0 where
  pub heard : List Float
  pub stored : List ℕ
  pub summary : Summary

abbrev pub lends : List Float → List ℕ → List Float → List ℕ → Buffers
lends out shelf magnitudes numbers = record { heard = out; stored = shelf; summary = record { magnitudes = magnitudes; numbers = numbers } }

-- how many samples
abbrev pub samples_in : Buffers → ℕ
samples_in b = length b.heard

-- the samples are not too many, and shelf and summary have what so many samples need: as a test, and as a fact
abbrev pub room_in : Buffers → Bool
room_in b = sizes_fit (samples_in b) (length b.stored) (length b.summary.magnitudes) (length b.summary.numbers)

abbrev pub Lent : Buffers → Type 0
Lent b = Roomy (samples_in b) (length b.stored) (length b.summary.magnitudes) (length b.summary.numbers)

-- what lies before section m, and what lies from section m on: samples, words of entries, summary
abbrev pub before : ℕ → Buffers → Buffers
before m b = lends (take (m * section_size) b.heard) (take (m * entry_words) b.stored) (take m b.summary.magnitudes) (take m b.summary.numbers)

abbrev pub onward : ℕ → Buffers → Buffers
onward m b = lends (drop (m * section_size) b.heard) (drop (m * entry_words) b.stored) (drop m b.summary.magnitudes) (drop m b.summary.numbers)

-- a call's result, and the buffers at its exit
pub record Outcome (R : Type 0) : Type 0 where
  pub result : R
  pub left : Buffers

abbrev pub leaves : {R : Type 0} → R → Buffers → Outcome R
leaves r b = record { result = r; left = b }
