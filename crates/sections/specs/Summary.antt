-- The summary of samples, section by section. 02, R-3: "Keep, for each 4,096-sample section, the largest magnitude and
-- the number, from the output's start, of the first sample where it stands; the last section may be short".
-- A section's peak is that of the crate `peaks`, which counts samples from the section's first. What a summary means in
-- the samples' own numbers, without sections and peaks, is `Tells` of `demands`' specs/Peaks.antt. Definitions only.
use Rattle.std.specs.Prelude.{List, ℕ, ◌+◌, ◌*◌, length, take, drop, Float}
use Rattle.runs.specs.Runs.{listed}
use Rattle.peaks.specs.declared.Peak.{Peak}
use Rattle.peaks.specs.Peaks.{peak_of}
use Rattle.shelf.specs.Shelf.{section_size, entries_for}
use Rattle.sections.specs.Outcome.{Summary}

-- section j of the samples xs: 4,096 of them, or as many as are left
abbrev pub section_of : List Float → ℕ → List Float
section_of xs j = take section_size (drop (j * section_size) xs)

-- what is said of section j, whose peak is p: its largest magnitude, for which p is enough, and the number of the
-- first sample that has it
abbrev pub largest : ℕ → Peak → Float
largest j p = p.magnitude

abbrev pub first_number : ℕ → Peak → ℕ
first_number j p = j * section_size + p.offset

-- what f says of each of the k sections from section m on
unfoldable pub said_from : {A : Type 0} → (ℕ → Peak → A) → List Float → ℕ → ℕ → List A
said_from f xs m k = listed (λ (j : ℕ). f (m + j) (peak_of (section_of xs (m + j)))) k

-- the summary of those sections
abbrev pub summary_from : List Float → ℕ → ℕ → Summary
summary_from xs m k = record { magnitudes = said_from largest xs m k; numbers = said_from first_number xs m k }

-- the summary of all samples, worked out from nothing
abbrev pub summary_of : List Float → Summary
summary_of xs = summary_from xs 0 (entries_for (length xs))
