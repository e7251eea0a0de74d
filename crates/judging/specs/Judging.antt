-- What render, re-render and continuing call are refused for first.
-- 01, "What a call says": "Order: 6, 7, the old or only score, the new score (same numbers plus 16), then 8 or 10"; "6
-- | rate, waveform's duty or an ADSR setting outside the domain"; "7 | N above 16,777,216, or shelf not 12 words per
-- entry"; "A continuing call that would pass 16,777,216 is 7". 02, R-7: "6 covers the new settings, 7 asks for 13 words
-- an entry". 02, R-3: "7 also when the summary has not one entry a section".
-- The first of a call's refusals decides its outcome (`first_of` of `answers`). Definitions only.
use Rattle.std.specs.Prelude.{◌≡◌, Bool, true, ◌&&◌, List, ◌++◌, map, ℕ, ◌+◌, ◌≤◌, leb, eqb, Ok}
use Rattle.answers.specs.Order.{unless}
use Rattle.answers.specs.declared.Refusal.{Refusal}
use Rattle.answers.specs.declared.Refusal.TheVariants.{Score, NewScore, Setting, Size}
use Rattle.score.specs.Record.{count_of}
use Rattle.score.specs.Score.{faults_of, verdict_of}
use Rattle.shelf.specs.Shelf.{entries_for, words_for}
use Rattle.state.specs.declared.Settings.{Settings}
use Rattle.state.specs.Settings.{settings_ok}

-- ---- the refusals
-- 6, 7, then the faults of the old or only score
unfoldable pub refusals_of : Settings → Bool → List ℕ → List Refusal
refusals_of g room s = unless (settings_ok g) Setting ++ unless room Size ++ map Score (faults_of s)

-- what is true of a call that none of these refuses; theorems cite it, no contract does
pub record Passed (g : Settings) (room : Bool) (s : List ℕ) : Type 0 where
  pub settings : settings_ok g ≡ true
  pub sized : room ≡ true
  pub accepted : verdict_of s ≡ Ok (count_of s)

-- the faults of the new score
unfoldable pub new_refusals_of : List ℕ → List Refusal
new_refusals_of s = map NewScore (faults_of s)

-- ---- the room
-- the most samples of an output, 2^24
abbrev pub most_samples : ℕ
most_samples = 16777216

-- n samples are not too many, and for each section that n samples have begun the shelf has thirteen words, and the
-- summary one magnitude and one number
abbrev pub sizes_fit : ℕ → ℕ → ℕ → ℕ → Bool
sizes_fit n words magnitudes numbers = leb n most_samples && eqb words (words_for n) && eqb magnitudes (entries_for n) && eqb numbers (entries_for n)

-- what is true of sizes that fit; theorems cite it, no contract does
pub record Roomy (n words magnitudes numbers : ℕ) : Type 0 where
  pub short : n ≤ most_samples
  pub fits : words ≡ words_for n
  pub magnitudes-fit : magnitudes ≡ entries_for n
  pub numbers_fit : numbers ≡ entries_for n

-- n samples from position p on end at or before position 16,777,216
abbrev pub part_fits : ℕ → ℕ → Bool
part_fits p n = leb (p + n) most_samples
