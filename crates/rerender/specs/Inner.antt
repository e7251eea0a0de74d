-- What private functions are held to: the run of a re-render from the start of a section on, the first section that may
-- be the stop, and the numbers of records acted renewed. No public statement cites these definitions. Definitions only.
use Rattle.std.specs.Prelude.{List, ◌++◌, ◌≡◌, ℕ, suc, ◌-◌, ◌*◌, ◌/◌, ◌≤◌, length, take, drop, None, Option, Some}
use Rattle.std.specs.Bool.{then_some}
use Rattle.sections.specs.Outcome.{Buffers, Outcome}
use Rattle.answers.specs.Order.{unless, first_of}
use Rattle.answers.specs.Answer.{Answer}
use Rattle.answers.specs.declared.Refusal.TheVariants.{StartEntry}
use Rattle.score.specs.Record.{count_of}
use Rattle.score.specs.Below.{Sorted, Cut}
use Rattle.score.specs.Apart.{last_difference_of}
use Rattle.shelf.specs.Shelf.{section_size, entry_words}
use Rattle.state.specs.declared.Settings.{Settings}
use Rattle.spans.specs.declared.Place.{Place}
use Rattle.spans.specs.Walk.{place_of}
use Rattle.rerender.specs.Rerender.{start_of, is_start, recounted, made_from, kept_of}

-- whole records whose positions never fall, as an accepted score has
pub record InOrder (s : List ℕ) : Type 0 where
  pub sorted : Sorted s
  pub records : length s ≡ count_of s * 10

-- the outcome of the call from section m on, where 6, 7 and both scores' faults are not given
unfoldable pub rerender_from : Settings → List ℕ → List ℕ → ℕ → Buffers → Outcome Answer
rerender_from g old new m b = first_of (unless (is_start new m b.stored) StartEntry) (kept_of b) (made_from g old new m b)

-- the place of a section's entry, if the call may start there
abbrev pub started_at : List ℕ → ℕ → List ℕ → Option Place
started_at new m shelf = then_some (is_start new m shelf) (place_of (start_of shelf m) (start_of shelf m).acted)

-- the section after that of the last difference
unfoldable pub quiet_for : Option ℕ → ℕ
quiet_for None = 0
quiet_for (Some p) = suc (p / section_size)

abbrev pub quiet_of : List ℕ → List ℕ → ℕ
quiet_of old new = quiet_for (last_difference_of old new)

-- the first records of a score, as many as next, are those below a position that is not above p
pub record Behind (s : List ℕ) (next p : ℕ) : Type 0 where
  pub position : ℕ
  pub cut : Cut s position next
  pub low : position ≤ p

-- the words of a shelf with the numbers of records acted renewed from entry k on
abbrev pub recounted_on : List ℕ → ℕ → List ℕ → List ℕ
recounted_on new k ws = take (k * entry_words) ws ++ recounted new k (length ws / entry_words - k) (drop (k * entry_words) ws)
