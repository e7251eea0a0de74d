-- What private functions are held to: the steps on a score in a room of its own, and the call after its first refusals.
-- No public statement cites these definitions. Definitions only.
use Rattle.std.specs.Prelude.{◌≡◌, List, [], ℕ, Err, Ok, Result}
use Rattle.answers.specs.Order.{first_of}
use Rattle.answers.specs.declared.Refusal.{Refusal}
use Rattle.answers.specs.declared.ScoreFault.{ScoreFault}
use Rattle.answers.specs.declared.ScoreFault.TheVariants.{Length, Mark, Kind, Field, Order}
use Rattle.score.specs.Record.{count_of}
use Rattle.score.specs.Score.{verdict_of}
use Rattle.state.specs.declared.Settings.{Settings}
use Rattle.sections.specs.Outcome.{Buffers, samples_in}
use Rattle.rerender.specs.Rerender.{plan_of, start_refusals, outcome_of}
use Rattle.page.specs.declared.Paged.{Paged}
use Rattle.page.specs.Page.{edits_in, new_score_of, refusals_from, Rewritten, paged, kept_of, turned_over}

-- an accepted score
abbrev pub IsAccepted : List ℕ → Type 0
IsAccepted s = verdict_of s ≡ Ok (count_of s)

-- a record's fault, with the place i
abbrev pub placed_at : ScoreFault → ℕ → ScoreFault
placed_at Length i = Length
placed_at (Mark k) i = Mark i
placed_at (Kind k) i = Kind i
placed_at (Field k) i = Field i
placed_at (Order k) i = Order i

-- refusals, and the score in a room after an edit or all of them: the first refusal, or done, and then it is the new
-- one
pub record Steps (refusals : List Refusal) (new : List ℕ) (r : Result (Unit {0}) Refusal) (score : List ℕ) : Type 0 where
  pub told : r ≡ first_of refusals Err (Ok tt)
  pub made : refusals ≡ [] → score ≡ new

-- what the call gives: a refusal has 0 bytes
abbrev pub paged_of : Result Paged Refusal → Paged
paged_of (Ok p) = p
paged_of (Err why) = paged (Err why) 0

-- ---- the call, once 6, 7, the old score's faults and 36 are not given
-- with the edits made: 8, or the re-render's outcome
unfoldable pub turn_of : Settings → List ℕ → List ℕ → Buffers → List ℕ → Rewritten Paged
turn_of g old new b space = let plan = plan_of old new (samples_in b) in first_of (start_refusals new plan b.stored) (kept_of b space) (turned_over (outcome_of g old new plan b) new space)

-- the refusals of the edits before that
abbrev pub edit_in : Settings → List ℕ → List ℕ → Buffers → List ℕ → Rewritten Paged
edit_in g old es b space = first_of (refusals_from old es (edits_in es) 0) (kept_of b space) (turn_of g old (new_score_of old es) b space)
