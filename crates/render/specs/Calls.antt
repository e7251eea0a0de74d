-- A render, and a render continued part by part.
-- 01, "Making sample n": "A continuing call takes a state, its position and the next part of the output, and no shelf";
-- "The end of a caller's buffer reduces nothing". "What a call says": "0 | done; count .. samples written"; "10 |
-- continuing: the given state fails the shelf's test, or the score's records below its position differ in number from
-- those acted"; "A continuing call that would pass 16,777,216 is 7"; "A refusal .. hands back state by value as it
-- came, and writes nowhere".
-- Stricter than 01: a render answers its end state too, the state before sample N is begun; a refused render answers
-- the fresh state.
-- 02, R-3: "Keep, for each 4,096-sample section, the largest magnitude and the number, from the output's start, of the
-- first sample where it stands".
-- The samples, states and entries are those of `state`'s specs/Heart.antt, the summary is that of `sections`'
-- specs/Summary.antt. Definitions only.
use Rattle.std.specs.Prelude.{Bool, ◌&&◌, List, ◌++◌, ℕ, eqb, length, Float, Err, Ok}
use Rattle.sections.specs.Outcome.{Buffers, samples_in, room_in, Outcome, leaves}
use Rattle.sections.specs.Summary.{summary_of}
use Rattle.answers.specs.Order.{unless, first_of}
use Rattle.answers.specs.Answer.{Answer}
use Rattle.answers.specs.declared.Refusal.{Refusal}
use Rattle.answers.specs.declared.Refusal.TheVariants.{GivenState}
use Rattle.score.specs.Below.{count_below}
use Rattle.shelf.specs.Shelf.{entries_for, shelf_of}
use Rattle.state.specs.declared.Settings.{Settings}
use Rattle.state.specs.declared.State.{State}
use Rattle.state.specs.State.{fresh_of}
use Rattle.state.specs.Limits.{is_state}
use Rattle.state.specs.Heart.{state_from, samples_from, entries_from}
use Rattle.judging.specs.Judging.{refusals_of, part_fits}
use Rattle.render.specs.declared.Rendered.{Rendered}

abbrev pub says : Answer → State → Rendered
says answer v = record { answer = answer; state = v }

-- ---- render: from the fresh state at sample 0
-- n samples, their entries, their summary and the end state
abbrev pub made_of : Settings → List ℕ → ℕ → Outcome Rendered
made_of g s n =
    let heard = samples_from g s 0 (fresh_of 0) n in
    leaves
    (says (Ok n) (state_from g s 0 (fresh_of 0) n))
    (record { heard = heard; stored = shelf_of (entries_from g s 0 (fresh_of 0) (entries_for n)); summary = summary_of heard })

-- a refusal leaves output, shelf and summary as they came
unfoldable pub render_of : Settings → List ℕ → Buffers → Outcome Rendered
render_of g s b = first_of (refusals_of g (room_in b) s) (λ (why : Refusal). leaves (says (Err why) (fresh_of 0)) b) (made_of g s (samples_in b))

-- ---- continue: from a given state v at position p
pub record PartOutcome : Type 0 where
  pub result : Rendered
  pub heard : List Float

abbrev pub leaves_part : Rendered → List Float → PartOutcome
leaves_part r part = record { result = r; heard = part }

-- v is within the shelf's limits, and as many records acted as the score has below p
abbrev pub is_given : List ℕ → ℕ → State → Bool
is_given s p v = is_state v && eqb v.acted (count_below s p)

-- 6, 7 and the score's faults, then 10 where the given state is refused
abbrev pub continue_refusals : Settings → List ℕ → Bool → ℕ → ℕ → List Refusal
continue_refusals g s given p n = refusals_of g (part_fits p n) s ++ unless given GivenState

-- n samples, and the state after them
abbrev pub made_part : Settings → List ℕ → State → ℕ → ℕ → PartOutcome
made_part g s v p n = leaves_part (says (Ok n) (state_from g s p v n)) (samples_from g s p v n)

-- a refusal leaves the state and the part as they came
abbrev pub kept_part : State → List Float → Refusal → PartOutcome
kept_part v part why = leaves_part (says (Err why) v) part

unfoldable pub continue_of : Settings → List ℕ → State → ℕ → List Float → PartOutcome
continue_of g s v p part = first_of (continue_refusals g s (is_given s p v) p (length part)) (kept_part v part) (made_part g s v p (length part))
