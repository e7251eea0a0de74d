-- A re-render: its plan, what the plan makes, and the call.
-- 01, "The shelf": "A re-render takes both scores. P is the lower position of the two at the first index where they
-- differ, or of the one that remains where the other has ended. It starts at entry floor(P/4096). Equal scores, or P at
-- or above N, write nothing and count 0". "What a call says": "8 | start entry is no state, or its records acted differ
-- from the new score's records below its position"; "Order: 6, 7, the old or only score, the new score (same numbers
-- plus 16), then 8"; "Where count is 0 for equal scores or a late P, no entry is read and 8 is not given". 02, R-3: "A
-- re-render brings the summary up to date and touches only sections from its start entry on". 02, R-12: "The re-render
-- may stop at a later entry, if the state there equals the stored one apart from records acted, and the two scores'
-- records from that position on are the same. It stops at the first such entry past the start. Entries from the stop on
-- get as records-acted number the new score's records below their position, and nothing else from the stop on is
-- written"; "The count is the samples from start to stop, or to the end where no entry stops it".
-- The demand's mark is the first sample of a section: sample 4096 m for section m, whose entry is entry m.
-- The outcome is decided for every start entry that is a state, even one that no render leaves: the samples and entries
-- up to the stop are those of the steps from that state, and the summary is that of these samples. It is decided
-- whatever the later entries hold, too. Demand 3 says when what stays behind the stop is right. Definitions only.
use Rattle.std.specs.Prelude.{Bool, ◌&&◌, List, [], ◌++◌, ℕ, zero, suc, ◌-◌, ◌*◌, ◌/◌, ltb, eqb, take, drop, Err, None, Ok, Option, Some}
use Rattle.std.specs.Bool.{then_some}
use Rattle.sections.specs.Outcome.{Buffers, samples_in, room_in, Outcome, leaves}
use Rattle.sections.specs.Sections.{made_between, stop_where}
use Rattle.answers.specs.Order.{unless, first_of}
use Rattle.answers.specs.Answer.{Answer}
use Rattle.answers.specs.declared.Refusal.{Refusal}
use Rattle.answers.specs.declared.Refusal.TheVariants.{StartEntry}
use Rattle.score.specs.Below.{count_below}
use Rattle.score.specs.Apart.{difference_of, same_from}
use Rattle.shelf.specs.Shelf.{section_size, entry_words, entries_for, state_of, is_entry, shelf_of, entry_at, with_count, meets}
use Rattle.state.specs.declared.Settings.{Settings}
use Rattle.state.specs.declared.State.{State}
use Rattle.state.specs.Heart.{state_from, samples_from, entries_from}
use Rattle.judging.specs.Judging.{refusals_of, new_refusals_of}

-- ---- the plan: nothing, or from the start of section m on
unfoldable pub plan_for : Option ℕ → ℕ → Option ℕ
plan_for None n = None
plan_for (Some p) n = then_some (ltb p n) (p / section_size)

abbrev pub plan_of : List ℕ → List ℕ → ℕ → Option ℕ
plan_of old new n = plan_for (difference_of old new) n

-- ---- from an entry
-- the state that the words of entry m are read as
abbrev pub start_of : List ℕ → ℕ → State
start_of shelf m = state_of (entry_at shelf m)

-- entry m is a state, with as many records acted as the new score has below sample 4096 m
abbrev pub is_start : List ℕ → ℕ → List ℕ → Bool
is_start new m shelf = is_entry (entry_at shelf m) && eqb (start_of shelf m).acted (count_below new (m * section_size))

-- ---- to the stop
-- section k may be the stop: both scores have the same records from its first sample on, and the entry that came for k
-- is, but for the number of records acted, the state that the new score gives before that sample
abbrev pub is_settled : Settings → List ℕ → List ℕ → ℕ → List ℕ → ℕ → Bool
is_settled g old new m shelf k = same_from old new (k * section_size) && meets (entry_at shelf k) (state_from g new (m * section_size) (start_of shelf m) ((k - m) * section_size))

-- the sample at which the re-render stops: the first of the first such section after section m, or the end
unfoldable pub stop_of : Settings → List ℕ → List ℕ → ℕ → Buffers → ℕ
stop_of g old new m b = stop_where (is_settled g old new m b.stored) m (samples_in b)

-- the words, the first of which are those of j entries, entry k and those after it: each of the j gets the number of
-- the new score's records below its position as its number of records acted
unfoldable pub recounted : List ℕ → ℕ → ℕ → List ℕ → List ℕ
recounted new k zero ws = ws
recounted new k (suc j) ws = with_count (take entry_words ws) (count_below new (k * section_size)) ++ recounted new (suc k) j (drop entry_words ws)

-- the buffers with the numbers of records acted so in every entry from entry k on
abbrev pub recounted_from : List ℕ → ℕ → Buffers → Buffers
recounted_from new k b =
    record { heard = b.heard; stored = take (k * entry_words) b.stored ++ recounted new k (entries_for (samples_in b) - k) (drop (k * entry_words) b.stored); summary = b.summary }

-- what lies before section m stays as it came, and what lies from the stop on but for these numbers
abbrev pub made_from : Settings → List ℕ → List ℕ → ℕ → Buffers → Outcome Answer
made_from g old new m b =
    let stop = stop_of g old new m b in
    let count = stop - m * section_size in
    let v = start_of b.stored m in
    leaves
    (Ok count)
    (recounted_from new (entries_for stop) (made_between m stop (samples_from g new (m * section_size) v count) (shelf_of (entries_from g new m v (entries_for stop - m))) b))

-- ---- the call
-- the outcome of a plan
abbrev pub outcome_of : Settings → List ℕ → List ℕ → Option ℕ → Buffers → Outcome Answer
outcome_of g old new None b = leaves (Ok 0) b
outcome_of g old new (Some m) b = made_from g old new m b

-- 8, only where an entry is read
abbrev pub start_refusals : List ℕ → Option ℕ → List ℕ → List Refusal
start_refusals new None shelf = []
start_refusals new (Some m) shelf = unless (is_start new m shelf) StartEntry

-- 6, 7, the old score's faults, the new score's faults, 8
abbrev pub rerender_refusals : Settings → List ℕ → List ℕ → Buffers → List Refusal
rerender_refusals g old new b = refusals_of g (room_in b) old ++ new_refusals_of new ++ start_refusals new (plan_of old new (samples_in b)) b.stored

-- a refusal leaves output, shelf and summary as they came
abbrev pub kept_of : Buffers → Refusal → Outcome Answer
kept_of b why = leaves (Err why) b

unfoldable pub rerender_of : Settings → List ℕ → List ℕ → Buffers → Outcome Answer
rerender_of g old new b = first_of (rerender_refusals g old new b) (kept_of b) (outcome_of g old new (plan_of old new (samples_in b)) b)

-- how many samples a plan makes in these buffers; the theorem that decides the call's answer cites it
abbrev pub count_for : Settings → List ℕ → List ℕ → Option ℕ → Buffers → ℕ
count_for g old new None b = 0
count_for g old new (Some m) b = stop_of g old new m b - m * section_size
