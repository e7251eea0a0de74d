-- The steps with 01's own reduction. 01, "Steps": "phase is reduced by TAU: r = phase % TAU, and r + TAU if r is below
-- 0". 02, R-13: "show that this branch is never taken there and take it out".
-- The voice's reduction, `reduced_of` of State.antt, is the remainder alone. Here the branch is kept, and all else is
-- as in Heart.antt, so that what both make can be compared, in the claim `NeverNegative` of the crate `demands`. No
-- function's contract cites these definitions. Definitions only.
use Rattle.std.specs.Prelude.{cond, List, ℕ, ◌*◌, Float}
use Rattle.runs.specs.Runs.{run, listed, seen}
use Rattle.waveform.specs.Waveform.{reduce_of}
use Rattle.score.specs.Record.{count_of}
use Rattle.state.specs.declared.Settings.{Settings}
use Rattle.state.specs.declared.State.{State}
use Rattle.state.specs.State.{with_phases, sample_of, advance_of}
use Rattle.state.specs.Heart.{has_at, reduces_at, act_to}

-- both phases reduced, with the branch
abbrev pub branching_of : State → State
branching_of v = with_phases v (reduce_of v.phase.0) (reduce_of v.lfo.0)

-- sample n is begun, with the branch
unfoldable pub begun_branching : Settings → List ℕ → ℕ → State → State
unfolding act_to has_at
begun_branching g s n v = act_to g s n (count_of s) (cond (reduces_at s n) (branching_of v) v)

-- the state after sample n
abbrev pub after_branching : Settings → List ℕ → ℕ → State → State
after_branching g s n v = advance_of g (begun_branching g s n v)

-- the state before sample n + k is begun, and the samples n to n + k - 1, from a state v before sample n is begun
unfoldable pub state_branching : Settings → List ℕ → ℕ → State → ℕ → State
state_branching g s n v k = run (after_branching g s) n v k

unfoldable pub samples_branching : Settings → List ℕ → ℕ → State → ℕ → List Float
samples_branching g s n v k = seen (after_branching g s) (λ (i : ℕ) (u : State). sample_of g (begun_branching g s i u)) n v k

-- the entries m to m + k - 1, from the state v of entry m
unfoldable pub entries_branching : Settings → List ℕ → ℕ → State → ℕ → List State
entries_branching g s m v k = listed (λ (i : ℕ). state_branching g s (m * 4096) v (i * 4096)) k
