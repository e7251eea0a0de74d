-- A walk through a score: sample after sample from a place, which is the state and the index of the next record. 01,
-- "Making sample n": "If n is a multiple of 64 or a record has position n, phase is reduced by TAU. Then the records at
-- n act."
-- A walk looks only at the next record: if the record is at n it acts, and the record after it is the next.
-- In a score whose positions never fall, from the first record that is not below n (`Cut` of `score`), a walk makes the
-- samples that Heart of `state` defines over all records (proofs/Agrees.antt). A walk is defined for every score and
-- every place. Definitions only.
use Rattle.std.specs.Prelude.{Bool, cond, ◌&&◌, ◌||◌, List, ◌≡◌, ℕ, zero, suc, ◌-◌, ◌%◌, ltb, eqb, length, Float}
use Rattle.runs.specs.Runs.{run, seen}
use Rattle.score.specs.Record.{count_of, position_at, record_at}
use Rattle.state.specs.declared.Settings.{Settings}
use Rattle.state.specs.declared.State.{State}
use Rattle.state.specs.State.{reduced_of, event_of, act_of, sample_of, advance_of}
use Rattle.spans.specs.declared.Place.{Place}

abbrev pub place_of : State → ℕ → Place
place_of v i = record { state = v; next = i }

-- ---- sample n is begun
-- whether record i exists and has position n
abbrev pub is_due_at : List ℕ → ℕ → ℕ → Bool
is_due_at s i n = ltb i (count_of s) && eqb (position_at s i) n

-- the next record acts
abbrev pub act_next : Settings → List ℕ → Place → Place
act_next g s p = place_of (act_of g p.state (event_of (record_at s p.next))) (suc p.next)

-- of the next k records the first ones act, as long as they are at n
unfoldable pub act_from : Settings → List ℕ → ℕ → ℕ → Place → Place
act_from g s n zero p = p
act_from g s n (suc k) p = cond (is_due_at s p.next n) (act_from g s n k (act_next g s p)) p

-- whether a span begins at n
abbrev pub begins_at : List ℕ → ℕ → ℕ → Bool
begins_at s i n = eqb (n % 64) 0 || is_due_at s i n

abbrev pub reduced_at : Place → Place
reduced_at p = place_of (reduced_of p.state) p.next

unfoldable pub begun_from : Settings → List ℕ → ℕ → Place → Place
unfolding act_from
begun_from g s n p = act_from g s n (count_of s - p.next) (cond (begins_at s p.next n) (reduced_at p) p)

-- ---- from a place p before sample n is begun
-- sample n, and the place after it
abbrev pub played_at : Settings → List ℕ → ℕ → Place → Float
played_at g s n p = sample_of g (begun_from g s n p).state

abbrev pub after_played : Settings → List ℕ → ℕ → Place → Place
after_played g s n p = let b = begun_from g s n p in place_of (advance_of g b.state) b.next

-- the place before sample n + k is begun
unfoldable pub place_from : Settings → List ℕ → ℕ → Place → ℕ → Place
place_from g s n p k = run (after_played g s) n p k

-- samples n to n + k - 1
unfoldable pub played_from : Settings → List ℕ → ℕ → Place → ℕ → List Float
played_from g s n p k = seen (after_played g s) (played_at g s) n p k

-- a lent part is filled with its samples, and r is the place after the last
pub record Played (g : Settings) (s : List ℕ) (n : ℕ) (p : Place) (before after : List Float) (r : Place) : Type 0 where
  pub samples : after ≡ played_from g s n p (length before)
  pub place : r ≡ place_from g s n p (length before)
