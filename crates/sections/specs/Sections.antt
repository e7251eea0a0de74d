-- From the start of a section on: the entry of each section, then its samples, 4,096 or as many as are left, then their
-- peak; to the end of the output, or to the first later section whose entry says that the rest may stay. 01, "The
-- shelf": "Entry k holds the state before sample 4096k is begun, for every 4096k below N, the output's length". 02,
-- R-3: "Keep, for each 4,096-sample section, the largest magnitude and the number, from the output's start, of the
-- first sample where it stands". 02, R-12: "It stops at the first such entry past the start".
-- The samples are a walk (crate `spans`) from a place at the first sample of any section. A caller says from which
-- section on the walk may stop; a render says a section that there is not. If shelf or summary do not have the size
-- that the output needs, or the samples are too many, nothing is written. Definitions only.
use Rattle.std.specs.Prelude.{Bool, true, false, ◌&&◌, List, ◌++◌, ℕ, suc, ◌-◌, ◌*◌, min, leb, Float, take, drop}
use Rattle.runs.specs.Runs.{listed, first_passing}
use Rattle.shelf.specs.Shelf.{section_size, entry_words, entries_for, shelf_of, entry_at, meets}
use Rattle.spans.specs.declared.Place.{Place}
use Rattle.spans.specs.Walk.{place_from, played_from}
use Rattle.state.specs.declared.Settings.{Settings}
use Rattle.sections.specs.declared.End.{End}
use Rattle.sections.specs.Outcome.{Summary, Buffers, samples_in, room_in, Outcome, leaves}
use Rattle.sections.specs.Summary.{summary_from}

-- ---- what is made from a section to a stop
-- xs with ys in place of the items from index a up to, not including, b
abbrev pub between : {A : Type 0} → ℕ → ℕ → List A → List A → List A
between a b xs ys = take a xs ++ (ys ++ drop b xs)

-- a summary with `new` in place of what is said of the sections from section a up to, not including, section b
abbrev pub summed_between : ℕ → ℕ → Summary → Summary → Summary
summed_between a b came new = record { magnitudes = between a b came.magnitudes new.magnitudes; numbers = between a b came.numbers new.numbers }

-- the buffers with these samples and words of entries from section m up to the sample `stop`, which begins a section or
-- is the end, and with the summary of these samples; before section m and from the stop on they are as they came
abbrev pub made_between : ℕ → ℕ → List Float → List ℕ → Buffers → Buffers
made_between m stop samples words b =
    let heard = between (m * section_size) stop b.heard samples in
    record {
      heard = heard;
      stored = between (m * entry_words) (entries_for stop * entry_words) b.stored words;
      summary = summed_between m (entries_for stop) b.summary (summary_from heard m (entries_for stop - m));
    }

-- ---- the stop
-- of n samples, the first sample of the first section after section m that passes the test, or the end
abbrev pub stop_where : (ℕ → Bool) → ℕ → ℕ → ℕ
stop_where passes m n = min (first_passing passes (entries_for n - suc m) (suc m) * section_size) n

-- a walk from section m may stop at section k: k is not before section `quiet`, and the entry that came for k is the
-- state before its first sample, but for the number of records acted
abbrev pub may_stop : Settings → List ℕ → ℕ → Place → ℕ → List ℕ → ℕ → Bool
may_stop g s m p quiet shelf k = leb quiet k && meets (entry_at shelf k) (place_from g s (m * section_size) p ((k - m) * section_size)).state

unfoldable pub stop_for : Settings → List ℕ → ℕ → Place → ℕ → Buffers → ℕ
stop_for g s m p quiet b = stop_where (may_stop g s m p quiet b.stored) m (samples_in b)

-- ---- the call
-- the words of the entries m to m + k - 1, from a place p at the first sample of section m
unfoldable pub kept_from : Settings → List ℕ → ℕ → Place → ℕ → List ℕ
kept_from g s m p k = shelf_of (listed (λ (i : ℕ). (place_from g s (m * section_size) p (i * section_size)).state) k)

abbrev pub ends : Place → ℕ → End
ends p stop = record { place = p; sample = stop }

-- the place at the stop, and the stop
abbrev pub played : Settings → List ℕ → ℕ → Place → ℕ → Buffers → Outcome End
played g s m p quiet b =
    let stop = stop_for g s m p quiet b in
    let count = stop - m * section_size in
    leaves (ends (place_from g s (m * section_size) p count) stop) (made_between m stop (played_from g s (m * section_size) p count) (kept_from g s m p (entries_for stop - m)) b)

abbrev pub played_if : Bool → Settings → List ℕ → ℕ → Place → ℕ → Buffers → Outcome End
played_if true g s m p quiet b = played g s m p quiet b
played_if false g s m p quiet b = leaves (ends p (samples_in b)) b

unfoldable pub play_on_of : Settings → List ℕ → ℕ → Place → ℕ → Buffers → Outcome End
play_on_of g s m p quiet b = played_if (room_in b) g s m p quiet b
