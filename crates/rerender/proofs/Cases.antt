-- The plan, its run and the call, case by case. Assumes nothing.
use Rattle.std.specs.Prelude.{Err, None, Ok, Option, Some}
use Rattle.std.specs.Bool.{then_some}
use mathlib.Core.Path.{◌≡◌, refl, sym, ap, ◌∙◌}
use mathlib.Core.Bool.{Bool, true, false, ◌&&◌}
use mathlib.Core.List.{List, [], ◌++◌}
use mathlib.Core.Logic.{⊎_elim}
use Prim.Native.Nat.{ℕ, suc, ◌+◌, ◌-◌, ◌*◌, ◌/◌, min, ◌≤◌, ◌<◌}
use native.Mathlib.Omega.{arith}
use lib.Dec.{ltb, leb, eqb}
use lib.ListN.{length, take, drop, take-append-drop}
use lib.Seq.{drop-append-le, length-take-le}
use lib.Ieee.{Float}
use borrow.Author.Tests.{lt-ltb, le-ltb, ltb-true, le-leb, lt-leb, eqb-true}
use Rattle.runs.proofs.First.{first-same}
use Rattle.sections.specs.declared.End.{End}
use Rattle.sections.specs.Outcome.{Buffers, lends, samples_in, room_in, Lent, before, onward, Outcome, leaves}
use Rattle.sections.specs.declared.Buffers as lent
use Rattle.sections.specs.Lending.{held, leaves_in, left_in}
use Rattle.sections.proofs.Lending.{left-held}
use Rattle.sections.specs.Summary.{largest, first_number, said_from}
use Rattle.sections.specs.Sections.{made_between, stop_where, play_on_of}
use Rattle.sections.proofs.Room.{in_room, earlier, later_words, later_drop}
use Rattle.sections.proofs.Made.{Stop, stop_is, made-samples, made-words, made-lent, made-before, made_after, made_between_lem}
use Rattle.sections.proofs.Agrees.{Made}
use Rattle.sections.proofs.Agrees as agrees
use Rattle.answers.specs.Order.{first_of}
use Rattle.answers.specs.Answer.{Answer}
use Rattle.answers.specs.declared.Refusal.{Refusal}
use Rattle.answers.specs.declared.Refusal.TheVariants.{StartEntry}
use Rattle.answers.proofs.Order.{first_append, Leads, leads_first, done_none, refused_leads, none_both, Decided, decided}
use Rattle.score.specs.Record.{count_of}
use Rattle.score.specs.Score.{verdict_of}
use Rattle.score.specs.Below.{count_below, is_count_below, Sorted, Cut}
use Rattle.score.specs.Apart.{difference_of, last_difference_of, same_from}
use Rattle.score.proofs.Parted.{clash}
use Rattle.score.proofs.Codec.{both}
use Rattle.score.proofs.Cuts.{lt_or_ge, count_cut, parts-count}
use Rattle.score.proofs.Ends.{same_from_lem, same_everywhere}
use Rattle.shelf.specs.Shelf.{section_size, entry_words, entries_for, words_for, is_entry, shelf_of, entry_at, with_count, meets}
use Rattle.shelf.proofs.Count.{start_there, words-there}
use Rattle.shelf.proofs.Whole.{shelf_length}
use Rattle.state.specs.declared.Settings.{Settings}
use Rattle.state.specs.declared.State.{State}
use Rattle.state.specs.Settings.{settings_ok}
use Rattle.state.specs.Heart.{state_from, samples_from, entries_from}
use Rattle.state.proofs.RunsOn.{samples-length}
use Rattle.state.proofs.Entries.{entries-length}
use Rattle.spans.specs.declared.Place.{Place}
use Rattle.spans.specs.Walk.{place_of}
use Rattle.judging.specs.Judging.{refusals_of, new_refusals_of, sizes_fit, most_samples}
use Rattle.judging.proofs.Refusals.{all_passed, new-passed, roomy}
use Rattle.rerender.specs.Rerender.{plan_for, plan_of, start_of, is_start, is_settled, stop_of, recounted, recounted_from, made_from, outcome_of, start_refusals, rerender_refusals, kept_of, rerender_of, count_for}
use Rattle.rerender.specs.Inner.{InOrder, rerender_from, started_at, quiet_for, quiet_of, Behind, recounted_on}
use Rattle.rerender.proofs.Renewing.{renewed_is, renewed_words, renewed_before, renewed_after, renewed_entry}

-- ---- the plan
module _ (old new : List ℕ) (n : ℕ) where
  pub plan_equal : difference_of old new ≡ None → None ≡ plan_of old new n
  unfolding plan_for
  plan_equal e = rw e refl

  pub plan_late : (p : ℕ) → difference_of old new ≡ Some p → n ≤ p → None ≡ plan_of old new n
  unfolding plan_for
  plan_late p e h = rw (e, le-ltb p n h) refl

  pub plan_from : (p : ℕ) → difference_of old new ≡ Some p → p < n → Some (p / section_size) ≡ plan_of old new n
  unfolding plan_for
  plan_from p e h = rw (e, lt-ltb p n h) refl

-- the plan's section m holds the position where the scores first differ, which lies before the end
pub record Planned (old new : List ℕ) (n m : ℕ) : Type 0 where
  pub change : ℕ
  pub differs : difference_of old new ≡ Some change
  pub heard : change < n
  pub section_is : m ≡ change / section_size

pub plan_says : (old new : List ℕ) (n m : ℕ) → plan_of old new n ≡ Some m → Planned old new n m
unfolding plan_for
plan_says old new n m h = go (difference_of old new) refl h
  where
    go : (d : Option ℕ) → difference_of old new ≡ d → plan_for d n ≡ Some m → Planned old new n m
    go None e h = absurd (clash (cc))
    go (Some p) e h = at (ltb p n) refl h
      where
        at : (t : Bool) → ltb p n ≡ t → then_some t (p / section_size) ≡ Some m → Planned old new n m
        at true q h = record { change = p; differs = e; heard = ltb-true p n q; section_is = cc }
        at false q h = absurd (clash (cc))

-- section m starts at or before that position, and section m + 1 after it
pub plan_last : (old new : List ℕ) (n m : ℕ) (p : Planned old new n m) → (m * section_size ≤ p.change) × (p.change < suc m * section_size)
plan_last old new n m p = rw p.section_is (omega arith, omega arith)

pub plan_there : (old new : List ℕ) (n m : ℕ) → plan_of old new n ≡ Some m → m < entries_for n
plan_there old new n m h = let p : Planned old new n m = plan_says old new n m h in rw p.section_is (start_there n p.change p.heard)

-- ---- the run
-- where the sizes fit, the words of entry m lie within the shelf
pub words_in : (n words magnitudes numbers m : ℕ) → sizes_fit n words magnitudes numbers ≡ true → m < entries_for n → m * entry_words + entry_words ≤ words
words_in n words magnitudes numbers m f h = omega (arith, (roomy n words magnitudes numbers f).fits, words-there n m h)

-- and section m is not past the most samples
pub few_sections : (n words magnitudes numbers m : ℕ) → sizes_fit n words magnitudes numbers ≡ true → m < entries_for n → m ≤ most_samples
few_sections n words magnitudes numbers m f h = omega (arith, (roomy n words magnitudes numbers f).short)

-- in a sorted score two records tell whether as many acted as lie below the section's first sample
pub start_is : (new : List ℕ) (m : ℕ) (shelf : List ℕ) → Sorted new → is_entry (entry_at shelf m) && is_count_below new (start_of shelf m).acted (m * section_size) ≡ is_start new m shelf
start_is new m shelf o = rw (parts-count new o (start_of shelf m).acted (m * section_size)) refl

-- the entry that a call may start from, and its place
pub started_none : (new : List ℕ) (m : ℕ) (shelf : List ℕ) → started_at new m shelf ≡ None → is_start new m shelf ≡ false
started_none new m shelf = go (is_start new m shelf)
  where
    go : (t : Bool) → then_some t (place_of (start_of shelf m) (start_of shelf m).acted) ≡ None → t ≡ false
    go true e = cc
    go false e = refl

started_some : (new : List ℕ) (m : ℕ) (shelf : List ℕ) (p : Place) → started_at new m shelf ≡ Some p → (is_start new m shelf ≡ true) × (p ≡ place_of (start_of shelf m) (start_of shelf m).acted)
started_some new m shelf p = go (is_start new m shelf)
  where
    go : (t : Bool) → then_some t (place_of (start_of shelf m) (start_of shelf m).acted) ≡ Some p → (t ≡ true) × (p ≡ place_of (start_of shelf m) (start_of shelf m).acted)
    go true e = (refl, cc)
    go false e = cc

-- what the sections' walk from there left
pub run_walked : (g : Settings) (old new : List ℕ) (m : ℕ) (b c : lent.Buffers) (p : Place) (quiet : ℕ) (r : End) → started_at new m b.stored.now ≡ Some p → quiet ≡ quiet_of old new
    → leaves_in r c ≡ left_in b (play_on_of g new m p quiet (held b))
    → (is_start new m b.stored.now ≡ true) × (leaves r (held c) ≡ play_on_of g new m (place_of (start_of b.stored.now m) (start_of b.stored.now m).acted) (quiet_of old new) (held b))
run_walked g old new m b c p quiet r e f x = let s = started_some new m b.stored.now p e in (s.0, rw (s.1, f) at (left-held c r _ x))

module _ (old new : List ℕ) where
  pub quiet_equal : last_difference_of old new ≡ None → 0 ≡ quiet_of old new
  unfolding quiet_for
  quiet_equal e = rw e refl

  pub quiet_at_lem : (p : ℕ) → last_difference_of old new ≡ Some p → p / section_size + 1 ≡ quiet_of old new
  unfolding quiet_for
  quiet_at_lem p e = rw e (omega arith)

-- the section after that of the last difference is the first from whose first sample on the records are the same
pub quiet_is : (old new : List ℕ) → InOrder old → InOrder new → (k : ℕ) → leb (quiet_of old new) k ≡ same_from old new (k * section_size)
unfolding quiet_for
quiet_is old new a b k = go (last_difference_of old new) refl
  where
    go : (d : Option ℕ) → last_difference_of old new ≡ d → leb (quiet_for d) k ≡ same_from old new (k * section_size)
    go None e = le-leb 0 k (omega arith) ∙ sym (same_everywhere old new a.sorted b.sorted a.records b.records (k * section_size) e)
    go (Some p) e =
        ⊎_elim (λ l. le-leb (suc (p / section_size)) k (omega arith) ∙ sym (lt-ltb p (k * section_size) l)) (λ l. lt-leb (suc (p / section_size)) k (omega arith) ∙ sym (le-ltb p (k * section_size) l)) (lt_or_ge p (k * section_size))
        ∙ sym (same_from_lem old new a.sorted b.sorted a.records b.records (k * section_size) p e)

module _ (g : Settings) (old new : List ℕ) (m : ℕ) (b : Buffers) where
  abbrev n : ℕ
  n = samples_in b

  abbrev v : State
  v = start_of b.stored m

  pub from-refused : is_start new m b.stored ≡ false → leaves (Err StartEntry) b ≡ rerender_from g old new m b
  unfolding rerender_from
  from-refused e = rw e refl

  -- the stop, what is made up to it, and the buffers before the numbers of records acted behind it are renewed
  abbrev pub stop : ℕ
  stop = stop_of g old new m b

  abbrev pub samples : List Float
  samples = samples_from g new (m * section_size) v (stop - m * section_size)

  abbrev pub words : List ℕ
  words = shelf_of (entries_from g new m v (entries_for stop - m))

  abbrev pub made : Buffers
  made = made_between m stop samples words b

  pub samples-long : length samples ≡ stop - m * section_size
  samples-long = samples-length g new (m * section_size) v (stop - m * section_size)

  pub words_long : length words ≡ (entries_for stop - m) * entry_words
  words_long = shelf_length (entries_from g new m v (entries_for stop - m)) ∙ ap (λ (i : ℕ). i * entry_words) (entries-length g new m v (entries_for stop - m))

  module _ (there : m < entries_for n) (f : room_in b ≡ true) where
    pub stop_at : Stop m n stop
    unfolding stop_of
    stop_at = stop_is (is_settled g old new m b.stored) m n there

    pub made-fits : Lent made
    made-fits = made-lent m stop samples words b stop_at samples-long words_long (in_room b f)

    pub made-long : samples_in made ≡ n
    made-long = made-samples m stop samples words b stop_at samples-long words_long (in_room b f)

    pub stop_within : entries_for stop ≤ entries_for (samples_in made)
    stop_within = omega (arith, stop_at.within, made-long)

    -- the sections' walk makes that, and stops there
    module _ (wo : InOrder old) (wn : InOrder new) (e : is_start new m b.stored ≡ true) (r : End) (c : Buffers) (x : leaves r c ≡ play_on_of g new m (place_of v v.acted) (quiet_of old new) b) where
      acted_cut : Cut new (m * section_size) v.acted
      acted_cut =
          let as_many : v.acted ≡ count_below new (m * section_size) = eqb-true _ _ (both (is_entry (entry_at b.stored m)) (eqb v.acted (count_below new (m * section_size))) e).1 in
          rw as_many (count_cut new wn.sorted (m * section_size))

      walked : Made g new wn.sorted m v.acted v acted_cut (quiet_of old new) b (leaves r c)
      walked = rw x (agrees.made g new wn.sorted m v.acted v acted_cut (quiet_of old new) b f)

      pub stops : r.sample ≡ stop
      unfolding stop_of
      stops =
          walked.stop_is
          ∙ ap (λ (k : ℕ). min (k * section_size) n) (first-same _ (is_settled g old new m b.stored) (entries_for n - suc m) (suc m)
          (λ k l u. ap (λ (t : Bool). t && meets (entry_at b.stored k) (state_from g new (m * section_size) v ((k - m) * section_size))) (quiet_is old new wo wn k)))

      pub stop_past : m * section_size ≤ r.sample
      stop_past = omega (arith, stops, stop_at.after)

      -- at the stop the next record is known
      pub next_behind : Behind new r.place.next (entries_for r.sample * section_size)
      next_behind = record { position = r.sample; cut = walked.next-is stop_past; low = omega arith }

      left_is : c ≡ made
      left_is = walked.left_is ∙ ap (λ (k : ℕ). made_between m k (samples_from g new (m * section_size) v (k - m * section_size)) (shelf_of (entries_from g new m v (entries_for k - m))) b) stops

      pub few_words : length c.stored ≤ words_for most_samples
      few_words = rw left_is (omega (arith, made-fits.fits, made-fits.short))

      pub from-made : (ws : List ℕ) → ws ≡ recounted_on new (entries_for r.sample) c.stored
          → leaves (Ok (r.sample - m * section_size)) (lends c.heard ws c.summary.magnitudes c.summary.numbers) ≡ rerender_from g old new m b
      unfolding rerender_from
      from-made ws y =
          let w : ws ≡ (recounted_from new (entries_for stop) made).stored = y ∙ rw (stops, left_is) (renewed_is new (entries_for stop) made made-fits.fits stop_within) in
          rw (e, stops, w) (ap (λ (d : Buffers). leaves (Ok (stop - m * section_size)) (lends d.heard (recounted_from new (entries_for stop) made).stored d.summary.magnitudes d.summary.numbers)) left_is)

    -- ---- what the run leaves
    abbrev left : Buffers
    left = (made_from g old new m b).left

    abbrev k : ℕ
    k = entries_for stop

    pub left-long : samples_in left ≡ n
    left-long = made-long

    pub left-words : length left.stored ≡ length b.stored
    left-words = renewed_words new k made made-fits.fits stop_within ∙ made-words m stop samples words b stop_at samples-long words_long (in_room b f)

    -- before section m, from section m to the stop, and from the stop on
    pub left-before : before m left ≡ before m b
    left-before =
        earlier m k left made (omega (arith, stop_at.later)) (renewed_before new k made made-fits.fits stop_within) ∙ made-before m stop samples words b stop_at samples-long words_long (in_room b f)

    pub left-between : onward m (before k left) ≡ lends samples words (said_from largest made.heard m (k - m)) (said_from first_number made.heard m (k - m))
    left-between = ap (onward m) (renewed_before new k made made-fits.fits stop_within) ∙ made_between_lem m stop samples words b stop_at samples-long words_long (in_room b f)

    came_after : onward k made ≡ onward k b
    came_after = made_after m stop samples words b stop_at samples-long words_long (in_room b f)

    pub left-heard_after : (onward k left).heard ≡ (onward k b).heard
    left-heard_after = ap (λ (d : Buffers). d.heard) came_after

    pub left-summary-after : (onward k left).summary ≡ (onward k b).summary
    left-summary-after = ap (λ (d : Buffers). d.summary) came_after

    pub left-stored-after : (onward k left).stored ≡ recounted new k (entries_for n - k) (onward k b).stored
    left-stored-after =
        renewed_after new k made made-fits.fits stop_within ∙ ap (λ (i : ℕ). recounted new k (entries_for i - k) (onward k made).stored) made-long
        ∙ ap (λ (d : Buffers). recounted new k (entries_for n - k) d.stored) came_after

    pub left-entry : (j : ℕ) → k ≤ j → j < entries_for n → entry_at left.stored j ≡ with_count (entry_at b.stored j) (count_below new (j * section_size))
    left-entry j h u =
        renewed_entry new k made made-fits.fits stop_within j h (rw made-long u)
        ∙ ap (λ (ws : List ℕ). with_count (take entry_words ws) (count_below new (j * section_size))) (later_words k j made b h came_after)

    -- the entries from section m on: those made, and behind them those that came, their numbers renewed
    pub left-stored-onward : (onward m left).stored ≡ words ++ recounted new k (entries_for n - k) (onward k b).stored
    left-stored-onward =
        let inside : k * entry_words ≤ length left.stored = omega (arith, left-words, (in_room b f).fits, stop_at.within) in
        ap (drop (m * entry_words)) (sym (take-append-drop (k * entry_words) left.stored))
        ∙ drop-append-le (m * entry_words) (take (k * entry_words) left.stored) (onward k left).stored (omega (arith, stop_at.later, length-take-le (k * entry_words) left.stored inside))
        ∙ rw (left-stored-after, ap (λ (d : Buffers). d.stored) left-between) refl

-- ---- what the stop depends on
-- words that are the same from entry m on hold the same later entries
pub later_entry : (m k : ℕ) (xs ys : List ℕ) → m ≤ k → drop (m * entry_words) xs ≡ drop (m * entry_words) ys → entry_at xs k ≡ entry_at ys k
later_entry m k xs ys l h = ap (take entry_words) (later_drop (m * entry_words) (k * entry_words) xs ys (omega arith) h)

-- the number of samples and the entries from section m on, beside settings and scores
pub stop_alone : (g : Settings) (old new : List ℕ) (m : ℕ) (b c : Buffers) → samples_in b ≡ samples_in c → drop (m * entry_words) b.stored ≡ drop (m * entry_words) c.stored → stop_of g old new m b ≡ stop_of g old new m c
unfolding stop_of
stop_alone g old new m b c long same =
    ap (stop_where (is_settled g old new m b.stored) m) long
    ∙ ap (λ (k : ℕ). min (k * section_size) (samples_in c)) (first-same (is_settled g old new m b.stored) (is_settled g old new m c.stored) (entries_for (samples_in c) - suc m) (suc m)
    (λ k l u. rw (later_entry m m b.stored c.stored (omega arith) same, later_entry m k b.stored c.stored (omega arith) same) refl))

-- ---- the call
-- what is refused before the plan is made, and what the code answers then
module _ (g : Settings) (old new : List ℕ) (room : Bool) where
  abbrev pub checks : List Refusal
  checks = refusals_of g room old ++ new_refusals_of new

  abbrev pub answered : Answer
  answered = first_of (refusals_of g room old) Err (first_of (new_refusals_of new) Err (Ok 0))

  answered-is : first_of checks Err (Ok 0) ≡ answered
  answered-is = first_append (refusals_of g room old) (new_refusals_of new) Err (Ok 0)

  pub answer-none : (k : ℕ) → answered ≡ Ok k → checks ≡ []
  answer-none k e = done_none checks 0 k (answered-is ∙ e)

  pub answer_leads : (why : Refusal) → answered ≡ Err why → Leads why checks
  answer_leads why e = refused_leads checks 0 why (answered-is ∙ e)

  -- what is true where the checks refuse nothing
  pub record Checked : Type 0 where
    pub settings : settings_ok g ≡ true
    pub fits : room ≡ true
    pub old_accepted : verdict_of old ≡ Ok (count_of old)
    pub new-accepted : verdict_of new ≡ Ok (count_of new)

  pub all_checked : checks ≡ [] → Checked
  all_checked e =
      let b = none_both (refusals_of g room old) (new_refusals_of new) e in
      let p = all_passed g room old b.0 in
      record { settings = p.settings; fits = p.sized; old_accepted = p.accepted; new-accepted = new-passed new b.1 }

  pub answer-checked : (k : ℕ) → answered ≡ Ok k → Checked
  answer-checked k e = all_checked (answer-none k e)

module _ (g : Settings) (old new : List ℕ) (b : Buffers) where
  abbrev plan : Option ℕ
  plan = plan_of old new (samples_in b)

  abbrev tests : List Refusal
  tests = checks g old new (room_in b)

  -- the outcome where the checks refuse nothing
  abbrev rest : Outcome Answer
  rest = first_of (start_refusals new plan b.stored) (kept_of b) (outcome_of g old new plan b)

  in_turn : rerender_of g old new b ≡ first_of tests (kept_of b) rest
  unfolding rerender_of
  in_turn = first_append tests (start_refusals new plan b.stored) (kept_of b) (outcome_of g old new plan b)

  pub checks_refuse : (why : Refusal) → answered g old new (room_in b) ≡ Err why → leaves (Err why) b ≡ rerender_of g old new b
  checks_refuse why e = sym (in_turn ∙ leads_first why tests (kept_of b) rest (answer_leads g old new (room_in b) why e))

  pub checks_pass : tests ≡ [] → rerender_of g old new b ≡ rest
  checks_pass none = in_turn ∙ rw none refl

  module _ (k : ℕ) (e : answered g old new (room_in b) ≡ Ok k) where
    goes : rerender_of g old new b ≡ rest
    goes = checks_pass (answer-none g old new (room_in b) k e)

    pub nothing_run : plan ≡ None → leaves (Ok 0) b ≡ rerender_of g old new b
    nothing_run q = sym (goes ∙ rw q refl)

    pub section_run : (m : ℕ) → plan ≡ Some m → rerender_from g old new m b ≡ rerender_of g old new b
    unfolding rerender_from
    section_run m q = sym (goes ∙ rw q refl)

  -- the list of refusals decides the answer, and the answer decides what is left
  pub rerender-decided : Decided (λ (o : Outcome Answer). o.result) (rerender_refusals g old new b) (kept_of b) (outcome_of g old new plan b) (count_for g old new plan b) (rerender_of g old new b)
  unfolding rerender_of
  rerender-decided = decided (λ (o : Outcome Answer). o.result) _ (kept_of b) (outcome_of g old new plan b) (count_for g old new plan b) (λ why. refl) (run-counts plan)
    where
      run-counts : (q : Option ℕ) → (outcome_of g old new q b).result ≡ Ok (count_for g old new q b)
      run-counts None = refl
      run-counts (Some m) = refl
