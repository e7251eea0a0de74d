-- A re-render's statement is total: it covers any start entry that is a state, even one that no render leaves, and any
-- later entries. What lies before the start section stays as it came, and so does the start entry; samples and summary
-- from the stop on stay, too. The stop and the answer, the entries from the start section on, and samples and summary
-- from there up to the stop depend on the settings, both scores, the number of samples, the start section and the
-- entries from it on alone, not on the old samples, the earlier entries or the old summary. Assumes nothing.
use Rattle.std.specs.Prelude.{Err, Ok, Option, Some}
use mathlib.Core.Path.{◌≡◌, refl, sym, ap, ◌∙◌}
use mathlib.Core.Bool.{true, ◌&&◌}
use mathlib.Core.List.{List, []}
use Prim.Native.Nat.{ℕ, ◌-◌, ◌*◌, ◌<◌}
use native.Mathlib.Omega.{arith}
use lib.Dec.{eqb}
use lib.ListN.{take, drop}
use lib.Seq.{take-append-le}
use Rattle.peaks.specs.declared.Peak.{Peak}
use Rattle.sections.specs.Outcome.{Buffers, lends, samples_in, room_in, Lent, before, onward, Outcome}
use Rattle.sections.specs.Summary.{largest, first_number, said_from}
use Rattle.sections.proofs.Room.{room_in_lem, later_drop}
use Rattle.sections.proofs.Summed.{said_part}
use Rattle.answers.specs.Order.{unless, first_of}
use Rattle.answers.specs.Answer.{Answer}
use Rattle.answers.specs.declared.Refusal.{Refusal}
use Rattle.answers.specs.declared.Refusal.TheVariants.{StartEntry}
use Rattle.answers.proofs.Order.{first-through, first_holds, passed, none_both}
use Rattle.runs.specs.Runs.{run}
use Rattle.score.specs.Below.{count_below}
use Rattle.score.proofs.Codec.{both}
use Rattle.shelf.specs.Shelf.{section_size, entry_words, entries_for, entry_of, state_of, is_entry, word, entry_at}
use Rattle.shelf.proofs.Digits.{beyond}
use Rattle.shelf.proofs.Whole.{entry_words_lem}
use Rattle.shelf.proofs.Back.{decode-encode}
use Rattle.state.specs.declared.Settings.{Settings}
use Rattle.state.specs.declared.State.{State}
use Rattle.state.specs.Heart.{state_from, entries_from}
use Rattle.state.proofs.Entries.{entries-length, entry_at_lem}
use Rattle.rerender.specs.Rerender.{plan_of, start_of, is_start, stop_of, recounted, made_from, outcome_of, start_refusals, rerender_refusals, kept_of, rerender_of}
use Rattle.rerender.proofs.Cases.{plan_there, samples, words, made, words_long, stop_at, left-before, left-between, left-heard_after, left-summary-after, left-stored-onward, stop_alone, checks, Checked, all_checked}
use Rattle.demands.specs.Peaks.{SameAfter}

-- after no sample the state is the one before
none_yet : (g : Settings) (s : List ℕ) (m : ℕ) (v : State) → state_from g s (m * section_size) v (0 * section_size) ≡ v
unfolding state_from run
none_yet g s m v = refl

-- ---- what stays
module _ (g : Settings) (old new : List ℕ) (b : Buffers) (m : ℕ) (planned : plan_of old new (samples_in b) ≡ Some m) where
  abbrev n : ℕ
  n = samples_in b

  abbrev call : Outcome Answer
  call = rerender_of g old new b

  there : m < entries_for n
  there = plan_there old new n m planned

  -- the call leaves all as it came, or what is made from an entry that is a state, in buffers that fit
  pub either_way : (P : Outcome Answer → Type 0) → ((why : Refusal) → P (kept_of b why)) → (is_start new m b.stored ≡ true → Checked g old new (room_in b) → P (made_from g old new m b)) → P call
  unfolding rerender_of
  either_way P kept made =
      first_holds P (rerender_refusals g old new b) (kept_of b) (outcome_of g old new (plan_of old new n) b) (λ why l. kept why)
      (λ none. let c = none_both (checks g old new (room_in b)) (start_refusals new (plan_of old new n) b.stored) none in
      let start : unless (is_start new m b.stored) StartEntry ≡ [] = rw planned at c.1 in
      rw planned (made (passed (is_start new m b.stored) StartEntry start) (all_checked g old new (room_in b) c.0)))

  -- before the start section
  pub stays : before m call.left ≡ before m b
  stays = either_way (λ (o : Outcome Answer). before m o.left ≡ before m b) (λ why. refl) (λ e c. left-before g old new m b there c.fits)

  -- samples and summary from the stop on
  pub after-stays : SameAfter (entries_for (stop_of g old new m b)) call.left b
  after-stays =
      either_way (λ (o : Outcome Answer). SameAfter (entries_for (stop_of g old new m b)) o.left b) (λ why. record { heard = refl; summary = refl })
      (λ e c. record { heard = left-heard_after g old new m b there c.fits; summary = left-summary-after g old new m b there c.fits })

  -- the start entry is written again with the words that it had: the words of a state read from an entry are the
  -- entry's
  pub start_stays : ((i : ℕ) → word (entry_at b.stored m) i < beyond) → entry_at call.left.stored m ≡ entry_at b.stored m
  start_stays bytes = either_way (λ (o : Outcome Answer). entry_at o.left.stored m ≡ entry_at b.stored m) (λ why. refl) again
    where
      again : is_start new m b.stored ≡ true → Checked g old new (room_in b) → entry_at (made_from g old new m b).left.stored m ≡ entry_at b.stored m
      again e c =
          let v = start_of b.stored m in
          let k = entries_for (stop_of g old new m b) in
          let later : m < k = (stop_at g old new m b there c.fits).later in
          let is = both (is_entry (entry_at b.stored m)) (eqb v.acted (count_below new (m * section_size))) e in
          ap (take entry_words) (left-stored-onward g old new m b there c.fits)
          ∙ take-append-le entry_words (words g old new m b) (recounted new k (entries_for n - k) (drop (k * entry_words) b.stored)) (omega (arith, later, words_long g old new m b))
          ∙ entry_words_lem (entries_from g new m v (k - m)) 0 v (rw (entries-length g new m v (k - m)) (omega arith))
          ∙ ap entry_of (entry_at_lem g new m v (k - m) 0 v (omega arith) ∙ none_yet g new m v)
          ∙ decode-encode (entry_at b.stored m) bytes is.0

-- ---- what the outcome depends on
module _ (g : Settings) (old new : List ℕ) (b c : Buffers) (fit : Lent b) (fit' : Lent c) (long : samples_in b ≡ samples_in c) (m : ℕ) (planned : plan_of old new (samples_in b) ≡ Some m) (same : drop (m * entry_words) b.stored ≡ drop (m * entry_words) c.stored) where
  planned' : plan_of old new (samples_in c) ≡ Some m
  planned' = rw (← long) planned

  same_start : entry_at b.stored m ≡ entry_at c.stored m
  same_start = ap (take entry_words) same

  start_alone : is_start new m b.stored ≡ is_start new m c.stored
  start_alone = ap (λ (ws : List ℕ). is_entry ws && eqb (state_of ws).acted (count_below new (m * section_size))) same_start

  refusals_alone : rerender_refusals g old new b ≡ rerender_refusals g old new c
  refusals_alone = rw (planned, planned', room_in_lem b fit, room_in_lem c fit', start_alone) refl

  same_stop : stop_of g old new m b ≡ stop_of g old new m c
  same_stop = stop_alone g old new m b c long same

  -- the answer: the first refusal, or the count of samples from the start section up to the stop
  answer-is : (d : Buffers) → plan_of old new (samples_in d) ≡ Some m → (rerender_of g old new d).result ≡ first_of (rerender_refusals g old new d) Err (Ok (stop_of g old new m d - m * section_size))
  unfolding rerender_of
  answer-is d q =
      first-through (λ (o : Outcome Answer). o.result) (rerender_refusals g old new d) (kept_of d) (outcome_of g old new (plan_of old new (samples_in d)) d)
      ∙ ap (λ (plan : Option ℕ). first_of (rerender_refusals g old new d) Err (outcome_of g old new plan d).result) q

  pub answer_alone : (rerender_of g old new b).result ≡ (rerender_of g old new c).result
  answer_alone = answer-is b planned ∙ rw (refusals_alone, same_stop) refl ∙ sym (answer-is c planned')

  -- where nothing is refused
  module _ (none : rerender_refusals g old new b ≡ []) where
    there_too : m < entries_for (samples_in b)
    there_too = plan_there old new (samples_in b) m planned

    there_too' : m < entries_for (samples_in c)
    there_too' = plan_there old new (samples_in c) m planned'

    is_made : rerender_of g old new b ≡ made_from g old new m b
    unfolding rerender_of
    is_made = rw (none, planned) refl

    is_made' : rerender_of g old new c ≡ made_from g old new m c
    unfolding rerender_of
    is_made' = rw (← refusals_alone, none, planned') refl

    -- the section of the stop
    abbrev k : ℕ
    k = entries_for (stop_of g old new m b)

    samples_alone : samples g old new m b ≡ samples g old new m c
    samples_alone = rw (same_stop, same_start) refl

    words_alone : words g old new m b ≡ words g old new m c
    words_alone = rw (same_stop, same_start) refl

    -- what is made in buffers d lies between section m and the stop
    abbrev MadeIn : Buffers → Type 0
    MadeIn d =
        onward m (before k (made_from g old new m d).left)
        ≡ lends (samples g old new m d) (words g old new m d) (said_from largest (made g old new m d).heard m (k - m)) (said_from first_number (made g old new m d).heard m (k - m))

    made_in_lem : MadeIn b
    made_in_lem = left-between g old new m b there_too (room_in_lem b fit)

    made_in' : MadeIn c
    made_in' = rw same_stop (left-between g old new m c there_too' (room_in_lem c fit'))

    said_alone : {A : Type 0} (f : ℕ → Peak → A) → said_from f (made g old new m b).heard m (k - m) ≡ said_from f (made g old new m c).heard m (k - m)
    said_alone f =
        said_part f (made g old new m b).heard (made g old new m c).heard m (k - m) k (omega (arith, (stop_at g old new m b there_too (room_in_lem b fit)).later))
        (ap (λ (d : Buffers). d.heard) made_in_lem ∙ samples_alone ∙ sym (ap (λ (d : Buffers). d.heard) made_in'))

    -- from section m up to the stop everything is the same
    pub left_alone : onward m (before k (rerender_of g old new b).left) ≡ onward m (before k (rerender_of g old new c).left)
    left_alone =
        ap (λ (o : Outcome Answer). onward m (before k o.left)) is_made ∙ made_in_lem ∙ rw (said_alone largest, said_alone first_number, samples_alone, words_alone) refl
        ∙ sym (ap (λ (o : Outcome Answer). onward m (before k o.left)) is_made' ∙ made_in')

    rest_same : drop (k * entry_words) b.stored ≡ drop (k * entry_words) c.stored
    rest_same = later_drop (m * entry_words) (k * entry_words) b.stored c.stored (omega (arith, (stop_at g old new m b there_too (room_in_lem b fit)).later)) same

    -- and the entries are so to the end
    pub entries_alone : (onward m (rerender_of g old new b).left).stored ≡ (onward m (rerender_of g old new c).left).stored
    entries_alone =
        ap (λ (o : Outcome Answer). (onward m o.left).stored) is_made ∙ left-stored-onward g old new m b there_too (room_in_lem b fit)
        ∙ rw (words_alone, rest_same, same_stop, long) refl
        ∙ sym (ap (λ (o : Outcome Answer). (onward m o.left).stored) is_made' ∙ left-stored-onward g old new m c there_too' (room_in_lem c fit'))

  -- samples and summary from the stop on stay with each its own
  pub rest_own : SameAfter (entries_for (stop_of g old new m b)) (rerender_of g old new b).left b × SameAfter (entries_for (stop_of g old new m b)) (rerender_of g old new c).left c
  rest_own = (after-stays g old new b m planned, rw same_stop (after-stays g old new c m planned'))
