-- The claim of specs/Demand3.antt. Both scores give one state at the start of the section, and the section's entry is
-- read as that state; so a re-render goes on from the state that a render of the new score has there. From the stop on
-- both scores make the same (proofs/Stops.antt), so what the old render left there is the new one's, but for the
-- numbers of records acted, which the call renews. Assumes nothing.
use Rattle.std.specs.Prelude.{Err, None, Ok, Some}
use mathlib.Core.Path.{◌≡◌, refl, sym, subst, ap, ◌∙◌}
use mathlib.Core.Bool.{true, false, true≢false}
use mathlib.Core.List.{List, []}
use mathlib.Core.Logic.{⊎_elim}
use Prim.Native.Nat.{ℕ, ◌-◌, ◌*◌, ◌/◌, ◌%◌, min, ◌≤◌, ◌<◌}
use native.Mathlib.Omega.{arith}
use borrow.Author.Tests.{eq-eqb}
use lib.ListN.{length, take, drop, length-drop}
use lib.Seq.{length-take-le}
use Rattle.peaks.specs.declared.Peak.{Peak}
use Rattle.sections.specs.Outcome.{Summary, Buffers, samples_in, room_in, Lent, before, onward, Outcome, leaves}
use Rattle.sections.specs.Summary.{largest, first_number, said_from}
use Rattle.sections.proofs.Room.{room_in_lem, same-buffers, later_drop}
use Rattle.sections.proofs.Summed.{said_alike, said_part}
use Rattle.answers.specs.Answer.{Answer}
use Rattle.answers.specs.declared.Refusal.TheVariants.{StartEntry}
use Rattle.score.specs.Below.{count_below}
use Rattle.score.specs.Apart.{difference_of}
use Rattle.score.proofs.Agree.{equal_exactly}
use Rattle.score.proofs.Cuts.{lt_or_ge, accepted-few, accepted-sorted, count_cut}
use Rattle.score.proofs.Parted.{clash}
use Rattle.shelf.proofs.There.{decoded-there}
use Rattle.shelf.specs.Shelf.{section_size, entry_words, entries_for, entry_of, decoded_of, shelf_of, word, is_entry, entry_at}
use Rattle.shelf.proofs.Count.{start_there, words-there}
use Rattle.shelf.proofs.Counted.{meets-entry, with_other, with_low, with_number}
use Rattle.state.specs.declared.Settings.{Settings}
use Rattle.state.specs.declared.State.{State}
use Rattle.state.specs.Settings.{settings_ok}
use Rattle.state.specs.State.{fresh_of}
use Rattle.state.specs.Heart.{samples_from, entries_from}
use Rattle.state.proofs.Depends.{Shared, state_shared, differing_shared}
use Rattle.state.proofs.Acted.{acted_fresh}
use Rattle.judging.proofs.Refusals.{none-refused, none_newly}
use Rattle.demands.specs.Demand3.{Taken, Edit, BuffersOf, left_in, at_section, FromSection, Recounted, StopsAt, StopsOver, RemadeTo, Remade, EntriesRemade, StartRemade, MadeToTheEnd, Demand3}
use Rattle.demands.proofs.First.{first_change, differ}
use Rattle.demands.proofs.Honest.{honest}
use Rattle.demands.proofs.Cut.{rejoin, Sized, lent-sized, sized-lent, over_at, same-lends, cut-none, cut-front, cut_rest, cut-onward, cut-whole}
use Rattle.demands.proofs.Whole.{sound_of, shelved_of, whole_of, whole-sized, left_is, entry-left, shelf_after, said_from_lem, between_is}
use Rattle.demands.proofs.Stops.{stop_is, stops-over, stops_first, stops_at, one_stop, sound_same, entries_renewed}
use Rattle.rerender.specs.Rerender.{plan_of, start_of, is_start, stop_of, recounted, made_from, rerender_of}
use Rattle.rerender.proofs.Cases as cases
use Rattle.rerender.proofs.Cases.{plan_equal, plan_late, plan_from, checks, checks_pass, made-long, made-fits, later_entry, left-long, left-words, left-before, left-between, left-heard_after, left-summary-after, left-stored-after, left-entry}

-- nothing is refused before the plan is made
pub checked : (g : Settings) (old new : List ℕ) → Edit g old new → (b : Buffers) → Lent b → checks g old new (room_in b) ≡ []
checked g old new x b z = rw (none-refused g (room_in b) old x.old_taken.records x.settings (room_in_lem b z) x.old_taken.accepted, none_newly new x.new-taken.records x.new-taken.accepted) refl

-- demand 3, its last sentence: where the scores are equal or the first change lies at or past the end, nothing is
-- written and the count is 0, whatever the buffers hold
module _ (g : Settings) (old new : List ℕ) (x : Edit g old new) (b : Buffers) (z : Lent b) where
  pub demand_3_nothing : plan_of old new (samples_in b) ≡ None → rerender_of g old new b ≡ leaves (Ok 0) b
  demand_3_nothing q = checks_pass g old new b (checked g old new x b z) ∙ rw q refl

  pub nothing_equal : old ≡ new → rerender_of g old new b ≡ leaves (Ok 0) b
  nothing_equal e =
      demand_3_nothing (sym (plan_equal old new (samples_in b) ((equal_exactly old new x.old_taken.records x.new-taken.records x.old_taken.accepted x.new-taken.accepted).no_difference e)))

  pub nothing_late : (p : ℕ) → difference_of old new ≡ Some p → samples_in b ≤ p → rerender_of g old new b ≡ leaves (Ok 0) b
  nothing_late p e h = demand_3_nothing (sym (plan_late old new (samples_in b) p e h))

-- so what is left before section m and made from section m on is the same for any render
pub from_section : (g : Settings) → settings_ok g ≡ true → (s : List ℕ) → Taken s → (m : ℕ) (came left : Buffers) → onward m left ≡ onward m (whole_of g s (samples_in came)) → before m left ≡ before m came
    → FromSection came (left_in g s) m left
from_section g ok s a m came left h k = record { are_rendered = λ r. h ∙ sym (ap (onward m) (left_is g ok s a (samples_in came) r)); stay = k }

module _ (g : Settings) (old new : List ℕ) (x : Edit g old new) (p : ℕ) (differs : difference_of old new ≡ Some p) where
  abbrev pub m : ℕ
  m = p / section_size

  -- section m starts at or before the change
  starts-before : m * section_size ≤ p
  starts-before = omega arith

  shared : Shared old new (m * section_size) (count_below old (m * section_size))
  shared = differing_shared old new x.old_taken.records x.new-taken.records p (m * section_size) x.old_taken.accepted x.new-taken.accepted differs starts-before

  -- so both scores give one state before the first sample of section m
  pub same_section : at_section g old m ≡ at_section g new m
  same_section = state_shared old new (m * section_size) (count_below old (m * section_size)) shared g 0 (fresh_of 0) (m * section_size) (omega arith)

  module _ (b : Buffers) (z : Lent b) (heard : p < samples_in b) where
    abbrev n : ℕ
    n = samples_in b

    abbrev shelf : List ℕ
    shelf = b.stored

    there : m < entries_for n
    there = start_there n p heard

    -- ---- the start entry is what a render of the old score left
    module _ (honestly : entry_at shelf m ≡ entry_of (at_section g old m)) where
      decoded : decoded_of (entry_at shelf m) ≡ Some (at_section g new m)
      decoded =
          ap decoded_of honestly ∙ honest g x.settings x.sustain_fits old x.old_taken.records x.old_taken.accepted (m * section_size)
          ∙ ap (λ (v : State). Some v) same_section

      start_is : start_of shelf m ≡ at_section g new m
      start_is = (decoded-there _ _ decoded).1

      -- an entry that a render left is never refused
      start_taken : is_start new m shelf ≡ true
      start_taken =
          let few = accepted-few new x.new-taken.records x.new-taken.accepted in
          let acted : (start_of shelf m).acted ≡ count_below new (m * section_size) = ap (λ (v : State). v.acted) start_is ∙ acted_fresh g new few (m * section_size) in
          rw ((decoded-there _ _ decoded).0, eq-eqb (start_of shelf m).acted (count_below new (m * section_size)) acted) refl

      call-is : rerender_of g old new b ≡ made_from g old new m b
      call-is = checks_pass g old new b (checked g old new x b z) ∙ rw (← plan_from old new n p differs heard, start_taken) refl

      -- the stop, and its section
      abbrev stop : ℕ
      stop = stop_of g old new m b

      abbrev pub k : ℕ
      k = entries_for stop

      pub stop_over : StopsOver g old new m (at_section g new m) b k
      stop_over = rw start_is at (stops-over g old new m b there)

      abbrev left : Buffers
      left = (made_from g old new m b).left

      -- ---- up to the stop
      made-samples : cases.samples g old new m b ≡ samples_from g new (m * section_size) (at_section g new m) (min (k * section_size) n - m * section_size)
      made-samples = ap (λ (v : State). samples_from g new (m * section_size) v (stop - m * section_size)) start_is ∙ ap (λ (e : ℕ). samples_from g new (m * section_size) (at_section g new m) (e - m * section_size)) (stop_is g old new m b there)

      made-words : cases.words g old new m b ≡ shelf_of (entries_from g new m (at_section g new m) (k - m))
      made-words = ap (λ (v : State). shelf_of (entries_from g new m v (k - m))) start_is

      heard_alike : drop (m * section_size) (take (k * section_size) left.heard) ≡ drop (m * section_size) (take (k * section_size) (sound_of g new n))
      heard_alike = ap (λ (c : Buffers). c.heard) (left-between g old new m b there (room_in_lem b z)) ∙ made-samples ∙ sym (ap (λ (c : Buffers). c.heard) (between_is g new n m k stop_over.past stop_over.within))

      said_alike_between : {A : Type 0} (f : ℕ → Peak → A) → said_from f (cases.made g old new m b).heard m (k - m) ≡ said_from f (sound_of g new n) m (k - m)
      said_alike_between f = said_part f (cases.made g old new m b).heard (sound_of g new n) m (k - m) k (omega (arith, stop_over.past)) heard_alike

      pub up_to_the_stop : onward m (before k left) ≡ onward m (before k (whole_of g new n))
      up_to_the_stop =
          left-between g old new m b there (room_in_lem b z) ∙ same-lends made-samples made-words (said_alike_between largest) (said_alike_between first_number) ∙ sym (between_is g new n m k stop_over.past stop_over.within)

      -- ---- from the stop on
      few-records : (q : ℕ) → count_below new q < 281474976710656
      few-records q = omega (arith, (count_cut new (accepted-sorted new x.new-taken.records x.new-taken.accepted) q).inside, accepted-few new x.new-taken.records x.new-taken.accepted)

      entry-long : (j : ℕ) → j < entries_for n → 5 < length (entry_at shelf j)
      entry-long j u = omega (arith, length-take-le entry_words (drop (j * entry_words) shelf) (omega (arith, length-drop (j * entry_words) shelf, z.fits, words-there n j u)))

      renewed : Recounted new k b left
      renewed =
          let entry = left-entry g old new m b there (room_in_lem b z) in
          record {
            heard = left-heard_after g old new m b there (room_in_lem b z);
            summary = left-summary-after g old new m b there (room_in_lem b z);
            as_many = left-words g old new m b there (room_in_lem b z);
            words = λ j i h u l no. ap (λ (ws : List ℕ). word ws i) (entry j h u) ∙ with_other (entry_at shelf j) (count_below new (j * section_size)) i no;
            low_bits = λ j h u. ap (λ (ws : List ℕ). word ws 5 % 65536) (entry j h u) ∙ with_low (entry_at shelf j) (count_below new (j * section_size)) (entry-long j u);
            numbers = λ j h u. ap (λ (ws : List ℕ). word ws 5 / 65536) (entry j h u) ∙ with_number (entry_at shelf j) (count_below new (j * section_size)) (entry-long j u) (few-records (j * section_size));
          }

      counted : (rerender_of g old new b).result ≡ Ok (min (k * section_size) n - m * section_size)
      counted = ap (λ (o : Outcome Answer). o.result) call-is ∙ ap (λ (e : ℕ). Ok (e - m * section_size)) (stop_is g old new m b there)

      pub remade_to : RemadeTo g new m k b (rerender_of g old new b)
      remade_to =
          record {
            counted = counted;
            never_8 = λ is. (let c : Ok (min (k * section_size) n - m * section_size) ≡ Err StartEntry = sym counted ∙ is in absurd (clash (cc)));
            are_rendered = λ r. rw call-is (up_to_the_stop ∙ sym (ap (λ (c : Buffers). onward m (before k c)) (left_is g x.settings new x.new-taken n r)));
            stay = rw call-is (left-before g old new m b there (room_in_lem b z));
            recounted = rw call-is renewed;
          }

      -- ---- without a stop all from section m on is the new render's
      left-sized : Sized n left
      left-sized =
          let long : samples_in (cases.made g old new m b) ≡ n = made-long g old new m b there (room_in_lem b z) in
          let fits = made-fits g old new m b there (room_in_lem b z) in
          record { long = long; fits = left-words g old new m b there (room_in_lem b z) ∙ z.fits; magnitudes-fit = fits.magnitudes-fit ∙ ap entries_for long; numbers_fit = fits.numbers_fit ∙ ap entries_for long }

      pub to_the_end : k ≡ entries_for n → onward m left ≡ onward m (whole_of g new n)
      to_the_end e = cut-onward m k left (whole_of g new n) (omega (arith, stop_over.past)) up_to_the_stop
          (subst (λ (i : ℕ). onward i left ≡ onward i (whole_of g new n)) (sym e) (cut-none n left (whole_of g new n) left-sized (whole-sized g new n)))

      pub left-lent : Lent left
      left-lent = sized-lent n left z.short left-sized

      left-stays : before m left ≡ before m b
      left-stays = left-before g old new m b there (room_in_lem b z)

      -- as one equation
      pub over-to_the_end : k ≡ entries_for n → rerender_of g old new b ≡ leaves (Ok (n - m * section_size)) (over_at m b (whole_of g new n))
      over-to_the_end e =
          let whole = whole_of g new n in
          let at : stop ≡ n = omega (arith, stop_is g old new m b there, e) in
          call-is ∙ ap (λ (c : Buffers). leaves (Ok (stop - m * section_size)) c) (cut-whole m left (over_at m b whole) (left-stays ∙ sym (cut-front n m there b whole (lent-sized b z) m (omega arith))) (to_the_end e ∙ sym (cut_rest n m there b whole (lent-sized b z))))
          ∙ ap (λ (i : ℕ). leaves (Ok (i - m * section_size)) (over_at m b whole)) at

      pub start_remade : StartRemade g old new m b (rerender_of g old new b)
      start_remade =
          record {
            stop_section = k;
            stops = stop_over;
            to_the_stop = remade_to;
            to_the_end = λ e. rw call-is (from_section g x.settings new x.new-taken m b left (to_the_end e) left-stays);
          }

      -- no later entry is a state
      to_the_end_only : ((j : ℕ) → m < j → j < entries_for n → is_entry (entry_at shelf j) ≡ false) → k ≡ entries_for n
      to_the_end_only none =
          ⊎_elim (λ l. absurd (true≢false (sym (meets-entry (entry_at shelf k) _ (stop_over.settled l).entry) ∙ none k stop_over.past l))) (λ l. omega (arith, stop_over.within)) (lt_or_ge k (entries_for n))

      pub made-to_the_end : ((j : ℕ) → m < j → j < entries_for n → is_entry (entry_at shelf j) ≡ false) → MadeToTheEnd g new m b (rerender_of g old new b)
      made-to_the_end none =
          let e = to_the_end_only none in
          let at : min (k * section_size) n ≡ n = omega (arith, e) in
          record { counted = counted ∙ ap (λ (i : ℕ). Ok (i - m * section_size)) at; left = rw call-is (from_section g x.settings new x.new-taken m b left (to_the_end e) left-stays) }

    -- ---- the entries from section m on are what a render of the old score left
    module _ (same : drop (m * entry_words) shelf ≡ drop (m * entry_words) (shelved_of g old n)) where
      entries-left : (j : ℕ) → m ≤ j → j < entries_for n → entry_at shelf j ≡ entry_of (at_section g old j)
      entries-left j l u = later_entry m j shelf (shelved_of g old n) l same ∙ entry-left g old n j u

      pub honestly : entry_at shelf m ≡ entry_of (at_section g old m)
      honestly = entries-left m (omega arith) there

      stop_over_too : StopsOver g old new m (at_section g new m) b (k honestly)
      stop_over_too = stop_over honestly

      pub stop_at : StopsAt g old new m n (k honestly)
      stop_at = stops_at g old new x m b (λ j l u. entries-left j (omega arith) u) (k honestly) stop_over_too

      stored-after : drop (k honestly * entry_words) (left honestly).stored ≡ drop (k honestly * entry_words) (shelved_of g new n)
      stored-after =
          left-stored-after g old new m b there (room_in_lem b z)
          ∙ ap (recounted new (k honestly) (entries_for n - k honestly)) (later_drop (m * entry_words) (k honestly * entry_words) shelf (shelved_of g old n) (omega (arith, stop_at.past)) same ∙ shelf_after g old (entries_for n) (k honestly) stop_at.within)
          ∙ entries_renewed g old new x n (k honestly) stop_at.within stop_at.settled ∙ sym (shelf_after g new (entries_for n) (k honestly) stop_at.within)

      pub stored_is : (onward m (left honestly)).stored ≡ (onward m (whole_of g new n)).stored
      stored_is = rejoin (m * entry_words) (k honestly * entry_words) (left honestly).stored (shelved_of g new n) (omega (arith, stop_at.past)) (ap (λ (c : Buffers). c.stored) (up_to_the_stop honestly)) stored-after

      tail_same : drop (k honestly * section_size) (sound_of g old n) ≡ drop (k honestly * section_size) (sound_of g new n)
      tail_same = sound_same g old new x n (k honestly) stop_at.within stop_at.settled

      pub heard-is : (onward m b).heard ≡ (onward m (whole_of g old n)).heard → (onward m (left honestly)).heard ≡ (onward m (whole_of g new n)).heard
      heard-is h =
          rejoin (m * section_size) (k honestly * section_size) (left honestly).heard (sound_of g new n) (omega (arith, stop_at.past)) (heard_alike honestly)
          (left-heard_after g old new m b there (room_in_lem b z) ∙ later_drop (m * section_size) (k honestly * section_size) b.heard (sound_of g old n) (omega (arith, stop_at.past)) h ∙ tail_same)

      -- what was said of the old render's sections from the stop on is what is said of the new one's
      said_tail : {A : Type 0} (f : ℕ → Peak → A) (came : List A) → drop m came ≡ drop m (said_from f (sound_of g old n) 0 (entries_for (length (sound_of g old n))))
          → drop (k honestly) came ≡ drop (k honestly) (said_from f (sound_of g new n) 0 (entries_for (length (sound_of g new n))))
      said_tail f came h =
          later_drop m (k honestly) came _ (omega (arith, stop_at.past)) h ∙ said_from_lem g old f n (k honestly) stop_at.within
          ∙ said_alike f (sound_of g old n) (sound_of g new n) (k honestly) (entries_for n - k honestly) tail_same ∙ sym (said_from_lem g new f n (k honestly) stop_at.within)

      pub summary-is : (onward m b).summary ≡ (onward m (whole_of g old n)).summary → (onward m (left honestly)).summary ≡ (onward m (whole_of g new n)).summary
      summary-is h =
          let after = left-summary-after g old new m b there (room_in_lem b z) in
          let front = up_to_the_stop honestly in
          let c = (left honestly).summary in
          rw (
            rejoin m (k honestly) c.magnitudes (whole_of g new n).summary.magnitudes (omega (arith, stop_at.past)) (ap (λ (d : Buffers). d.summary.magnitudes) front) (ap (λ (d : Summary). d.magnitudes) after ∙ said_tail largest b.summary.magnitudes (ap (λ (d : Summary). d.magnitudes) h)),
            rejoin m (k honestly) c.numbers (whole_of g new n).summary.numbers (omega (arith, stop_at.past)) (ap (λ (d : Buffers). d.summary.numbers) front) (ap (λ (d : Summary). d.numbers) after ∙ said_tail first_number b.summary.numbers (ap (λ (d : Summary). d.numbers) h)),
          )
          refl

      pub entries_remade : EntriesRemade g old new m b (rerender_of g old new b)
      entries_remade =
          let is-old = left_is g x.settings old x.old_taken n in
          let is-new = left_is g x.settings new x.new-taken n in
          record {
            stop_section = k honestly;
            stops = stop_at;
            to_the_stop = remade_to honestly;
            entries = λ r. rw (call-is honestly) (stored_is ∙ sym (ap (λ (c : Buffers). (onward m c).stored) (is-new r)));
            samples = λ q r h. rw (call-is honestly) (heard-is (h ∙ ap (λ (c : Buffers). (onward m c).heard) (is-old q)) ∙ sym (ap (λ (c : Buffers). (onward m c).heard) (is-new r)));
            summary = λ q r h. rw (call-is honestly) (summary-is (h ∙ ap (λ (c : Buffers). (onward m c).summary) (is-old q)) ∙ sym (ap (λ (c : Buffers). (onward m c).summary) (is-new r)));
          }

    -- ---- all from section m on is what a render of the old score left
    module _ (same : onward m b ≡ onward m (whole_of g old n)) where
      abbrev words_same : drop (m * entry_words) shelf ≡ drop (m * entry_words) (shelved_of g old n)
      words_same = ap (λ (c : Buffers). c.stored) same

      abbrev begins : entry_at shelf m ≡ entry_of (at_section g old m)
      begins = honestly words_same

      left-onward : onward m (left begins) ≡ onward m (whole_of g new n)
      left-onward = same-buffers (onward m (left begins)) (onward m (whole_of g new n)) (heard-is words_same (ap (λ (c : Buffers). c.heard) same)) (stored_is words_same) (summary-is words_same (ap (λ (c : Buffers). c.summary) same))

      pub remade : Remade g old new m b (rerender_of g old new b)
      remade =
          record {
            stop_section = k begins;
            stops = stop_at words_same;
            to_the_stop = remade_to begins;
            left = rw (call-is begins) (from_section g x.settings new x.new-taken m b (left begins) left-onward (left-stays begins));
          }

      -- demand 3, as one equation
      pub demand_3 : rerender_of g old new b ≡ leaves (Ok (stop_of g old new m b - m * section_size)) (over_at m b (whole_of g new n))
      demand_3 =
          let whole = whole_of g new n in
          call-is begins
          ∙ ap (leaves (Ok (stop_of g old new m b - m * section_size))) (cut-whole m (left begins) (over_at m b whole) (left-stays begins ∙ sym (cut-front n m there b whole (lent-sized b z) m (omega arith))) (left-onward ∙ sym (cut_rest n m there b whole (lent-sized b z))))

-- ---- the claim
all_remade : (g : Settings) (old new : List ℕ) (x : Edit g old new) (b : Buffers) (z : Lent b) (p : ℕ) (e : difference_of old new ≡ Some p) (heard : p < samples_in b)
    (r : BuffersOf (samples_in b)) → onward (p / section_size) b ≡ onward (p / section_size) (left_in g old r).left → Remade g old new (p / section_size) b (rerender_of g old new b)
all_remade g old new x b z p e heard r same = remade g old new x p e b z heard (same ∙ ap (onward (p / section_size)) (left_is g x.settings old x.old_taken (samples_in b) r))

entries_alone : (g : Settings) (old new : List ℕ) (x : Edit g old new) (b : Buffers) (z : Lent b) (p : ℕ) (e : difference_of old new ≡ Some p) (heard : p < samples_in b)
    (r : BuffersOf (samples_in b)) → (onward (p / section_size) b).stored ≡ (onward (p / section_size) (left_in g old r).left).stored → EntriesRemade g old new (p / section_size) b (rerender_of g old new b)
entries_alone g old new x b z p e heard r same =
    entries_remade g old new x p e b z heard (same ∙ ap (λ (c : Buffers). (onward (p / section_size) c).stored) (left_is g x.settings old x.old_taken (samples_in b) r))

-- an entry that a render of the old score left is the state there
start_honest : (g : Settings) (old new : List ℕ) (x : Edit g old new) (b : Buffers) (p : ℕ) (heard : p < samples_in b) (r : BuffersOf (samples_in b))
    → entry_at b.stored (p / section_size) ≡ entry_at (left_in g old r).left.stored (p / section_size) → entry_at b.stored (p / section_size) ≡ entry_of (at_section g old (p / section_size))
start_honest g old new x b p heard r same =
    let m = p / section_size in
    same ∙ ap (λ (c : Buffers). entry_at c.stored m) (left_is g x.settings old x.old_taken (samples_in b) r) ∙ entry-left g old (samples_in b) m (start_there (samples_in b) p heard)

start_alone : (g : Settings) (old new : List ℕ) (x : Edit g old new) (b : Buffers) (z : Lent b) (p : ℕ) (e : difference_of old new ≡ Some p) (heard : p < samples_in b)
    (r : BuffersOf (samples_in b)) → entry_at b.stored (p / section_size) ≡ entry_at (left_in g old r).left.stored (p / section_size) → StartRemade g old new (p / section_size) b (rerender_of g old new b)
start_alone g old new x b z p e heard r same = start_remade g old new x p e b z heard (start_honest g old new x b p heard r same)

nothing_stops : (g : Settings) (old new : List ℕ) (x : Edit g old new) (b : Buffers) (z : Lent b) (p : ℕ) (e : difference_of old new ≡ Some p) (heard : p < samples_in b)
    (r : BuffersOf (samples_in b)) → entry_at b.stored (p / section_size) ≡ entry_at (left_in g old r).left.stored (p / section_size)
    → ((j : ℕ) → p / section_size < j → j < entries_for (samples_in b) → is_entry (entry_at b.stored j) ≡ false) → MadeToTheEnd g new (p / section_size) b (rerender_of g old new b)
nothing_stops g old new x b z p e heard r same none = made-to_the_end g old new x p e b z heard (start_honest g old new x b p heard r same) none

-- the entries that a call left are those of a render of its new score, so an edit of that score may start from them
never_8_after : (g : Settings) (old new next : List ℕ) (x : Edit g old new) → Taken next → (b : Buffers) (z : Lent b) (p : ℕ) (e : difference_of old new ≡ Some p) (heard : p < samples_in b)
    (r : BuffersOf (samples_in b)) → (onward (p / section_size) b).stored ≡ (onward (p / section_size) (left_in g old r).left).stored
    → (q : ℕ) → difference_of new next ≡ Some q → q < samples_in b → p / section_size ≤ q / section_size → (rerender_of g new next (rerender_of g old new b).left).result ≡ Err StartEntry → ⊥
never_8_after g old new next x t b z p e heard r same q f early l =
    let m = p / section_size in
    let n = samples_in b in
    let words : drop (m * entry_words) b.stored ≡ drop (m * entry_words) (shelved_of g old n) = same ∙ ap (λ (c : Buffers). (onward m c).stored) (left_is g x.settings old x.old_taken n r) in
    let begins = honestly g old new x p e b z heard words in
    let is = call-is g old new x p e b z heard begins in
    let c = left g old new x p e b z heard begins in
    let long : samples_in c ≡ n = left-long g old new m b (start_there n p heard) (room_in_lem b z) in
    let y : Edit g new next = record { settings = x.settings; sustain_fits = x.sustain_fits; old_taken = x.new-taken; new-taken = t } in
    let stored : drop (q / section_size * entry_words) c.stored ≡ drop (q / section_size * entry_words) (shelved_of g new (samples_in c)) =
    later_drop (m * entry_words) (q / section_size * entry_words) c.stored (shelved_of g new n) (omega (arith, l)) (stored_is g old new x p e b z heard words)
    ∙ ap (λ (i : ℕ). drop (q / section_size * entry_words) (shelved_of g new i)) (sym long) in
    rw is (entries_remade g new next y q f c (left-lent g old new x p e b z heard begins) (omega (arith, long, early)) stored).to_the_stop.never_8

pub demand_3_holds : Demand3
demand_3_holds =
    record {
      re_rendered = all_remade;
      entries_alone = entries_alone;
      start_alone = start_alone;
      nothing_stops = nothing_stops;
      never_8_after = never_8_after;
      stops_first = stops_first;
      one_stop = one_stop;
      equal = λ g s x b z. nothing_equal g s s x b z refl;
      late = nothing_late;
      parted = differ;
      first_change = first_change;
    }
