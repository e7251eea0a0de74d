-- Where a re-render stops. Whatever the entries are, at the first section that they allow; if they are what a render of
-- the old score left, at the first section at which renders of both scores from sample zero have one state but for the
-- number of records acted. From there on both scores make the same samples, and the same entries but for that number.
-- Assumes nothing.
use Rattle.std.specs.Prelude.{Ok, Some}
use mathlib.Core.Path.{◌≡◌, refl, sym, ◌∙◌}
use mathlib.Core.Bool.{true, true≢false}
use mathlib.Core.List.{List}
use mathlib.Core.Logic.{⊎_elim}
use Prim.Native.Nat.{ℕ, suc, ◌+◌, ◌-◌, ◌*◌, min, ◌≤◌, ◌<◌}
use native.Mathlib.Omega.{arith}
use lib.ListN.{length, drop, drop_of_length-le}
use Rattle.runs.specs.Runs.{first_passing}
use Rattle.runs.proofs.First.{First, first_passing_lem}
use Rattle.score.specs.Record.{count_of}
use Rattle.score.specs.Below.{count_below, Sorted}
use Rattle.score.specs.Apart.{same_from}
use Rattle.score.proofs.Codec.{both}
use Rattle.score.proofs.Cuts.{lt_or_ge, accepted-length, accepted-few, accepted-sorted}
use Rattle.score.proofs.Ends.{same-records, records-same}
use Rattle.shelf.specs.Shelf.{section_size, entries_for, entry_of, shelf_of, entry_at, meets}
use Rattle.shelf.proofs.There.{Fitting}
use Rattle.shelf.proofs.Counted.{meets-same, same_meets}
use Rattle.state.specs.declared.Settings.{Settings}
use Rattle.state.specs.Limits.{is_state}
use Rattle.state.specs.State.{fresh_of}
use Rattle.state.specs.ButActed.{SameButActed}
use Rattle.state.specs.Heart.{state_from, samples_from, entries_from}
use Rattle.state.proofs.Acted.{acted_fresh}
use Rattle.state.proofs.Tail.{tail_states, tail_samples}
use Rattle.sections.specs.Outcome.{Buffers, samples_in}
use Rattle.rerender.specs.Rerender.{plan_of, start_of, is_settled, stop_of, recounted, rerender_of}
use Rattle.rerender.proofs.Cases.{plan_there, rerender-decided}
use Rattle.rerender.proofs.Renewing.{Renewed, recounted-listed}
use Rattle.demands.specs.Demand3.{Taken, Edit, at_section, Settled, StopsAt, SettledOver, StopsOver}
use Rattle.demands.proofs.Honest.{honest-is_state, fresh_fitting, fitting_kept}
use Rattle.demands.proofs.Whole.{sound_of, section_on, sound_after, sound_length}

-- ---- whatever the entries are
module _ (g : Settings) (old new : List ℕ) (m : ℕ) (b : Buffers) (there : m < entries_for (samples_in b)) where
  abbrev n : ℕ
  n = samples_in b

  abbrev pub stop : ℕ
  stop = stop_of g old new m b

  found : First (is_settled g old new m b.stored) (entries_for n - suc m) (suc m) (first_passing (is_settled g old new m b.stored) (entries_for n - suc m) (suc m))
  found = first_passing_lem (is_settled g old new m b.stored) (entries_for n - suc m) (suc m)

  section_is : entries_for stop ≡ first_passing (is_settled g old new m b.stored) (entries_for n - suc m) (suc m)
  unfolding stop_of
  section_is = omega (arith, found.low, found.high, there)

  pub stop_is : stop ≡ min (entries_for stop * section_size) n
  unfolding stop_of
  stop_is = omega (arith, found.low, found.high, there)

  pub stop_past : m * section_size < stop
  unfolding stop_of
  stop_past = omega (arith, found.low, found.high, there)

  first-is : First (is_settled g old new m b.stored) (entries_for n - suc m) (suc m) (entries_for stop)
  first-is = rw section_is found

  settled-over : (k : ℕ) → is_settled g old new m b.stored k ≡ true → SettledOver g old new m (start_of b.stored m) b k
  settled-over k e = let c = both (same_from old new (k * section_size)) (meets _ _) e in record { records = same-records old new (k * section_size) c.0; entry = c.1 }

  pub stops-over : StopsOver g old new m (start_of b.stored m) b (entries_for stop)
  stops-over =
      record {
        past = first-is.low;
        within = omega (arith, first-is.high, there);
        settled = λ l. settled-over (entries_for stop) (first-is.here (omega (arith, there)));
        first = λ j l u s. (let t : is_settled g old new m b.stored j ≡ true = rw (records-same old new (j * section_size) s.records, s.entry) refl in true≢false (sym t ∙ first-is.none j l u));
      }

-- a call that is done with count c stopped c samples after its start
pub stops_first : (g : Settings) (old new : List ℕ) (b : Buffers) (m : ℕ) → plan_of old new (samples_in b) ≡ Some m → (c : ℕ) → (rerender_of g old new b).result ≡ Ok c
    → StopsOver g old new m (start_of b.stored m) b (entries_for (m * section_size + c))
stops_first g old new b m planned c e =
    let there = plan_there old new (samples_in b) m planned in
    let count : stop_of g old new m b - m * section_size ≡ c = rw planned at ((rerender-decided g old new b).counts c e) in
    let at : m * section_size + c ≡ stop_of g old new m b = omega (arith, stop_past g old new m b there) in
    rw at (stops-over g old new m b there)

-- ---- a state of a render
module _ (g : Settings) (old new : List ℕ) (x : Edit g old new) where
  is_state_lem : (s : List ℕ) → Taken s → (k : ℕ) → is_state (at_section g s k) ≡ true
  is_state_lem s t k = honest-is_state g x.settings x.sustain_fits s t.records t.accepted (k * section_size)

  is_fitting : (s : List ℕ) (k : ℕ) → Fitting (at_section g s k)
  is_fitting s k = fitting_kept g s 0 (fresh_of 0) x.sustain_fits (fresh_fitting 0) (k * section_size)

  acted_is : (k : ℕ) → (at_section g new k).acted ≡ count_below new (k * section_size)
  acted_is k = acted_fresh g new (accepted-few new x.new-taken.records x.new-taken.accepted) (k * section_size)

  -- ---- from a settled section on
  module _ (k : ℕ) (s : Settled g old new k) where
    abbrev sorted : (t : List ℕ) → Taken t → Sorted t
    sorted t a = accepted-sorted t a.records a.accepted

    abbrev whole : (t : List ℕ) → Taken t → length t ≡ count_of t * 10
    whole t a = accepted-length t a.records a.accepted

    later_states : (i : ℕ) → SameButActed (state_from g old (k * section_size) (at_section g old k) (i * section_size)) (state_from g new (k * section_size) (at_section g new k) (i * section_size))
    later_states i =
        tail_states old new (sorted old x.old_taken) (sorted new x.new-taken) (whole old x.old_taken) (whole new x.new-taken) (k * section_size) s.records g (at_section g old k) (at_section g new k) s.states (i * section_size)

    later_samples : (j : ℕ) → samples_from g old (k * section_size) (at_section g old k) j ≡ samples_from g new (k * section_size) (at_section g new k) j
    later_samples j =
        tail_samples old new (sorted old x.old_taken) (sorted new x.new-taken) (whole old x.old_taken) (whole new x.new-taken) (k * section_size) s.records g (at_section g old k) (at_section g new k) s.states j

    -- entry i after entry k: the old render's, with the new score's number, is the new render's
    renewed : (i : ℕ) → Renewed new (k + i) (state_from g old (k * section_size) (at_section g old k) (i * section_size)) (state_from g new (k * section_size) (at_section g new k) (i * section_size))
    renewed i =
        let e : k + i - k ≡ i = omega arith in
        let at_old : state_from g old (k * section_size) (at_section g old k) (i * section_size) ≡ at_section g old (k + i) = rw e at (section_on g old k (k + i) (omega arith)) in
        let at_new : state_from g new (k * section_size) (at_section g new k) (i * section_size) ≡ at_section g new (k + i) = rw e at (section_on g new k (k + i) (omega arith)) in
        record {
          old_state = rw at_old (is_state_lem old x.old_taken (k + i));
          new-state = rw at_new (is_state_lem new x.new-taken (k + i));
          same = later_states i;
          acted = rw at_new (acted_is (k + i));
        }

  -- what lies from section k on is the same in both renders, where k is settled or the end
  module _ (n k : ℕ) (within : k ≤ entries_for n) (s : k < entries_for n → Settled g old new k) where
    pub sound_same : drop (k * section_size) (sound_of g old n) ≡ drop (k * section_size) (sound_of g new n)
    sound_same =
        ⊎_elim
        (λ l. sound_after g old n k (omega arith) ∙ later_samples k (s l) (n - k * section_size) ∙ sym (sound_after g new n k (omega arith)))
        (λ l. drop_of_length-le (sound_of g old n) {i = k * section_size} (omega (arith, sound_length g old n)) ∙ sym (drop_of_length-le (sound_of g new n) {i = k * section_size} (omega (arith, sound_length g new n))))
        (lt_or_ge k (entries_for n))

    pub entries_renewed : recounted new k (entries_for n - k) (shelf_of (entries_from g old k (at_section g old k) (entries_for n - k))) ≡ shelf_of (entries_from g new k (at_section g new k) (entries_for n - k))
    unfolding entries_from
    entries_renewed = recounted-listed new k (entries_for n - k) _ _ (λ i l. renewed k (s (omega arith)) i)

  -- ---- if the entries are what a render of the old score left
  module _ (m : ℕ) (b : Buffers) (left : (j : ℕ) → m < j → j < entries_for (samples_in b) → entry_at b.stored j ≡ entry_of (at_section g old j)) where
    over-settled : (k : ℕ) → m < k → k < entries_for (samples_in b) → SettledOver g old new m (at_section g new m) b k → Settled g old new k
    over-settled k l u s =
        record {
          records = s.records;
          states = meets-same (at_section g old k) (at_section g new k) (is_state_lem old x.old_taken k) (is_state_lem new x.new-taken k) (is_fitting old k) (is_fitting new k) (rw (left k l u, section_on g new m k (omega arith)) at s.entry);
        }

    settled-over_again : (k : ℕ) → m < k → k < entries_for (samples_in b) → Settled g old new k → SettledOver g old new m (at_section g new m) b k
    settled-over_again k l u s =
        record {
          records = s.records;
          entry = rw (left k l u, section_on g new m k (omega arith)) (same_meets (at_section g old k) (at_section g new k) (is_state_lem old x.old_taken k) (is_state_lem new x.new-taken k) (is_fitting old k) s.states);
        }

    pub stops_at : (k : ℕ) → StopsOver g old new m (at_section g new m) b k → StopsAt g old new m (samples_in b) k
    stops_at k s =
        record {
          past = s.past;
          within = s.within;
          settled = λ l. over-settled k s.past l (s.settled l);
          first = λ j l u t. s.first j l u (settled-over_again j l (omega (arith, s.within)) t);
        }

-- there is one stop
pub one_stop : (g : Settings) (old new : List ℕ) (m n j k : ℕ) → StopsAt g old new m n j → StopsAt g old new m n k → j ≡ k
one_stop g old new m n j k a b =
    let l : (i o : ℕ) → StopsAt g old new m n i → StopsAt g old new m n o → i ≤ o =
    λ i o c d. ⊎_elim (λ u. absurd (c.first o d.past u (d.settled (omega (arith, c.within))))) (λ u. u) (lt_or_ge o i) in
    omega (arith, l j k a b, l k j b a)
