-- The loop over the sections, on plain values: its start, a turn, where it stops, its end. Assumes nothing.
use mathlib.Core.Path.{◌≡◌, refl, sym, ap, ◌∙◌}
use mathlib.Core.Bool.{Bool, true, false, ◌&&◌}
use mathlib.Core.List.{List, [], ◌++◌, append_assoc, append-nil}
use mathlib.Core.Logic.{⊎_elim}
use Prim.Native.Nat.{ℕ, suc, ◌+◌, ◌-◌, ◌*◌, min, ◌<◌, ◌≤◌}
use native.Mathlib.Nat.{sub_self}
use native.Mathlib.Omega.{arith}
use lib.Dec.{ltb, leb}
use lib.ListN.{length, take, drop, set, length-set, drop_of_length-le, take-append-drop}
use lib.Seq.{take_all, take_at, drop_at, drop-drop, length-take-le}
use lib.Ieee.{Float}
use borrow.Author.Tests.{lt-ltb, ltb-true}
use borrow.Rule.Slice.PartMut.{put_mid, mid_of, mid_len, same_len_mid, take_put}
use Rattle.runs.specs.Runs.{run, listed, first_passing}
use Rattle.runs.proofs.Listed.{listed-length}
use Rattle.runs.proofs.First.{first_only}
use Rattle.shelf.specs.Shelf.{section_size, entry_words, entries_for, entry_of, stored_in, shelf_of, entry_at, meets}
use Rattle.shelf.proofs.There.{entry_length, kept-thirteen}
use Rattle.shelf.proofs.Whole.{shelf_more, shelf_length}
use Rattle.state.specs.declared.Settings.{Settings}
use Rattle.spans.specs.declared.Place.{Place}
use Rattle.spans.specs.Walk.{place_from, played_from, Played}
use Rattle.spans.proofs.GoesOn.{played-length, place_on, played_on}
use Rattle.score.proofs.Codec.{both}
use Rattle.score.proofs.Cuts.{lt_or_ge}
use Rattle.peaks.specs.declared.Peak.{Peak}
use Rattle.peaks.specs.Peaks.{peak_of}
use Rattle.peaks.proofs.Bounds.{offset_below}
use Rattle.judging.specs.Judging.{most_samples}
use Rattle.sections.specs.Outcome.{Buffers, lends, samples_in, room_in, Lent, leaves}
use Rattle.sections.specs.Summary.{section_of, largest, first_number, said_from}
use Rattle.sections.specs.Sections.{between, may_stop, stop_for, kept_from, ends, played, play_on_of}
use Rattle.sections.proofs.Room.{in_room}
use Rattle.sections.proofs.Between.{between_none, between_end, between-after, between_put}
use Rattle.sections.proofs.Summed.{section_in, said_turn}

-- of n samples, the first of section k, or the end if that comes first
abbrev pub reached : ℕ → ℕ → ℕ
reached n k = min (k * section_size) n

-- the loop's invariant: the samples up to `sample` are played, entries and peaks of the sections below k are kept, all
-- else is as it came, and no section below k could have been the stop
pub record Walked (g : Settings) (s : List ℕ) (m : ℕ) (p : Place) (quiet : ℕ) (b : Buffers) (out : List Float) (shelf : List ℕ) (magnitudes : List Float) (numbers : List ℕ) (place : Place) (k sample : ℕ) : Type 0 where
  pub len : length out ≡ samples_in b
  pub lens : length shelf ≡ length b.stored
  pub len_magnitudes : length magnitudes ≡ length b.summary.magnitudes
  pub len_numbers : length numbers ≡ length b.summary.numbers
  pub from : m * section_size ≤ sample
  pub within : sample ≤ samples_in b
  pub past : m ≤ k
  pub at_section_lem : sample < samples_in b → sample ≡ k * section_size
  pub most : sample ≤ k * section_size
  pub least : k * section_size < sample + section_size
  pub place_is : place ≡ place_from g s (m * section_size) p (sample - m * section_size)
  pub heard : out ≡ between (m * section_size) sample b.heard (played_from g s (m * section_size) p (sample - m * section_size))
  pub stored : shelf ≡ between (m * entry_words) (k * entry_words) b.stored (kept_from g s m p (k - m))
  pub largests : magnitudes ≡ between m k b.summary.magnitudes (said_from largest out m (k - m))
  pub firsts : numbers ≡ between m k b.summary.numbers (said_from first_number out m (k - m))
  pub went_on : (j : ℕ) → m < j → j < k → may_stop g s m p quiet b.stored j ≡ false

-- e is 4,096 samples after a, or the end n if that comes first
pub record SectionEnd (a n e : ℕ) : Type 0 where
  pub after : a < e
  pub within : e ≤ n
  pub near : e ≤ a + section_size
  pub whole : e < n → e ≡ a + section_size

-- one more entry
kept_more : (g : Settings) (s : List ℕ) (m : ℕ) (p : Place) (k : ℕ) → kept_from g s m p (suc k) ≡ kept_from g s m p k ++ entry_of (place_from g s (m * section_size) p (k * section_size)).state
unfolding kept_from listed
kept_more g s m p k = shelf_more _ _

kept-length : (g : Settings) (s : List ℕ) (m : ℕ) (p : Place) (k : ℕ) → length (kept_from g s m p k) ≡ k * entry_words
unfolding kept_from
kept-length g s m p k = shelf_length _ ∙ ap (λ (n : ℕ). n * entry_words) (listed-length _ k)

-- what stands in the middle, put there again, changes nothing
pub put_same : {A : Type 0} (a k : ℕ) (xs : List A) → put_mid a k xs (take k (drop a xs)) ≡ xs
put_same a k xs = rw (take-append-drop k (drop a xs)) (take-append-drop a xs)

-- what was put in the middle is what stands there
mid_put : {A : Type 0} (a k : ℕ) (xs ys : List A) → a ≤ length xs → length ys ≡ k → mid_of a k (put_mid a k xs ys) ≡ ys
mid_put a k xs ys h e = rw (drop_at (take a xs) (ys ++ drop k (drop a xs)) a (length-take-le a xs h)) (take_at ys (drop k (drop a xs)) k e)

module _ (g : Settings) (s : List ℕ) (m : ℕ) (p : Place) (quiet : ℕ) (b : Buffers) (fits : room_in b ≡ true) (there : m < entries_for (samples_in b)) where
  room-is : Lent b
  room-is = in_room b fits

  -- a section that there is begins at its first sample, and ends where the next is reached
  reached_is : (k : ℕ) → k < entries_for (samples_in b) → reached (samples_in b) k ≡ k * section_size
  reached_is k h = omega arith

  walk_begins : Walked g s m p quiet b b.heard b.stored b.summary.magnitudes b.summary.numbers p m (m * section_size)
  unfolding place_from played_from kept_from said_from run listed shelf_of
  walk_begins =
      record {
        len = refl;
        lens = refl;
        len_magnitudes = refl;
        len_numbers = refl;
        from = omega arith;
        within = omega arith;
        past = omega arith;
        at_section_lem = λ l. refl;
        most = omega arith;
        least = omega arith;
        place_is = rw (sub_self (m * section_size)) refl;
        heard = rw (sub_self (m * section_size)) (sym (between_none (m * section_size) b.heard));
        stored = rw (sub_self m) (sym (between_none (m * entry_words) b.stored));
        largests = rw (sub_self m) (sym (between_none m b.summary.magnitudes));
        firsts = rw (sub_self m) (sym (between_none m b.summary.numbers));
        went_on = λ j l u. absurd (omega arith);
      }

  pub walk_first : Walked g s m p quiet b b.heard b.stored b.summary.magnitudes b.summary.numbers p m (reached (samples_in b) m)
  walk_first = let e : reached (samples_in b) m ≡ m * section_size = reached_is m there in rw e walk_begins

  module _ (out : List Float) (shelf : List ℕ) (magnitudes : List Float) (numbers : List ℕ) (place : Place) (k sample : ℕ) (w : Walked g s m p quiet b out shelf magnitudes numbers place k sample) where
    -- where `sample` is the stop, what is there is what the definition leaves
    ended : sample ≡ stop_for g s m p quiet b → k ≡ entries_for sample → leaves (ends place sample) (lends out shelf magnitudes numbers) ≡ played g s m p quiet b
    ended e d = rw (← e, ← d, ← w.place_is, ← w.heard, ← w.stored, ← w.largests, ← w.firsts) refl

    -- at the end
    walk_ends : length out ≤ sample → leaves (ends place sample) (lends out shelf magnitudes numbers) ≡ played g s m p quiet b
    unfolding stop_for
    walk_ends h =
        let n = samples_in b in
        let a : sample ≡ n = omega (arith, w.within, w.len) in
        let c : k ≡ entries_for n = omega (arith, w.most, w.least) in
        let f = first_only (may_stop g s m p quiet b.stored) (entries_for n - suc m) (suc m) k (record { low = omega (arith, there); high = omega (arith, there); none = λ j l u. w.went_on j l u; here = λ l. absurd (omega (arith, there)) }) in
        ended (rw (← f) (omega arith)) (omega arith)

    module _ (h : sample < length out) where
      begins : sample ≡ k * section_size
      begins = w.at_section_lem (omega (arith, w.len))

      -- so a number of a sample fits a word
      pub few : length out ≤ most_samples
      few = omega (arith, room-is.short, w.len)

      pub few_sections : k ≤ most_samples
      few_sections = omega (arith, begins, few)

      -- the words of the entry lie within the shelf, and section k within the summary
      pub room : k * entry_words + entry_words ≤ length shelf
      room = omega (arith, begins, room-is.fits, w.len, w.lens)

      pub room-magnitudes : k < length magnitudes
      room-magnitudes = omega (arith, begins, room-is.magnitudes-fit, w.len, w.len_magnitudes)

      pub room-numbers : k < length numbers
      room-numbers = omega (arith, begins, room-is.numbers_fit, w.len, w.len_numbers)

      steps : sample - m * section_size ≡ (k - m) * section_size
      steps = omega (arith, w.past, begins)

      kept_so_far : m * entry_words + length (kept_from g s m p (k - m)) ≡ k * entry_words
      kept_so_far = rw (kept-length g s m p (k - m)) (omega (arith, w.past))

      -- the words of section k's entry are those that came
      entry_came : mid_of (k * entry_words) (k * entry_words + entry_words - k * entry_words) shelf ≡ entry_at b.stored k
      entry_came =
          let d : k * entry_words + entry_words - k * entry_words ≡ entry_words = omega arith in
          rw (d, w.stored) (ap (take entry_words) (between-after (m * entry_words) (k * entry_words) b.stored (kept_from g s m p (k - m)) (omega (arith, there, room-is.fits)) kept_so_far))

      -- what the code asks, and what it means past the first section
      abbrev test : Bool
      test = ltb m k && leb quiet k && meets (mid_of (k * entry_words) (k * entry_words + entry_words - k * entry_words) shelf) place.state

      test_is : m < k → test ≡ may_stop g s m p quiet b.stored k
      test_is l = rw (lt-ltb m k l, entry_came, w.place_is, steps) refl

      -- at a stop
      pub walk_stop : test ≡ true → leaves (ends place sample) (lends out shelf magnitudes numbers) ≡ played g s m p quiet b
      unfolding stop_for
      walk_stop t =
          let n = samples_in b in
          let later : m < k = ltb-true m k (both (ltb m k) (leb quiet k) (both (ltb m k && leb quiet k) _ t).0).0 in
          let f =
          first_only (may_stop g s m p quiet b.stored) (entries_for n - suc m) (suc m) k
          (record { low = later; high = omega (arith, begins, w.len); none = λ j l u. w.went_on j l u; here = λ l. sym (test_is later) ∙ t }) in
          ended (rw (← f) (omega (arith, begins, w.len))) (omega (arith, begins))

      -- a turn: the section from `sample` to e is lent and its samples are ys, its entry's words are zs, its peak is q
      module _ (t : test ≡ false) (e : ℕ) (z : SectionEnd sample (length out) e) (ys : List Float) (r : Place) (x : Played g s sample place (mid_of sample (e - sample) out) ys r) (zs : List ℕ)
          (put : zs ≡ stored_in (mid_of (k * entry_words) (k * entry_words + entry_words - k * entry_words) shelf) place.state) (q : Peak) (peak_is : q ≡ peak_of (mid_of sample (e - sample) (put_mid sample (e - sample) out ys))) where
        abbrev out' : List Float
        out' = put_mid sample (e - sample) out ys

        abbrev shelf' : List ℕ
        shelf' = put_mid (k * entry_words) entry_words shelf zs

        abbrev magnitudes' : List Float
        magnitudes' = set magnitudes k q.magnitude

        abbrev numbers' : List ℕ
        numbers' = set numbers k (sample + q.offset)

        kept : zs ≡ entry_of place.state
        kept =
            let d : k * entry_words + entry_words - k * entry_words ≡ entry_words = omega arith in
            put ∙ kept-thirteen (mid_of (k * entry_words) (k * entry_words + entry_words - k * entry_words) shelf) place.state (mid_len (k * entry_words) (k * entry_words + entry_words) shelf room ∙ d)

        many : length (mid_of sample (e - sample) out) ≡ e - sample
        many = mid_len sample e out z.within

        full : length ys ≡ e - sample
        full = ap length x.samples ∙ played-length g s sample place (length (mid_of sample (e - sample) out)) ∙ many

        here : m * section_size + (sample - m * section_size) ≡ sample
        here = omega (arith, w.from)

        span : sample - m * section_size + (e - sample) ≡ e - m * section_size
        span = omega (arith, w.from, z.after)

        pub turn_place : r ≡ place_from g s (m * section_size) p (e - m * section_size)
        turn_place =
            x.place ∙ rw (many, w.place_is) refl
            ∙ ap (λ (n : ℕ). place_from g s n (place_from g s (m * section_size) p (sample - m * section_size)) (e - sample)) (sym here)
            ∙ sym (place_on g s (m * section_size) p (sample - m * section_size) (e - sample)) ∙ ap (place_from g s (m * section_size) p) span

        -- the samples of the section follow those before it
        turn_samples : played_from g s (m * section_size) p (sample - m * section_size) ++ ys ≡ played_from g s (m * section_size) p (e - m * section_size)
        turn_samples =
            ap (λ (l : List Float). played_from g s (m * section_size) p (sample - m * section_size) ++ l)
            (x.samples ∙ rw (many, w.place_is) refl ∙ ap (λ (n : ℕ). played_from g s n (place_from g s (m * section_size) p (sample - m * section_size)) (e - sample)) (sym here))
            ∙ sym (played_on g s (m * section_size) p (sample - m * section_size) (e - sample)) ∙ ap (played_from g s (m * section_size) p) span

        pub turn_heard : out' ≡ between (m * section_size) e b.heard (played_from g s (m * section_size) p (e - m * section_size))
        turn_heard =
            let so_far = played_from g s (m * section_size) p (sample - m * section_size) in
            let c : m * section_size + length so_far ≡ sample = rw (played-length g s (m * section_size) p (sample - m * section_size)) here in
            let d : sample + (e - sample) ≡ e = omega (arith, z.after) in
            ap (λ (l : List Float). put_mid sample (e - sample) l ys) w.heard
            ∙ between_put (m * section_size) sample b.heard so_far (omega (arith, w.from, w.within)) c (e - sample) ys
            ∙ rw (d, turn_samples) refl

        pub turn_stored : shelf' ≡ between (m * entry_words) ((k + 1) * entry_words) b.stored (kept_from g s m p (k + 1 - m))
        turn_stored =
            let o : k + 1 - m ≡ suc (k - m) = omega (arith, w.past) in
            let n : k * entry_words + entry_words ≡ (k + 1) * entry_words = omega arith in
            let v : place ≡ place_from g s (m * section_size) p ((k - m) * section_size) = w.place_is ∙ ap (place_from g s (m * section_size) p) steps in
            ap (λ (l : List ℕ). put_mid (k * entry_words) entry_words l zs) w.stored
            ∙ between_put (m * entry_words) (k * entry_words) b.stored (kept_from g s m p (k - m)) (omega (arith, there, room-is.fits)) kept_so_far entry_words zs
            ∙ rw (o, n, kept_more g s m p (k - m), kept, v) refl

        -- section k of the new output is what was lent, and so is what its peak is of
        front-stays : take (k * section_size) out ≡ take (k * section_size) out'
        front-stays = rw (← begins) (sym (take_put sample (e - sample) out ys (omega arith)))

        none_after : length ys < section_size → drop (e - sample) (drop sample out) ≡ []
        none_after l = ⊎_elim (λ u. absurd (omega (arith, full, z.whole u, z.after))) (λ u. rw (drop-drop (e - sample) sample out) (drop_of_length-le out {i = sample + (e - sample)} (omega (arith, z.after)))) (lt_or_ge e (length out))

        section_is : section_of out' k ≡ ys
        section_is =
            ap (λ (l : List Float). section_of l k) (sym (append_assoc (take sample out) ys (drop (e - sample) (drop sample out))))
            ∙ section_in k (take sample out) ys (drop (e - sample) (drop sample out)) (length-take-le sample out (omega arith) ∙ begins) (omega (arith, full, z.near)) none_after

        pub turn_peak : q ≡ peak_of (section_of out' k)
        turn_peak = peak_is ∙ ap peak_of (mid_put sample (e - sample) out ys (omega arith) full ∙ sym section_is)

        pub number_below : sample + q.offset ≤ length out
        number_below = let o : q.offset ≤ length ys = rw (turn_peak, section_is) (offset_below ys) in omega (arith, full, z.after, z.within)

        long : length out' ≡ length out
        long = same_len_mid sample (e - sample) out ys (full ∙ sym many)

        pub turn_largests : magnitudes' ≡ between m (k + 1) b.summary.magnitudes (said_from largest out' m (k + 1 - m))
        turn_largests =
            said_turn largest out out' m k b.summary.magnitudes magnitudes q.magnitude w.past (omega (arith, room-magnitudes, w.len_magnitudes)) front-stays
            w.largests (ap (λ (p : Peak). p.magnitude) turn_peak)

        pub turn_firsts : numbers' ≡ between m (k + 1) b.summary.numbers (said_from first_number out' m (k + 1 - m))
        turn_firsts =
            said_turn first_number out out' m k b.summary.numbers numbers (sample + q.offset) w.past (omega (arith, room-numbers, w.len_numbers)) front-stays
            w.firsts (ap (λ (i : ℕ). i + q.offset) begins ∙ ap (λ (p : Peak). k * section_size + p.offset) turn_peak)

        pub walk_on : Walked g s m p quiet b out' shelf' magnitudes' numbers' r (k + 1) e
        walk_on =
            let lz : length zs ≡ entry_words = ap length kept ∙ entry_length place.state in
            let d : k * entry_words + entry_words - k * entry_words ≡ entry_words = omega arith in
            record {
              len = long ∙ w.len;
              lens = same_len_mid (k * entry_words) entry_words shelf zs (lz ∙ sym (rw d at (mid_len (k * entry_words) (k * entry_words + entry_words) shelf room))) ∙ w.lens;
              len_magnitudes = length-set magnitudes k q.magnitude ∙ w.len_magnitudes;
              len_numbers = length-set numbers k (sample + q.offset) ∙ w.len_numbers;
              from = omega (arith, w.from, z.after);
              within = omega (arith, z.within, w.len);
              past = omega (arith, w.past);
              at_section_lem = λ l. (let t : e ≡ sample + section_size = z.whole (omega (arith, w.len)) in omega (arith, begins));
              most = omega (arith, z.near, begins);
              least = omega (arith, z.after, begins);
              place_is = turn_place;
              heard = turn_heard;
              stored = turn_stored;
              largests = turn_largests;
              firsts = turn_firsts;
              went_on = λ j l u. ⊎_elim (λ i. w.went_on j l i) (λ i. (let v : j ≡ k = omega arith in rw v (sym (test_is (omega arith)) ∙ t))) (lt_or_ge j k);
            }

  -- ---- the loop goes from section to section: what each turn finds and leaves
  module _ (out : List Float) (shelf : List ℕ) (magnitudes : List Float) (numbers : List ℕ) (place : Place) (k : ℕ) (w : Walked g s m p quiet b out shelf magnitudes numbers place k (reached (samples_in b) k)) where
    pub walk_last : entries_for (samples_in b) ≤ k → leaves (ends place (samples_in b)) (lends out shelf magnitudes numbers) ≡ played g s m p quiet b
    walk_last h = let e : reached (samples_in b) k ≡ samples_in b = omega arith in
        let v : Walked g s m p quiet b out shelf magnitudes numbers place k (samples_in b) = rw e at w in
        walk_ends out shelf magnitudes numbers place k (samples_in b) v (omega (arith, v.len))

    module _ (h : k < entries_for (samples_in b)) where
      pub begun : Walked g s m p quiet b out shelf magnitudes numbers place k (k * section_size)
      begun = let e : reached (samples_in b) k ≡ k * section_size = reached_is k h in rw e at w

      pub inside : k * section_size < length out
      inside = omega (arith, begun.len)

      pub turn_stops : test out shelf magnitudes numbers place k (k * section_size) begun inside ≡ true → leaves (ends place (k * section_size)) (lends out shelf magnitudes numbers) ≡ played g s m p quiet b
      turn_stops t = walk_stop out shelf magnitudes numbers place k (k * section_size) begun inside t

      module _ (t : test out shelf magnitudes numbers place k (k * section_size) begun inside ≡ false) (e : ℕ) (is : e ≡ min (k * section_size + section_size) (samples_in b)) (ys : List Float) (r : Place) (x : Played g s (k * section_size) place (mid_of (k * section_size) (e - k * section_size) out) ys r)
          (zs : List ℕ) (put : zs ≡ stored_in (mid_of (k * entry_words) (k * entry_words + entry_words - k * entry_words) shelf) place.state) (q : Peak) (peak_is : q ≡ peak_of ys) where
        ends_there : SectionEnd (k * section_size) (length out) e
        ends_there = record { after = omega (arith, begun.len); within = omega (arith, begun.len); near = omega arith; whole = λ l. omega (arith, begun.len) }

        filled : length ys ≡ e - k * section_size
        filled = ap length x.samples ∙ played-length g s (k * section_size) place (length (mid_of (k * section_size) (e - k * section_size) out)) ∙ mid_len (k * section_size) e out ends_there.within

        peak : q ≡ peak_of (mid_of (k * section_size) (e - k * section_size) (put_mid (k * section_size) (e - k * section_size) out ys))
        peak = peak_is ∙ ap peak_of (sym (mid_put (k * section_size) (e - k * section_size) out ys (omega (arith, inside)) filled))

        pub number_fits : (k * section_size + q.offset ≤ length out) × (length out ≤ most_samples)
        number_fits = (number_below out shelf magnitudes numbers place k (k * section_size) begun inside t e ends_there ys r x zs put q peak, few out shelf magnitudes numbers place k (k * section_size) begun inside)

        pub turn_on : Walked g s m p quiet b (put_mid (k * section_size) (e - k * section_size) out ys) (put_mid (k * entry_words) entry_words shelf zs) (set magnitudes k q.magnitude) (set numbers k (k * section_size + q.offset)) r (k + 1) (reached (samples_in b) (k + 1))
        turn_on = let i : reached (samples_in b) (k + 1) ≡ e = omega arith in rw i (walk_on out shelf magnitudes numbers place k (k * section_size) begun inside t e ends_there ys r x zs put q peak)

-- ---- the cases of the call
module _ (g : Settings) (s : List ℕ) (m : ℕ) (p : Place) (quiet : ℕ) (b : Buffers) where
  pub unfit : room_in b ≡ false → leaves (ends p (samples_in b)) b ≡ play_on_of g s m p quiet b
  unfolding play_on_of
  unfit f = rw f refl

  -- at a section at or past the end nothing is changed
  pub past_the_end : room_in b ≡ true → entries_for (samples_in b) ≤ m → leaves (ends p (samples_in b)) b ≡ play_on_of g s m p quiet b
  unfolding play_on_of stop_for first_passing place_from played_from kept_from said_from run listed shelf_of
  past_the_end f h =
      let n = samples_in b in
      let e = in_room b f in
      let o : entries_for n - suc m ≡ 0 = omega arith in
      let i : min (suc m * section_size) n ≡ n = omega arith in
      let a : n - m * section_size ≡ 0 = omega arith in
      let c : entries_for n - m ≡ 0 = omega arith in
      rw (
        f,
        o,
        i,
        a,
        c,
        between_end (m * section_size) n b.heard [] (omega arith),
        between_end (m * entry_words) (entries_for n * entry_words) b.stored [] (omega (arith, e.fits)),
        between_end m (entries_for n) b.summary.magnitudes [] (omega (arith, e.magnitudes-fit)),
        between_end m (entries_for n) b.summary.numbers [] (omega (arith, e.numbers_fit)),
        take_all (m * section_size) b.heard (omega arith),
        take_all (m * entry_words) b.stored (omega (arith, e.fits)),
        take_all m b.summary.magnitudes (omega (arith, e.magnitudes-fit)),
        take_all m b.summary.numbers (omega (arith, e.numbers_fit)),
        append-nil b.heard,
        append-nil b.stored,
        append-nil b.summary.magnitudes,
        append-nil b.summary.numbers,
      )
      refl

  pub fit : room_in b ≡ true → played g s m p quiet b ≡ play_on_of g s m p quiet b
  unfolding play_on_of
  fit f = rw f refl
