-- The claim of specs/Peaks.antt: what a summary tells in the samples' own numbers, by the peaks of its sections; that
-- the summary stays right, by the sections that stay and those that are worked out anew; that every sample made is
-- finite. Assumes nothing.
use Rattle.std.specs.Prelude.{Err, None, Ok, Option, Some}
use mathlib.Core.Path.{◌≡◌, refl, sym, ap, subst, ◌∙◌}
use mathlib.Core.Bool.{true}
use mathlib.Core.List.{List, [], ◌++◌}
use mathlib.Core.Logic.{⊎_elim}
use Prim.Native.Nat.{ℕ, ◌+◌, ◌-◌, ◌*◌, min, ◌<◌}
use native.Mathlib.Nat.{zero-add, eq-or-lt_of_le}
use native.Mathlib.Omega.{arith}
use lib.Dec.{T, eqb}
use lib.ListN.{length, get_or, take, drop, length-append, length-take, length-drop, get_or-append}
use lib.Seq.{take_all, take_at, drop_at, length-take-le, get_or-take, get_or-drop, get_or-append-add, ext_get_or}
use lib.Ieee.{Float, nan, binary64, of_bits, fits, lt, le, eq}
use lib.Ieee.Bits.{of_bits-fits}
use lib.Ieee.Scale.{finite}
use Rattle.floats.specs.Double.{zero64}
use Rattle.floats.proofs.Order.{lt_not_le}
use Rattle.runs.proofs.Listed.{listed_at}
use Rattle.answers.specs.Answer.{Answer}
use Rattle.answers.specs.declared.Refusal.{Refusal}
use Rattle.answers.specs.declared.Refusal.TheVariants.{StartEntry}
use Rattle.answers.proofs.Order.{first_holds, passed, none_both}
use Rattle.peaks.specs.declared.Peak.{Peak}
use Rattle.peaks.specs.Peaks.{sample_at, magnitude_at, magnitude_of, peak_of, IsPeak}
use Rattle.peaks.proofs.Magnitudes.{magnitude_is}
use Rattle.peaks.proofs.Meaning.{peak_is}
use Rattle.score.specs.Record.{count_of}
use Rattle.score.specs.Score.{verdict_of}
use Rattle.score.specs.Below.{count_below}
use Rattle.score.proofs.Codec.{both}
use Rattle.score.proofs.Cuts.{lt_or_ge}
use Rattle.shelf.specs.Shelf.{section_size, entries_for, state_of, is_entry, entry_at}
use Rattle.shelf.proofs.Back.{entry-is_state}
use Rattle.sections.specs.Outcome.{Summary, Buffers, samples_in, room_in, onward, Outcome}
use Rattle.sections.specs.Summary.{section_of, largest, first_number, said_from, summary_from, summary_of}
use Rattle.sections.specs.Sections.{summed_between}
use Rattle.sections.proofs.Summed.{said_length, said_first, said_rest, summed-right}
use Rattle.state.specs.declared.Settings.{Settings}
use Rattle.state.specs.declared.State.{State}
use Rattle.state.specs.Settings.{settings_ok}
use Rattle.state.specs.State.{fresh_of, sample_of}
use Rattle.state.specs.Limits.{in_limits}
use Rattle.state.specs.Heart.{begun, state_from, samples_from}
use Rattle.state.proofs.Fits.{Fitting, fresh-fits}
use Rattle.state.proofs.Limits.{fresh_in, state_in}
use Rattle.state.proofs.RunsOn.{samples-length}
use Rattle.state.proofs.Samples.{every-sample-finite}
use Rattle.judging.proofs.Refusals.{all_passed}
use Rattle.render.specs.Calls.{render_of}
use Rattle.render.specs.declared.Rendered.{Rendered}
use Rattle.render.proofs.Outcomes.{render-decided}
use Rattle.rerender.specs.Rerender.{plan_of, start_of, is_start, stop_of, made_from, outcome_of, start_refusals, rerender_refusals, kept_of, rerender_of}
use Rattle.rerender.proofs.Cases.{plan_there, samples, made, samples-long, stop_at, left-long, left-before, left-between, left-heard_after, checks, Checked, all_checked, rerender-decided}
use Rattle.demands.specs.Peaks.{AllFinite, InSection, TellsOf, Tells, IsRight, IsRightBetween, SameAfter, PeaksBesideTheSound}
use Rattle.demands.proofs.Cut.{cut-whole}
use Rattle.demands.proofs.Alone.{either_way, stays, after-stays}

-- ---- a section in the samples' own numbers
module _ (xs : List Float) (j : ℕ) where
  abbrev part : List Float
  part = section_of xs j

  abbrev start : ℕ
  start = j * section_size

  -- sample d of the section exists exactly if it lies in the section and before the end
  reach : (d : ℕ) → d < section_size → start + d < length xs → d < length part
  reach d h l =
      let e : length (drop start xs) ≡ length xs - start = length-drop start xs in
      ⊎_elim
      (λ s. rw (take_all section_size (drop start xs) (omega (arith, s)), e) (omega arith))
      (λ w. omega (arith, h, length-take-le section_size (drop start xs) w))
      (lt_or_ge (length (drop start xs)) section_size)

  inside : (d : ℕ) → d < length part → (d < section_size) × (start + d < length xs)
  inside d h =
      let e : length (drop start xs) ≡ length xs - start = length-drop start xs in
      ⊎_elim
      (λ s. let l : d < length xs - start = rw (take_all section_size (drop start xs) (omega (arith, s)), e) at h in (omega (arith, s, e), omega arith))
      (λ w. let l : length part ≡ section_size = length-take-le section_size (drop start xs) w in (omega (arith, l), omega (arith, l, w, e)))
      (lt_or_ge (length (drop start xs)) section_size)

  -- and it is that sample of all
  sample-is : (d : ℕ) → d < length part → sample_at part d ≡ sample_at xs (start + d)
  sample-is d h = get_or-take section_size (drop start xs) d nan (inside d h).0 ∙ get_or-drop start xs d nan

  magnitude_at_lem : (d : ℕ) → d < length part → magnitude_at part d ≡ magnitude_at xs (start + d)
  magnitude_at_lem d h = ap magnitude_of (sample-is d h)

  -- sample k, which lies in the section, is sample k - start of it
  offset_in : (k : ℕ) → InSection xs j k → k - start < length part
  offset_in k s = reach (k - start) (omega (arith, s.from, s.to)) (omega (arith, s.from, s.there))

  magnitude_in : (k : ℕ) → InSection xs j k → magnitude_at part (k - start) ≡ magnitude_at xs k
  magnitude_in k s = let e : start + (k - start) ≡ k = omega (arith, s.from) in magnitude_at_lem (k - start) (offset_in k s) ∙ ap (magnitude_at xs) e

  -- a peak of the section tells of it
  peak_tells : (p : Peak) → IsPeak part p → TellsOf xs j p.magnitude (start + p.offset)
  peak_tells p q =
      let w = inside p.offset q.there in
      record {
        there = record { from = omega arith; to = omega (arith, w.0); there = w.1 };
        here = q.here ∙ magnitude_at_lem p.offset q.there;
        largest = λ k s. subst (λ (x : Float). T (le x p.magnitude)) (magnitude_in k s) (q.largest (k - start) (offset_in k s));
        first = λ k s l. subst (λ (x : Float). T (lt x p.magnitude)) (magnitude_in k s) (q.first (k - start) (omega (arith, s.from, l)));
      }

  tells-here : AllFinite xs → j < entries_for (length xs) → TellsOf xs j (peak_of part).magnitude (start + (peak_of part).offset)
  tells-here all h =
      peak_tells (peak_of part)
      (peak_is part (λ i l. subst (λ (x : Float). T (finite x)) (sym (sample-is i l)) (all (start + i) (inside i l).1)) (reach 0 (omega arith) (omega (arith, h))))

  -- two that tell of the section say the same
  later : (a b : Float) (i k : ℕ) → TellsOf xs j a i → TellsOf xs j b k → i < k → ⊥
  later a b i k s t l =
      lt_not_le (magnitude_at xs i) b (t.first i s.there l)
      (subst (λ (x : Float). T (le b x)) s.here (subst (λ (x : Float). T (le x a)) (sym t.here) (s.largest k t.there)))

  same_number : (a b : Float) (i k : ℕ) → TellsOf xs j a i → TellsOf xs j b k → i ≡ k
  same_number a b i k s t = ⊎_elim (λ l. absurd (later a b i k s t l)) (λ g. ⊎_elim (λ e. sym e) (λ l. absurd (later b a k i t s l)) (eq-or-lt_of_le g)) (lt_or_ge i k)

  same_magnitude : (a b : Float) (i k : ℕ) → TellsOf xs j a i → TellsOf xs j b k → a ≡ b
  same_magnitude a b i k s t = s.here ∙ ap (magnitude_at xs) (same_number a b i k s t) ∙ sym t.here

-- ---- a whole summary
said_at : {A : Type 0} (f : ℕ → Peak → A) (d : A) (xs : List Float) (k j : ℕ) → j < k → get_or (said_from f xs 0 k) j d ≡ f j (peak_of (section_of xs j))
unfolding said_from
said_at f d xs k j h = listed_at _ k j d h ∙ ap (λ (i : ℕ). f i (peak_of (section_of xs i))) (zero-add j)

tells : (xs : List Float) → AllFinite xs → Tells xs (summary_of xs)
tells xs all =
    let k = entries_for (length xs) in
    record {
      magnitudes-long = said_length largest xs 0 k;
      numbers-long = said_length first_number xs 0 k;
      each = λ j h. rw (said_at largest nan xs k j h, said_at first_number 0 xs k j h) (tells-here xs j all h);
    }

tells_alone : (xs : List Float) (sum : Summary) → AllFinite xs → Tells xs sum → sum ≡ summary_of xs
tells_alone xs sum all t =
    let u = tells xs all in
    let a : sum.magnitudes ≡ (summary_of xs).magnitudes =
    ext_get_or nan sum.magnitudes (summary_of xs).magnitudes (t.magnitudes-long ∙ sym u.magnitudes-long) (λ j h. let l : j < entries_for (length xs) = omega (arith, h, t.magnitudes-long) in same_magnitude xs j _ _ _ _ (t.each j l) (u.each j l)) in
    let b : sum.numbers ≡ (summary_of xs).numbers =
    ext_get_or 0 sum.numbers (summary_of xs).numbers (t.numbers-long ∙ sym u.numbers-long) (λ j h. let l : j < entries_for (length xs) = omega (arith, h, t.numbers-long) in same_number xs j _ _ _ _ (t.each j l) (u.each j l)) in
    rw (a, b) refl

-- of a silent section no sample is below another, so that the first counts
silent : (xs : List Float) → AllFinite xs → (j : ℕ) → j < entries_for (length xs) → ((k : ℕ) → InSection xs j k → T (eq (sample_at xs k) zero64))
    → (get_or (summary_of xs).magnitudes j nan ≡ zero64) × (get_or (summary_of xs).numbers j 0 ≡ j * section_size)
silent xs all j h zeros =
    let none : (k : ℕ) → InSection xs j k → magnitude_at xs k ≡ zero64 = λ k s. (magnitude_is (sample_at xs k)).none (zeros k s) in
    let t = (tells xs all).each j h in
    let i = get_or (summary_of xs).numbers j 0 in
    let a : get_or (summary_of xs).magnitudes j nan ≡ zero64 = t.here ∙ none i t.there in
    let first : InSection xs j (j * section_size) = record { from = omega arith; to = omega arith; there = omega (arith, h) } in
    let not_later : j * section_size < i → ⊥ = λ l. not-below-itself (subst (λ (x : Float). T (lt x zero64)) (none (j * section_size) first) (subst (λ (x : Float). T (lt (magnitude_at xs (j * section_size)) x)) a (t.first (j * section_size) first l))) in
    (a, ⊎_elim (λ l. absurd (not_later l)) (λ g. omega (arith, g, t.there.from)) (lt_or_ge (j * section_size) i))
  where
    not-below-itself : T (lt zero64 zero64) → ⊥
    not-below-itself l = lt_not_le zero64 zero64 l (unfold of_bits le in tt)

-- ---- what a call leaves is right
render-right : (g : Settings) (s : List ℕ) (b : Buffers) (k : ℕ) → (render_of g s b).result.answer ≡ Ok k → IsRight (render_of g s b).left
render-right g s b k e = subst (λ (o : Outcome Rendered). IsRight o.left) (sym ((render-decided g s b).makes k e)) refl

-- where the plan is nothing, or the call is refused, nothing is touched
untouched-whole : (g : Settings) (old new : List ℕ) (b : Buffers) → plan_of old new (samples_in b) ≡ None → (rerender_of g old new b).left ≡ b
unfolding rerender_of
untouched-whole g old new b q =
    first_holds (λ (o : Outcome Answer). o.left ≡ b) (rerender_refusals g old new b) (kept_of b) (outcome_of g old new (plan_of old new (samples_in b)) b) (λ why l. refl) (λ none. rw q refl)

untouched-refused : (g : Settings) (old new : List ℕ) (b : Buffers) (why : Refusal) → (rerender_of g old new b).result ≡ Err why → (rerender_of g old new b).left ≡ b
untouched-refused g old new b why e = ap (λ (o : Outcome Answer). o.left) ((rerender-decided g old new b).keeps why e)

-- what holds of the buffers that came and of those that are made from a section's entry holds of those that are left
module _ (g : Settings) (old new : List ℕ) (b : Buffers) (P : Buffers → Type 0) (came : P b) (made : (m : ℕ) → m < entries_for (samples_in b) → is_start new m b.stored ≡ true → Checked g old new (room_in b) → P (made_from g old new m b).left) where
  left-holds : P (rerender_of g old new b).left
  left-holds = go (plan_of old new (samples_in b)) refl
    where
      go : (q : Option ℕ) → plan_of old new (samples_in b) ≡ q → P (rerender_of g old new b).left
      go None e = subst P (sym (untouched-whole g old new b e)) came
      go (Some m) e = either_way g old new b m e (λ (o : Outcome Answer). P o.left) (λ why. came) (made m (plan_there old new (samples_in b) m e))

-- the sections from section m up to the stop are worked out anew, the others stay, and their samples, too
stays-right : (g : Settings) (old new : List ℕ) (b : Buffers) → IsRight b → IsRight (rerender_of g old new b).left
stays-right g old new b right = left-holds g old new b IsRight right right-made
  where
    right-made : (m : ℕ) → m < entries_for (samples_in b) → is_start new m b.stored ≡ true → Checked g old new (room_in b) → IsRight (made_from g old new m b).left
    right-made m h i c =
        let n = samples_in b in
        let xs = (made g old new m b).heard in
        let long : length xs ≡ n = left-long g old new m b h c.fits in
        let s = stop_at g old new m b h c.fits in
        let e = entries_for (stop_of g old new m b) in
        ap (λ (sum : Summary). summed_between m e sum (summary_from xs m (e - m))) right
        ∙ summed-right b.heard xs m e (entries_for n) (omega (arith, s.later)) (omega (arith, s.within)) (sym (ap (λ (d : Buffers). d.heard) (left-before g old new m b h c.fits))) (sym (left-heard_after g old new m b h c.fits))
        ∙ ap (λ (k : ℕ). summary_from xs 0 (entries_for k)) (sym long)

-- ---- every sample made is finite
sample-from : (g : Settings) (s : List ℕ) (n : ℕ) (v : State) (k i : ℕ) → i < k → sample_at (samples_from g s n v k) i ≡ sample_of g (begun g s (n + i) (state_from g s n v i))
unfolding samples_from state_from
sample-from g s n v k i h = listed_at _ k i nan h

samples-finite : (g : Settings) → settings_ok g ≡ true → T (fits binary64 g.adsr.sustain) → (s : List ℕ) (m : ℕ) → verdict_of s ≡ Ok m → (n : ℕ) (v : State) → Fitting v → in_limits v ≡ true → (k : ℕ) → AllFinite (samples_from g s n v k)
samples-finite g ok w s m a n v f l k i h =
    let j : i < k = omega (arith, h, samples-length g s n v k) in
    subst (λ (x : Float). T (finite x)) (sym (sample-from g s n v k i j)) (every-sample-finite s m a n g ok w v f l i)

render-finite : (g : Settings) → T (fits binary64 g.adsr.sustain) → (s : List ℕ) (b : Buffers) (k : ℕ) → (render_of g s b).result.answer ≡ Ok k → AllFinite (render_of g s b).left.heard
render-finite g w s b k e =
    let d = render-decided g s b in
    let a = all_passed g (room_in b) s (d.done k e) in
    subst (λ (o : Outcome Rendered). AllFinite o.left.heard) (sym (d.makes k e)) (samples-finite g a.settings w s (count_of s) a.accepted 0 (fresh_of 0) (fresh-fits 0) (fresh_in 0) (samples_in b))

-- the floats of a state that is read from words are values of an f64
read_fits : (ws : List ℕ) → Fitting (state_of ws)
unfolding state_of
read_fits ws =
    let f : (b : ℕ) → T (fits binary64 _) = of_bits-fits binary64 in
    record { phase-fits = f _; frequency-fits = f _; velocity-fits = f _; envelope-held = record { level-fits = f _; release_fits = f _; time_fits = f _ }; lfo-fits = f _ }

-- samples before an index, those from an index on, and samples one after the other
take-finite : (k : ℕ) (xs : List Float) → AllFinite xs → AllFinite (take k xs)
take-finite k xs all i l =
    let e : length (take k xs) ≡ min k (length xs) = length-take k xs in
    subst (λ (x : Float). T (finite x)) (sym (get_or-take k xs i nan (omega (arith, l, e)))) (all i (omega (arith, l, e)))

drop-finite : (k : ℕ) (xs : List Float) → AllFinite xs → AllFinite (drop k xs)
drop-finite k xs all i l = subst (λ (x : Float). T (finite x)) (sym (get_or-drop k xs i nan)) (all (k + i) (omega (arith, l, length-drop k xs)))

append_finite : (xs ys : List Float) → AllFinite xs → AllFinite ys → AllFinite (xs ++ ys)
append_finite xs ys a b i l =
    ⊎_elim (λ u. subst (λ (x : Float). T (finite x)) (sym (get_or-append xs ys nan i u)) (a i u))
    (λ u. let d : length xs + (i - length xs) ≡ i = omega arith in
    subst (λ (x : Float). T (finite x)) (sym (ap (sample_at (xs ++ ys)) (sym d) ∙ get_or-append-add xs ys (i - length xs) nan)) (b (i - length xs) (omega (arith, l, length-append xs ys))))
    (lt_or_ge i (length xs))

-- the state of a start entry is within the limits
start_in : (new : List ℕ) (m : ℕ) (b : Buffers) → is_start new m b.stored ≡ true → in_limits (start_of b.stored m) ≡ true
start_in new m b i =
    let v = start_of b.stored m in
    state_in v (entry-is_state (entry_at b.stored m) (both (is_entry (entry_at b.stored m)) (eqb v.acted (count_below new (m * section_size))) i).0)

-- the samples that are made from it are finite
made-finite : (g : Settings) → T (fits binary64 g.adsr.sustain) → (old new : List ℕ) (b : Buffers) (m : ℕ) → is_start new m b.stored ≡ true → Checked g old new (room_in b) → AllFinite (samples g old new m b)
made-finite g w old new b m i c =
    samples-finite g c.settings w new (count_of new) c.new-accepted (m * section_size) (start_of b.stored m) (read_fits (entry_at b.stored m)) (start_in new m b i) (stop_of g old new m b - m * section_size)

stays-finite : (g : Settings) → T (fits binary64 g.adsr.sustain) → (old new : List ℕ) (b : Buffers) → AllFinite b.heard → AllFinite (rerender_of g old new b).left.heard
stays-finite g w old new b all =
    left-holds g old new b (λ (c : Buffers). AllFinite c.heard) all
    (λ m h i c. let stop = stop_of g old new m b in
    append_finite (take (m * section_size) b.heard) (samples g old new m b ++ drop stop b.heard) (take-finite (m * section_size) b.heard all)
    (append_finite (samples g old new m b) (drop stop b.heard) (made-finite g w old new b m i c) (drop-finite stop b.heard all)))

render-told : (g : Settings) → T (fits binary64 g.adsr.sustain) → (s : List ℕ) (b : Buffers) (k : ℕ) → (render_of g s b).result.answer ≡ Ok k → Tells (render_of g s b).left.heard (render_of g s b).left.summary
render-told g w s b k e = rw (render-right g s b k e) (tells (render_of g s b).left.heard (render-finite g w s b k e))

-- ---- a re-render that is done from section m on
module _ (g : Settings) (old new : List ℕ) (b : Buffers) (m : ℕ) (planned : plan_of old new (samples_in b) ≡ Some m) (k : ℕ) (done : (rerender_of g old new b).result ≡ Ok k) where
  abbrev n : ℕ
  n = samples_in b

  there : m < entries_for n
  there = plan_there old new n m planned

  -- it was not refused
  none-refused : rerender_refusals g old new b ≡ []
  none-refused = (rerender-decided g old new b).done k done

  is-checked : Checked g old new (room_in b)
  is-checked = all_checked g old new (room_in b) (none_both (checks g old new (room_in b)) (start_refusals new (plan_of old new n) b.stored) none-refused).0

  is_start_lem : is_start new m b.stored ≡ true
  is_start_lem = passed (is_start new m b.stored) StartEntry (rw planned at (none_both (checks g old new (room_in b)) (start_refusals new (plan_of old new n) b.stored) none-refused).1)

  -- it made k samples, and stopped after them
  counted : stop_of g old new m b - m * section_size ≡ k
  counted = rw planned at ((rerender-decided g old new b).counts k done)

  stopped : stop_of g old new m b ≡ m * section_size + k
  stopped = omega (arith, counted, (stop_at g old new m b there is-checked.fits).after)

  -- what is left
  left_is : (rerender_of g old new b).left ≡ (made_from g old new m b).left
  left_is = ap (λ (o : Outcome Answer). o.left) ((rerender-decided g old new b).makes k done) ∙ ap (λ (q : Option ℕ). (outcome_of g old new q b).left) planned

  heard-is : take k (onward m (made_from g old new m b).left).heard ≡ samples g old new m b
  heard-is =
      ap (take k) (drop_at (take (m * section_size) b.heard) (samples g old new m b ++ drop (stop_of g old new m b) b.heard) (m * section_size) (length-take-le (m * section_size) b.heard (omega (arith, there))))
      ∙ take_at (samples g old new m b) (drop (stop_of g old new m b) b.heard) k (samples-long g old new m b ∙ counted)

  rerender-finite : T (fits binary64 g.adsr.sustain) → AllFinite (take k (onward m (rerender_of g old new b).left).heard)
  rerender-finite w = rw (left_is, heard-is) (made-finite g w old new b m is_start_lem is-checked)

  -- what is said of the sections from section m up to the stop
  said_is : {A : Type 0} (f : ℕ → Peak → A) (xs : List Float) → length xs ≡ n → let e = entries_for (stop_of g old new m b) in said_from f xs m (e - m) ≡ drop m (take e (said_from f xs 0 (entries_for (length xs))))
  said_is f xs long =
      let e = entries_for (stop_of g old new m b) in
      let s = stop_at g old new m b there is-checked.fits in
      sym (ap (drop m) (said_first f xs e (entries_for (length xs)) (omega (arith, s.within, long))) ∙ said_rest f xs m e (omega (arith, s.later)))

  rerender-right : IsRightBetween m (entries_for (m * section_size + k)) (rerender_of g old new b).left
  rerender-right =
      let z = left-between g old new m b there is-checked.fits in
      let long = left-long g old new m b there is-checked.fits in
      rw (← stopped, left_is)
      (record { magnitudes = ap (λ (d : Buffers). d.summary.magnitudes) z ∙ said_is largest (made g old new m b).heard long; numbers = ap (λ (d : Buffers). d.summary.numbers) z ∙ said_is first_number (made g old new m b).heard long })

  rerender-stops : SameAfter (entries_for (m * section_size + k)) (rerender_of g old new b).left b
  rerender-stops = rw (← stopped) (after-stays g old new b m planned)

-- ---- so what was told of finite samples is told of the finished output
stays-told : (g : Settings) → T (fits binary64 g.adsr.sustain) → (old new : List ℕ) (b : Buffers) → AllFinite b.heard → Tells b.heard b.summary → Tells (rerender_of g old new b).left.heard (rerender_of g old new b).left.summary
stays-told g w old new b all t = rw (stays-right g old new b (tells_alone b.heard b.summary all t)) (tells (rerender_of g old new b).left.heard (stays-finite g w old new b all))

pub peaks_beside_the_sound : PeaksBesideTheSound
peaks_beside_the_sound =
    record {
      magnitudes = magnitude_is;
      tells = tells;
      tells_alone = tells_alone;
      silent = silent;
      render-finite = render-finite;
      render-right = render-right;
      render-told = render-told;
      rerender-finite = λ g w old new b m q k e. rerender-finite g old new b m q k e w;
      rerender-right = rerender-right;
      rerender-stops = rerender-stops;
      stays-right = stays-right;
      stays-finite = stays-finite;
      stays-told = stays-told;
      untouched = stays;
      untouched-whole = untouched-whole;
      untouched-refused = untouched-refused;
      cut = cut-whole;
    }
