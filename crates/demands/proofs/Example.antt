-- Demand 3 met by edits, and `AnyEdits` met over rubbish. First a note at 0, and an off added at 5,000, in an output of
-- 6,000 samples that holds rubbish throughout, with rubbish in entry 0; entry 1 is what a render of the old score left.
-- The re-render starts at section 1, writes 1,904 samples, and leaves everything before sample 4,096 as it came. Last
-- an edit that stops: an off at 0 that finds no key held, in an output of 8,192 samples. Assumes nothing.
use Rattle.std.specs.Prelude.{Ok, Some}
use mathlib.Core.Path.{◌≡◌, refl, sym, ap, ◌∙◌}
use mathlib.Core.List.{List, [], ◌∷◌, ◌++◌}
use Prim.Native.Nat.{ℕ, ◌+◌, ◌-◌, ◌*◌, ◌/◌, min, ◌≤◌, ◌<◌}
use native.Mathlib.Omega.{arith}
use lib.ListN.{replicate, length-append, length-replicate}
use lib.Seq.{take_all}
use borrow.Author.Tests.{lt-ltb}
use lib.Ieee.{binary64}
use lib.Ieee.Bits.{of_bits-fits}
use Rattle.floats.specs.Double.{half}
use Rattle.score.specs.Record.{position_at}
use Rattle.score.specs.Score.{mark_right, kind_right, fields_right, in_order, faults_at, faults_from, faults_of, verdict_of}
use Rattle.score.specs.Below.{below, count_below}
use Rattle.score.specs.Apart.{same_to, difference_of, records_from}
use Rattle.score.proofs.Cuts.{accepted-length, accepted-sorted}
use Rattle.runs.specs.Runs.{run, first_passing}
use Rattle.voice.specs.Keys.{pairs, others, without_of, lifted_of}
use Rattle.state.specs.State.{fresh_of, act_of}
use Rattle.state.specs.ButActed.{with_acted, SameButActed}
use Rattle.state.specs.Heart.{has_at, act_to, begun, state_from}
use Rattle.state.proofs.ButActed.{advance-same}
use Rattle.state.proofs.RunsOn.{state_on}
use Rattle.state.proofs.Tail.{tail_states}
use Rattle.shelf.specs.Shelf.{entry_words, entry_of, word, entry_at}
use Rattle.shelf.proofs.There.{entry_length}
use Rattle.demands.specs.Demand3.{Taken, Edit, BuffersOf, left_in, at_section, FromSection, Settled, StopsAt}
use Rattle.demands.specs.Edits.{edits_from, Editing, Edited}
use Rattle.demands.proofs.ChainExamples.{trembling, trembling_ok, begins, begins-accepted}
use Rattle.sections.specs.Outcome.{Buffers, lends, samples_in, Lent, onward, leaves}
use Rattle.rerender.specs.Rerender.{rerender_of}
use Rattle.demands.proofs.Demand3.{stop_over, over-to_the_end, demand_3_holds}
use Rattle.demands.proofs.Stops.{one_stop}
use Rattle.demands.proofs.Whole.{whole_of, whole-sized, sound_length, left_is}
use Rattle.demands.proofs.Cut.{Sized, lent-sized, sized-lent, over_at, cut_rest, cut-sized}
use Rattle.demands.proofs.Edits.{any_edits}
use Rattle.score.proofs.Parted.{at_inj}

-- the off at 5,000
abbrev pub edited : List ℕ
edited = begins ++ 0x56 ∷ 0x4E ∷ 0x88 ∷ 0x13 ∷ 0 ∷ 0 ∷ 2 ∷ 69 ∷ 0 ∷ 0 ∷ []

edited-accepted : verdict_of edited ≡ Ok 2
unfolding position_at mark_right kind_right fields_right in_order faults_at faults_from faults_of verdict_of
edited-accepted = refl

differs : difference_of begins edited ≡ Some 5000
unfolding position_at same_to first_passing
differs = refl

an_edit : Edit trembling begins edited
an_edit =
    record {
      settings = trembling_ok;
      sustain_fits = of_bits-fits binary64 0x3fe0_0000_0000_0000;
      old_taken = record { records = 1; accepted = begins-accepted };
      new-taken = record { records = 2; accepted = edited-accepted };
    }

-- rubbish, but for entry 1: halves, sevens, and a summary that has 0.5 at sample 7 for both sections
abbrev pub rubbish : Buffers
rubbish = lends (replicate 6000 half) (replicate entry_words 7 ++ entry_of (at_section trembling begins 1)) (replicate 2 half) (replicate 2 7)

long : samples_in rubbish ≡ 6000
long = length-replicate 6000 half

lent : Lent rubbish
lent =
    sized-lent 6000 rubbish (omega arith)
    (record {
      long = long;
      fits = length-append (replicate entry_words 7) (entry_of (at_section trembling begins 1)) ∙ ap (λ (n : ℕ). entry_words + n) (entry_length (at_section trembling begins 1));
      magnitudes-fit = refl;
      numbers_fit = refl;
    })

kept : entry_at rubbish.stored 1 ≡ entry_of (at_section trembling begins 1)
kept = take_all entry_words (entry_of (at_section trembling begins 1)) (omega (arith, entry_length (at_section trembling begins 1)))

-- section 0 is rubbish still, in output, shelf and summary; section 1 is that of a render of the new score
pub an_edit-over_rubbish : rerender_of trembling begins edited rubbish ≡ leaves (Ok 1904) (over_at 1 rubbish (whole_of trembling edited 6000))
an_edit-over_rubbish =
    let heard : 5000 < samples_in rubbish = omega (arith, long) in
    let s = stop_over trembling begins edited an_edit 5000 differs rubbish lent heard kept in
    rw long at (over-to_the_end trembling begins edited an_edit 5000 differs rubbish lent heard kept (omega (arith, s.past, s.within, long)))

-- ---- the off added and taken away again, over rubbish: section 0 holds rubbish; from section 1 on the buffers hold
-- what a render of the note alone left
abbrev pub spoilt : Buffers
spoilt = over_at 1 rubbish (whole_of trembling begins 6000)

rubbish_sized : Sized 6000 rubbish
rubbish_sized = rw long at (lent-sized rubbish lent)

spoilt_sized : Sized 6000 spoilt
spoilt_sized = cut-sized 6000 1 (omega arith) rubbish (whole_of trembling begins 6000) rubbish_sized (whole-sized trembling begins 6000)

-- some buffers that the note alone was rendered in
some : (n : ℕ) → 6000 ≡ n → BuffersOf n
some n e = record { buffers = rubbish; lent = lent; long = long ∙ e }

back_again : difference_of edited begins ≡ Some 5000
unfolding position_at same_to first_passing
back_again = refl

heard-from : (p q : ℕ) → Some p ≡ Some q → p ≡ 5000 → 1 * 4096 ≤ q
heard-from p q e f = omega (arith, at_inj e)

note-taken : Taken begins
note-taken = an_edit.old_taken

pub over_rubbish : Editing trembling begins (edited ∷ begins ∷ []) 1 spoilt
over_rubbish =
    let n = samples_in spoilt in
    let e : n ≡ 6000 = spoilt_sized.long in
    let r : BuffersOf n = some n (sym e) in
    record {
      settings = trembling_ok;
      sustain_fits = an_edit.sustain_fits;
      old_taken = note-taken;
      news_taken = (an_edit.new-taken, (note-taken, tt));
      lent = sized-lent 6000 spoilt (omega arith) spoilt_sized;
      honest = record {
        buffers = r;
        were_left =
            cut_rest 6000 1 (omega arith) rubbish (whole_of trembling begins 6000) rubbish_sized ∙ ap (λ (k : ℕ). onward 1 (whole_of trembling begins k)) (sym e)
            ∙ sym (ap (onward 1) (left_is trembling trembling_ok begins note-taken n r));
      };
      none_before = ((λ p e l. heard-from 5000 p (sym differs ∙ e) refl), ((λ p e l. heard-from 5000 p (sym back_again ∙ e) refl), tt));
    }

-- both calls are done; from section 1 on the buffers are those of the note alone again, and rubbish before section 1
pub edits_over_rubbish : Edited trembling begins (edited ∷ begins ∷ []) 1 spoilt (edits_from trembling begins (edited ∷ begins ∷ []) spoilt)
edits_over_rubbish = any_edits.over_rubbish trembling begins (edited ∷ begins ∷ []) 1 spoilt over_rubbish

-- ---- an edit that stops: an off at 0, which finds no key held
abbrev pub stray : List ℕ
stray = 0x56 ∷ 0x4E ∷ 0 ∷ 0 ∷ 0 ∷ 0 ∷ 2 ∷ 69 ∷ 0 ∷ 0 ∷ []

empty_accepted : verdict_of [] ≡ Ok 0
unfolding faults_from faults_of verdict_of
empty_accepted = refl

stray-accepted : verdict_of stray ≡ Ok 1
unfolding position_at mark_right kind_right fields_right in_order faults_at faults_from faults_of verdict_of
stray-accepted = refl

stray_differs : difference_of [] stray ≡ Some 0
unfolding position_at same_to first_passing
stray_differs = refl

stray-edit : Edit trembling [] stray
stray-edit = record { settings = trembling_ok; sustain_fits = an_edit.sustain_fits; old_taken = record { records = 0; accepted = empty_accepted }; new-taken = record { records = 1; accepted = stray-accepted } }

-- neither score has a record from 1 on
none_from : (q : ℕ) → 1 ≤ q → records_from [] q ≡ records_from stray q
unfolding position_at below
none_from q h = rw (lt-ltb 0 q h) refl

-- it is counted, and does nothing else
begun-stray : begun trembling stray 0 (fresh_of 0) ≡ with_acted (begun trembling [] 0 (fresh_of 0)) 1
unfolding position_at begun has_at act_to act_of pairs others without_of lifted_of
begun-stray = refl

one-sample : SameButActed (state_from trembling [] 0 (fresh_of 0) 1) (state_from trembling stray 0 (fresh_of 0) 1)
unfolding state_from run
one-sample = advance-same trembling (begun trembling [] 0 (fresh_of 0)) (begun trembling stray 0 (fresh_of 0)) (rw begun-stray refl)

-- so from sample 1 on both make the same states, and section 1 is settled
settled : Settled trembling [] stray 1
settled =
    let tail =
    tail_states [] stray (accepted-sorted [] 0 empty_accepted) (accepted-sorted stray 1 stray-accepted) (accepted-length [] 0 empty_accepted) (accepted-length stray 1 stray-accepted) 1 (none_from 1 (omega arith))
    trembling (state_from trembling [] 0 (fresh_of 0) 1) (state_from trembling stray 0 (fresh_of 0) 1) one-sample 4095 in
    record { records = none_from 4096 (omega arith); states = rw (state_on trembling [] 0 (fresh_of 0) 1 4095, state_on trembling stray 0 (fresh_of 0) 1 4095) tail }

stops_at_1 : (n : ℕ) → n ≡ 8192 → StopsAt trembling [] stray 0 n 1
stops_at_1 n e = record { past = omega arith; within = omega arith; settled = λ l. settled; first = λ j l u s. omega arith }

below-entry_1 : count_below stray (1 * 4096) ≡ 1
unfolding position_at below
below-entry_1 = refl

-- in whatever a render of the empty score left: 4,096 samples are made, entry 1 gets its number, and all is a render of
-- the off from sample zero
pub an_edit_that_stops : (b : Buffers) → Lent b → samples_in b ≡ 8192 → (r : BuffersOf (samples_in b)) → onward 0 b ≡ onward 0 (left_in trembling [] r).left
    → ((rerender_of trembling [] stray b).result ≡ Ok 4096) × (word (entry_at (rerender_of trembling [] stray b).left.stored 1) 5 / 65536 ≡ 1) × FromSection b (left_in trembling stray) 0 (rerender_of trembling [] stray b).left
an_edit_that_stops b z e r same =
    let made = demand_3_holds.re_rendered trembling [] stray stray-edit b z 0 stray_differs (omega (arith, e)) r same in
    let one : made.stop_section ≡ 1 = one_stop trembling [] stray 0 (samples_in b) made.stop_section 1 made.stops (stops_at_1 (samples_in b) e) in
    let to = made.to_the_stop in
    let count : min (made.stop_section * 4096) (samples_in b) - 0 * 4096 ≡ 4096 = omega (arith, one, e) in
    (to.counted ∙ ap Ok count, to.recounted.numbers 1 (omega (arith, one)) (omega (arith, e)) ∙ below-entry_1, made.left)

-- such buffers are there: those that the render leaves
pub a_stop : (rerender_of trembling [] stray (whole_of trembling [] 8192)).result ≡ Ok 4096
a_stop =
    let b = whole_of trembling [] 8192 in
    let long : samples_in b ≡ 8192 = sound_length trembling [] 8192 in
    let lent : Lent b = sized-lent 8192 b (omega arith) (whole-sized trembling [] 8192) in
    let r : BuffersOf (samples_in b) = record { buffers = b; lent = lent; long = refl } in
    let same : (left_in trembling [] r).left ≡ b = left_is trembling trembling_ok [] stray-edit.old_taken (samples_in b) r ∙ ap (whole_of trembling []) long in
    (an_edit_that_stops b lent long r (ap (onward 0) (sym same))).0
