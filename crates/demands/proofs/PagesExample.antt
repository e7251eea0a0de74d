-- A page that meets the premises of `PagesOfEdits`, after a render of 8,192 samples, and stops early. The old score has
-- two offs at 0 that find no key held; the page removes the first of them and inserts it again, so that it is behind
-- the other. The re-render makes the 4,096 samples of section 0 and stops. Assumes nothing.
use Rattle.std.specs.Prelude.{Ok, Option, Some}
use mathlib.Core.Path.{◌≡◌, refl, sym, ap, ◌∙◌}
use mathlib.Core.List.{List, [], ◌∷◌, ◌++◌}
use mathlib.Core.Logic.{⊎_elim}
use Prim.Native.Nat.{ℕ, zero, suc, ◌-◌, ◌*◌, min, ◌≤◌}
use native.Mathlib.Omega.{arith}
use lib.ListN.{length, drop, replicate, length-replicate}
use lib.Ieee.{binary64}
use lib.Ieee.Bits.{of_bits-fits}
use borrow.Author.Tests.{lt-ltb}
use Rattle.runs.specs.Runs.{run, first_passing}
use Rattle.score.specs.Record.{position_at}
use Rattle.score.specs.Score.{mark_right, kind_right, fields_right, in_order, faults_at, faults_from, faults_of, verdict_of}
use Rattle.score.specs.Below.{below}
use Rattle.score.specs.Apart.{same_to, difference_of, records_from, first_equal}
use Rattle.score.proofs.Cuts.{lt_or_ge, accepted-length, accepted-sorted}
use Rattle.score.proofs.Sought.{sought}
use Rattle.voice.specs.Keys.{pairs, others, without_of, lifted_of}
use Rattle.state.specs.State.{fresh_of, act_of}
use Rattle.state.specs.ButActed.{SameButActed}
use Rattle.state.specs.Heart.{has_at, act_to, begun, state_from}
use Rattle.state.proofs.ButActed.{advance-same}
use Rattle.state.proofs.RunsOn.{state_on}
use Rattle.state.proofs.Tail.{tail_states}
use Rattle.rerender.specs.Rerender.{plan_of, count_for}
use Rattle.rerender.proofs.Cases.{plan_from}
use Rattle.page.specs.Page.{frame_right, inserted_of, removed_of, score_after, new_score_of, record_faults, held_refusals, edit_refusals, Rewritten, paged, edit_of, AllMade}
use Rattle.page.specs.declared.Paged.{Paged}
use Rattle.demands.specs.Demand3.{Edit, BuffersOf, left_in, Settled, StopsAt}
use Rattle.demands.specs.Edits.{edits_from}
use Rattle.demands.specs.Pages.{scores_of, pages_from, once_paged, singles_of, Begins, Whole, AtOnce, OneAtATime, PagesOfOne}
use Rattle.demands.proofs.ChainExamples.{trembling, trembling_ok}
use Rattle.demands.proofs.Example.{stray}
use Rattle.demands.proofs.Stops.{one_stop}
use Rattle.demands.proofs.Cut.{sized-lent}
use Rattle.demands.proofs.Whole.{whole_of, whole-sized, sound_length}
use Rattle.demands.proofs.Edits.{any_edits}
use Rattle.demands.proofs.Pages.{pages_of_edits}

-- ---- the page
-- another off at 0
abbrev pub other : List ℕ
other = 0x56 ∷ 0x4E ∷ 0 ∷ 0 ∷ 0 ∷ 0 ∷ 2 ∷ 70 ∷ 0 ∷ 0 ∷ []

abbrev pub two : List ℕ
two = stray ++ other

-- the first off removed, and inserted
abbrev pub swap : List ℕ
swap = 0x45 ∷ 0x44 ∷ 2 ∷ 0 ∷ stray ++ 0x45 ∷ 0x44 ∷ 1 ∷ 0 ∷ stray

abbrev pub swapped : List ℕ
swapped = other ++ stray

found_first : first_equal two stray ≡ 0
found_first = ⊎_elim (λ l. absurd ((sought two stray).none_before 0 l refl)) (λ h. omega arith) (lt_or_ge 0 (first_equal two stray))

pub swaps : new_score_of two swap ≡ swapped
unfolding score_after inserted_of removed_of position_at below
swaps = rw found_first refl

swap-made : AllMade two swap
unfolding edit_refusals frame_right record_faults held_refusals mark_right kind_right fields_right score_after removed_of
swap-made zero h = rw found_first refl
swap-made (suc zero) h = rw found_first refl
swap-made (suc (suc i)) h = absurd (omega arith)

two-accepted : verdict_of two ≡ Ok 2
unfolding position_at mark_right kind_right fields_right in_order faults_at faults_from faults_of verdict_of
two-accepted = refl

swapped_accepted : verdict_of swapped ≡ Ok 2
unfolding position_at mark_right kind_right fields_right in_order faults_at faults_from faults_of verdict_of
swapped_accepted = refl

pub swap_begins : Begins trembling two
swap_begins = record { settings = trembling_ok; sustain_fits = of_bits-fits binary64 0x3fe0_0000_0000_0000; old_taken = record { records = 2; accepted = two-accepted } }

pub swap-whole : Whole two swap
swap-whole = record { whole_edits = refl; all_made = swap-made }

-- ---- where it stops
swap-edit : Edit trembling two swapped
swap-edit = record { settings = trembling_ok; sustain_fits = swap_begins.sustain_fits; old_taken = swap_begins.old_taken; new-taken = record { records = 2; accepted = swapped_accepted } }

swap_differs : difference_of two swapped ≡ Some 0
unfolding position_at same_to first_passing
swap_differs = refl

-- neither score has a record from 1 on
none_from : (q : ℕ) → 1 ≤ q → records_from two q ≡ records_from swapped q
unfolding position_at below
none_from q h = rw (lt-ltb 0 q h) refl

-- both offs are counted, and do nothing else
begun_swapped : begun trembling swapped 0 (fresh_of 0) ≡ begun trembling two 0 (fresh_of 0)
unfolding position_at begun has_at act_to act_of pairs others without_of lifted_of
begun_swapped = refl

one-sample : SameButActed (state_from trembling two 0 (fresh_of 0) 1) (state_from trembling swapped 0 (fresh_of 0) 1)
unfolding state_from run
one-sample = advance-same trembling (begun trembling two 0 (fresh_of 0)) (begun trembling swapped 0 (fresh_of 0)) (rw begun_swapped refl)

settled : Settled trembling two swapped 1
settled =
    let tail =
    tail_states two swapped (accepted-sorted two 2 two-accepted) (accepted-sorted swapped 2 swapped_accepted) (accepted-length two 2 two-accepted) (accepted-length swapped 2 swapped_accepted) 1 (none_from 1 (omega arith))
    trembling (state_from trembling two 0 (fresh_of 0) 1) (state_from trembling swapped 0 (fresh_of 0) 1) one-sample 4095 in
    record { records = none_from 4096 (omega arith); states = rw (state_on trembling two 0 (fresh_of 0) 1 4095, state_on trembling swapped 0 (fresh_of 0) 1 4095) tail }

stops_at_1 : StopsAt trembling two swapped 0 8192 1
stops_at_1 = record { past = omega arith; within = omega arith; settled = λ l. settled; first = λ j l u s. omega arith }

-- the page's count
pub swap_once : once_paged trembling two swapped 8192 ≡ paged (Ok 4096) 20
swap_once =
    let planned : plan_of two swapped 8192 ≡ Some 0 = sym (plan_from two swapped 8192 0 swap_differs (omega arith)) in
    let c = any_edits.counts trembling two swapped swap-edit 8192 (omega arith) 0 planned in
    let one : c.stop_section ≡ 1 = one_stop trembling two swapped 0 8192 c.stop_section 1 c.stops stops_at_1 in
    let count : min (c.stop_section * 4096) 8192 - 0 * 4096 ≡ 4096 = omega (arith, one) in
    ap (λ (p : Option ℕ). paged (Ok (count_for trembling two swapped p (whole_of trembling two 8192))) 20) planned ∙ ap (λ (k : ℕ). paged (Ok k) 20) (c.count-is ∙ count)

-- ---- the calls
-- buffers of 8,192 samples that the old score is rendered in, and a buffer lent for the new score
abbrev pub lent_ones : BuffersOf 8192
lent_ones = let b = whole_of trembling [] 8192 in record { buffers = b; lent = sized-lent 8192 b (omega arith) (whole-sized trembling [] 8192); long = sound_length trembling [] 8192 }

abbrev pub paper : List ℕ
paper = replicate 40960 7

abbrev pub swap_call : Rewritten Paged
swap_call = edit_of trembling two swap (left_in trembling two lent_ones).left paper

pub paper-long : length paper ≡ 40960
paper-long = length-replicate {A = ℕ} 40960 7

at_once : AtOnce trembling two swap 8192 paper swap_call
at_once = pages_of_edits.at_once trembling two swap paper swap_begins swap-whole paper-long 8192 lent_ones

-- half of the samples are made again; the offs stand in the other order at the front of the buffer
pub a_page : (swap_call.result ≡ paged (Ok 4096) 20) × (swap_call.space ≡ swapped ++ drop 20 paper)
a_page = (
  at_once.answered ∙ ap (λ (s : List ℕ). once_paged trembling two s 8192) swaps ∙ swap_once,
  at_once.score-is ∙ ap (λ (s : List ℕ). s ++ drop (length s) paper) swaps,
)

-- what the page leaves is what its two edits leave one at a time, as re-renders and as pages
pub two_rerenders : OneAtATime trembling two swap 8192 (edits_from trembling two (scores_of two swap) (left_in trembling two lent_ones).left) swap_call
two_rerenders = pages_of_edits.one-at_a_time trembling two swap paper swap_begins swap-whole paper-long 8192 lent_ones

pub two_pages : PagesOfOne trembling two swap 8192 (pages_from trembling two (singles_of swap) (left_in trembling two lent_ones).left paper) swap_call
two_pages = pages_of_edits.pages_of_one trembling two swap paper swap_begins swap-whole paper-long 8192 lent_ones
