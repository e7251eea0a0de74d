-- The claim of specs/NeverNegative.antt: the law of `state` on any state within the limits, at the three states that a
-- call may start from: the fresh one, a given one, and that of an entry. Assumes nothing.
use Rattle.std.specs.Prelude.{Ok, Some}
use mathlib.Core.Path.{◌≡◌, refl, sym, ap, subst, ◌∙◌}
use mathlib.Core.Bool.{true, false, true≢false}
use mathlib.Core.List.{List}
use Prim.Native.Nat.{ℕ, ◌+◌, ◌-◌, ◌*◌, ◌<◌}
use native.Mathlib.Omega.{arith}
use lib.Dec.{T, eqb}
use lib.ListN.{length}
use lib.Ieee.{Float, binary64, of_bits, round, sum, add, rem, lt, fits}
use Rattle.floats.specs.Range.{nonneg}
use Rattle.floats.specs.Double.{zero64}
use Rattle.floats.proofs.Literals.{zero_of-is}
use Rattle.floats.proofs.Order.{ge0→le, nonneg→ge0}
use Rattle.sections.specs.Outcome.{Buffers, samples_in, room_in, leaves}
use Rattle.sections.specs.Summary.{summary_of}
use Rattle.sections.specs.Sections.{made_between}
use Rattle.answers.specs.Order.{unless}
use Rattle.answers.specs.declared.Refusal.TheVariants.{GivenState, StartEntry}
use Rattle.answers.proofs.Order.{passed, none_both}
use Rattle.waveform.specs.Waveform.{remainder_of, reduce_of}
use Rattle.score.specs.Record.{count_of}
use Rattle.score.specs.Score.{verdict_of}
use Rattle.score.specs.Below.{count_below}
use Rattle.score.proofs.Codec.{both}
use Rattle.shelf.specs.Shelf.{section_size, entries_for, is_entry, shelf_of, entry_at}
use Rattle.shelf.proofs.Back.{entry-is_state}
use Rattle.state.specs.declared.Settings.{Settings}
use Rattle.state.specs.declared.State.{State}
use Rattle.state.specs.Settings.{settings_ok}
use Rattle.state.specs.State.{fresh_of, with_phases, reduced_of}
use Rattle.state.specs.Limits.{in_limits, is_state}
use Rattle.state.specs.Branching.{branching_of, state_branching, samples_branching, entries_branching}
use Rattle.state.proofs.Limits.{fresh_in, state_in}
use Rattle.state.proofs.Ladder.{rest_not-below}
use Rattle.state.proofs.NeverNegative.{phase_nonnegative, lfo_nonnegative, branch_states, branch_samples, branch_entries}
use Rattle.judging.specs.Judging.{refusals_of, part_fits}
use Rattle.judging.proofs.Refusals.{all_passed}
use Rattle.render.specs.Calls.{says, leaves_part, is_given, render_of, continue_of}
use Rattle.render.proofs.Outcomes.{render-decided, continue_decided}
use Rattle.rerender.specs.Rerender.{plan_of, start_of, is_start, stop_of, recounted_from, start_refusals, rerender_of}
use Rattle.rerender.proofs.Cases.{plan_there, stop_at, checks, all_checked, rerender-decided}
use Rattle.demands.specs.NeverNegative.{minus_one, NotNegative, SameSteps, NeverNegative}

-- ---- the steps
not_negative : (p : Float) → T (nonneg p) → NotNegative p
not_negative p h = record { at_least_0 = rw (zero_of-is binary64) (ge0→le p (nonneg→ge0 p h)); not-below = rest_not-below p h }

steps : (g : Settings) → settings_ok g ≡ true → T (fits binary64 g.adsr.sustain) → (s : List ℕ) (m : ℕ) → verdict_of s ≡ Ok m → (n : ℕ) (v : State) → in_limits v ≡ true → (k : ℕ) → SameSteps g s n v k
steps g ok w s m a n v l k =
    record {
      phase = not_negative _ (phase_nonnegative g ok w s m a n v l k);
      lfo = not_negative _ (lfo_nonnegative g ok w s m a n v l k);
      states = branch_states g ok w s m a n v l k;
      samples = branch_samples g ok w s m a n v l k;
    }

-- ---- the calls
rendered : (g : Settings) → T (fits binary64 g.adsr.sustain) → (s : List ℕ) (b : Buffers) (k : ℕ) → (render_of g s b).result.answer ≡ Ok k
    → let heard = samples_branching g s 0 (fresh_of 0) k in
    render_of g s b ≡ leaves (says (Ok k) (state_branching g s 0 (fresh_of 0) k)) (record { heard = heard; stored = shelf_of (entries_branching g s 0 (fresh_of 0) (entries_for k)); summary = summary_of heard })
rendered g w s b k e =
    let d = render-decided g s b in
    let a = all_passed g (room_in b) s (d.done k e) in
    let ok = a.settings in
    let t = a.accepted in
    let i = fresh_in 0 in
    d.makes k e
    ∙ rw (d.counts k e, branch_states g ok w s (count_of s) t 0 (fresh_of 0) i k, branch_samples g ok w s (count_of s) t 0 (fresh_of 0) i k, branch_entries g ok w s (count_of s) t 0 (fresh_of 0) i (entries_for k)) refl

continued : (g : Settings) → T (fits binary64 g.adsr.sustain) → (s : List ℕ) (v : State) (p : ℕ) (part : List Float) (k : ℕ) → (continue_of g s v p part).result.answer ≡ Ok k
    → continue_of g s v p part ≡ leaves_part (says (Ok k) (state_branching g s p v k)) (samples_branching g s p v k)
continued g w s v p part k e =
    let d = continue_decided g s v p part in
    let b = none_both (refusals_of g (part_fits p (length part)) s) (unless (is_given s p v) GivenState) (d.done k e) in
    let a = all_passed g (part_fits p (length part)) s b.0 in
    let ok = a.settings in
    let t = a.accepted in
    let i = state_in v (both (is_state v) (eqb v.acted (count_below s p)) (passed (is_given s p v) GivenState b.1)).0 in
    d.makes k e ∙ rw (d.counts k e, branch_states g ok w s (count_of s) t p v i k, branch_samples g ok w s (count_of s) t p v i k) refl

re_rendered : (g : Settings) → T (fits binary64 g.adsr.sustain) → (old new : List ℕ) (b : Buffers) (m : ℕ) → plan_of old new (samples_in b) ≡ Some m → (k : ℕ) → (rerender_of g old new b).result ≡ Ok k
    → let stop = m * section_size + k in
    let v = start_of b.stored m in
    rerender_of g old new b
    ≡ leaves (Ok k) (recounted_from new (entries_for stop) (made_between m stop (samples_branching g new (m * section_size) v k) (shelf_of (entries_branching g new m v (entries_for stop - m))) b))
re_rendered g w old new b m q k e =
    let d = rerender-decided g old new b in
    let shelf = b.stored in
    let v = start_of shelf m in
    let n = none_both (checks g old new (room_in b)) (start_refusals new (plan_of old new (samples_in b)) shelf) (d.done k e) in
    let c = all_checked g old new (room_in b) n.0 in
    let x = passed (is_start new m shelf) StartEntry (rw q at n.1) in
    let i = state_in v (entry-is_state (entry_at shelf m) (both (is_entry (entry_at shelf m)) (eqb v.acted (count_below new (m * section_size))) x).0) in
    let many : stop_of g old new m b - m * section_size ≡ k = rw q at (d.counts k e) in
    let there : m < entries_for (samples_in b) = plan_there old new (samples_in b) m q in
    let stop : stop_of g old new m b ≡ m * section_size + k = omega (arith, many, (stop_at g old new m b there c.fits).after) in
    d.makes k e
    ∙ rw (q, many, stop, branch_samples g c.settings w new (count_of new) c.new-accepted (m * section_size) v i k, branch_entries g c.settings w new (count_of new) c.new-accepted m v i (entries_for (m * section_size + k) - m)) refl

-- ---- the premise: what is left of -1 is below 0, but not with the branch
left_below : lt (remainder_of minus_one) zero64 ≡ true
unfolding of_bits rem round lt
left_below = refl

branch_above : lt (reduce_of minus_one) zero64 ≡ false
unfolding reduce_of of_bits rem round add sum lt
branch_above = refl

parted : (v : State) → v.phase.0 ≡ minus_one → reduced_of v ≡ branching_of v → ⊥
parted v e h =
    let same : lt (remainder_of minus_one) zero64 ≡ lt (reduce_of minus_one) zero64 = ap (λ (u : State). lt u.phase.0 zero64) (subst (λ (p : Float). with_phases v (remainder_of p) (remainder_of v.lfo.0) ≡ with_phases v (reduce_of p) (reduce_of v.lfo.0)) e h) in
    true≢false (sym left_below ∙ same ∙ branch_above)

pub never_negative : NeverNegative
never_negative = record { steps = steps; rendered = rendered; continued = continued; re_rendered = re_rendered; parted-below_0 = parted }
