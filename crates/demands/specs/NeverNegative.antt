-- The branch for a negative remainder is never taken, as a claim.
-- 02, R-13: "In the voice, reducing by TAU has a branch for a negative remainder. With the accepted settings the phase
-- starts at 0 or in an accepted entry or continuing state and only grows, so show that this branch is never taken there
-- and take it out."
-- The voice's reduction is the remainder alone; the block calls keep the branch. The definitions that end in
-- `Branching` are the voice's steps with 01's own reduction, branch and all. Where a call makes samples, the steps with
-- the branch make the samples, entries and summary that the call leaves, and the end state where it answers one, to the
-- bit. A call that is refused, or that has nothing to make, reduces nothing.
-- The argument is in proofs/NeverNegative.antt: of the steps in that file of the crate `state`, of the calls in that of
-- this crate. Definitions only.
use Rattle.std.specs.Prelude.{◌≡◌, true, false, List, ℕ, ◌+◌, ◌-◌, ◌*◌, T, Float, Ok, Some}
use Rattle.std.specs.Float.{binary64}
use Rattle.std.specs.Float.Ieee.{of_bits, lt, le, fits}
use Rattle.floats.specs.Double.{zero64}
use Rattle.sections.specs.Outcome.{Buffers, samples_in, leaves}
use Rattle.sections.specs.Summary.{summary_of}
use Rattle.sections.specs.Sections.{made_between}
use Rattle.waveform.specs.Waveform.{remainder_of}
use Rattle.score.specs.Score.{verdict_of}
use Rattle.shelf.specs.Shelf.{section_size, entries_for, shelf_of}
use Rattle.state.specs.declared.Settings.{Settings}
use Rattle.state.specs.declared.State.{State}
use Rattle.state.specs.Settings.{settings_ok}
use Rattle.state.specs.State.{fresh_of, reduced_of}
use Rattle.state.specs.Limits.{in_limits}
use Rattle.state.specs.Heart.{state_from, samples_from}
use Rattle.state.specs.Branching.{branching_of, state_branching, samples_branching, entries_branching}
use Rattle.render.specs.Calls.{says, leaves_part, render_of, continue_of}
use Rattle.rerender.specs.Rerender.{plan_of, start_of, recounted_from, rerender_of}

abbrev pub minus_one : Float
minus_one = of_bits binary64 0xbff0_0000_0000_0000

-- a phase is at least 0, so no NaN, and its remainder is not below 0
pub record NotNegative (p : Float) : Type 0 where
  pub at_least_0 : T (le zero64 p)
  pub not-below : lt (remainder_of p) zero64 ≡ false

-- ---- what is promised of k samples from a state v at position n
pub record SameSteps (g : Settings) (s : List ℕ) (n : ℕ) (v : State) (k : ℕ) : Type 0 where
  -- before sample n + k, where the phases may be reduced; they are reduced at no other moment
  pub phase : NotNegative (state_from g s n v k).phase.0
  pub lfo : NotNegative (state_from g s n v k).lfo.0
  -- so the steps with the branch make the same state and samples
  pub states : state_from g s n v k ≡ state_branching g s n v k
  pub samples : samples_from g s n v k ≡ samples_branching g s n v k

-- ---- the claim, for a sustain setting that is a value of an f64, as every f64 of the code is
pub record NeverNegative : Type 0 where
  -- under settings in their domain, of an accepted score, from any state within the limits, at any position
  pub steps : (g : Settings) → settings_ok g ≡ true → T (fits binary64 g.adsr.sustain) → (s : List ℕ) (m : ℕ) → verdict_of s ≡ Ok m → (n : ℕ) (v : State) → in_limits v ≡ true → (k : ℕ) → SameSteps g s n v k
  -- a render that is done, from the fresh state
  pub rendered : (g : Settings) → T (fits binary64 g.adsr.sustain) → (s : List ℕ) (b : Buffers) (k : ℕ) → (render_of g s b).result.answer ≡ Ok k
      → let heard = samples_branching g s 0 (fresh_of 0) k in
      render_of g s b ≡ leaves (says (Ok k) (state_branching g s 0 (fresh_of 0) k)) (record { heard = heard; stored = shelf_of (entries_branching g s 0 (fresh_of 0) (entries_for k)); summary = summary_of heard })
  -- a continuing call that is done, from the given state v
  pub continued : (g : Settings) → T (fits binary64 g.adsr.sustain) → (s : List ℕ) (v : State) (p : ℕ) (part : List Float) (k : ℕ) → (continue_of g s v p part).result.answer ≡ Ok k
      → continue_of g s v p part ≡ leaves_part (says (Ok k) (state_branching g s p v k)) (samples_branching g s p v k)
  -- a re-render that is done, from the state of the entry of section m, whoever made that entry
  pub re_rendered : (g : Settings) → T (fits binary64 g.adsr.sustain) → (old new : List ℕ) (b : Buffers) (m : ℕ) → plan_of old new (samples_in b) ≡ Some m → (k : ℕ) → (rerender_of g old new b).result ≡ Ok k
      → let stop = m * section_size + k in
      let v = start_of b.stored m in
      rerender_of g old new b
      ≡ leaves (Ok k) (recounted_from new (entries_for stop) (made_between m stop (samples_branching g new (m * section_size) v k) (shelf_of (entries_branching g new m v (entries_for stop - m))) b))
  -- a phase must not be negative for that: at a phase of -1 the two reductions part
  pub parted-below_0 : (v : State) → v.phase.0 ≡ minus_one → reduced_of v ≡ branching_of v → ⊥
