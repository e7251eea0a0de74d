-- The claim of specs/VelocityNought.antt: `state`'s laws of scores that are the same but for how releases are written,
-- and that such scores, where both are accepted, meet the same refusals. Then two unequal scores that the claim is
-- about. Assumes nothing.
use Rattle.std.specs.Prelude.{Ok, Some}
use mathlib.Core.Path.{◌≡◌, refl, sym, ap, ◌∙◌}
use mathlib.Core.Logic.{◌⊎◌, inl, inr}
use mathlib.Core.Bool.{true}
use mathlib.Core.List.{List, [], ◌∷◌, ◌++◌}
use Prim.Native.Nat.{ℕ, zero, suc, ◌≤◌, ◌<◌}
use native.Mathlib.Omega.{arith}
use lib.Dec.{T}
use lib.ListN.{length}
use lib.Ieee.{Float, binary64, fits}
use borrow.Author.Tests.{le-leb}
use Rattle.runs.specs.Runs.{first_passing}
use Rattle.sections.specs.Outcome.{Buffers, samples_in, Outcome}
use Rattle.score.specs.declared.Record.{Record}
use Rattle.score.specs.declared.Kind.TheVariants.{Off}
use Rattle.score.specs.Record.{count_of, position_at, record_at}
use Rattle.score.specs.Score.{mark_right, kind_right, fields_right, in_order, faults_at, faults_from, faults_of, verdict_of}
use Rattle.score.specs.Apart.{same_to, difference_of}
use Rattle.score.proofs.Verdicts.{accepted_faults}
use Rattle.shelf.specs.Shelf.{entries_for}
use Rattle.voice.specs.declared.VoiceState.{VoiceState}
use Rattle.voice.specs.Keys.{pressed_of}
use Rattle.voice.specs.Voice.{is_voice, sounding_of, note_on_of}
use Rattle.state.specs.declared.Settings.{Settings}
use Rattle.state.specs.declared.State.{State}
use Rattle.state.specs.declared.Event.TheVariants as event
use Rattle.state.specs.Settings.{settings_ok}
use Rattle.state.specs.State.{fresh_of, event_of, act_of}
use Rattle.state.specs.ButReleases.{IsNought, SameRelease, SameButReleases}
use Rattle.state.proofs.Limits.{EventIn, accepted_events}
use Rattle.state.proofs.ButReleases.{off-lifts, nought_lifts, release_lifts, other-strikes, reset-resets, strike-from_1, state-releases, samples-releases, entries-releases, below-releases}
use Rattle.judging.specs.Judging.{refusals_of}
use Rattle.render.specs.declared.Rendered.{Rendered}
use Rattle.render.specs.Calls.{render_of, continue_of}
use Rattle.rerender.specs.Rerender.{rerender_of}
use Rattle.demands.specs.Demand3.{Taken, BuffersOf, left_in}
use Rattle.demands.specs.Edits.{edits_from, last_score, EditedWhole}
use Rattle.demands.specs.VelocityNought.{VelocityNought}
use Rattle.demands.proofs.ChainExamples.{begins}
use Rattle.demands.proofs.Example.{edited}
use Rattle.demands.proofs.Edits.{any_edits}

-- ---- one record
same_event : (r off : Record) → IsNought r → off.kind ≡ Off → r.note ≡ off.note → event_of r ≡ event_of off
same_event r off h o n = nought_lifts r h ∙ ap event.Lift n ∙ sym (off-lifts off o)

strike_velocities : (s : List ℕ) → Taken s → (i : ℕ) → i < count_of s → (note velocity : ℕ) → event_of (record_at s i) ≡ event.Strike note velocity → (1 ≤ velocity) × (velocity ≤ 127)
strike_velocities s a i l note velocity e =
    let b : EventIn (event.Strike note velocity) = rw e at (accepted_events s a.records a.accepted i l) in
    (strike-from_1 (record_at s i) note velocity e, b.1)

voice_strikes : (s : VoiceState) (n : ℕ) → is_voice s ≡ true → n ≤ 127 → note_on_of s n 0 ≡ record { answer = Ok 0; state = sounding_of (pressed_of s.keys n 0) n 0 }
voice_strikes s n ok l = rw (ok, le-leb n 127 l) refl

-- ---- the calls
module _ (s t : List ℕ) (h : SameButReleases s t) (a : Taken s) (b : Taken t) (g : Settings) where
  rendered : (l : Buffers) → render_of g s l ≡ render_of g t l
  unfolding render_of refusals_of
  rendered l =
      rw (
        accepted_faults s a.records a.accepted,
        accepted_faults t b.records b.accepted,
        state-releases s t h g 0 (fresh_of 0) (samples_in l),
        samples-releases s t h g 0 (fresh_of 0) (samples_in l),
        entries-releases s t h g 0 (fresh_of 0) (entries_for (samples_in l)),
      )
      refl

  continued : (v : State) (p : ℕ) (part : List Float) → continue_of g s v p part ≡ continue_of g t v p part
  unfolding continue_of refusals_of
  continued v p part =
      rw (
        accepted_faults s a.records a.accepted,
        accepted_faults t b.records b.accepted,
        below-releases s t h p,
        state-releases s t h g p v (length part),
        samples-releases s t h g p v (length part),
      )
      refl

  -- the re-render leaves what a render of t leaves, and that is what a render of s left
  re_rendered : settings_ok g ≡ true → T (fits binary64 g.adsr.sustain) → (n : ℕ) (r : BuffersOf n) → (rerender_of g s t (left_in g s r).left).left ≡ (left_in g s r).left
  unfolding edits_from last_score
  re_rendered ok w n r =
      let e : EditedWhole g s (t ∷ []) n (edits_from g s (t ∷ []) (left_in g s r).left) = any_edits.from_a_render g ok w s (t ∷ []) a (b, tt) n r in
      e.are_rendered r ∙ ap (λ (o : Outcome Rendered). o.left) (sym (rendered r.buffers))

pub velocity_nought : VelocityNought
velocity_nought =
    record {
      lifts = release_lifts;
      same_event = same_event;
      same-state = λ g v r off h o n. ap (act_of g v) (same_event r off h o n);
      others-strike = other-strikes;
      resets = reset-resets;
      strike_velocities = strike_velocities;
      voice_strikes = voice_strikes;
      states = state-releases;
      samples = samples-releases;
      rendered = rendered;
      continued = continued;
      re_rendered = re_rendered;
    }

-- ---- two scores that are not equal: the off at 5,000, and an on with velocity 0 in its place
abbrev pub hushed : List ℕ
hushed = begins ++ 0x56 ∷ 0x4E ∷ 0x88 ∷ 0x13 ∷ 0 ∷ 0 ∷ 1 ∷ 69 ∷ 0 ∷ 0 ∷ []

pub hushed_accepted : verdict_of hushed ≡ Ok 2
unfolding position_at mark_right kind_right fields_right in_order faults_at faults_from faults_of verdict_of
hushed_accepted = refl

pub hushed_differs : difference_of edited hushed ≡ Some 5000
unfolding position_at same_to first_passing
hushed_differs = refl

hushed_each : (i : ℕ) → i < 2 → (record_at edited i ≡ record_at hushed i) ⊎ SameRelease (record_at edited i) (record_at hushed i)
unfolding position_at
hushed_each zero l = inl refl
hushed_each (suc zero) l = inr (record { releases = (inl refl, inr (refl, refl)); note = refl; position = refl })
hushed_each (suc (suc i)) l = absurd (omega arith)

pub hushed_same : SameButReleases edited hushed
hushed_same = record { count = refl; each = hushed_each }
