-- The tremolo changes nothing but the factor: settings that differ in their LFO alone, from states that differ in the
-- LFO's phase alone, make the same samples without tremolo, and states that are equal but for that phase. So a render
-- under depth 0 is the render that the voice made before it had a tremolo. Assumes nothing.
use mathlib.Core.Path.{◌≡◌, refl, sym, ap, ◌∙◌}
use mathlib.Core.List.{List}
use Prim.Native.Nat.{ℕ, ◌+◌}
use Rattle.floats.specs.Double.{zero64}
use Rattle.voice.specs.Keys.{lifted_of}
use Rattle.voice.specs.declared.keys.Keys.{Keys}
use Rattle.voice.specs.declared.keys.NoteOff.{NoteOff}
use Rattle.voice.specs.declared.keys.NoteOff.TheVariants.{Released, FellBack, NoChange}
use Rattle.tremolo.specs.declared.Lfo.{Lfo}
use Rattle.waveform.specs.declared.Radians.{Radians}
use Rattle.waveform.specs.Waveform.{radians}
use Rattle.score.specs.declared.Record.{Record}
use Rattle.state.specs.declared.Settings.{Settings}
use Rattle.state.specs.declared.State.{State}
use Rattle.state.specs.declared.Event.{Event}
use Rattle.state.specs.declared.Event.TheVariants as event
use Rattle.state.specs.State.{reduced_of, event_of, after_note_off, act_of, dry_of, advance_of}
use Rattle.state.specs.Heart.{begun, state_from}
use Rattle.state.specs.ButLfo.{with_tremolo, with_lfo_phase, SameButLfo}
use Rattle.state.proofs.Beside.{Alongside, begun_beside, state_beside}

-- a function that does not depend on the LFO's phase gives the same for both
unseen : {A : Type 0} (f : State → A) → ((v : State) (p : Radians) → f (with_lfo_phase v p) ≡ f v) → (v w : State) → SameButLfo v w → f v ≡ f w
unseen f h v w e = sym (h v (radians zero64)) ∙ ap f e ∙ h w (radians zero64)

-- a state without the LFO's phase
abbrev without : State → State
without v = with_lfo_phase v (radians zero64)

-- ---- the steps
act_unseen : (g : Settings) (v : State) (e : Event) (p : Radians) → without (act_of g (with_lfo_phase v p) e) ≡ without (act_of g v e)
unfolding act_of
act_unseen g v (event.Strike note velocity) p = refl
act_unseen g v (event.Lift note) p = go (lifted_of v.keys note).keys (lifted_of v.keys note).off
  where
    go : (k : Keys) (o : NoteOff) → without (after_note_off (with_lfo_phase v p) k o) ≡ without (after_note_off v k o)
    go k Released = refl
    go k (FellBack a b) = refl
    go k NoChange = refl
act_unseen g v event.Reset p = refl

module _ (g : Settings) (l : Lfo) where
  -- no event depends on the LFO's settings
  act-apart : (v : State) (r : Record) → act_of g v (event_of r) ≡ act_of (with_tremolo g l) v (event_of r)
  unfolding act_of
  act-apart v r = go (event_of r)
    where
      go : (e : Event) → act_of g v e ≡ act_of (with_tremolo g l) v e
      go (event.Strike note velocity) = refl
      go (event.Lift note) = refl
      go event.Reset = refl

  advance-apart : (v : State) (p : Radians) → without (advance_of (with_tremolo g l) (with_lfo_phase v p)) ≡ without (advance_of g v)
  unfolding advance_of
  advance-apart v p = refl

  dry-apart : (v : State) (p : Radians) → dry_of (with_tremolo g l) (with_lfo_phase v p) ≡ dry_of g v
  unfolding dry_of
  dry-apart v p = refl

  alongside : Alongside g (with_tremolo g l) SameButLfo
  alongside =
      record {
        reduced = λ v w e. unseen (λ (x : State). without (reduced_of x)) (λ x p. refl) v w e;
        acted = λ v w r e. unseen (λ (x : State). without (act_of g x (event_of r))) (λ x p. act_unseen g x (event_of r) p) v w e ∙ ap without (act-apart w r);
        advanced = λ v w e. sym (advance-apart v v.lfo) ∙ unseen (λ (x : State). without (advance_of (with_tremolo g l) x)) (λ x p. advance-apart x p ∙ sym (advance-apart x x.lfo)) v w e;
      }

  -- ---- every sample
  module _ (s : List ℕ) (n : ℕ) (v w : State) (e : SameButLfo v w) where
    pub state-apart : (k : ℕ) → SameButLfo (state_from g s n v k) (state_from (with_tremolo g l) s n w k)
    state-apart = state_beside g (with_tremolo g l) SameButLfo alongside s n v w e

    pub dry-same : (k : ℕ) → dry_of g (begun g s (n + k) (state_from g s n v k)) ≡ dry_of (with_tremolo g l) (begun (with_tremolo g l) s (n + k) (state_from (with_tremolo g l) s n w k))
    dry-same k =
        let u = begun g s (n + k) (state_from g s n v k) in
        let x = begun (with_tremolo g l) s (n + k) (state_from (with_tremolo g l) s n w k) in
        sym (dry-apart u u.lfo) ∙ unseen (dry_of (with_tremolo g l)) (λ y p. dry-apart y p ∙ sym (dry-apart y y.lfo)) u x (begun_beside g (with_tremolo g l) SameButLfo alongside s (n + k) _ _ (state-apart k))
