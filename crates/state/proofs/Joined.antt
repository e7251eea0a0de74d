-- What a key does to the envelope, struck and joined; that all else is the same under either keying; that the records
-- at a sample act one after the other; and that the envelope of an active note is open after every step, under any
-- settings and for any score, if it was so before. So no key is joined to an envelope that is released or idle. Assumes
-- nothing.
use Rattle.std.specs.Prelude.{Option, Some, None}
use mathlib.Core.Path.{◌≡◌, refl}
use mathlib.Core.Bool.{Bool, true, false, not, cond}
use mathlib.Core.List.{List, [], ◌∷◌, ◌++◌}
use Prim.Native.Nat.{ℕ, zero, suc, ◌+◌}
use lib.Dec.{eqb}
use lib.Ieee.{Float, le}
use Rattle.floats.specs.Double.{◌⊕◌, zero64, one}
use Rattle.voice.specs.Keys.{Pair, keys_of, others, held_of, is_sounding, last_of, lifted_of}
use Rattle.voice.specs.Voice.{is_note}
use Rattle.voice.specs.declared.keys.AfterLift.{AfterLift}
use Rattle.voice.specs.declared.keys.NoteOff.TheVariants.{Released, FellBack, NoChange}
use Rattle.voice.proofs.Actions.{by_cases}
use Rattle.envelope.specs.Limits.{clamped_of, sample_time_of}
use Rattle.envelope.specs.Stages.{attack_level, decay_level, with_stage, rule_of, is_moving, grown_of, step_of}
use Rattle.envelope.specs.declared.Adsr.{Adsr}
use Rattle.envelope.specs.declared.Envelope.{Envelope}
use Rattle.envelope.specs.declared.EnvelopeStage.{EnvelopeStage}
use Rattle.envelope.specs.declared.EnvelopeStage.TheVariants.{Idle, Attack, Decay, Sustain, Release}
use Rattle.score.specs.Record.{count_of, position_at, record_at}
use Rattle.state.specs.declared.Keying.{Keying}
use Rattle.state.specs.declared.Keying.TheVariants.{Struck, Joined}
use Rattle.state.specs.declared.Settings.{Settings}
use Rattle.state.specs.declared.State.{State}
use Rattle.state.specs.declared.Event.{Event}
use Rattle.state.specs.declared.Event.TheVariants as event
use Rattle.state.specs.State.{with_envelope, reduced_of, event_of, triggers_over, triggered_if, after_note_off, act_of, dry_of, sample_of, advance_of}
use Rattle.state.specs.Heart.{reduces_at, act_to, begun, state_from}
use Rattle.state.specs.Joined.{always_triggered, is_open, OpenIfActive, with_keying, act_all, events_to}
use Rattle.state.proofs.Lasting.{every-state, every-begun}

-- ---- one key
module _ (g : Settings) (v : State) (note velocity : ℕ) where
  pub struck-triggers : g.keying ≡ Struck → act_of g v (event.Strike note velocity) ≡ always_triggered v note velocity
  unfolding act_of
  struck-triggers e = rw e refl

  pub joined_runs_on : g.keying ≡ Joined → (n : ℕ) → v.keys.active ≡ Some n → act_of g v (event.Strike note velocity) ≡ with_envelope (always_triggered v note velocity) v.envelope
  unfolding act_of
  joined_runs_on e n a = rw (e, a) refl

  pub joined_triggers : g.keying ≡ Joined → v.keys.active ≡ None → act_of g v (event.Strike note velocity) ≡ always_triggered v note velocity
  unfolding act_of
  joined_triggers e a = rw (e, a) refl

-- an off and a reset do not depend on the settings
pub lift_anyhow : (g h : Settings) (v : State) (note : ℕ) → act_of g v (event.Lift note) ≡ act_of h v (event.Lift note)
unfolding act_of
lift_anyhow g h v note = refl

pub reset_anyhow : (g h : Settings) (v : State) → act_of g v event.Reset ≡ act_of h v event.Reset
unfolding act_of
reset_anyhow g h v = refl

-- ---- the keying changes nothing else
module _ (g : Settings) (k : Keying) where
  pub sample_anyhow : (v : State) → sample_of (with_keying g k) v ≡ sample_of g v
  unfolding sample_of dry_of
  sample_anyhow v = refl

  pub advance_anyhow : (v : State) → advance_of (with_keying g k) v ≡ advance_of g v
  unfolding advance_of
  advance_anyhow v = refl

-- ---- the records at a sample act one after the other
all_append : (g : Settings) (v : State) (xs ys : List Event) → act_all g v (xs ++ ys) ≡ act_all g (act_all g v xs) ys
unfolding act_all
all_append g v [] ys = refl
all_append g v (x ∷ xs) ys = all_append g (act_of g v x) xs ys

acts_all : (g : Settings) (s : List ℕ) (n k : ℕ) (v : State) → act_to g s n k v ≡ act_all g v (events_to s n k)
unfolding act_to act_all events_to
acts_all g s n zero v = refl
acts_all g s n (suc k) v = rw (acts_all g s n k v, all_append g v (events_to s n k) (cond (eqb (position_at s k) n) (event_of (record_at s k) ∷ []) [])) (go (eqb (position_at s k) n))
  where
    go : (t : Bool) → cond t (act_of g (act_all g v (events_to s n k)) (event_of (record_at s k))) (act_all g v (events_to s n k)) ≡ act_all g (act_all g v (events_to s n k)) (cond t (event_of (record_at s k) ∷ []) [])
    go true = refl
    go false = refl

pub begins_all : (g : Settings) (s : List ℕ) (n : ℕ) (v : State) → begun g s n v ≡ act_all g (cond (reduces_at s n) (reduced_of v) v) (events_to s n (count_of s))
unfolding begun
begins_all g s n v = acts_all g s n (count_of s) (cond (reduces_at s n) (reduced_of v) v)

-- ---- an event keeps the envelope of an active note open
if_note : (a : Option ℕ) → is_note a ≡ true → (b : Bool) → ((n : ℕ) → a ≡ Some n → b ≡ true) → b ≡ true
if_note None e b f = let z : false ≡ true = e in cc
if_note (Some n) e b f = f n refl

sounds : (a : Option ℕ) (n : ℕ) → is_sounding a n ≡ true → is_note a ≡ true
sounds None n e = let z : false ≡ true = e in cc
sounds (Some m) n e = refl

strike-open : (k : Keying) (v : State) → OpenIfActive v → is_open (triggered_if (triggers_over k v.keys) v.envelope).stage ≡ true
strike-open Struck v h = refl
strike-open Joined v h = go (is_note v.keys.active) refl
  where
    go : (t : Bool) → is_note v.keys.active ≡ t → is_open (triggered_if (not t) v.envelope).stage ≡ true
    go true e = if_note v.keys.active e _ h
    go false e = refl

lift-open : (v : State) (note : ℕ) → OpenIfActive v → OpenIfActive (after_note_off v (lifted_of v.keys note).keys (lifted_of v.keys note).off)
lift-open v note h = by_cases v.keys note (λ (l : AfterLift). OpenIfActive (after_note_off v l.keys l.off)) same none back
  where
    same : is_sounding v.keys.active note ≡ false → OpenIfActive (after_note_off v (keys_of v.keys.active v.keys.gate (others note (held_of v.keys))) NoChange)
    same e = h

    none : is_sounding v.keys.active note ≡ true → others note (held_of v.keys) ≡ [] → OpenIfActive (after_note_off v (keys_of None false []) Released)
    none e q n a = let z : None ≡ Some n = a in cc

    back : (p : Pair) (ps : List Pair) → is_sounding v.keys.active note ≡ true → others note (held_of v.keys) ≡ p ∷ ps
        → OpenIfActive (after_note_off v (keys_of (Some (last_of p ps).note) v.keys.gate (p ∷ ps)) (FellBack (last_of p ps).note (last_of p ps).velocity))
    back p ps e q n a = if_note v.keys.active (sounds v.keys.active note e) _ h

pub act-open : (g : Settings) (v : State) (e : Event) → OpenIfActive v → OpenIfActive (act_of g v e)
unfolding act_of
act-open g v (event.Strike note velocity) h n a = strike-open g.keying v h
act-open g v (event.Lift note) h n a = lift-open v note h n a
act-open g v event.Reset h n a = let z : None ≡ Some n = a in cc

-- ---- a sample keeps an open envelope open
step-open : (k : Adsr) (t : Float) (e : Envelope) → is_open e.stage ≡ true → is_open (step_of k t e).stage ≡ true
unfolding step_of
step-open k t e h = grown (rule_of e.stage k e) (ruled e.stage h)
  where
    grown : (e : Envelope) → is_open e.stage ≡ true → is_open (grown_of t e).stage ≡ true
    grown e h = go (is_moving e.stage)
      where
        go : (m : Bool) → is_open (cond m (with_stage e e.stage e.level (e.stage_time ⊕ t)) e).stage ≡ true
        go true = h
        go false = h

    rising : (b : Bool) (x : Float) → is_open (cond b (with_stage e Decay one zero64) (with_stage e Attack x e.stage_time)).stage ≡ true
    rising true x = refl
    rising false x = refl

    falling : (b : Bool) (x : Float) → is_open (cond b (with_stage e Sustain k.sustain zero64) (with_stage e Decay x e.stage_time)).stage ≡ true
    falling true x = refl
    falling false x = refl

    ruled : (s : EnvelopeStage) → is_open s ≡ true → is_open (rule_of s k e).stage ≡ true
    ruled Idle h = h
    ruled Attack h = rising (le one (attack_level k.attack e)) (attack_level k.attack e)
    ruled Decay h = falling (le (decay_level k.decay k.sustain e) k.sustain) (decay_level k.decay k.sustain e)
    ruled Sustain h = refl
    ruled Release h = let z : false ≡ true = h in cc

advance-open : (g : Settings) (v : State) → OpenIfActive v → OpenIfActive (advance_of g v)
unfolding advance_of
advance-open g v h n a = step-open (clamped_of g.adsr) (sample_time_of g.rate) v.envelope (h n a)

-- ---- any number of samples
module _ (g : Settings) (s : List ℕ) (n : ℕ) (v : State) (h : OpenIfActive v) where
  pub state-open : (k : ℕ) → OpenIfActive (state_from g s n v k)
  state-open = every-state g s OpenIfActive (λ u q. q) (act-open g) (advance-open g) n v h

  pub begun-open : (k : ℕ) → OpenIfActive (begun g s (n + k) (state_from g s n v k))
  begun-open = every-begun g s OpenIfActive (λ u q. q) (act-open g) (advance-open g) n v h
