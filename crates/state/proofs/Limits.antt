-- The limits of a state part by part, and that every event of an accepted score keeps them. A state is `Kept P` if P is
-- true of both phases, the oscillator's and the LFO's, and all other fields are within their limits. An event keeps
-- both phases or sets them to 0, so the law is the same for every P that is true of 0.
-- A state within the limits has no NaN and no infinity. Assumes nothing.
use Rattle.std.specs.Prelude.{Ok, None}
use mathlib.Core.Path.{◌≡◌, refl, sym, subst}
use mathlib.Core.Bool.{Bool, true, false, not, cond, ◌&&◌}
use mathlib.Core.List.{List, []}
use Prim.Native.Nat.{ℕ, ◌*◌, ◌≤◌, ◌<◌}
use native.Mathlib.Omega.{arith}
use lib.Dec.{T, leb, leb→le, eqb}
use borrow.Author.Tests.{le-leb}
use lib.ListN.{length}
use lib.Ieee.{Float, nan, inf, fin, binary32, binary64, of_bits, lt, le, is_nan}
use lib.Ieee.Fits.{and_i, and_l, and_r}
use lib.Ieee.Scale.{finite}
use Rattle.floats.specs.Range.{plus_zero, nonneg, within, zero_of, one_of}
use Rattle.floats.specs.Double.{zero64, one}
use Rattle.floats.proofs.Literals.{zero_of-is, one_of-is}
use Rattle.floats.proofs.Order.{lt-le, le→ge0, nonneg→finite, under}
use Rattle.pitch.specs.Pitch.{frequency_of}
use Rattle.pitch.proofs.Rules.{frequency_in}
use Rattle.voice.specs.Keys.{lifted_of, is_keys}
use Rattle.voice.specs.Voice.{velocity_of}
use Rattle.voice.specs.declared.keys.Keys.{Keys}
use Rattle.voice.specs.declared.keys.NoteOff.{NoteOff}
use Rattle.voice.specs.declared.keys.NoteOff.TheVariants.{Released, FellBack, NoChange}
use Rattle.voice.proofs.Actions.{pressed_keeps, BackRanged, lifted_keeps}
use Rattle.voice.proofs.Limits.{AllRanged, holds_limits}
use Rattle.voice.proofs.Loudness as loudness
use Rattle.envelope.specs.Limits.{is_envelope}
use Rattle.envelope.proofs.Inside.{FiniteFields, finite_fields}
use Rattle.envelope.proofs.Keeps.{fresh-accepted, triggered_keeps, released_keeps}
use Rattle.score.specs.declared.Kind.{Kind}
use Rattle.score.specs.declared.Kind.TheVariants.{On, Off, Reset}
use Rattle.score.specs.Record.{count_of, byte_at, record_at}
use Rattle.score.specs.Score.{field_limit, verdict_of}
use Rattle.score.proofs.Verdicts.{accepted_all}
use Rattle.state.specs.declared.Settings.{Settings}
use Rattle.state.specs.declared.State.{State}
use Rattle.state.specs.declared.Event.{Event}
use Rattle.state.specs.declared.Event.TheVariants as event
use Rattle.state.specs.State.{fresh_of, event_for, event_of, triggers, triggered_if, after_note_off, act_of}
use Rattle.domain.specs.Domain.{thousand, is_radians, highest_pitch, is_pitch}
use Rattle.state.specs.Limits.{in_limits, most_acted, is_state}

-- a test that holds is true, and the converse
pub is_true : (b : Bool) → T b → b ≡ true
is_true true t = refl
is_true false t = elim t [ ]

pub from-true : (b : Bool) → b ≡ true → T b
from-true b e = subst T (sym e) tt

-- ---- the parts
pub record Kept (P : Float → Type 0) (v : State) : Type 0 where
  pub phase_in : P v.phase.0
  pub envelope_in_lem : T (is_envelope v.envelope)
  pub pitch_in : T (is_pitch binary64 v.frequency)
  pub velocity_in_lem : T (within zero64 one v.velocity)
  pub keys_in : T (is_keys v.keys)
  pub lfo_in : P v.lfo.0

-- a phase within its limits
abbrev pub PhaseIn : Float → Type 0
PhaseIn x = T (is_radians x)

pub weaken : (P Q : Float → Type 0) (v : State) → ((x : Float) → P x → Q x) → Kept P v → Kept Q v
weaken P Q v f k =
    record { phase_in = f v.phase.0 k.phase_in; envelope_in_lem = k.envelope_in_lem; pitch_in = k.pitch_in; velocity_in_lem = k.velocity_in_lem; keys_in = k.keys_in; lfo_in = f v.lfo.0 k.lfo_in }

module _ (v : State) where
  abbrev phased : Bool
  phased = is_radians v.phase.0

  abbrev shaped : Bool
  shaped = is_envelope v.envelope

  abbrev pitched : Bool
  pitched = is_pitch binary64 v.frequency

  abbrev loud : Bool
  loud = within zero64 one v.velocity

  abbrev keyed : Bool
  keyed = is_keys v.keys

  abbrev swaying : Bool
  swaying = is_radians v.lfo.0

  -- the limits are these parts
  pub in_kept : in_limits v ≡ true → Kept PhaseIn v
  unfolding in_limits
  in_kept e =
      let h = from-true (in_limits v) e in
      let h5 = and_l (phased && shaped && pitched && loud && keyed) swaying h in
      let h4 = and_l (phased && shaped && pitched && loud) keyed h5 in
      let h3 = and_l (phased && shaped && pitched) loud h4 in
      let h2 = and_l (phased && shaped) pitched h3 in
      record {
        phase_in = and_l phased shaped h2;
        envelope_in_lem = and_r phased shaped h2;
        pitch_in = and_r (phased && shaped) pitched h3;
        velocity_in_lem = and_r (phased && shaped && pitched) loud h4;
        keys_in = and_r (phased && shaped && pitched && loud) keyed h5;
        lfo_in = and_r (phased && shaped && pitched && loud && keyed) swaying h;
      }

  pub kept_in_lem : Kept PhaseIn v → in_limits v ≡ true
  unfolding in_limits
  kept_in_lem k =
      is_true (in_limits v)
      (and_i (phased && shaped && pitched && loud && keyed) swaying
      (and_i (phased && shaped && pitched && loud) keyed
      (and_i (phased && shaped && pitched) loud (and_i (phased && shaped) pitched (and_i phased shaped k.phase_in k.envelope_in_lem) k.pitch_in) k.velocity_in_lem)
      k.keys_in)
      k.lfo_in)

  -- a state passes the test if it is within the limits and its number of records acted fits in 48 bits
  pub state_in : is_state v ≡ true → in_limits v ≡ true
  unfolding is_state
  state_in e = is_true (in_limits v) (and_l (in_limits v) (leb v.acted most_acted) (from-true (is_state v) e))

  pub state-few : is_state v ≡ true → v.acted ≤ most_acted
  unfolding is_state
  state-few e = leb→le v.acted most_acted (and_r (in_limits v) (leb v.acted most_acted) (from-true (is_state v) e))

  pub in_state : in_limits v ≡ true → v.acted ≤ most_acted → is_state v ≡ true
  unfolding is_state
  in_state l h = rw (l, le-leb v.acted most_acted h) refl

-- ---- no NaN, no infinity
pub record AllFinite (v : State) : Type 0 where
  pub phase-finite : T (finite v.phase.0)
  pub frequency-finite : T (finite v.frequency)
  pub velocity-finite : T (finite v.velocity)
  pub envelope-finite : FiniteFields v.envelope
  pub lfo-finite : T (finite v.lfo.0)

pub no_nan : (x : Float) → T (finite x) → T (not (is_nan x))
unfolding is_nan
no_nan nan h = h
no_nan (inf s) h = tt
no_nan (fin s m e) h = tt

-- 0 ≤ x, with the two forms of 0
from_literal : (x : Float) → T (le zero64 x) → T (le plus_zero x)
from_literal x h = rw zero_of-is at h

pub phase-nonneg : (x : Float) → PhaseIn x → T (nonneg x)
phase-nonneg x h = under x thousand (le→ge0 x (from_literal x (and_l (le zero64 x) (lt x thousand) h))) (unfold of_bits in tt) (lt-le x thousand (and_r (le zero64 x) (lt x thousand) h))

pub pitch_nonneg : (x : Float) → T (is_pitch binary64 x) → T (nonneg x)
pitch_nonneg x h = under x (highest_pitch binary64) (le→ge0 x (from_literal x (lt-le zero64 x (and_l (lt zero64 x) (le x (highest_pitch binary64)) h)))) (unfold of_bits in tt) (and_r (lt zero64 x) (le x (highest_pitch binary64)) h)

loud_nonneg : (x : Float) → T (within zero64 one x) → T (nonneg x)
loud_nonneg x h = under x one (le→ge0 x (from_literal x (and_l (le zero64 x) (le x one) h))) (unfold of_bits in tt) (and_r (le zero64 x) (le x one) h)

pub kept-finite : (P : Float → Type 0) (v : State) → ((x : Float) → P x → T (nonneg x)) → Kept P v → AllFinite v
kept-finite P v f k =
    record {
      phase-finite = nonneg→finite v.phase.0 (f v.phase.0 k.phase_in);
      frequency-finite = nonneg→finite v.frequency (pitch_nonneg v.frequency k.pitch_in);
      velocity-finite = nonneg→finite v.velocity (loud_nonneg v.velocity k.velocity_in_lem);
      envelope-finite = finite_fields v.envelope k.envelope_in_lem;
      lfo-finite = nonneg→finite v.lfo.0 (f v.lfo.0 k.lfo_in);
    }

pub in_finite : (v : State) → in_limits v ≡ true → AllFinite v
in_finite v e = kept-finite PhaseIn v phase-nonneg (in_kept v e)

-- ---- the fresh state
module _ (P : Float → Type 0) (p : P zero64) where
  pub fresh_keeps : (acted : ℕ) → Kept P (fresh_of acted)
  fresh_keeps acted =
      record {
        phase_in = p;
        envelope_in_lem = fresh-accepted;
        pitch_in = unfold of_bits in unfold lt in unfold le in tt;
        velocity_in_lem = unfold of_bits in unfold le in tt;
        keys_in = holds_limits None false [] tt (omega arith) (unfold AllRanged in tt);
        lfo_in = p;
      }

zero-phase : PhaseIn zero64
zero-phase = unfold of_bits in unfold lt in unfold le in tt

pub fresh_in : (acted : ℕ) → in_limits (fresh_of acted) ≡ true
fresh_in acted = kept_in_lem (fresh_of acted) (fresh_keeps PhaseIn zero-phase acted)

pub fresh-is_state : is_state (fresh_of 0) ≡ true
fresh-is_state = in_state (fresh_of 0) (fresh_in 0) (omega arith)

-- ---- notes and velocities in their range
pitch_in_limits : (n : ℕ) → n ≤ 127 → T (is_pitch binary64 (frequency_of n))
pitch_in_limits n h = frequency_in n (omega arith)

loudness_in : (v : ℕ) → v ≤ 127 → T (within zero64 one (velocity_of v))
loudness_in v h = go (loudness.velocity_in_lem v h)
  where
    go : T (within (zero_of binary32) (one_of binary32) (velocity_of v)) → T (within zero64 one (velocity_of v))
    go t = rw (zero_of-is binary64, one_of-is binary64) (rw (zero_of-is binary32, one_of-is binary32) at t)

-- ---- events
-- the events that may occur: note and velocity up to 127
abbrev pub EventIn : Event → Type 0
EventIn (event.Strike n v) = (n ≤ 127) × (v ≤ 127)
EventIn (event.Lift n) = n ≤ 127
EventIn event.Reset = Unit

event_in : (k : Kind) (n v : ℕ) → n ≤ 127 → v ≤ 127 → EventIn (event_for k n v)
event_in On n v hn hv = go (eqb v 0)
  where
    go : (t : Bool) → EventIn (cond t (event.Lift n) (event.Strike n v))
    go true = hn
    go false = (hn, hv)
event_in Off n v hn hv = hn
event_in Reset n v hn hv = tt

most_in : (b : ℕ) → field_limit b ≤ 127
most_in b = go (eqb b 3)
  where
    go : (t : Bool) → cond t 0 127 ≤ 127
    go true = omega arith
    go false = omega arith

-- every record of an accepted score is such an event
abbrev pub EventsIn : List ℕ → Type 0
EventsIn s = (i : ℕ) → i < count_of s → EventIn (event_of (record_at s i))

pub accepted_events : (s : List ℕ) (m : ℕ) → verdict_of s ≡ Ok m → EventsIn s
accepted_events s m a i h =
    let all = accepted_all s m a in
    let size : length s ≡ m * 10 = all.size in
    let r = (all.fine i (omega arith)).right in
    event_in (record_at s i).kind (byte_at s i 7) (byte_at s i 8) (omega (arith, r.note-right, most_in (byte_at s i 6))) (omega (arith, r.velocity-right, most_in (byte_at s i 6)))

-- an event keeps the limits, and a property of the phases that is true of 0
module _ (g : Settings) (P : Float → Type 0) (p : P zero64) (v : State) (k : Kept P v) where
  lift_keeps : (l : Keys) (off : NoteOff) → T (is_keys l) → BackRanged off → Kept P (after_note_off v l off)
  lift_keeps l Released h b = record { phase_in = k.phase_in; envelope_in_lem = released_keeps v.envelope k.envelope_in_lem; pitch_in = k.pitch_in; velocity_in_lem = k.velocity_in_lem; keys_in = h; lfo_in = k.lfo_in }
  lift_keeps l (FellBack n w) h b = record { phase_in = k.phase_in; envelope_in_lem = k.envelope_in_lem; pitch_in = pitch_in_limits n b.0; velocity_in_lem = loudness_in w b.1; keys_in = h; lfo_in = k.lfo_in }
  lift_keeps l NoChange h b = record { phase_in = k.phase_in; envelope_in_lem = k.envelope_in_lem; pitch_in = k.pitch_in; velocity_in_lem = k.velocity_in_lem; keys_in = h; lfo_in = k.lfo_in }

  triggered_if_keeps : (t : Bool) → T (is_envelope (triggered_if t v.envelope))
  triggered_if_keeps true = triggered_keeps v.envelope k.envelope_in_lem
  triggered_if_keeps false = k.envelope_in_lem

  pub act_keeps : (e : Event) → EventIn e → Kept P (act_of g v e)
  unfolding act_of
  act_keeps (event.Strike n w) h =
      record {
        phase_in = k.phase_in;
        envelope_in_lem = triggered_if_keeps (triggers g v);
        pitch_in = pitch_in_limits n h.0;
        velocity_in_lem = loudness_in w h.1;
        keys_in = pressed_keeps v.keys n w k.keys_in h.0 h.1;
        lfo_in = k.lfo_in;
      }
  act_keeps (event.Lift n) h = let l = lifted_keeps v.keys n k.keys_in in lift_keeps (lifted_of v.keys n).keys (lifted_of v.keys n).off l.within l.back
  act_keeps event.Reset h = fresh_keeps P p _

-- an event keeps the limits of a state
pub act_in : (g : Settings) (v : State) (e : Event) → EventIn e → in_limits v ≡ true → in_limits (act_of g v e) ≡ true
act_in g v e h i = kept_in_lem (act_of g v e) (act_keeps g PhaseIn zero-phase v (in_kept v i) e h)
