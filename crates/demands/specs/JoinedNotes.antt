-- Notes struck or joined, as a claim.
-- 02, R-9: "A wind player wants a new key, pressed while another sounds, to change pitch and leave the envelope
-- running. A setting chooses joined or struck; struck is today's rule. Joined triggers the envelope only if no note was
-- active just before. Note-off is as before. Demand 2's oracle skips the trigger in those cases. A seventeenth key
-- counts as any other here: the active note decides, not the stack."
-- Just before is before that record acts, after the earlier records at its position. All else of an on is as struck:
-- the key is pressed, and its note sounds with its own velocity at once.
-- That an event does what the original's calls do, with the envelope's note_on skipped where a note was active, is
-- `calls_act` in `state`'s proofs/Calls.antt. The arguments are in proofs/Joined.antt of the crate `state` and in
-- proofs/JoinedNotes.antt. Definitions only.
use Rattle.std.specs.Prelude.{◌≡◌, cond, List, [], ◌∷◌, ◌++◌, ℕ, zero, suc, ◌+◌, Option, Some, None}
use Rattle.voice.specs.Keys.{fresh_keys, lifted_of}
use Rattle.voice.specs.Voice.{is_released}
use Rattle.envelope.specs.Stages.{triggered_of, released_of}
use Rattle.envelope.specs.Stages as envelope
use Rattle.envelope.specs.declared.Envelope.{Envelope}
use Rattle.score.specs.Record.{count_of}
use Rattle.state.specs.declared.Keying.{Keying}
use Rattle.state.specs.declared.Keying.TheVariants.{Struck, Joined}
use Rattle.state.specs.declared.Settings.{Settings}
use Rattle.state.specs.declared.State.{State}
use Rattle.state.specs.declared.Event.{Event}
use Rattle.state.specs.declared.Event.TheVariants as event
use Rattle.state.specs.Settings.{settings_ok}
use Rattle.state.specs.State.{fresh_of, with_envelope, reduced_of, act_of, sample_of, advance_of}
use Rattle.state.specs.Heart.{reduces_at, begun, state_from}
use Rattle.state.specs.Joined.{always_triggered, OpenIfActive, with_keying, with_keys, act_all, events_to}

-- ---- keys one after the other
-- the k keys from n on, struck with velocity 100, and lifted
abbrev pub strikes : ℕ → ℕ → List Event
strikes n zero = []
strikes n (suc k) = event.Strike n 100 ∷ strikes (n + 1) k

abbrev pub lifts : ℕ → ℕ → List Event
lifts n zero = []
lifts n (suc k) = event.Lift n ∷ lifts (n + 1) k

-- 01's marks (k) and (l): notes 40 to 55 on, 60 on
abbrev pub seventeen : List Event
seventeen = strikes 40 16 ++ event.Strike 60 100 ∷ []

-- the note that sounds, how many keys are held, and the envelope
pub record Heard : Type 0 where
  pub active : Option ℕ
  pub held : ℕ
  pub envelope : Envelope

-- what is heard after these events, from v with the envelope e
abbrev pub heard_after : Settings → State → Envelope → List Event → Heard
heard_after g v e es = let u = act_all g (with_envelope v e) es in record { active = u.keys.active; held = u.keys.count; envelope = u.envelope }

abbrev pub hears : Option ℕ → ℕ → Envelope → Heard
hears active held e = record { active = active; held = held; envelope = e }

-- what events do to any envelope e; `examples` below takes g with Joined, and v with no key down and no note active
pub record JoinedExamples (g : Settings) (v : State) (e : Envelope) : Type 0 where
  -- a first key
  pub first : heard_after g v e (event.Strike 60 100 ∷ []) ≡ hears (Some 60) 1 (triggered_of e)
  -- a second key at the same sample
  pub second : heard_after g v e (event.Strike 60 100 ∷ event.Strike 62 100 ∷ []) ≡ hears (Some 62) 2 (triggered_of e)
  -- (k) after 40 to 55 on, 60 joins, and is not held; 60 off: 55 sounds
  pub seventeenth : heard_after g (act_all g v (strikes 40 16)) e (event.Strike 60 100 ∷ []) ≡ hears (Some 60) 16 e
  pub falls_back : heard_after g (act_all g v seventeen) e (event.Lift 60 ∷ []) ≡ hears (Some 55) 16 e
  -- (l) instead 40 to 55 off: none is held, 60 sounds; 62 on joins it
  pub none-held : heard_after g (act_all g v seventeen) e (lifts 40 16) ≡ hears (Some 60) 0 e
  pub joins_with_none-held : heard_after g (act_all g v (seventeen ++ lifts 40 16)) e (event.Strike 62 100 ∷ []) ≡ hears (Some 62) 1 e
  -- while 60 sounds and is held: after 60 off and then 62 on the envelope is released and then triggered; after 62 on
  -- and then 60 off it is as it was; also after 60 on again; after a reset and then 62 on it is fresh and then
  -- triggered
  pub off_then_on : heard_after g (act_all g v (strikes 60 1)) e (event.Lift 60 ∷ event.Strike 62 100 ∷ []) ≡ hears (Some 62) 1 (triggered_of (released_of e))
  pub on_then_off : heard_after g (act_all g v (strikes 60 1)) e (event.Strike 62 100 ∷ event.Lift 60 ∷ []) ≡ hears (Some 62) 1 e
  pub the_same_again : heard_after g (act_all g v (strikes 60 1)) e (event.Strike 60 100 ∷ []) ≡ hears (Some 60) 2 e
  pub reset_then_on : heard_after g (act_all g v (strikes 60 1)) e (event.Reset ∷ event.Strike 62 100 ∷ []) ≡ hears (Some 62) 1 (triggered_of envelope.fresh_of)

-- ---- the claim
pub record JoinedNotes : Type 0 where
  -- struck is 01's rule, from every state
  pub struck : (g : Settings) → g.keying ≡ Struck → (v : State) (note velocity : ℕ) → act_of g v (event.Strike note velocity) ≡ always_triggered v note velocity
  -- joined, with no note active: 01's rule too. With a note active, whichever: all four fields of the envelope stay,
  -- and all other fields of the state are as struck
  pub joined_to-none : (g : Settings) → g.keying ≡ Joined → (v : State) → v.keys.active ≡ None → (note velocity : ℕ) → act_of g v (event.Strike note velocity) ≡ always_triggered v note velocity
  pub joined_to_a_note : (g : Settings) → g.keying ≡ Joined → (v : State) (n : ℕ) → v.keys.active ≡ Some n → (note velocity : ℕ)
      → act_of g v (event.Strike note velocity) ≡ with_envelope (always_triggered v note velocity) v.envelope
  -- an off releases the envelope where the voice's note_off says released, and else leaves it; no fall back triggers
  pub lift-releases : (g : Settings) (v : State) (note : ℕ) → (act_of g v (event.Lift note)).envelope ≡ cond (is_released (lifted_of v.keys note).off) (released_of v.envelope) v.envelope
  -- the keying changes nothing else: not what a lift or a reset leaves, not a sample, not how the envelope runs on, and
  -- not which settings are accepted
  pub same-lift : (g h : Settings) (v : State) (note : ℕ) → act_of g v (event.Lift note) ≡ act_of h v (event.Lift note)
  pub same-reset : (g h : Settings) (v : State) → act_of g v event.Reset ≡ act_of h v event.Reset
  pub same-sample : (g : Settings) (k : Keying) (v : State) → sample_of (with_keying g k) v ≡ sample_of g v
  pub same-advance : (g : Settings) (k : Keying) (v : State) → advance_of (with_keying g k) v ≡ advance_of g v
  pub same-settings : (g : Settings) (k : Keying) → settings_ok (with_keying g k) ≡ settings_ok g
  -- sample n is begun, in a render too, by the events of the records at n, one after the other, under the same settings
  pub begins : (g : Settings) (s : List ℕ) (n : ℕ) (v : State) → begun g s n v ≡ act_all g (cond (reduces_at s n) (reduced_of v) v) (events_to s n (count_of s))
  -- no key is joined to an envelope that is idle or in release: from the fresh state on, before and after every sample
  -- is begun, an active note's envelope is in attack, decay or sustain, for any settings and any score. With a sustain
  -- setting of 0 that envelope may still be silent
  pub open-before : (g : Settings) (s : List ℕ) (k : ℕ) → OpenIfActive (state_from g s 0 (fresh_of 0) k)
  pub open_after : (g : Settings) (s : List ℕ) (k : ℕ) → OpenIfActive (begun g s k (state_from g s 0 (fresh_of 0) k))
  -- every event keeps it so, between the records at a sample too
  pub open_kept : (g : Settings) (v : State) (e : Event) → OpenIfActive v → OpenIfActive (act_of g v e)
  -- the same from every state v with `OpenIfActive v`, for instance an entry that a render left, at any position n. A
  -- state that a host has made up may have a note active in Idle or Release: there a joined key stays silent, or its
  -- level goes on falling
  pub open-from : (g : Settings) (s : List ℕ) (n : ℕ) (v : State) → OpenIfActive v → (k : ℕ) → OpenIfActive (state_from g s n v k) × OpenIfActive (begun g s (n + k) (state_from g s n v k))
  -- 01's marks, and keys one after the other
  pub examples : (g : Settings) (v : State) (e : Envelope) → JoinedExamples (with_keying g Joined) (with_keys v fresh_keys) e
