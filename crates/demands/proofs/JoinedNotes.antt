-- The claim of specs/JoinedNotes.antt: `state`'s laws of struck and joined keys, and the examples by computing them.
-- Assumes nothing.
use Rattle.std.specs.Prelude.{Some, None}
use mathlib.Core.Path.{◌≡◌, refl}
use mathlib.Core.List.{List}
use Prim.Native.Nat.{ℕ}
use native.Mathlib.Nat.{zero-add}
use Rattle.voice.specs.Keys.{fresh_keys, pairs, pressed_of, others, without_of, last_of, lifted_of}
use Rattle.envelope.specs.Stages.{released_of}
use Rattle.envelope.specs.declared.Envelope.{Envelope}
use Rattle.state.specs.declared.Keying.TheVariants.{Joined}
use Rattle.state.specs.declared.Settings.{Settings}
use Rattle.state.specs.declared.State.{State}
use Rattle.state.specs.State.{fresh_of, act_of}
use Rattle.state.specs.Heart.{begun, state_from}
use Rattle.state.specs.Joined.{OpenIfActive, with_keying, with_keys, act_all}
use Rattle.state.proofs.Calls.{lift-releases}
use Rattle.state.proofs.Joined.{struck-triggers, joined_runs_on, joined_triggers, lift_anyhow, reset_anyhow, sample_anyhow, advance_anyhow, begins_all, act-open, state-open, begun-open}
use Rattle.demands.specs.JoinedNotes.{JoinedExamples, JoinedNotes}

-- no note is active in the fresh state
fresh-open : OpenIfActive (fresh_of 0)
fresh-open n a = let z : None ≡ Some n = a in cc

open_after : (g : Settings) (s : List ℕ) (k : ℕ) → OpenIfActive (begun g s k (state_from g s 0 (fresh_of 0) k))
open_after g s k = rw (zero-add k) at (begun-open g s 0 (fresh_of 0) fresh-open k)

examples : (g : Settings) (v : State) (e : Envelope) → JoinedExamples (with_keying g Joined) (with_keys v fresh_keys) e
unfolding act_of act_all pairs pressed_of others without_of last_of lifted_of released_of
examples g v e = record { first = refl; second = refl; seventeenth = refl; falls_back = refl; none-held = refl; joins_with_none-held = refl; off_then_on = refl; on_then_off = refl; the_same_again = refl; reset_then_on = refl }

pub joined_notes : JoinedNotes
joined_notes =
    record {
      struck = λ g e v note velocity. struck-triggers g v note velocity e;
      joined_to-none = λ g e v a note velocity. joined_triggers g v note velocity e a;
      joined_to_a_note = λ g e v n a note velocity. joined_runs_on g v note velocity e n a;
      lift-releases = lift-releases;
      same-lift = lift_anyhow;
      same-reset = reset_anyhow;
      same-sample = sample_anyhow;
      same-advance = advance_anyhow;
      same-settings = λ g k. refl;
      begins = begins_all;
      open-before = λ g s k. state-open g s 0 (fresh_of 0) fresh-open k;
      open_after = open_after;
      open_kept = act-open;
      open-from = λ g s n v h k. (state-open g s n v h k, begun-open g s n v h k);
      examples = examples;
    }
