-- What private functions are held to: a span, and a walk through a part of the output with the position of the next
-- record already read, as the loop over the spans keeps it. No public statement cites these definitions. Definitions
-- only.
use Rattle.std.specs.Prelude.{List, ◌≡◌, Bool, true, false, ◌||◌, ℕ, ◌+◌, ◌%◌, ◌<◌, ◌≤◌, length, get_or, Float, T, eqb, Option, Some, None}
use Rattle.std.specs.Float.{nan, binary64}
use Rattle.std.specs.Float.Ieee.{fits}
use Rattle.runs.specs.Runs.{repeated, listed}
use Rattle.floats.specs.Double.{◌⊗◌}
use Rattle.waveform.specs.declared.Radians.{Radians}
use Rattle.waveform.specs.declared.Waveform.{Waveform}
use Rattle.waveform.specs.Waveform.{radians}
use Rattle.waveform.specs.Filled.{phase_from, value_at}
use Rattle.tremolo.specs.Tremolo.{lfo_at, factor_of}
use Rattle.filling.specs.Lent.{value_in}
use Rattle.state.specs.declared.Settings.{Settings}
use Rattle.state.specs.declared.State.{State}
use Rattle.state.specs.State.{lfo_step_of, sample_of, advance_of}
use Rattle.spans.specs.declared.Place.{Place}
use Rattle.spans.specs.declared.Walker.{Walker}
use Rattle.spans.specs.Walk.{place_of, is_due_at}

-- ---- a span: samples between which nothing is reduced and no record acts. 01, "Making sample n": "the sample is
-- oscillator value * envelope level * velocity, left to right, and both advance"; 02, R-7: "multiplied last by (1 -
-- depth/2 + lfo/2)"
-- the state after k samples
unfoldable pub span_state : Settings → State → ℕ → State
span_state g v k = repeated (advance_of g) v k

-- the first k samples
unfoldable pub span_samples : Settings → State → ℕ → List Float
span_samples g v k = listed (λ (i : ℕ). sample_of g (span_state g v i)) k

-- a lent table W gives the value of each waveform: true of the whole wave, and of an empty table
abbrev pub IsWaveTable : List Float → Type 0
IsWaveTable W = (w : Waveform) (step p : Float) → value_in W w step p ≡ value_at w step p

-- a lent part is filled with the samples of a span, and r is the state after them
pub record SpanPlayed (g : Settings) (v : State) (before after : List Float) (r : State) : Type 0 where
  pub samples : after ≡ span_samples g v (length before)
  pub state : r ≡ span_state g v (length before)

-- ---- the tremolo over a span whose first sample is at the LFO's phase p
-- the first k samples of xs, each times its factor
unfoldable pub swayed_to : Settings → Float → List Float → ℕ → List Float
swayed_to g p xs k = listed (λ (i : ℕ). get_or xs i nan ⊗ factor_of g.lfo.depth (lfo_at g.lfo (lfo_step_of g) (phase_from (lfo_step_of g) p i))) k

abbrev pub AllFit : List Float → Type 0
AllFit xs = (i : ℕ) → i < length xs → T (fits binary64 (get_or xs i nan))

-- a lent part of f64 numbers is swayed to its end, and r is the LFO's phase after it
pub record Swayed (g : Settings) (p : Float) (before after : List Float) (r : Radians) : Type 0 where
  pub samples : AllFit before → after ≡ swayed_to g p before (length before)
  pub phase : r ≡ radians (phase_from (lfo_step_of g) p (length before))

-- ---- a walk with the position of the next record read
abbrev pub place_in : Walker → Place
place_in w = place_of w.state w.next

-- ---- offsets m in a part that begins at position n
-- whether a record is due, and at offset m
abbrev pub is_at : Option ℕ → ℕ → Bool
is_at None m = false
is_at (Some due) m = eqb due m

-- whether the next record is at offset m
abbrev pub is_due_in : Walker → ℕ → Bool
is_due_in w m = is_at w.due m

-- whether offset m is at a multiple of 64
abbrev pub is_block_start : ℕ → ℕ → Bool
is_block_start n m = eqb ((n + m) % 64) 0

-- whether a span begins at offset m
abbrev pub begins_in : Walker → ℕ → ℕ → Bool
begins_in w n m = is_block_start n m || is_due_in w m

-- what the walker has read of its next record agrees with the score
abbrev pub Sees : List ℕ → ℕ → Walker → Type 0
Sees s n w = (m : ℕ) → is_due_in w m ≡ is_due_at s w.next (n + m)

-- the walker is at place p, and what it has read agrees with the score
pub record At (s : List ℕ) (n : ℕ) (p : Place) (w : Walker) : Type 0 where
  pub place : place_in w ≡ p
  pub sees : Sees s n w

-- r is the first offset after a at which the test holds, or k, and at most 64 after a
pub record FirstAfter (test : ℕ → Bool) (a k r : ℕ) : Type 0 where
  pub after : a < r
  pub within : r ≤ k
  pub near : r ≤ a + 64
  pub ends : r < k → test r ≡ true
  pub apart : (m : ℕ) → a < m → m < r → test m ≡ false
