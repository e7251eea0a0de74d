-- Two chains of 01's score, on at 0 and off at 100, whose second record is added when sample 100 is reached, in parts
-- of 100 and 28 samples. `OnTime`: both calls answer 0, and what they leave is one render of the whole score.
-- `TooLate`: with the second record at 50 the score is accepted too, but sample 50 has been made, and the second call
-- is 10. Assumes nothing.
use Rattle.std.specs.Prelude.{Err, Ok}
use mathlib.Core.Path.{◌≡◌, refl, ap, ◌∙◌}
use mathlib.Core.Bool.{true}
use mathlib.Core.List.{List, [], ◌∷◌, ◌++◌}
use Prim.Native.Nat.{ℕ, ◌≤◌}
use native.Mathlib.Omega.{arith}
use lib.Dec.{T}
use lib.ListN.{replicate}
use lib.Ieee.{binary64, of_bits, le, fits, is_nan}
use lib.Ieee.Bits.{of_bits-fits}
use Rattle.sections.specs.Outcome.{Buffers, lends}
use Rattle.shelf.specs.Shelf.{entry_words}
use Rattle.floats.specs.Double.{half}
use Rattle.answers.specs.declared.Refusal.TheVariants.{GivenState}
use Rattle.domain.specs.Domain.{is_rate}
use Rattle.envelope.specs.Limits.{is_adsr}
use Rattle.waveform.specs.declared.Waveform.TheVariants.{Square}
use Rattle.score.specs.Record.{position_at}
use Rattle.score.specs.Score.{mark_right, kind_right, fields_right, in_order, faults_at, faults_from, faults_of, verdict_of}
use Rattle.state.specs.declared.Settings.{Settings}
use Rattle.state.specs.declared.Keying.TheVariants.{Joined}
use Rattle.state.specs.declared.State.{State}
use Rattle.state.specs.Settings.{settings_ok}
use Rattle.state.specs.State.{fresh_of}
use Rattle.state.specs.Heart.{state_from, samples_from}
use Rattle.render.specs.Calls.{kept_part, continue_of}
use Rattle.demands.specs.Chain.{Step, ChainOutcome, chain_from, AllDone, Grows, AllAccepted, NoneAddedBelow, OneRender}
use Rattle.demands.proofs.Link.{late, chain-step, first_done}
use Rattle.demands.proofs.Chain.{chain, chain-done}

-- ---- the chains
-- a square wave at 8,000 Hz; attack, decay and release half a second each, sustain one half; a tremolo of one half that
-- is a square wave of half a Hz; notes are joined
abbrev pub trembling : Settings
trembling = record { rate = 8000; waveform = Square; adsr = record { attack = half; decay = half; sustain = half; release = half }; lfo = record { waveform = Square; frequency = half; depth = half }; keying = Joined }

-- note 69 on at 0
abbrev pub begins : List ℕ
begins = 0x56 ∷ 0x4E ∷ 0 ∷ 0 ∷ 0 ∷ 0 ∷ 1 ∷ 69 ∷ 127 ∷ 0 ∷ []

-- note 69 off at a position below 256
abbrev pub ends_at : ℕ → List ℕ
ends_at at = 0x56 ∷ 0x4E ∷ at ∷ 0 ∷ 0 ∷ 0 ∷ 2 ∷ 69 ∷ 0 ∷ 0 ∷ []

-- 100 samples of the note-on alone, then 28 samples with the note-off added
abbrev pub played : ℕ → List Step
played at = record { score = begins; part = replicate 100 half } ∷ record { score = begins ++ ends_at at; part = replicate 28 half } ∷ []

pub trembling_ok : settings_ok trembling ≡ true
unfolding is_adsr is_rate of_bits is_nan le
trembling_ok = refl

pub begins-accepted : verdict_of begins ≡ Ok 1
unfolding position_at mark_right kind_right fields_right in_order faults_at faults_from faults_of verdict_of
begins-accepted = refl

grows : (at : ℕ) → Grows [] (played at)
grows at = (record { added = begins; grown = refl }, (record { added = ends_at at; grown = refl }, tt))

accepted_100 : verdict_of (begins ++ ends_at 100) ≡ Ok 2
unfolding position_at mark_right kind_right fields_right in_order faults_at faults_from faults_of verdict_of
accepted_100 = refl

accepted_50 : verdict_of (begins ++ ends_at 50) ≡ Ok 2
unfolding position_at mark_right kind_right fields_right in_order faults_at faults_from faults_of verdict_of
accepted_50 = refl

position_1 : (at : ℕ) → position_at (begins ++ ends_at at) 1 ≡ at
unfolding position_at
position_1 at = omega arith

-- ---- on time
-- buffers of 128 samples
abbrev pub room : Buffers
room = lends (replicate 128 half) (replicate entry_words 0) (half ∷ []) (0 ∷ [])

pub record OnTime : Type 0 where
  pub accepted : AllAccepted (played 100)
  pub growing : Grows [] (played 100)
  pub none_below : NoneAddedBelow [] 0 (played 100)
  pub answers : (chain_from trembling (fresh_of 0) 0 (played 100)).answers ≡ Ok 100 ∷ Ok 28 ∷ []
  pub one-render : OneRender trembling (played 100) room

sustain_fits : T (fits binary64 trembling.adsr.sustain)
sustain_fits = of_bits-fits binary64 0x3fe0_0000_0000_0000

none_100 : NoneAddedBelow [] 0 (played 100)
none_100 = ((λ i a b. omega arith), ((λ i a b. let e : i ≡ 1 = omega arith in rw (e, position_1 100) (omega arith)), tt))

all_100 : AllAccepted (played 100)
all_100 = ((1, begins-accepted), ((2, accepted_100), tt))

done_100 : AllDone trembling (fresh_of 0) 0 (played 100)
done_100 = (chain-done trembling trembling_ok sustain_fits (played 100) all_100 (grows 100) (omega arith)).done_if none_100

pub on_time : OnTime
on_time =
    record {
      accepted = all_100;
      growing = grows 100;
      none_below = none_100;
      answers = done_100;
      one-render = chain trembling _ _ (grows 100) done_100 room (record { short = omega arith; fits = refl; magnitudes-fit = refl; numbers_fit = refl }) refl;
    }

-- ---- too late
pub record TooLate : Type 0 where
  pub accepted : AllAccepted (played 50)
  pub growing : Grows [] (played 50)
  pub one_below : NoneAddedBelow [] 0 (played 50) → ⊥
  pub answers : (chain_from trembling (fresh_of 0) 0 (played 50)).answers ≡ Ok 100 ∷ Err GivenState ∷ []
  pub heard : (chain_from trembling (fresh_of 0) 0 (played 50)).heard ≡ samples_from trembling begins 0 (fresh_of 0) 100 ++ replicate 28 half
  pub state : (chain_from trembling (fresh_of 0) 0 (played 50)).state ≡ state_from trembling begins 0 (fresh_of 0) 100

abbrev first : Step
first = record { score = begins; part = replicate 100 half }

abbrev second : Step
second = record { score = begins ++ ends_at 50; part = replicate 28 half }

-- the state that the first call answers
abbrev reached : State
reached = state_from trembling begins 0 (fresh_of 0) 100

first-call : (continue_of trembling begins (fresh_of 0) 0 (replicate 100 half)).result.answer ≡ Ok 100
first-call =
    let d = (chain-done trembling trembling_ok sustain_fits (first ∷ []) ((1, begins-accepted), tt) (record { added = begins; grown = refl }, tt) (omega arith)).done_if ((λ i a b. omega arith), tt) in
    first_done trembling (fresh_of 0) 0 first [] d

second_call : continue_of trembling (begins ++ ends_at 50) reached 100 (replicate 28 half) ≡ kept_part reached (replicate 28 half) GivenState
second_call =
    late begins (begins ++ ends_at 50) 1 2 begins-accepted accepted_50 (record { added = ends_at 50; grown = refl }) 100 trembling reached refl trembling_ok (replicate 28 half) (omega arith) 1 (omega arith) (omega arith)
    (rw (position_1 50) (omega arith))

whole : chain_from trembling (fresh_of 0) 0 (played 50) ≡ record { answers = Ok 100 ∷ Err GivenState ∷ []; heard = samples_from trembling begins 0 (fresh_of 0) 100 ++ replicate 28 half; state = reached }
unfolding chain_from
whole = chain-step trembling (fresh_of 0) 0 first (second ∷ []) first-call ∙ rw second_call refl

pub too_late : TooLate
too_late =
    record {
      accepted = ((1, begins-accepted), ((2, accepted_50), tt));
      growing = grows 50;
      one_below = λ f. (let e : 100 ≤ 50 = rw (position_1 50) at (f.1.0 1 (omega arith) (omega arith)) in omega arith);
      answers = ap (λ (o : ChainOutcome). o.answers) whole;
      heard = ap (λ (o : ChainOutcome). o.heard) whole;
      state = ap (λ (o : ChainOutcome). o.state) whole;
    }
