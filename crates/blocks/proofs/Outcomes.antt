-- What a run leaves, refused or done, from the answers of the functions that it calls. Assumes nothing.
use Rattle.std.proofs.Common.{◌≡◌, refl, ℕ, List, [], ◌∷◌, true, false, length}
use Rattle.std.specs.Prelude.{Float, is_ok}
use Rattle.answers.specs.Answer.{Answer}
use Rattle.answers.specs.Value.{value_or}
use Rattle.answers.specs.Outcome.{leaves}
use Rattle.answers.specs.declared.Refusal.{Refusal}
use Rattle.waveform.specs.declared.Radians.{Radians}
use Rattle.waveform.specs.Waveform.{reduce_of, increment_of, radians}
use Rattle.waveform.specs.Filled.{Filled}
use Rattle.blocks.specs.Block.{refusals_of, outcome_or, run_of}
use Rattle.blocks.specs.declared.Tone.{Tone}

module _ (w : List Refusal) (p q : Radians) (xs ys : List Float) where
  -- the same refusals decide the answer and the outcome
  decides-refused : is_ok (value_or w (length xs)) ≡ false → leaves (record { answer = value_or w (length xs); phase = p }) xs ≡ outcome_or w p xs q ys
  decides-refused h = go w h
    where
      go : (w : List Refusal) → is_ok (value_or w (length xs)) ≡ false → leaves (record { answer = value_or w (length xs); phase = p }) xs ≡ outcome_or w p xs q ys
      go [] h = cc
      go (why ∷ later) h = refl

  decides-done : is_ok (value_or w (length xs)) ≡ true → leaves (record { answer = value_or w (length xs); phase = q }) ys ≡ outcome_or w p xs q ys
  decides-done h = go w h
    where
      go : (w : List Refusal) → is_ok (value_or w (length xs)) ≡ true → leaves (record { answer = value_or w (length xs); phase = q }) ys ≡ outcome_or w p xs q ys
      go [] h = refl
      go (why ∷ later) h = cc

module _ (t : Tone) (highest : Float) (rate : ℕ) (xs : List Float) (a : Answer) (s : a ≡ value_or (refusals_of t highest rate) (length xs)) where
  -- 6, and 9 after 6: the phase and the lent numbers stay as they came
  pub run-refused : is_ok a ≡ false → leaves (record { answer = a; phase = t.phase }) xs ≡ run_of t highest rate xs
  unfolding run_of
  run-refused h = rw s (decides-refused (refusals_of t highest rate) t.phase _ xs _ (rw s at h))

  -- done: the samples, and the phase after them, reduced
  pub run-done : (step last q : Radians) (ys : List Float) → is_ok a ≡ true → step ≡ radians (increment_of t.frequency rate) → Filled t.waveform t.phase.0 step.0 t.depth xs ys last → q ≡ radians (reduce_of last.0) →
      leaves (record { answer = a; phase = q }) ys ≡ run_of t highest rate xs
  unfolding run_of
  run-done step last q ys h i f e = rw (s, e, f.samples, f.phase, i) (decides-done (refusals_of t highest rate) t.phase _ xs _ (rw s at h))
