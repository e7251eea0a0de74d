-- A chain of continuing calls, as a claim.
-- 01, "Making sample n": "So a render continued from the fresh state at 0 over consecutive parts of one output buffer,
-- cut anywhere, under the same settings and one score or one that grows only at its end and is accepted each time,
-- gives the samples and end state of one render of the last score"; "What a call says", 10: "the score's records below
-- its position differ in number from those acted".
-- Stricter than 01's premise, which asks for accepted scores: every call must answer 0. A record that is added below
-- the position already reached leaves the score accepted, and the call is 10. That every call answers 0 includes that
-- every score is accepted; `DoneExactly` says when every call answers 0.
-- The argument is in proofs/Chain.antt. Definitions only.
use Rattle.std.specs.Prelude.{◌≡◌, true, List, [], ◌∷◌, ◌++◌, ℕ, ◌+◌, ◌≤◌, ◌<◌, T, length, Float, Ok}
use Rattle.std.specs.Float.{binary64}
use Rattle.std.specs.Float.Ieee.{fits}
use Rattle.answers.specs.Answer.{Answer}
use Rattle.score.specs.Record.{count_of, position_at}
use Rattle.score.specs.Score.{verdict_of}
use Rattle.state.specs.declared.Settings.{Settings}
use Rattle.state.specs.declared.State.{State}
use Rattle.state.specs.Settings.{settings_ok}
use Rattle.state.specs.State.{fresh_of}
use Rattle.sections.specs.Outcome.{Buffers, samples_in, Lent}
use Rattle.judging.specs.Judging.{most_samples}
use Rattle.render.specs.Calls.{PartOutcome, render_of, continue_of}

-- a call: its score, and the part of the output that the call is lent
pub record Step : Type 0 where
  pub score : List ℕ
  pub part : List Float

-- what a chain leaves: the answer of each call, the parts one after the other, the end state
pub record ChainOutcome : Type 0 where
  pub answers : List Answer
  pub heard : List Float
  pub state : State

-- a call, and then the rest of the chain
abbrev pub and_then : PartOutcome → ChainOutcome → ChainOutcome
and_then c rest = record { answers = c.result.answer ∷ rest.answers; heard = c.heard ++ rest.heard; state = rest.state }

-- from state v at position p: a call on its part, then the rest from the state that the call answers, at the end of the
-- part
unfoldable pub chain_from : Settings → State → ℕ → List Step → ChainOutcome
chain_from g v p [] = record { answers = []; heard = []; state = v }
chain_from g v p (x ∷ xs) = let c = continue_of g x.score v p x.part in and_then c (chain_from g c.result.state (p + length x.part) xs)

-- the length of the output that was cut into the parts
abbrev pub samples_of : List Step → ℕ
samples_of [] = 0
samples_of (x ∷ xs) = length x.part + samples_of xs

-- the last score of a chain; s where the chain has no call
abbrev pub last_of : List ℕ → List Step → List ℕ
last_of s [] = s
last_of s (x ∷ xs) = last_of x.score xs

-- ---- what is asked of a chain
-- every call answers 0, with as many samples written as its part has
abbrev pub done_all : List Step → List Answer
done_all [] = []
done_all (x ∷ xs) = Ok (length x.part) ∷ done_all xs

abbrev pub AllDone : Settings → State → ℕ → List Step → Type 0
AllDone g v p xs = (chain_from g v p xs).answers ≡ done_all xs

-- t is s with any number of bytes after it
pub record Grown (s t : List ℕ) : Type 0 where
  pub added : List ℕ
  pub grown : t ≡ s ++ added

-- each score is the one before it, grown; s is the score before the first
abbrev pub Grows : List ℕ → List Step → Type 0
Grows s [] = Unit
Grows s (x ∷ xs) = Grown s x.score × Grows x.score xs

-- every score is accepted
abbrev pub AllAccepted : List Step → Type 0
AllAccepted [] = Unit
AllAccepted (x ∷ xs) = ((n : ℕ) × (verdict_of x.score ≡ Ok n)) × AllAccepted xs

-- no record that t has after those of s has a position below p
abbrev pub NoneBelow : List ℕ → List ℕ → ℕ → Type 0
NoneBelow s t p = (i : ℕ) → count_of s ≤ i → i < count_of t → p ≤ position_at t i

-- no call's score adds a record below the position p that was reached before the call
abbrev pub NoneAddedBelow : List ℕ → ℕ → List Step → Type 0
NoneAddedBelow s p [] = Unit
NoneAddedBelow s p (x ∷ xs) = NoneBelow s x.score p × NoneAddedBelow x.score (p + length x.part) xs

-- ---- what is promised, of a chain from the fresh state at 0
-- the chain leaves the samples and end state of one render of the last score, and that render is done
pub record OneRender (g : Settings) (xs : List Step) (b : Buffers) : Type 0 where
  pub done : (render_of g (last_of [] xs) b).result.answer ≡ Ok (samples_of xs)
  pub heard : (chain_from g (fresh_of 0) 0 xs).heard ≡ (render_of g (last_of [] xs) b).left.heard
  pub state : (chain_from g (fresh_of 0) 0 xs).state ≡ (render_of g (last_of [] xs) b).result.state

-- every call answers 0 exactly when no record was added below the position already reached
pub record DoneExactly (g : Settings) (xs : List Step) : Type 0 where
  pub done_only_if : AllDone g (fresh_of 0) 0 xs → NoneAddedBelow [] 0 xs
  pub done_if : NoneAddedBelow [] 0 xs → AllDone g (fresh_of 0) 0 xs

-- ---- the claim
pub record PartsAreOne : Type 0 where
  -- for one call or more, any output of that length, and any shelf and summary that fit it
  pub one-render : (g : Settings) (x : Step) (xs : List Step) → Grows [] (x ∷ xs) → AllDone g (fresh_of 0) 0 (x ∷ xs)
      → (b : Buffers) → Lent b → samples_in b ≡ samples_of (x ∷ xs) → OneRender g (x ∷ xs) b
  -- under settings in their domain; the sustain is a value of an f64, as every f64 of the code is
  pub done_exactly : (g : Settings) → settings_ok g ≡ true → T (fits binary64 g.adsr.sustain) → (xs : List Step) → AllAccepted xs → Grows [] xs → samples_of xs ≤ most_samples → DoneExactly g xs
