-- Edits one after the other, as a claim.
-- Why the voice exists (the demands): "A slowly falling pad had lost eleven percent of its level after its fifth edit";
-- "every edit started from a state some milliseconds past the cut".
-- A score is rendered; then each next score is re-rendered, after the score before it, into the same output, shelf and
-- summary. After any number of edits every call is done with its count, and output, shelf and summary are those of one
-- render of the last score, wherever each call stopped (02, R-12).
-- The claim also covers buffers that hold what a render left only from section m on (`HonestFrom`), where no edit lies
-- before section m: what lies before section m stays as it came.
-- The argument is in proofs/Edits.antt. Definitions only.
use Rattle.std.specs.Prelude.{◌≡◌, true, List, [], ◌∷◌, ℕ, ◌-◌, ◌*◌, min, ◌≤◌, ◌<◌, T, Ok, Some}
use Rattle.std.specs.Float.{binary64}
use Rattle.std.specs.Float.Ieee.{fits}
use Rattle.sections.specs.Outcome.{Buffers, samples_in, Lent, onward, Outcome, leaves}
use Rattle.answers.specs.Answer.{Answer}
use Rattle.score.specs.Apart.{difference_of}
use Rattle.shelf.specs.Shelf.{section_size}
use Rattle.state.specs.declared.Settings.{Settings}
use Rattle.state.specs.Settings.{settings_ok}
use Rattle.render.specs.Calls.{made_of}
use Rattle.judging.specs.Judging.{most_samples}
use Rattle.rerender.specs.Rerender.{plan_of, count_for, rerender_of}
use Rattle.demands.specs.Demand3.{Taken, Edit, BuffersOf, left_in, StopsAt, FromSection}

-- ---- the calls
-- a call, and then the rest: the answer of each call, and what the rest leaves in the same buffers
abbrev pub and_over : {A : Type 0} → Outcome A → Outcome (List A) → Outcome (List A)
and_over c rest = leaves (c.result ∷ rest.result) rest.left

-- re-renders into each next score, from buffers that were made of the score `old`
unfoldable pub edits_from : Settings → List ℕ → List (List ℕ) → Buffers → Outcome (List Answer)
edits_from g old [] b = leaves [] b
edits_from g old (new ∷ rest) b = let c = rerender_of g old new b in and_over c (edits_from g new rest c.left)

-- the last score; `old` where there is no edit
unfoldable pub last_score : List ℕ → List (List ℕ) → List ℕ
last_score old [] = old
last_score old (new ∷ rest) = last_score new rest

-- each call is done, with the count that its plan has in what a render of the score before leaves in n samples
unfoldable pub all_counted : Settings → List ℕ → List (List ℕ) → ℕ → List Answer
all_counted g old [] n = []
all_counted g old (new ∷ rest) n = Ok (count_for g old new (plan_of old new n) (made_of g old n).left) ∷ all_counted g new rest n

-- ---- what is asked
-- every score is accepted
abbrev pub AllTaken : List (List ℕ) → Type 0
AllTaken [] = Unit
AllTaken (s ∷ rest) = Taken s × AllTaken rest

-- no edit that changes a record before sample n changes one before section m
abbrev pub NoneBefore : ℕ → ℕ → List ℕ → List (List ℕ) → Type 0
NoneBefore m n old [] = Unit
NoneBefore m n old (new ∷ rest) = ((p : ℕ) → difference_of old new ≡ Some p → p < n → m * section_size ≤ p) × NoneBefore m n new rest

-- from section m on, the buffers hold what the render left in some buffers of the same size; before section m, anything
pub record HonestFrom {R : Type 0} (b : Buffers) (render : BuffersOf (samples_in b) → Outcome R) (m : ℕ) : Type 0 where
  pub buffers : BuffersOf (samples_in b)
  pub were_left : onward m b ≡ onward m (render buffers).left

pub record Editing (g : Settings) (old : List ℕ) (news : List (List ℕ)) (m : ℕ) (b : Buffers) : Type 0 where
  pub settings : settings_ok g ≡ true
  pub sustain_fits : T (fits binary64 g.adsr.sustain)
  pub old_taken : Taken old
  pub news_taken : AllTaken news
  pub lent : Lent b
  pub honest : HonestFrom b (left_in g old) m
  pub none_before : NoneBefore m (samples_in b) old news

-- ---- what is promised
-- every call is done with its count; from section m on one render of the last score is left, before section m what came
pub record Edited (g : Settings) (old : List ℕ) (news : List (List ℕ)) (m : ℕ) (b : Buffers) (o : Outcome (List Answer)) : Type 0 where
  pub answered : o.result ≡ all_counted g old news (samples_in b)
  pub left : FromSection b (left_in g (last_score old news)) m o.left

-- after a render of the old score: the whole output, shelf and summary are those of any render of the last score
pub record EditedWhole (g : Settings) (old : List ℕ) (news : List (List ℕ)) (n : ℕ) (o : Outcome (List Answer)) : Type 0 where
  pub answered : o.result ≡ all_counted g old news n
  pub are_rendered : (r : BuffersOf n) → o.left ≡ (left_in g (last_score old news) r).left

-- what that count is for an edit that starts at section m: the samples from its start to its stop
pub record CountIs (g : Settings) (old new : List ℕ) (m n : ℕ) : Type 0 where
  pub stop_section : ℕ
  pub stops : StopsAt g old new m n stop_section
  pub count-is : count_for g old new (Some m) (made_of g old n).left ≡ min (stop_section * section_size) n - m * section_size

-- ---- the claim
pub record AnyEdits : Type 0 where
  pub over_rubbish : (g : Settings) (old : List ℕ) (news : List (List ℕ)) (m : ℕ) (b : Buffers) → Editing g old news m b → Edited g old news m b (edits_from g old news b)
  pub from_a_render : (g : Settings) → settings_ok g ≡ true → T (fits binary64 g.adsr.sustain) → (old : List ℕ) (news : List (List ℕ)) → Taken old → AllTaken news → (n : ℕ) (r : BuffersOf n)
      → EditedWhole g old news n (edits_from g old news (left_in g old r).left)
  pub counts : (g : Settings) (old new : List ℕ) → Edit g old new → (n : ℕ) → n ≤ most_samples → (m : ℕ) → plan_of old new n ≡ Some m → CountIs g old new m n
