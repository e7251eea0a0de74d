-- Edits as C makes them, as a claim: gav_render of a score, then gav_rerender into each next one, in one output, shelf
-- and summary.
-- include/gavberin.h, of gav_rerender: "old, old_len: the score that out, shelf and summary were rendered of"; "as for
-- gav_render, holding what gav_render or the last gav_rerender left".
-- Of the answers the claim asks only what a host sees: the number in every word is 0. The argument is in
-- proofs/FfiEdits.antt. Definitions only.
use Rattle.std.specs.Prelude.{◌≡◌, true, List, [], ◌∷◌, map, ℕ, T, Ok, Some}
use Rattle.std.specs.Float.{binary64}
use Rattle.std.specs.Float.Ieee.{fits}
use Rattle.sections.specs.Outcome.{Buffers, samples_in, Lent, Outcome, leaves}
use Rattle.state.specs.declared.Settings.{Settings}
use Rattle.state.specs.Settings.{settings_ok}
use Rattle.demands.specs.Demand3.{Taken, BuffersOf, FromSection}
use Rattle.demands.specs.Edits.{and_over, last_score, all_counted, AllTaken, NoneBefore, HonestFrom}
use Rattle.ffi.specs.declared.Asked.{Asked}
use Rattle.ffi.specs.Packed.{packed_of}
use Rattle.ffi.specs.Ffi.{choice_of, render_for, rerender_for}
use Rattle.ffi_demands.specs.WordsChain.{AllZero}
use Rattle.ffi_demands.specs.WordsDemand3.{ffi_left, Zero}

-- ---- the calls
-- re-renders into each next score, from buffers that were made of the score `old`
unfoldable pub words_edits_from : Asked → List ℕ → List (List ℕ) → Buffers → Outcome (List ℕ)
words_edits_from a old [] b = leaves [] b
words_edits_from a old (new ∷ rest) b = let c = rerender_for (choice_of a) old new b in and_over c (words_edits_from a new rest c.left)

-- a render of the first score, and then the edits
abbrev pub words_edits : Asked → List ℕ → List (List ℕ) → Buffers → Outcome (List ℕ)
words_edits a first news b = let c = render_for (choice_of a) first b in and_over c (words_edits_from a first news c.left)

-- ---- what is asked over rubbish: from section m on, what a gav_render of the old score left that answered 0, and no
-- edit before section m
pub record FfiEditing (a : Asked) (old : List ℕ) (news : List (List ℕ)) (m : ℕ) (b : Buffers) : Type 0 where
  pub sustain_fits : T (fits binary64 a.sustain)
  pub lent : Lent b
  pub honest : HonestFrom b (ffi_left a old) m
  pub zero : Zero (ffi_left a old honest.buffers).result
  pub none_before : NoneBefore m (samples_in b) old news

-- ---- what is promised
-- each call has the count that its plan has after a render of the score before; from section m on one gav_render of the
-- last score is left, before section m what came
pub record FfiEdited (a : Asked) (old : List ℕ) (news : List (List ℕ)) (m : ℕ) (b : Buffers) (o : Outcome (List ℕ)) : Type 0 where
  pub settings : Settings
  pub known : choice_of a ≡ Some settings
  pub result : o.result ≡ map packed_of (all_counted settings old news (samples_in b))
  pub left : FromSection b (ffi_left a (last_score old news)) m o.left

-- after a gav_render: each call has its count, in n samples, and together the calls leave what one
-- gav_render of the last score leaves, which is done
pub record LastFfiRender (a : Asked) (first : List ℕ) (news : List (List ℕ)) (n : ℕ) (b : Buffers) (o : Outcome (List ℕ)) : Type 0 where
  pub settings : Settings
  pub known : choice_of a ≡ Some settings
  pub result : o.result ≡ packed_of (Ok n) ∷ map packed_of (all_counted settings first news n)
  pub done : (render_for (choice_of a) (last_score first news) b).result ≡ packed_of (Ok n)
  pub left : o.left ≡ (render_for (choice_of a) (last_score first news) b).left

-- ---- the claim
pub record WordsAnyEdits : Type 0 where
  pub over_rubbish : (a : Asked) (old : List ℕ) (news : List (List ℕ)) (m : ℕ) (b : Buffers) → FfiEditing a old news m b → AllZero (words_edits_from a old news b).result → FfiEdited a old news m b (words_edits_from a old news b)
  -- every number is 0 where the scores are accepted
  pub over_rubbish_zero : (a : Asked) (old : List ℕ) (news : List (List ℕ)) (m : ℕ) (b : Buffers) → FfiEditing a old news m b → AllTaken news → AllZero (words_edits_from a old news b).result
  -- whatever buffers of the same size the last score is rendered in
  pub from_a_render : (a : Asked) → T (fits binary64 a.sustain) → (first : List ℕ) (news : List (List ℕ)) (b : Buffers) → AllZero (words_edits a first news b).result
      → (r : BuffersOf (samples_in b)) → LastFfiRender a first news (samples_in b) r.buffers (words_edits a first news b)
  -- every number is 0 under settings in their domain, for accepted scores, an output of at most 16,777,216 samples, and
  -- a shelf and a summary that fit it
  pub from_a_render-zero : (a : Asked) → T (fits binary64 a.sustain) → (first : List ℕ) (news : List (List ℕ)) (b : Buffers)
      → (g : Settings) → choice_of a ≡ Some g → settings_ok g ≡ true → Lent b → Taken first → AllTaken news → AllZero (words_edits a first news b).result
