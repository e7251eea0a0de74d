-- A page of edits of the calls that C makes, as a claim. `demands`' specs/Pages.antt has 02's words.
-- include/gavberin.h, of gav_edit: "old, old_len: the score that out, shelf and summary were rendered of".
-- Premise: a gav_render of the old score answered 0, and gav_edit on what it left answered 0 too. The number 0 includes
-- that the settings are known and in their domain, that the old score is accepted, that the list has whole edits and
-- the buffer 40,960 bytes, and that no edit is refused; `zero-whenever` says that it answers 0 then. One at a time is
-- one gav_rerender into the score after each edit, or one gav_edit for each edit: each takes as its old score a copy of
-- the bytes that the call before it left at the front of the buffer, as many as that call's word says.
-- The argument is in proofs/FfiPages.antt. Definitions only.
use Rattle.std.specs.Prelude.{◌≡◌, List, [], ◌∷◌, ◌++◌, map, ℕ, ◌<◌, T, length, take, drop, Err, Ok, Some}
use Rattle.std.specs.Float.{binary64}
use Rattle.std.specs.Float.Ieee.{fits}
use Rattle.answers.specs.Answer.{Answer}
use Rattle.answers.specs.declared.Refusal.{Refusal}
use Rattle.sections.specs.Outcome.{Buffers, Outcome}
use Rattle.state.specs.declared.Settings.{Settings}
use Rattle.render.specs.Calls.{made_of}
use Rattle.rerender.specs.Rerender.{plan_of, count_for}
use Rattle.page.specs.Page.{edits_in, new_score_of, AllMade, first_refusals, Rewritten, rewrites, paged}
use Rattle.demands.specs.Demand3.{BuffersOf}
use Rattle.demands.specs.Edits.{last_score}
use Rattle.demands.specs.Pages.{scores_of, once_paged, all_paged, singles_of, Whole}
use Rattle.ffi.specs.declared.Asked.{Asked}
use Rattle.ffi.specs.Packed.{packed_of, packed_page, numbers_in}
use Rattle.ffi.specs.Ffi.{choice_of, rerender_for, edit_for}
use Rattle.ffi_demands.specs.WordsChain.{AllZero}
use Rattle.ffi_demands.specs.WordsDemand3.{ffi_left, Zero}
use Rattle.ffi_demands.specs.WordsEdits.{words_edits_from}

-- ---- pages one after the other: the score at the front of the buffer, as many bytes as the word says
abbrev pub ffi_front : Rewritten ℕ → List ℕ
ffi_front c = take (numbers_in c.result).place c.space

unfoldable pub words_pages_from : Asked → List ℕ → List (List ℕ) → Buffers → List ℕ → Rewritten (List ℕ)
words_pages_from a old [] b space = rewrites [] b space
words_pages_from a old (es ∷ rest) b space =
    let c = edit_for (choice_of a) old es b space in
    let d = words_pages_from a (ffi_front c) rest c.left c.space in
    rewrites (c.result ∷ d.result) d.left d.space

-- ---- what is promised
-- after a gav_render of the old score: the word says the count of one re-render and the bytes of the new score; output,
-- shelf and summary are those of any gav_render of the new score; the new score is at the front of the buffer, the rest
-- of which stays; and a gav_render of the new score answers 0, so the next page may follow
pub record FfiAtOnce (a : Asked) (old es : List ℕ) (n : ℕ) (space : List ℕ) (o : Rewritten ℕ) : Type 0 where
  pub settings : Settings
  pub known : choice_of a ≡ Some settings
  pub word : o.result ≡ packed_page (once_paged settings old (new_score_of old es) n)
  pub reads : numbers_in o.result ≡ record { number = 0; place = length (new_score_of old es); count = count_for settings old (new_score_of old es) (plan_of old (new_score_of old es) n) (made_of settings old n).left }
  pub are_rendered : (r : BuffersOf n) → o.left ≡ (ffi_left a (new_score_of old es) r).left
  pub next : (r : BuffersOf n) → Zero (ffi_left a (new_score_of old es) r).result
  pub score-is : o.space ≡ new_score_of old es ++ drop (length (new_score_of old es)) space

-- one gav_rerender for each edit, into the score after it: the number in every word is 0, and what they leave is what
-- the page leaves
pub record FfiOneAtATime (old es : List ℕ) (chain : Outcome (List ℕ)) (o : Rewritten ℕ) : Type 0 where
  pub all_zero : AllZero chain.result
  pub last-is : last_score old (scores_of old es) ≡ new_score_of old es
  pub same_left : chain.left ≡ o.left

-- one gav_edit for each edit: the number in every word is 0, and what they leave is what the one call leaves, the score
-- at the front of the buffer too
pub record FfiPagesOfOne (a : Asked) (old es : List ℕ) (n : ℕ) (chain : Rewritten (List ℕ)) (o : Rewritten ℕ) : Type 0 where
  pub settings : Settings
  pub known : choice_of a ≡ Some settings
  pub words : chain.result ≡ map packed_page (all_paged settings old (singles_of es) n)
  pub all_zero : AllZero chain.result
  pub same_left : chain.left ≡ o.left
  pub same-score : 0 < edits_in es → take (length (new_score_of old es)) chain.space ≡ take (length (new_score_of old es)) o.space

-- beside one gav_rerender of the old score into the new one, whatever output, shelf and summary hold: the same is left
-- in these; where that is done so is the page, with the same count, and the new score is written; where that is refused
-- the page's word is the same, and nothing is written
pub record FfiBesideRerender (new space : List ℕ) (c : Outcome ℕ) (o : Rewritten ℕ) : Type 0 where
  pub answer : Answer
  pub word : c.result ≡ packed_of answer
  pub same_left : o.left ≡ c.left
  pub written : (count : ℕ) → answer ≡ Ok count → (o.result ≡ packed_page (paged (Ok count) (length new))) × (o.space ≡ new ++ drop (length new) space)
  pub kept : (why : Refusal) → answer ≡ Err why → (o.result ≡ c.result) × (o.space ≡ space)

-- ---- the claim: for any settings whose sustain is a value of an f64, as every f64 of the code is
pub record WordsPages : Type 0 where
  pub at_once : (a : Asked) → T (fits binary64 a.sustain) → (old es space : List ℕ) (n : ℕ) (r : BuffersOf n) → Zero (ffi_left a old r).result
      → Zero (edit_for (choice_of a) old es (ffi_left a old r).left space).result → FfiAtOnce a old es n space (edit_for (choice_of a) old es (ffi_left a old r).left space)
  pub zero-whenever : (a : Asked) → T (fits binary64 a.sustain) → (old es space : List ℕ) (n : ℕ) (r : BuffersOf n) → Zero (ffi_left a old r).result
      → Whole old es → length space ≡ 40960 → Zero (edit_for (choice_of a) old es (ffi_left a old r).left space).result
  pub one-at_a_time : (a : Asked) → T (fits binary64 a.sustain) → (old es space : List ℕ) (n : ℕ) (r : BuffersOf n) → Zero (ffi_left a old r).result
      → Zero (edit_for (choice_of a) old es (ffi_left a old r).left space).result
      → FfiOneAtATime old es (words_edits_from a old (scores_of old es) (ffi_left a old r).left) (edit_for (choice_of a) old es (ffi_left a old r).left space)
  -- where nothing before 8 refuses; so what specs/WordsDemand3.antt and specs/WordsPeaks.antt say of gav_rerender holds
  pub is-one-rerender : (a : Asked) (g : Settings) → choice_of a ≡ Some g → (old es : List ℕ) (b : Buffers) (space : List ℕ) → first_refusals g old es b space ≡ [] → AllMade old es
      → FfiBesideRerender (new_score_of old es) space (rerender_for (choice_of a) old (new_score_of old es) b) (edit_for (choice_of a) old es b space)
  pub pages_of_one : (a : Asked) → T (fits binary64 a.sustain) → (old es space : List ℕ) (n : ℕ) (r : BuffersOf n) → Zero (ffi_left a old r).result
      → Zero (edit_for (choice_of a) old es (ffi_left a old r).left space).result
      → FfiPagesOfOne a old es n (words_pages_from a old (singles_of es) (ffi_left a old r).left space) (edit_for (choice_of a) old es (ffi_left a old r).left space)
