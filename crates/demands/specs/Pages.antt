-- A page of edits at once, as a claim.
-- 02, R-6: "Where samples, shelf and summary came as a render of the old score, with the same settings and length, left
-- them, all three and the score equal those of the edits made one at a time, each followed by its re-render. Only the
-- count is of the single pass."
-- "Insert puts the record after all those at its position or lower; remove takes the first equal record": said of
-- records and their bytes in `insert-is` and `remove-is`, for a list of one edit. `pages_of_one` takes a longer list
-- apart into such lists, so the three decide the score after any list.
-- One at a time is said twice: as re-renders into the score after each edit (`one-at_a_time`), and as pages of one edit
-- each, where every call begins from the score that the call before it left at the front of the buffer
-- (`pages_of_one`). A chain of pages may leave bytes of a longer score behind the last one, so of the buffer it is said
-- that the last score is at its front; where there is no edit, and so no call, nothing is written.
-- Where nothing before 8 refuses, and whatever output, shelf and summary hold, the call leaves what one re-render of
-- the two scores leaves (`is-one-rerender`), so what Demand 3 says of a re-render holds for it. What its count is, in
-- the words of two renders, `counts` of specs/Edits.antt says.
-- The argument is in proofs/Pages.antt. Definitions only.
use Rattle.std.specs.Prelude.{◌≡◌, true, List, [], ◌∷◌, ◌++◌, ℕ, zero, suc, ◌*◌, ◌%◌, ◌≤◌, ◌<◌, T, length, get_or, take, drop, Err, Ok, Some}
use Rattle.std.specs.Float.{binary64}
use Rattle.std.specs.Float.Ieee.{fits}
use Rattle.answers.specs.Answer.{Answer}
use Rattle.answers.specs.declared.Refusal.{Refusal}
use Rattle.sections.specs.Outcome.{Buffers, samples_in, Outcome}
use Rattle.score.specs.declared.Record.{Record}
use Rattle.score.specs.Record.{Valid, encode_of, blank, encode_all}
use Rattle.score.specs.Score.{IsScore}
use Rattle.score.specs.Apart.{difference_of}
use Rattle.state.specs.declared.Settings.{Settings}
use Rattle.state.specs.Settings.{settings_ok}
use Rattle.render.specs.Calls.{made_of}
use Rattle.rerender.specs.Rerender.{plan_of, count_for, rerender_of}
use Rattle.page.specs.declared.Paged.{Paged}
use Rattle.page.specs.Page.{edits_in, score_after, new_score_of, AllMade, first_refusals, Rewritten, rewrites, paged, edit_of}
use Rattle.demands.specs.Demand3.{Taken, BuffersOf, left_in}
use Rattle.demands.specs.Edits.{edits_from, last_score, all_counted}

-- ---- the scores
-- the scores after each of k edits from edit i on
unfoldable pub scores_from : List ℕ → List ℕ → ℕ → ℕ → List (List ℕ)
scores_from old es zero i = []
scores_from old es (suc k) i = score_after old es (suc i) ∷ scores_from old es k (suc i)

abbrev pub scores_of : List ℕ → List ℕ → List (List ℕ)
scores_of old es = scores_from old es (edits_in es) 0

-- ---- pages one after the other, in the same buffers
-- the score that a page which is done left at the front of the lent buffer
abbrev pub front_of : Rewritten Paged → List ℕ
front_of c = take c.result.bytes c.space

-- each page begins from the score that the page before it left; of use only where all are done
unfoldable pub pages_from : Settings → List ℕ → List (List ℕ) → Buffers → List ℕ → Rewritten (List Paged)
pages_from g old [] b space = rewrites [] b space
pages_from g old (es ∷ rest) b space =
    let c = edit_of g old es b space in
    let d = pages_from g (front_of c) rest c.left c.space in
    rewrites (c.result ∷ d.result) d.left d.space

-- the score after the last page
unfoldable pub score_over : List ℕ → List (List ℕ) → List ℕ
score_over old [] = old
score_over old (es ∷ rest) = score_over (new_score_of old es) rest

-- done, with the count of one re-render of the old score into the new one after a render of the old one in n samples,
-- and with the bytes of the new score
abbrev pub once_paged : Settings → List ℕ → List ℕ → ℕ → Paged
once_paged g old new n = paged (Ok (count_for g old new (plan_of old new n) (made_of g old n).left)) (length new)

unfoldable pub all_paged : Settings → List ℕ → List (List ℕ) → ℕ → List Paged
all_paged g old [] n = []
all_paged g old (es ∷ rest) n = let new = new_score_of old es in once_paged g old new n ∷ all_paged g new rest n

-- the fourteen bytes of edit i, as a page of one edit; and such a page for each of k edits from edit i on
abbrev pub one_edit : List ℕ → ℕ → List ℕ
one_edit es i = take 14 (drop (i * 14) es)

unfoldable pub singles_from : List ℕ → ℕ → ℕ → List (List ℕ)
singles_from es zero i = []
singles_from es (suc k) i = one_edit es i ∷ singles_from es k (suc i)

abbrev pub singles_of : List ℕ → List (List ℕ)
singles_of es = singles_from es (edits_in es) 0

-- ---- what is asked
-- settings in their domain, and an accepted old score; the sustain is a value of an f64, as every f64 of the code is
pub record Begins (g : Settings) (old : List ℕ) : Type 0 where
  pub settings : settings_ok g ≡ true
  pub sustain_fits : T (fits binary64 g.adsr.sustain)
  pub old_taken : Taken old

-- a list of whole edits that can all be made
pub record Whole (old es : List ℕ) : Type 0 where
  pub whole_edits : length es % 14 ≡ 0
  pub all_made : AllMade old es

-- the same of every page
abbrev pub AllWhole : List ℕ → List (List ℕ) → Type 0
AllWhole old [] = Unit
AllWhole old (es ∷ rest) = Whole old es × AllWhole (new_score_of old es) rest

-- ---- what is promised
-- after a render of the old score: the call is done; output, shelf and summary are those of any render of the new
-- score; the new score is at the front of the buffer, the rest of which stays
pub record AtOnce (g : Settings) (old es : List ℕ) (n : ℕ) (space : List ℕ) (o : Rewritten Paged) : Type 0 where
  pub answered : o.result ≡ once_paged g old (new_score_of old es) n
  pub are_rendered : (r : BuffersOf n) → o.left ≡ (left_in g (new_score_of old es) r).left
  pub score-is : o.space ≡ new_score_of old es ++ drop (length (new_score_of old es)) space

-- one re-render for each edit: each is done, the last score is the page's, and what they leave is what the page leaves
pub record OneAtATime (g : Settings) (old es : List ℕ) (n : ℕ) (chain : Outcome (List Answer)) (o : Rewritten Paged) : Type 0 where
  pub all_done : chain.result ≡ all_counted g old (scores_of old es) n
  pub last-is : last_score old (scores_of old es) ≡ new_score_of old es
  pub same_left : chain.left ≡ o.left

-- pages one after the other: each is done, one render of the last score is left, and that score is at the front
pub record PageByPage (g : Settings) (old : List ℕ) (pages : List (List ℕ)) (n : ℕ) (chain : Rewritten (List Paged)) : Type 0 where
  pub answered : chain.result ≡ all_paged g old pages n
  pub are_rendered : (r : BuffersOf n) → chain.left ≡ (left_in g (score_over old pages) r).left
  pub front-is : 0 < length pages → take (length (score_over old pages)) chain.space ≡ score_over old pages

-- one page for each edit: so also, and what they leave is what the one page leaves
pub record PagesOfOne (g : Settings) (old es : List ℕ) (n : ℕ) (chain : Rewritten (List Paged)) (o : Rewritten Paged) : Type 0 where
  pub by_page : PageByPage g old (singles_of es) n chain
  pub last-is : score_over old (singles_of es) ≡ new_score_of old es
  pub same_left : chain.left ≡ o.left
  pub same-score : 0 < edits_in es → take (length (new_score_of old es)) chain.space ≡ take (length (new_score_of old es)) o.space

-- beside one re-render of the old score into the new one: the same answer, and the same left in output, shelf and
-- summary; the new score is written exactly where the re-render is done
pub record BesideRerender (new : List ℕ) (space : List ℕ) (c : Outcome Answer) (o : Rewritten Paged) : Type 0 where
  pub same_answer : o.result.answer ≡ c.result
  pub same_left : o.left ≡ c.left
  pub written : (count : ℕ) → c.result ≡ Ok count → (o.result.bytes ≡ length new) × (o.space ≡ new ++ drop (length new) space)
  pub kept : (why : Refusal) → c.result ≡ Err why → (o.result.bytes ≡ 0) × (o.space ≡ space)

-- a list of one edit can be made, and leaves the score of these records
pub record Makes (old es : List ℕ) (records : List Record) : Type 0 where
  pub all_made : AllMade old es
  pub score-is : new_score_of old es ≡ encode_all records

-- ---- the claim
pub record PagesOfEdits : Type 0 where
  -- a record put behind those at its position or lower, and a record taken out where no record before it is the same
  pub insert-is : (old : List ℕ) (front back : List Record) (r : Record) → IsScore old (front ++ back) → length (front ++ back) < 4096 → Valid r
      → ((i : ℕ) → i < length front → (get_or front i blank).position ≤ r.position) → ((i : ℕ) → i < length back → r.position < (get_or back i blank).position)
      → Makes old (0x45 ∷ 0x44 ∷ 1 ∷ 0 ∷ encode_of r) (front ++ (r ∷ back))
  pub remove-is : (old : List ℕ) (front back : List Record) (r : Record) → IsScore old (front ++ (r ∷ back)) → ((i : ℕ) → i < length front → get_or front i blank ≡ r → ⊥)
      → Makes old (0x45 ∷ 0x44 ∷ 2 ∷ 0 ∷ encode_of r) (front ++ back)
  -- an accepted score stays one
  pub new-taken : (old es : List ℕ) → Taken old → AllMade old es → Taken (new_score_of old es)
  -- after a render of the old score
  pub at_once : (g : Settings) (old es space : List ℕ) → Begins g old → Whole old es → length space ≡ 40960 → (n : ℕ) (r : BuffersOf n)
      → AtOnce g old es n space (edit_of g old es (left_in g old r).left space)
  pub one-at_a_time : (g : Settings) (old es space : List ℕ) → Begins g old → Whole old es → length space ≡ 40960 → (n : ℕ) (r : BuffersOf n)
      → OneAtATime g old es n (edits_from g old (scores_of old es) (left_in g old r).left) (edit_of g old es (left_in g old r).left space)
  pub page_by_page : (g : Settings) (old : List ℕ) (pages : List (List ℕ)) (space : List ℕ) → Begins g old → AllWhole old pages → length space ≡ 40960 → (n : ℕ) (r : BuffersOf n)
      → PageByPage g old pages n (pages_from g old pages (left_in g old r).left space)
  pub pages_of_one : (g : Settings) (old es space : List ℕ) → Begins g old → Whole old es → length space ≡ 40960 → (n : ℕ) (r : BuffersOf n)
      → PagesOfOne g old es n (pages_from g old (singles_of es) (left_in g old r).left space) (edit_of g old es (left_in g old r).left space)
  -- whatever output, shelf and summary hold
  pub is-one-rerender : (g : Settings) (old es : List ℕ) (b : Buffers) (space : List ℕ) → first_refusals g old es b space ≡ [] → AllMade old es
      → BesideRerender (new_score_of old es) space (rerender_of g old (new_score_of old es) b) (edit_of g old es b space)
  -- edits that together leave the old score, such as none, or that lie past the end: the score is written, and nothing
  -- else
  pub equal : (g : Settings) (old es : List ℕ) (b : Buffers) (space : List ℕ) → first_refusals g old es b space ≡ [] → AllMade old es → new_score_of old es ≡ old
      → edit_of g old es b space ≡ rewrites (paged (Ok 0) (length (new_score_of old es))) b (new_score_of old es ++ drop (length (new_score_of old es)) space)
  pub late : (g : Settings) (old es : List ℕ) (b : Buffers) (space : List ℕ) → first_refusals g old es b space ≡ [] → AllMade old es
      → (p : ℕ) → difference_of old (new_score_of old es) ≡ Some p → samples_in b ≤ p
      → edit_of g old es b space ≡ rewrites (paged (Ok 0) (length (new_score_of old es))) b (new_score_of old es ++ drop (length (new_score_of old es)) space)
