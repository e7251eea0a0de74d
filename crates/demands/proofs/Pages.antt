-- The claim of specs/Pages.antt. A page whose list and edits are not refused is one re-render of the old score into the
-- score after its last edit, which is accepted; and a re-render of a whole render leaves the whole render of the new
-- score (proofs/Edits.antt), wherever it stops. So does a re-render, or a page, for each edit. An edit alone in a page
-- has the bytes that it has in the list, so it makes the same score. Assumes nothing.
use Rattle.std.specs.Prelude.{None, Ok, Option}
use mathlib.Core.Path.{◌≡◌, refl, sym, subst, ap, ◌∙◌}
use mathlib.Core.Bool.{Bool, true, false, cond}
use mathlib.Core.List.{List, [], ◌∷◌, ◌++◌, map}
use mathlib.Core.Logic.{◌⊎◌, inl, inr, ⊎_elim}
use Prim.Native.Nat.{ℕ, zero, suc, ◌+◌, ◌*◌, ◌/◌, ◌%◌, ◌≤◌, ◌<◌}
use native.Mathlib.Omega.{arith}
use lib.Dec.{T, eqb, ltb}
use lib.ListN.{length, get_or, take, drop, length-append, length-drop}
use lib.Seq.{length-take-le, take-take, take-add, take_at, drop_at, drop-drop, get_or-take, get_or-drop}
use lib.Ieee.{binary64, fits}
use borrow.Author.Tests.{eq-eqb}
use Rattle.answers.specs.Order.{unless, first_of}
use Rattle.answers.specs.Answer.{Answer}
use Rattle.answers.specs.declared.Refusal.{Refusal}
use Rattle.answers.specs.declared.Refusal.TheVariants.{Page, EditFrame, NotThere, Full, Edit}
use Rattle.answers.specs.declared.ScoreFault.TheVariants.{Mark, Kind, Field}
use Rattle.answers.proofs.Order as order
use Rattle.answers.proofs.Order.{passed, none_both, none-map}
use Rattle.sections.specs.Outcome.{Buffers, samples_in, room_in, Lent, Outcome}
use Rattle.sections.proofs.Room.{room_in_lem}
use Rattle.score.specs.Record.{count_of}
use Rattle.score.specs.Score.{mark_right, kind_right, fields_right}
use Rattle.score.specs.Apart.{difference_of, first_equal}
use Rattle.score.proofs.Agree.{self-equal}
use Rattle.score.proofs.Parted.{clash}
use Rattle.score.proofs.Verdicts.{accepted_faults, none-accepted}
use Rattle.state.specs.declared.Settings.{Settings}
use Rattle.state.specs.Settings.{settings_ok}
use Rattle.judging.specs.Judging.{refusals_of, Passed, most_samples}
use Rattle.judging.proofs.Refusals.{all_passed, none-refused}
use Rattle.rerender.specs.Rerender as rerender
use Rattle.rerender.specs.Rerender.{plan_of, outcome_of, start_refusals, count_for, rerender_of}
use Rattle.rerender.proofs.Cases.{plan_equal, plan_late}
use Rattle.page.specs.declared.Paged.{Paged}
use Rattle.page.specs.Page.{edits_in, edit_byte, frame_right, is_insert, record_of, inserted_of, removed_of, edited_by, score_after, new_score_of, record_faults, held_refusals, edit_refusals, Rewritten, rewrites, paged, page_fits, first_refusals, kept_of, turned_over, edit_of, AllMade}
use Rattle.page.specs.Inner.{IsAccepted, turn_of}
use Rattle.page.proofs.Taken.{accepted-bytes, after-accepted, made_none}
use Rattle.page.proofs.Calls.{outcome_done, edit_turns, turn_is}
use Rattle.page.proofs.Records.{insert-made, insert-is, remove-made, remove-is}
use Rattle.demands.specs.Demand3.{Taken, BuffersOf, left_in}
use Rattle.demands.specs.Demand3 as demand3
use Rattle.demands.specs.Edits.{edits_from, last_score, AllTaken}
use Rattle.demands.specs.Pages.{scores_from, scores_of, front_of, pages_from, score_over, once_paged, all_paged, one_edit, singles_from, singles_of, Begins, Whole, AllWhole, AtOnce, OneAtATime, PageByPage, PagesOfOne, BesideRerender, PagesOfEdits}
use Rattle.demands.proofs.Cut.{sized-lent}
use Rattle.demands.proofs.Whole.{whole_of, whole-sized, left_is}
use Rattle.demands.proofs.Edits.{one_edit_lem, any_edits}

-- ---- accepted scores
taken-accepted : (s : List ℕ) → Taken s → IsAccepted s
taken-accepted s a = none-accepted s (accepted_faults s a.records a.accepted)

-- after each edit
after-taken : (old es : List ℕ) → Taken old → AllMade old es → (k : ℕ) → k ≤ edits_in es → Taken (score_after old es k)
after-taken old es a made k h = record { records = count_of (score_after old es k); accepted = after-accepted old es (taken-accepted old a) k h (λ i l. made i (omega arith)) }

new-taken : (old es : List ℕ) → Taken old → AllMade old es → Taken (new_score_of old es)
new-taken old es a made = after-taken old es a made (edits_in es) (omega arith)

-- ---- one page, whatever output, shelf and summary hold
-- the same refusals decide a re-render and a page
beside : (new space : List ℕ) (b : Buffers) (o : Outcome Answer) (count : ℕ) → o.result ≡ Ok count → (xs : List Refusal)
    → BesideRerender new space (first_of xs (rerender.kept_of b) o) (first_of xs (kept_of b space) (turned_over o new space))
beside new space b o count done [] = record { same_answer = refl; same_left = refl; written = λ c e. (refl, refl); kept = λ why e. absurd (clash (cc)) }
beside new space b o count done (x ∷ xs) = record { same_answer = refl; same_left = refl; written = λ c e. absurd (clash (cc)); kept = λ why e. (refl, refl) }

module _ (g : Settings) (old es : List ℕ) (b : Buffers) (space : List ℕ) (first : first_refusals g old es b space ≡ []) (made : AllMade old es) where
  abbrev new : List ℕ
  new = new_score_of old es

  abbrev plan : Option ℕ
  plan = plan_of old new (samples_in b)

  abbrev starts : List Refusal
  starts = start_refusals new plan b.stored

  all_right_lem : Passed g (room_in b) old
  unfolding first_refusals
  all_right_lem = all_passed g (room_in b) old (none_both (refusals_of g (room_in b) old) (unless (page_fits es space) Page) first).0

  turns : edit_of g old es b space ≡ first_of starts (kept_of b space) (turned_over (outcome_of g old new plan b) new space)
  unfolding turn_of
  turns = edit_turns g old es b space first (made_none old es (edits_in es) 0 (λ j h l. made j (omega arith)))

  re_renders : rerender_of g old new b ≡ first_of starts (rerender.kept_of b) (outcome_of g old new plan b)
  re_renders = turn_is g old new b all_right_lem (after-accepted old es all_right_lem.accepted (edits_in es) (omega arith) made)

  one-rerender : BesideRerender new space (rerender_of g old new b) (edit_of g old es b space)
  one-rerender =
      subst (λ (o : Rewritten Paged). BesideRerender new space (rerender_of g old new b) o) (sym turns)
      (subst (λ (c : Outcome Answer). BesideRerender new space c (first_of starts (kept_of b space) (turned_over (outcome_of g old new plan b) new space))) (sym re_renders)
      (beside new space b (outcome_of g old new plan b) (count_for g old new plan b) (outcome_done g old new b plan) starts))

  -- where the re-render is done
  page_done : (count : ℕ) → (rerender_of g old new b).result ≡ Ok count → edit_of g old es b space ≡ turned_over (rerender_of g old new b) new space
  page_done count e =
      let none : starts ≡ [] = order.none-refused starts (rerender.kept_of b) (outcome_of g old new plan b) (λ (o : Outcome Answer). o.result) count (λ why. refl) (ap (λ (o : Outcome Answer). o.result) (sym re_renders) ∙ e) in
      let run : rerender_of g old new b ≡ outcome_of g old new plan b = re_renders ∙ ap (λ (xs : List Refusal). first_of xs (rerender.kept_of b) (outcome_of g old new plan b)) none in
      turns ∙ ap (λ (xs : List Refusal). first_of xs (kept_of b space) (turned_over (outcome_of g old new plan b) new space)) none ∙ ap (λ (o : Outcome Answer). turned_over o new space) (sym run)

  -- where its plan is nothing
  nothing_done : None ≡ plan → edit_of g old es b space ≡ rewrites (paged (Ok 0) (length new)) b (new ++ drop (length new) space)
  nothing_done q = turns ∙ ap (λ (p : Option ℕ). first_of (start_refusals new p b.stored) (kept_of b space) (turned_over (outcome_of g old new p b) new space)) (sym q)

-- ---- pages after a render
-- the new score over the front of a buffer: it is there, and the buffer is as long as it was
module _ (new space : List ℕ) where
  front-new : take (length new) (new ++ drop (length new) space) ≡ new
  front-new = take_at new (drop (length new) space) (length new) refl

  stays-long : IsAccepted new → length space ≡ 40960 → length (new ++ drop (length new) space) ≡ 40960
  stays-long a e = length-append new (drop (length new) space) ∙ omega (arith, length-drop (length new) space, accepted-bytes new a, e)

module _ (g : Settings) (ok : settings_ok g ≡ true) (w : T (fits binary64 g.adsr.sustain)) (n : ℕ) (short : n ≤ most_samples) where
  -- a page on a whole render of the old score leaves the whole render of the new one
  one_page : (old es space : List ℕ) → Taken old → Whole old es → length space ≡ 40960
      → edit_of g old es (whole_of g old n) space ≡ rewrites (once_paged g old (new_score_of old es) n) (whole_of g (new_score_of old es) n) (new_score_of old es ++ drop (length (new_score_of old es)) space)
  unfolding first_refusals
  one_page old es space a page room =
      let new = new_score_of old es in
      let b = whole_of g old n in
      let lent : Lent b = sized-lent n b short (whole-sized g old n) in
      let first : first_refusals g old es b space ≡ [] = rw (none-refused g (room_in b) old a.records ok (room_in_lem b lent) a.accepted, eq-eqb (length es % 14) 0 page.whole_edits, eq-eqb (length space) 40960 room) refl in
      let x : demand3.Edit g old new = record { settings = ok; sustain_fits = w; old_taken = a; new-taken = new-taken old es a page.all_made } in
      let one = one_edit_lem g old new x n short 0 (λ p e l. omega arith) b (record { sized = whole-sized g old n; holds = refl }) in
      page_done g old es b space first page.all_made (count_for g old new (plan_of old new n) b) one.counted
      ∙ ap (λ (r : Answer). rewrites (paged r (length new)) (rerender_of g old new b).left (new ++ drop (length new) space)) one.counted
      ∙ ap (λ (c : Buffers). rewrites (once_paged g old new n) c (new ++ drop (length new) space)) one.holds.holds

  record ManyPages (old : List ℕ) (pages : List (List ℕ)) (space : List ℕ) (o : Rewritten (List Paged)) : Type 0 where
    answered : o.result ≡ all_paged g old pages n
    holds : o.left ≡ whole_of g (score_over old pages) n
    -- the last score is at the front where there is a page, or where the first one was
    front : (0 < length pages) ⊎ (take (length old) space ≡ old) → take (length (score_over old pages)) o.space ≡ score_over old pages

  all_pages : (old : List ℕ) (pages : List (List ℕ)) (space : List ℕ) → Taken old → AllWhole old pages → length space ≡ 40960 → ManyPages old pages space (pages_from g old pages (whole_of g old n) space)
  unfolding pages_from score_over all_paged
  all_pages old [] space a c room = record { answered = refl; holds = refl; front = λ h. ⊎_elim (λ l. absurd (omega arith)) (λ e. e) h }
  all_pages old (es ∷ rest) space a c room =
      let new = new_score_of old es in
      let over = new ++ drop (length new) space in
      let accepted : Taken new = new-taken old es a c.0.all_made in
      let more = all_pages new rest over accepted c.1 (stays-long new space (taken-accepted new accepted) room) in
      -- the first page, and the rest from the score that it leaves
      let page : pages_from g old (es ∷ rest) (whole_of g old n) space ≡ and_pages rest (rewrites (once_paged g old new n) (whole_of g new n) over) = ap (and_pages rest) (one_page old es space a c.0 room) in
      let from-new : and_pages rest (rewrites (once_paged g old new n) (whole_of g new n) over) ≡ and_over (once_paged g old new n) (pages_from g new rest (whole_of g new n) over) =
      ap (λ (s : List ℕ). and_over (once_paged g old new n) (pages_from g s rest (whole_of g new n) over)) (front-new new space) in
      subst (ManyPages old (es ∷ rest) space) (sym (page ∙ from-new))
      (record { answered = ap (λ (l : List Paged). once_paged g old new n ∷ l) more.answered; holds = more.holds; front = λ h. more.front (inr (front-new new space)) })
    where
      and_over : Paged → Rewritten (List Paged) → Rewritten (List Paged)
      and_over r d = rewrites (r ∷ d.result) d.left d.space

      and_pages : List (List ℕ) → Rewritten Paged → Rewritten (List Paged)
      and_pages rest c = and_over c.result (pages_from g (front_of c) rest c.left c.space)

-- ---- an edit alone in a page
-- its place is in no test
unless_free : {A : Type 0} (t : Bool) (x y : A) → unless t x ≡ [] → unless t y ≡ []
unless_free t x y e = rw (passed t x e) refl

faults_free : (r : List ℕ) (i j : ℕ) → record_faults r i ≡ [] → record_faults r j ≡ []
unfolding record_faults
faults_free r i j e =
    let b = none_both (unless (mark_right r 0) (Mark i) ++ unless (kind_right r 0) (Kind i)) (unless (fields_right r 0) (Field i)) e in
    let a = none_both (unless (mark_right r 0) (Mark i)) (unless (kind_right r 0) (Kind i)) b.0 in
    rw (unless_free (mark_right r 0) (Mark i) (Mark j) a.0, unless_free (kind_right r 0) (Kind i) (Kind j) a.1, unless_free (fields_right r 0) (Field i) (Field j) b.1) refl

-- what an edit is refused for, by its frame, its code and its record
abbrev refusals_by : Bool → Bool → List ℕ → List ℕ → ℕ → List Refusal
refusals_by frame insert r s i = unless frame (EditFrame i) ++ map Edit (record_faults r i) ++ cond insert (unless (ltb (count_of s) 4096) (Full i)) (unless (ltb (first_equal s r) (count_of s)) (NotThere i))

place_free : (frame insert : Bool) (r s : List ℕ) (i j : ℕ) → refusals_by frame insert r s i ≡ [] → refusals_by frame insert r s j ≡ []
place_free frame insert r s i j e =
    let b = none_both (unless frame (EditFrame i) ++ map Edit (record_faults r i)) (held insert i) e in
    let a = none_both (unless frame (EditFrame i)) (map Edit (record_faults r i)) b.0 in
    rw (unless_free frame (EditFrame i) (EditFrame j) a.0, faults_free r i j (none-map Edit (record_faults r i) a.1)) (held_free insert b.1)
  where
    held : Bool → ℕ → List Refusal
    held t k = cond t (unless (ltb (count_of s) 4096) (Full k)) (unless (ltb (first_equal s r) (count_of s)) (NotThere k))

    held_free : (t : Bool) → held t i ≡ [] → held t j ≡ []
    held_free true h = unless_free (ltb (count_of s) 4096) (Full i) (Full j) h
    held_free false h = unless_free (ltb (first_equal s r) (count_of s)) (NotThere i) (NotThere j) h

module _ (es : List ℕ) (i : ℕ) (there : i < edits_in es) where
  abbrev here : List ℕ
  here = drop (i * 14) es

  here-long : 14 ≤ length here
  here-long = omega (arith, length-drop (i * 14) es)

  one-long : length (one_edit es i) ≡ 14
  one-long = length-take-le 14 here here-long

  one_byte : (j : ℕ) → j < 14 → edit_byte (one_edit es i) 0 j ≡ edit_byte es i j
  one_byte j h =
      let z : 0 * 14 + j ≡ j = omega arith in
      ap (λ (k : ℕ). get_or (one_edit es i) k 0) z ∙ get_or-take 14 here j 0 h ∙ get_or-drop (i * 14) es j 0

  one_record : record_of (one_edit es i) 0 ≡ record_of es i
  one_record =
      ap (λ (l : List ℕ). take 10 (drop 4 l)) (take-add 4 10 here) ∙ ap (take 10) (drop_at (take 4 here) (take 10 (drop 4 here)) 4 (length-take-le 4 here (omega (arith, here-long))))
      ∙ take-take 10 10 (drop 4 here) (omega arith) ∙ ap (take 10) (drop-drop 4 (i * 14) es)

  one_frame : frame_right (one_edit es i) 0 ≡ frame_right es i
  unfolding frame_right
  one_frame = rw (one_byte 0 (omega arith), one_byte 1 (omega arith), one_byte 2 (omega arith), one_byte 3 (omega arith)) refl

  one-insert : is_insert (one_edit es i) 0 ≡ is_insert es i
  one-insert = ap (λ (b : ℕ). eqb b 1) (one_byte 2 (omega arith))

  -- it makes the same score
  one-new : (s : List ℕ) → new_score_of s (one_edit es i) ≡ edited_by s es i
  unfolding score_after
  one-new s =
      ap (λ (k : ℕ). score_after s (one_edit es i) (k / 14)) one-long ∙ ap (λ (t : Bool). made t (record_of (one_edit es i) 0)) one-insert
      ∙ ap (made (is_insert es i)) one_record
    where
      made : Bool → List ℕ → List ℕ
      made t r = cond t (inserted_of s r) (removed_of s (first_equal s r))

  -- and it is refused for the same, with another place
  one_right : (s : List ℕ) → edit_refusals s es i ≡ [] → edit_refusals s (one_edit es i) 0 ≡ []
  unfolding edit_refusals held_refusals
  one_right s e = rw (one_frame, one-insert, one_record) (place_free (frame_right es i) (is_insert es i) (record_of es i) s i 0 e)

  one-whole : (s : List ℕ) → edit_refusals s es i ≡ [] → Whole s (one_edit es i)
  unfolding score_after
  one-whole s e =
      record {
        whole_edits = ap (λ (k : ℕ). k % 14) one-long;
        all_made = λ k l. (let z : 0 ≡ k = omega (arith, one-long) in subst (λ (k : ℕ). edit_refusals (score_after s (one_edit es i) k) (one_edit es i) k ≡ []) z (one_right s e));
      }

-- ---- the scores after each edit
module _ (old es : List ℕ) (made : AllMade old es) where
  singles_whole : (k i : ℕ) → i + k ≤ edits_in es → AllWhole (score_after old es i) (singles_from es k i)
  unfolding score_after singles_from
  singles_whole zero i h = tt
  singles_whole (suc k) i h =
      let s = score_after old es i in
      (one-whole es i (omega arith) s (made i (omega arith)), subst (λ (t : List ℕ). AllWhole t (singles_from es k (suc i))) (sym (one-new es i (omega arith) s)) (singles_whole k (suc i) (omega arith)))

  singles_over : (k i : ℕ) → i + k ≤ edits_in es → score_over (score_after old es i) (singles_from es k i) ≡ score_after old es (i + k)
  unfolding score_after singles_from score_over
  singles_over zero i h = let z : i ≡ i + 0 = omega arith in ap (score_after old es) z
  singles_over (suc k) i h =
      let z : suc i + k ≡ i + suc k = omega arith in
      ap (λ (t : List ℕ). score_over t (singles_from es k (suc i))) (one-new es i (omega arith) (score_after old es i)) ∙ singles_over k (suc i) (omega arith) ∙ ap (score_after old es) z

  scores_taken : Taken old → (k i : ℕ) → i + k ≤ edits_in es → AllTaken (scores_from old es k i)
  unfolding scores_from
  scores_taken a zero i h = tt
  scores_taken a (suc k) i h = (after-taken old es a made (suc i) (omega arith), scores_taken a k (suc i) (omega arith))

scores_last : (old es : List ℕ) (k i : ℕ) → last_score (score_after old es i) (scores_from old es k i) ≡ score_after old es (i + k)
unfolding scores_from last_score
scores_last old es zero i = let z : i ≡ i + 0 = omega arith in ap (score_after old es) z
scores_last old es (suc k) i = let z : suc i + k ≡ i + suc k = omega arith in scores_last old es k (suc i) ∙ ap (score_after old es) z

singles_many : (es : List ℕ) (k i : ℕ) → length (singles_from es k i) ≡ k
unfolding singles_from
singles_many es zero i = refl
singles_many es (suc k) i = ap suc (singles_many es k (suc i))

over-taken : (old : List ℕ) (pages : List (List ℕ)) → Taken old → AllWhole old pages → Taken (score_over old pages)
unfolding score_over
over-taken old [] a c = a
over-taken old (es ∷ rest) a c = over-taken (new_score_of old es) rest (new-taken old es a c.0.all_made) c.1

-- ---- the claim
module _ (g : Settings) (old : List ℕ) (x : Begins g old) (n : ℕ) (r : BuffersOf n) where
  abbrev b : Buffers
  b = (left_in g old r).left

  came : b ≡ whole_of g old n
  came = left_is g x.settings old x.old_taken n r

  short : n ≤ most_samples
  short = omega (arith, r.lent.short, r.long)

  pages_left : (pages : List (List ℕ)) (space : List ℕ) → AllWhole old pages → length space ≡ 40960 → PageByPage g old pages n (pages_from g old pages b space)
  pages_left pages space c room =
      let m = all_pages g x.settings x.sustain_fits n short old pages space x.old_taken c room in
      subst (λ (d : Buffers). PageByPage g old pages n (pages_from g old pages d space)) (sym came)
      (record {
        answered = m.answered;
        are_rendered = λ q. m.holds ∙ sym (left_is g x.settings (score_over old pages) (over-taken old pages x.old_taken c) n q);
        front-is = λ l. m.front (inl l);
      })

  module _ (es space : List ℕ) (page : Whole old es) (room : length space ≡ 40960) where
    abbrev edited : List ℕ
    edited = new_score_of old es

    abbrev call : Rewritten Paged
    call = edit_of g old es b space

    left_page : call ≡ rewrites (once_paged g old edited n) (whole_of g edited n) (edited ++ drop (length edited) space)
    left_page = ap (λ (d : Buffers). edit_of g old es d space) came ∙ one_page g x.settings x.sustain_fits n short old es space x.old_taken page room

    at_once : AtOnce g old es n space call
    at_once =
        record {
          answered = ap (λ (o : Rewritten Paged). o.result) left_page;
          are_rendered = λ q. ap (λ (o : Rewritten Paged). o.left) left_page ∙ sym (left_is g x.settings edited (new-taken old es x.old_taken page.all_made) n q);
          score-is = ap (λ (o : Rewritten Paged). o.space) left_page;
        }

    -- from edit 0 on all edits are made
    all_of_them : score_after old es (0 + edits_in es) ≡ edited
    all_of_them = let z : 0 + edits_in es ≡ edits_in es = omega arith in ap (score_after old es) z

    -- a chain that leaves a render of its last score, which is the page's
    as_left : (s : List ℕ) → s ≡ edited → (left_in g s r).left ≡ call.left
    as_left s e = ap (λ (t : List ℕ). (left_in g t r).left) e ∙ sym (at_once.are_rendered r)

    one-at_a_time : OneAtATime g old es n (edits_from g old (scores_of old es) b) call
    unfolding score_after
    one-at_a_time =
        let news = scores_of old es in
        let all = any_edits.from_a_render g x.settings x.sustain_fits old news x.old_taken (scores_taken old es page.all_made x.old_taken (edits_in es) 0 (omega arith)) n r in
        let last : last_score old news ≡ edited = scores_last old es (edits_in es) 0 ∙ all_of_them in
        record { all_done = all.answered; last-is = last; same_left = all.are_rendered r ∙ as_left (last_score old news) last }

    pages_of_one : PagesOfOne g old es n (pages_from g old (singles_of es) b space) call
    unfolding score_after
    pages_of_one =
        let pages = singles_of es in
        let chain = pages_from g old pages b space in
        let by = pages_left pages space (singles_whole old es page.all_made (edits_in es) 0 (omega arith)) room in
        let last : score_over old pages ≡ edited = singles_over old es page.all_made (edits_in es) 0 (omega arith) ∙ all_of_them in
        record {
          by_page = by;
          last-is = last;
          same_left = by.are_rendered r ∙ as_left (score_over old pages) last;
          same-score = λ l.
              ap (λ (s : List ℕ). take (length s) chain.space) (sym last) ∙ by.front-is (omega (arith, l, singles_many es (edits_in es) 0)) ∙ last
              ∙ sym (ap (take (length edited)) at_once.score-is ∙ front-new edited space);
        }

pub pages_of_edits : PagesOfEdits
pages_of_edits =
    record {
      insert-is = λ old front back r g few v low high. record { all_made = insert-made old front back r g few v low high; score-is = insert-is old front back r g few v low high };
      remove-is = λ old front back r g first. record { all_made = remove-made old front back r g first; score-is = remove-is old front back r g first };
      new-taken = new-taken;
      at_once = λ g old es space x page room n r. at_once g old x n r es space page room;
      one-at_a_time = λ g old es space x page room n r. one-at_a_time g old x n r es space page room;
      page_by_page = λ g old pages space x c room n r. pages_left g old x n r pages space c room;
      pages_of_one = λ g old es space x page room n r. pages_of_one g old x n r es space page room;
      is-one-rerender = one-rerender;
      equal = λ g old es b space first made e. nothing_done g old es b space first made (plan_equal old (new_score_of old es) (samples_in b) (ap (difference_of old) e ∙ self-equal old));
      late = λ g old es b space first made p e h. nothing_done g old es b space first made (plan_late old (new_score_of old es) (samples_in b) p e h);
    }
