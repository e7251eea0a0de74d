-- The claim of specs/WordsPages.antt: a page of edits in words is the page of `demands`, its answer packed. Number 0 in
-- its word shows that the list has whole edits, which are all made, and the buffer its 40,960 bytes. The word of a page
-- that is done has the bytes of its score, so a chain of pages takes the same fronts in words. Assumes nothing.
use Rattle.std.specs.Prelude.{Err, Ok, Option, Some}
use mathlib.Core.Path.{◌≡◌, refl, sym, ap, subst, ◌∙◌}
use mathlib.Core.List.{List, [], ◌∷◌, map}
use Prim.Native.Nat.{ℕ}
use native.Mathlib.Omega.{arith}
use lib.Dec.{T}
use lib.ListN.{length, take}
use lib.Ieee.{binary64, fits}
use Rattle.sections.specs.Outcome.{Buffers, samples_in, Outcome}
use Rattle.answers.specs.Answer.{Answer}
use Rattle.answers.specs.declared.Refusal.{Refusal}
use Rattle.answers.specs.declared.Numbers.{Numbers}
use Rattle.state.specs.declared.Settings.{Settings}
use Rattle.render.specs.declared.Rendered.{Rendered}
use Rattle.render.specs.Calls.{made_of}
use Rattle.rerender.specs.Rerender.{plan_of, count_for, rerender_of}
use Rattle.page.specs.declared.Paged.{Paged}
use Rattle.page.specs.Page.{new_score_of, AllMade, first_refusals, Rewritten, rewrites, paged, edit_of}
use Rattle.page.proofs.Calls.{edit-decided}
use Rattle.demands.specs.Demand3.{Taken, BuffersOf, left_in}
use Rattle.demands.specs.Edits.{edits_from}
use Rattle.demands.specs.Pages.{scores_of, front_of, pages_from, once_paged, all_paged, singles_of, Begins, Whole}
use Rattle.demands.proofs.Whole.{rendered}
use Rattle.demands.proofs.PageRefusals.{page_exactly}
use Rattle.demands.proofs.Pages.{pages_of_edits}
use Rattle.ffi.specs.declared.Asked.{Asked}
use Rattle.ffi.specs.Packed.{packed_of, packed_page, numbers_in}
use Rattle.ffi.specs.Ffi as desk
use Rattle.ffi.specs.Ffi.{choice_of, render_for, rerender_for, edited, edit_for}
use Rattle.ffi.proofs.ReadBack.{edit-done-reads}
use Rattle.ffi_demands.specs.WordsChain.{AllZero}
use Rattle.ffi_demands.specs.WordsDemand3.{ffi_left, Zero}
use Rattle.ffi_demands.specs.WordsEdits.{words_edits_from}
use Rattle.ffi_demands.specs.WordsPages.{ffi_front, words_pages_from, FfiAtOnce, FfiOneAtATime, FfiPagesOfOne, FfiBesideRerender, WordsPages}
use Rattle.ffi_demands.proofs.Zero.{paged-zero, done-zero}
use Rattle.ffi_demands.proofs.Codes.{sustain_fits}
use Rattle.ffi_demands.proofs.FfiDemand3.{Good, zero_good, desk_left}
use Rattle.ffi_demands.proofs.FfiEdits.{packed_all, edits_are, counted_zeros}

-- ---- pages one after the other
-- a page that is done has number 0 in its word
once_zero : (g : Settings) (old new : List ℕ) (n : ℕ) → Zero (packed_page (once_paged g old new n))
unfolding packed_page
once_zero g old new n = omega arith

paged_zeros : (g : Settings) (n : ℕ) (pages : List (List ℕ)) (old : List ℕ) → AllZero (map packed_page (all_paged g old pages n))
unfolding all_paged
paged_zeros g n [] old = tt
paged_zeros g n (es ∷ rest) old = (once_zero g old (new_score_of old es) n, paged_zeros g n rest (new_score_of old es))

-- the pages of `demands`, each answer packed
abbrev packed_pages : Rewritten (List Paged) → Rewritten (List ℕ)
packed_pages o = rewrites (map packed_page o.result) o.left o.space

-- the word of a page that is done tells where its score ends
same-front : (g : Settings) (old es : List ℕ) (b : Buffers) (space : List ℕ) → Zero (packed_page (edit_of g old es b space).result)
    → ffi_front (edited (edit_of g old es b space)) ≡ front_of (edit_of g old es b space)
same-front g old es b space z =
    let c = edit_of g old es b space in
    let d = paged-zero c.result z in
    ap (λ (m : Numbers). take m.place c.space) (edit-done-reads g old es b space d.0 d.1)

pages_are : (a : Asked) (g : Settings) → choice_of a ≡ Some g → (pages : List (List ℕ)) (old : List ℕ) (b : Buffers) (space : List ℕ)
    → AllZero (map packed_page (pages_from g old pages b space).result) → words_pages_from a old pages b space ≡ packed_pages (pages_from g old pages b space)
unfolding words_pages_from pages_from
pages_are a g is [] old b space z = refl
pages_are a g is (es ∷ rest) old b space z =
    let c = edit_of g old es b space in
    ap (λ (k : Option Settings). and_pages (edit_for k old es b space)) is
    ∙ ap (λ (s : List ℕ). and_over (packed_page c.result) (words_pages_from a s rest c.left c.space)) (same-front g old es b space z.0)
    ∙ ap (and_over (packed_page c.result)) (pages_are a g is rest (front_of c) c.left c.space z.1)
  where
    and_over : ℕ → Rewritten (List ℕ) → Rewritten (List ℕ)
    and_over w o = rewrites (w ∷ o.result) o.left o.space

    and_pages : Rewritten ℕ → Rewritten (List ℕ)
    and_pages o = and_over o.result (words_pages_from a (ffi_front o) rest o.left o.space)

-- ---- after a gav_render whose number is 0
module _ (a : Asked) (sus : T (fits binary64 a.sustain)) (old es space : List ℕ) (n : ℕ) (r : BuffersOf n) (zero : Zero (ffi_left a old r).result) where
  abbrev new : List ℕ
  new = new_score_of old es

  abbrev call : Rewritten ℕ
  call = edit_for (choice_of a) old es (ffi_left a old r).left space

  q : Good a old r.buffers
  q = zero_good a old r.buffers zero

  abbrev g : Settings
  g = q.settings

  abbrev b : Buffers
  b = (left_in g old r).left

  abbrev page : Rewritten Paged
  page = edit_of g old es b space

  begins : Begins g old
  begins = record { settings = q.in_domain; sustain_fits = sustain_fits a sus g q.known; old_taken = q.taken }

  in_words : call ≡ edited page
  in_words = ap (λ (c : Option Settings). edit_for c old es (render_for c old r.buffers).left space) q.known

  -- a page whose number is 0 is done, so nothing refuses it
  zero-whole : Zero call.result → Whole old es × (length space ≡ 40960)
  zero-whole z =
      let d = paged-zero page.result (subst (λ (o : Rewritten ℕ). Zero o.result) in_words z) in
      let c = edit-decided g old es b space in
      let e = (page_exactly g old es b space).done.only_when (c.is-done (c.done d.0 d.1)) in
      (record { whole_edits = e.0.sized.whole_edits; all_made = e.1 }, e.0.sized.bytes)

  whole-zero : Whole old es → length space ≡ 40960 → Zero call.result
  whole-zero w room =
      let d = pages_of_edits.at_once g old es space begins w room n r in
      subst Zero (sym (ap (λ (o : Rewritten ℕ). o.result) in_words ∙ ap packed_page d.answered)) (once_zero g old new n)

  module _ (z : Zero call.result) where
    whole : Whole old es
    whole = (zero-whole z).0

    room : length space ≡ 40960
    room = (zero-whole z).1

    next-zero : (s : BuffersOf n) → Zero (ffi_left a new s).result
    next-zero s =
        let taken : Taken new = pages_of_edits.new-taken old es q.taken whole.all_made in
        let done : (ffi_left a new s).result ≡ packed_of (Ok (samples_in s.buffers)) =
        ap (λ (c : Option Settings). (render_for c new s.buffers).result) q.known ∙ ap (λ (o : Outcome Rendered). (desk.rendered o).result) (rendered g q.in_domain new taken s.buffers s.lent) in
        subst Zero (sym done) (done-zero (samples_in s.buffers))

    at_once : FfiAtOnce a old es n space call
    at_once =
        let d = pages_of_edits.at_once g old es space begins whole room n r in
        let count = count_for g old new (plan_of old new n) (made_of g old n).left in
        record {
          settings = g;
          known = q.known;
          word = ap (λ (o : Rewritten ℕ). o.result) in_words ∙ ap packed_page d.answered;
          reads =
              ap (λ (o : Rewritten ℕ). numbers_in o.result) in_words ∙ edit-done-reads g old es b space count (ap (λ (p : Paged). p.answer) d.answered)
              ∙ ap (λ (p : Paged). done-in p.bytes count) d.answered;
          are_rendered = λ s. ap (λ (o : Rewritten ℕ). o.left) in_words ∙ d.are_rendered s ∙ sym (desk_left a g q.known new s);
          next = next-zero;
          score-is = ap (λ (o : Rewritten ℕ). o.space) in_words ∙ d.score-is;
        }
      where
        done-in : ℕ → ℕ → Numbers
        done-in place count = record { number = 0; place = place; count = count }

    one-at_a_time : FfiOneAtATime old es (words_edits_from a old (scores_of old es) (ffi_left a old r).left) call
    one-at_a_time =
        let d = pages_of_edits.one-at_a_time g old es space begins whole room n r in
        let chain = words_edits_from a old (scores_of old es) (ffi_left a old r).left in
        let packed : chain ≡ packed_all (edits_from g old (scores_of old es) b) =
        ap (words_edits_from a old (scores_of old es)) (desk_left a g q.known old r) ∙ edits_are a g q.known (scores_of old es) old b in
        record {
          all_zero = subst AllZero (sym (ap (λ (o : Outcome (List ℕ)). o.result) packed ∙ ap (map packed_of) d.all_done)) (counted_zeros g n (scores_of old es) old);
          last-is = d.last-is;
          same_left = ap (λ (o : Outcome (List ℕ)). o.left) packed ∙ d.same_left ∙ sym (ap (λ (o : Rewritten ℕ). o.left) in_words);
        }

    pages_of_one : FfiPagesOfOne a old es n (words_pages_from a old (singles_of es) (ffi_left a old r).left space) call
    pages_of_one =
        let d = pages_of_edits.pages_of_one g old es space begins whole room n r in
        let pages = singles_of es in
        let chain = words_pages_from a old pages (ffi_left a old r).left space in
        let packed : chain ≡ packed_pages (pages_from g old pages b space) =
        ap (λ (c : Buffers). words_pages_from a old pages c space) (desk_left a g q.known old r)
        ∙ pages_are a g q.known pages old b space (subst (λ (l : List Paged). AllZero (map packed_page l)) (sym d.by_page.answered) (paged_zeros g n pages old)) in
        let words : chain.result ≡ map packed_page (all_paged g old pages n) = ap (λ (o : Rewritten (List ℕ)). o.result) packed ∙ ap (map packed_page) d.by_page.answered in
        record {
          settings = g;
          known = q.known;
          words = words;
          all_zero = subst AllZero (sym words) (paged_zeros g n pages old);
          same_left = ap (λ (o : Rewritten (List ℕ)). o.left) packed ∙ d.same_left ∙ sym (ap (λ (o : Rewritten ℕ). o.left) in_words);
          same-score = λ l. ap (λ (o : Rewritten (List ℕ)). take (length new) o.space) packed ∙ d.same-score l ∙ sym (ap (λ (o : Rewritten ℕ). take (length new) o.space) in_words);
        }

-- ---- beside one re-render
paged-is : (p : Paged) (a : Answer) (n : ℕ) → p.answer ≡ a → p.bytes ≡ n → p ≡ paged a n
paged-is p a n e f = rw (← e, ← f) refl

-- a page that is refused has the word of its refusal
refused_word_lem : (p : Paged) (why : Refusal) → p.answer ≡ Err why → packed_page p ≡ packed_of (Err why)
unfolding packed_page packed_of
refused_word_lem p why e = rw e refl

beside : (g : Settings) (old es : List ℕ) (b : Buffers) (space : List ℕ) → first_refusals g old es b space ≡ [] → AllMade old es
    → FfiBesideRerender (new_score_of old es) space (rerender_for (Some g) old (new_score_of old es) b) (edit_for (Some g) old es b space)
beside g old es b space first made =
    let new = new_score_of old es in
    let o = edit_of g old es b space in
    let d = pages_of_edits.is-one-rerender g old es b space first made in
    record {
      answer = (rerender_of g old new b).result;
      word = refl;
      same_left = d.same_left;
      written = λ count e. (let w = d.written count e in (ap packed_page (paged-is o.result (Ok count) (length new) (d.same_answer ∙ e) w.0), w.1));
      kept = λ why e. (refused_word_lem o.result why (d.same_answer ∙ e) ∙ ap packed_of (sym e), (d.kept why e).1);
    }

is-one-rerender : (a : Asked) (g : Settings) → choice_of a ≡ Some g → (old es : List ℕ) (b : Buffers) (space : List ℕ) → first_refusals g old es b space ≡ [] → AllMade old es
    → FfiBesideRerender (new_score_of old es) space (rerender_for (choice_of a) old (new_score_of old es) b) (edit_for (choice_of a) old es b space)
is-one-rerender a g is old es b space first made =
    subst (λ (k : Option Settings). FfiBesideRerender (new_score_of old es) space (rerender_for k old (new_score_of old es) b) (edit_for k old es b space)) (sym is) (beside g old es b space first made)

-- ---- the claim
pub words_pages : WordsPages
words_pages = record { at_once = at_once; zero-whenever = whole-zero; one-at_a_time = one-at_a_time; is-one-rerender = is-one-rerender; pages_of_one = pages_of_one }
