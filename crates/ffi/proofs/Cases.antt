-- Each way out of a call of the desk, on plain values. Assumes nothing.
use Rattle.std.specs.Prelude.{Err, None, Ok, Option, Some}
use Rattle.std.specs.Result.{is_ok}
use mathlib.Core.Path.{◌≡◌, refl, sym, ap, ◌∙◌}
use mathlib.Core.Bool.{Bool, true, false}
use mathlib.Core.List.{List, [], ◌∷◌}
use Prim.Native.Nat.{ℕ}
use lib.ListN.{length}
use lib.Ieee.{Float}
use Rattle.sections.specs.Outcome.{Buffers, leaves}
use Rattle.answers.specs.Answer.{Answer}
use Rattle.answers.specs.declared.Refusal.{Refusal}
use Rattle.answers.specs.declared.Refusal.TheVariants.{Setting, GivenState}
use Rattle.answers.specs.Order.{first_of}
use Rattle.answers.proofs.Order.{first_append, first-through, Leads, leads_first}
use Rattle.judging.specs.Judging.{refusals_of, part_fits}
use Rattle.page.specs.declared.Paged.{Paged}
use Rattle.page.specs.Page.{rewrites, edit_of}
use Rattle.render.specs.declared.Rendered.{Rendered}
use Rattle.render.specs.Calls.{render_of, PartOutcome, leaves_part, is_given, continue_refusals, made_part, continue_of}
use Rattle.render.proofs.Outcomes.{continue_decided}
use Rattle.rerender.specs.Rerender.{rerender_of}
use Rattle.shelf.specs.Shelf as shelf
use Rattle.shelf.specs.Shelf.{state_of, is_entry, decoded_of}
use Rattle.shelf.proofs.There.{kept-thirteen, decoded-there, decoded-none}
use Rattle.shelf.proofs.Back.{entry-is-long, entry-is_state}
use Rattle.state.specs.declared.Settings.{Settings}
use Rattle.state.specs.declared.State.{State}
use Rattle.state.specs.Heart.{state_from, samples_from}
use Rattle.waveform.specs.declared.Waveform.{Waveform}
use Rattle.waveform.specs.Waveform.{sample_of}
use Rattle.ffi.specs.Packed.{word_of, packed_of, packed_page}
use Rattle.ffi.specs.Ffi.{Continued, continues, single_for, rendered, render_for, rerendered, rerender_for, edited, edit_for, is_given_in, made_in, kept_in, continue_in, continue_for}

-- ---- the word of a page
module _ (p : Paged) (word : ℕ) where
  pub page_done : (n : ℕ) → p.answer ≡ Ok n → word ≡ word_of (record { number = 0; place = p.bytes; count = n }) → word ≡ packed_page p
  unfolding packed_page
  page_done n e q = rw (q, e) refl

  pub page_refused : (why : Refusal) → p.answer ≡ Err why → word ≡ packed_of p.answer → word ≡ packed_page p
  unfolding packed_of packed_page
  page_refused why e q = rw (q, e) refl

-- ---- a single sample
pub single-known : (x : Option Waveform) (phase dt : Float) {w : Waveform} → x ≡ Some w → sample_of w phase dt ≡ single_for x phase dt
single-known x phase dt e = rw e refl

pub single_unknown : (x : Option Waveform) (phase dt : Float) → x ≡ None → Err Setting ≡ single_for x phase dt
single_unknown x phase dt e = rw e refl

-- ---- render, re-render, page of edits and continue
module _ (choice : Option Settings) (g : Settings) (e : choice ≡ Some g) where
  pub render-known : (s : List ℕ) (b c : Buffers) (r : Rendered) → leaves r c ≡ render_of g s b → (word : ℕ) → word ≡ packed_of r.answer → leaves word c ≡ render_for choice s b
  render-known s b c r x word p = rw (e, p) (ap rendered x)

  pub rerender-known : (old new : List ℕ) (b c : Buffers) (said : Answer) → leaves said c ≡ rerender_of g old new b → (word : ℕ) → word ≡ packed_of said → leaves word c ≡ rerender_for choice old new b
  rerender-known old new b c said x word p = rw (e, p) (ap rerendered x)

  pub edit-known : (old es : List ℕ) (b c : Buffers) (space left : List ℕ) (r : Paged) → rewrites r c left ≡ edit_of g old es b space → (word : ℕ) → word ≡ packed_page r → rewrites word c left ≡ edit_for choice old es b space
  edit-known old es b c space left r x word p = rw (e, p) (ap edited x)

  pub continue_known : (s ws : List ℕ) (p : ℕ) (part : List Float) (o : Continued ℕ) → o ≡ continue_in g s ws p part → o ≡ continue_for choice s ws p part
  continue_known s ws p part o x = rw e x

module _ (choice : Option Settings) (e : choice ≡ None) (word : ℕ) (q : word ≡ packed_of (Err Setting)) where
  pub render_unknown : (s : List ℕ) (b : Buffers) → leaves word b ≡ render_for choice s b
  render_unknown s b = rw (e, q) refl

  pub rerender_unknown : (old new : List ℕ) (b : Buffers) → leaves word b ≡ rerender_for choice old new b
  rerender_unknown old new b = rw (e, q) refl

  pub edit_unknown : (old es : List ℕ) (b : Buffers) (space : List ℕ) → rewrites word b space ≡ edit_for choice old es b space
  edit_unknown old es b space = rw (e, q) refl

  pub continue_unknown : (s ws : List ℕ) (p : ℕ) (part : List Float) → continues word part ws ≡ continue_for choice s ws p part
  continue_unknown s ws p part = rw (e, q) refl

module _ (g : Settings) (s ws : List ℕ) (p : ℕ) (part : List Float) where
  abbrev n : ℕ
  n = length part

  abbrev refusals : List Refusal
  refusals = continue_refusals g s (is_given_in s p ws) p n

  -- the words are no state: 10, where nothing before 10 is refused
  pub continue_none : decoded_of ws ≡ None → (t : Bool) → t ≡ part_fits p (length part) → (a : Answer) → a ≡ first_of (refusals_of g t s) Err (Err GivenState) → (word : ℕ) → word ≡ packed_of a
      → continues word part ws ≡ continue_in g s ws p part
  unfolding continue_in
  continue_none h t e a f word q =
      let no : is_entry ws ≡ false = decoded-none ws h in
      let before = refusals_of g (part_fits p n) s in
      rw (q, f, e, no)
      (first-through (λ (x : Answer). continues (packed_of x) part ws) before Err (Err GivenState) ∙ sym (first_append before (GivenState ∷ []) (kept_in part ws) (made_in g s ws p n)))

  -- the words are a state: the outcome of the call on that state
  module _ (v : State) (h : decoded_of ws ≡ Some v) (r : Rendered) (ys : List Float) (x : leaves_part r ys ≡ continue_of g s v p part) where
    entry : is_entry ws ≡ true
    entry = (decoded-there ws v h).0

    given_is : is_given s p (state_of ws) ≡ is_given_in s p ws
    given_is = rw (entry-is_state ws entry, entry) refl

    call : leaves_part r ys ≡ continue_of g s (state_of ws) p part
    call = let e = (decoded-there ws v h).1 in rw e x

    -- refused: the words stay as they came
    continue_refused : (why : Refusal) → r.answer ≡ Err why → (word : ℕ) → word ≡ packed_of r.answer → continues word ys ws ≡ continue_in g s ws p part
    unfolding continue_in
    continue_refused why e word q =
        let c = continue_decided g s (state_of ws) p part in
        let said = ap (λ (o : PartOutcome). o.result.answer) (sym call) ∙ e in
        let first : Leads why refusals = rw given_is at (c.refused why said) in
        let same : ys ≡ part = ap (λ (o : PartOutcome). o.heard) (call ∙ c.keeps why said) in
        rw (q, e, same) (sym (leads_first why refusals (kept_in part ws) (made_in g s ws p n) first))

    -- done: the words are those of the state after the part
    continue_kept : (m : ℕ) → r.answer ≡ Ok m → (vs : List ℕ) → vs ≡ shelf.stored_in ws r.state → (word : ℕ) → word ≡ packed_of r.answer → continues word ys vs ≡ continue_in g s ws p part
    unfolding continue_in
    continue_kept m e vs w word q =
        let c = continue_decided g s (state_of ws) p part in
        let said = ap (λ (o : PartOutcome). o.result.answer) (sym call) ∙ e in
        let none : refusals ≡ [] = rw given_is at (c.done m said) in
        let made : leaves_part r ys ≡ made_part g s (state_of ws) p n = call ∙ c.makes m said in
        let answer : r.answer ≡ Ok n = ap (λ (o : PartOutcome). o.result.answer) made in
        let heard : ys ≡ samples_from g s p (state_of ws) n = ap (λ (o : PartOutcome). o.heard) made in
        let state : r.state ≡ state_from g s p (state_of ws) n = ap (λ (o : PartOutcome). o.result.state) made in
        rw (none, q, answer, heard, w ∙ kept-thirteen ws r.state (entry-is-long ws entry), state) refl

    -- the code asks whether the call is done
    pub continue_stored : is_ok r.answer ≡ true → (vs : List ℕ) → vs ≡ shelf.stored_in ws r.state → (word : ℕ) → word ≡ packed_of r.answer → continues word ys vs ≡ continue_in g s ws p part
    continue_stored t vs w word q = go r.answer refl t
      where
        go : (a : Answer) → r.answer ≡ a → is_ok a ≡ true → continues word ys vs ≡ continue_in g s ws p part
        go (Ok m) e t = continue_kept m e vs w word q
        go (Err why) e t = cc

    pub continue_left : is_ok r.answer ≡ false → (word : ℕ) → word ≡ packed_of r.answer → continues word ys ws ≡ continue_in g s ws p part
    continue_left t word q = go r.answer refl t
      where
        go : (a : Answer) → r.answer ≡ a → is_ok a ≡ false → continues word ys ws ≡ continue_in g s ws p part
        go (Ok m) e t = cc
        go (Err why) e t = continue_refused why e word q
