-- The claim of specs/WordsChain.antt. The chain in words leaves what the chain on states leaves (proofs/Tells.antt),
-- and that is one render (`demands`). Assumes nothing.
use Rattle.std.specs.Prelude.{Ok, Option, Some}
use mathlib.Core.Path.{◌≡◌, refl, sym, ap, subst, ◌∙◌}
use mathlib.Core.Bool.{true}
use mathlib.Core.List.{List, [], ◌∷◌, map}
use Prim.Native.Nat.{ℕ, ◌≤◌}
use native.Mathlib.Omega.{arith}
use borrow.Author.Tests.{eq-eqb}
use lib.Dec.{T}
use lib.ListN.{length, replicate, length-replicate}
use lib.Ieee.{Float, binary64, fits}
use Rattle.floats.specs.Double.{zero64}
use Rattle.sections.specs.Outcome.{Buffers, lends, samples_in, Lent, Outcome}
use Rattle.answers.specs.declared.Refusal.TheVariants.{Setting}
use Rattle.shelf.specs.Shelf.{entry_words, entries_for, words_for, entry_of}
use Rattle.score.specs.Record.{count_of}
use Rattle.state.specs.declared.Settings.{Settings}
use Rattle.state.specs.Settings.{settings_ok}
use Rattle.state.specs.State.{fresh_of}
use Rattle.judging.specs.Judging.{most_samples}
use Rattle.render.specs.Calls.{render_of}
use Rattle.demands.specs.Chain.{Step, samples_of, last_of, done_all, Grows, AllAccepted}
use Rattle.demands.proofs.Honest.{render-passed}
use Rattle.demands.proofs.Chain.{chain-short, chain, chain-done}
use Rattle.ffi.specs.declared.Asked.{Asked}
use Rattle.ffi.specs.Packed.{packed_of}
use Rattle.ffi.specs.Ffi.{Continued, choice_of, render_for, continue_for, fresh_for}
use Rattle.ffi_demands.specs.WordsChain.{words_chain_from, words_chain, AllZero, OneFfiRender, ZeroExactly, WordsPartsAreOne}
use Rattle.ffi_demands.proofs.Zero.{refused-not-zero, zero-done, done-zero}
use Rattle.ffi_demands.proofs.Codes.{IsKnown, is_known, sustain_fits}
use Rattle.ffi_demands.proofs.Tells.{zero_all, tells, invariant_fresh}

-- what gav_fresh leaves in thirteen words
fresh-left : (room : List ℕ) → length room ≡ entry_words → (fresh_for room).left ≡ entry_of (fresh_of 0)
fresh-left room l = rw (eq-eqb (length room) entry_words l) refl

-- the number of every answer that is done is 0
done_zeros : (xs : List Step) → AllZero (map packed_of (done_all xs))
done_zeros [] = tt
done_zeros (x ∷ xs) = (done-zero (length x.part), done_zeros xs)

-- ---- the theorem: number 0 in every word, so one render
module _ (a : Asked) (sus : T (fits binary64 a.sustain)) (room : List ℕ) (thirteen : length room ≡ entry_words) where
  abbrev calls : List Step → Continued (List ℕ)
  calls xs = words_chain a room xs

  from-fresh : (xs : List Step) → calls xs ≡ words_chain_from a (entry_of (fresh_of 0)) 0 xs
  from-fresh xs = ap (λ (ws : List ℕ). words_chain_from a ws 0 xs) (fresh-left room thirteen)

  -- unknown settings are refused by the first call
  settings-known : (x : Step) (xs : List Step) → AllZero (calls (x ∷ xs)).result → IsKnown a
  unfolding words_chain_from
  settings-known x xs z = is_known a (λ e. refused-not-zero Setting (rw e at z.0))

  pub desk_chain : (x : Step) (xs : List Step) → Grows [] (x ∷ xs) → AllZero (calls (x ∷ xs)).result
      → (b : Buffers) → Lent b → samples_in b ≡ samples_of (x ∷ xs) → OneFfiRender a (x ∷ xs) b (calls (x ∷ xs))
  desk_chain x xs grow z b l e =
      let q = settings-known x xs z in
      let g = q.settings in
      let is = q.known in
      let fit = sustain_fits a sus g is in
      let h = invariant_fresh a g is fit in
      let d = zero_all a g is fit (x ∷ xs) [] 0 (fresh_of 0) h grow (subst (λ (o : Continued (List ℕ)). AllZero o.result) (from-fresh (x ∷ xs)) z) in
      let t = tells a g is fit (x ∷ xs) [] 0 (fresh_of 0) h grow d in
      let c = chain g x xs grow d b l e in
      let r = ap (λ (c : Option Settings). render_for c (last_of [] (x ∷ xs)) b) is in
      subst (OneFfiRender a (x ∷ xs) b) (sym (from-fresh (x ∷ xs)))
      (record {
        result = t.result;
        done = ap (λ (o : Outcome ℕ). o.result) r ∙ ap packed_of c.done;
        heard = t.heard ∙ c.heard ∙ sym (ap (λ (o : Outcome ℕ). o.left.heard) r);
        words = rw is (t.words ∙ ap entry_of c.state);
      })

  -- ---- every number is 0 exactly when no record was added below the position reached
  pub desk_chain-done : (g : Settings) → choice_of a ≡ Some g → settings_ok g ≡ true → (xs : List Step) → AllAccepted xs → Grows [] xs → samples_of xs ≤ most_samples → ZeroExactly a room xs
  desk_chain-done g is ok xs b grow l =
      let fit = sustain_fits a sus g is in
      let h = invariant_fresh a g is fit in
      let c = chain-done g ok fit xs b grow l in
      record {
        zero_only_if = λ z. c.done_only_if (zero_all a g is fit xs [] 0 (fresh_of 0) h grow (subst (λ (o : Continued (List ℕ)). AllZero o.result) (from-fresh xs) z));
        zero_if = λ f. rw (from-fresh xs, (tells a g is fit xs [] 0 (fresh_of 0) h grow (c.done_if f)).result) (done_zeros xs);
      }

  -- ---- one gav_continue over the whole output
  pub one-call : (x : Step) (xs : List Step) → Grows [] (x ∷ xs) → AllZero (calls (x ∷ xs)).result → (out : List Float) → length out ≡ samples_of (x ∷ xs)
      → (calls (x ∷ xs)).words ≡ (continue_for (choice_of a) (last_of [] (x ∷ xs)) (fresh_for room).left 0 out).words
  unfolding words_chain_from
  one-call x xs grow z out e =
      let s = last_of [] (x ∷ xs) in
      let q = settings-known x xs z in
      let g = q.settings in
      let n = length out in
      let own = sustain_fits a sus g q.known in
      let done = zero_all a g q.known own (x ∷ xs) [] 0 (fresh_of 0) (invariant_fresh a g q.known own) grow (subst (λ (o : Continued (List ℕ)). AllZero o.result) (from-fresh (x ∷ xs)) z) in
      let short : n ≤ most_samples = omega (arith, chain-short g x xs done, e) in
      -- any buffers that fit
      let b : Buffers = lends out (replicate (words_for n) 0) (replicate (entries_for n) zero64) (replicate (entries_for n) 0) in
      let fit : Lent b = record { short = short; fits = length-replicate (words_for n) 0; magnitudes-fit = length-replicate (entries_for n) zero64; numbers_fit = length-replicate (entries_for n) 0 } in
      let many = desk_chain x xs grow z b fit e in
      let said : packed_of (render_of g s b).result.answer ≡ packed_of (Ok (samples_of (x ∷ xs))) = sym (ap (λ (c : Option Settings). (render_for c s b).result) q.known) ∙ many.done in
      let d = zero-done (render_of g s b).result.answer (rw said (done-zero (samples_of (x ∷ xs)))) in
      let p = render-passed g s b d.0 d.1 in
      let whole : Step = record { score = s; part = out } in
      let grows : Grows [] (whole ∷ []) = (record { added = s; grown = refl }, tt) in
      let zeros = (desk_chain-done g q.known p.settings (whole ∷ []) ((count_of s, p.accepted), tt) grows (omega arith)).zero_if ((λ i a b. omega arith), tt) in
      many.words ∙ sym (desk_chain whole [] grows zeros b fit (omega arith)).words

-- ---- the claim
pub words-parts_are_one : WordsPartsAreOne
words-parts_are_one = record { one-render = desk_chain; one-call = one-call; zero_exactly = desk_chain-done }
