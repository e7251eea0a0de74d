-- A chain of continuing calls as C makes them, on thirteen words, as a claim.
-- include/gavberin.h, of gav_continue: "Parts of any lengths, one after the other from gav_fresh at position 0, under
-- the same settings and a score that grows only at its end, are the samples of one gav_render of the last score".
-- Each call takes the words that the call before it left, at the end of the part before. Of the answers the claim asks
-- only what a host sees: the number in every word is 0.
-- The argument is in proofs/FfiChain.antt. Definitions only.
use Rattle.std.specs.Prelude.{◌≡◌, true, List, [], ◌∷◌, ◌++◌, map, ℕ, ◌+◌, ◌≤◌, T, length, Float, None, Ok, Option, Some}
use Rattle.std.specs.Float.{binary64}
use Rattle.std.specs.Float.Ieee.{fits}
use Rattle.sections.specs.Outcome.{Buffers, samples_in, Lent}
use Rattle.shelf.specs.Shelf.{entry_words, entry_of}
use Rattle.state.specs.declared.Settings.{Settings}
use Rattle.state.specs.Settings.{settings_ok}
use Rattle.judging.specs.Judging.{most_samples}
use Rattle.render.specs.Calls.{render_of}
use Rattle.demands.specs.Chain.{Step, samples_of, last_of, done_all, Grows, AllAccepted, NoneAddedBelow}
use Rattle.ffi.specs.declared.Asked.{Asked}
use Rattle.ffi.specs.Packed.{packed_of, numbers_in}
use Rattle.ffi.specs.Ffi.{Continued, continues, choice_of, render_for, continue_for, fresh_for}

-- a call, and then the rest: the word that each call answered, the parts one after the other, and the state's words
-- after the last call
abbrev pub and_then : Continued ℕ → Continued (List ℕ) → Continued (List ℕ)
and_then c rest = continues (c.result ∷ rest.result) (c.heard ++ rest.heard) rest.words

-- from the words ws at position p: a call on its part, then the rest from the words that the call left, at the end of
-- the part
unfoldable pub words_chain_from : Asked → List ℕ → ℕ → List Step → Continued (List ℕ)
words_chain_from a ws p [] = continues [] [] ws
words_chain_from a ws p (x ∷ xs) = let c = continue_for (choice_of a) x.score ws p x.part in and_then c (words_chain_from a c.words (p + length x.part) xs)

-- the calls of a chain, from what gav_fresh leaves in `room`
abbrev pub words_chain : Asked → List ℕ → List Step → Continued (List ℕ)
words_chain a room xs = words_chain_from a (fresh_for room).left 0 xs

-- the words of a render's end state; none where the settings are unknown
abbrev pub end_words : Option Settings → List ℕ → Buffers → List ℕ
end_words (Some g) s b = entry_of (render_of g s b).result.state
end_words None s b = []

-- ---- what is asked of the answers: number 0 in every word
abbrev pub AllZero : List ℕ → Type 0
AllZero [] = Unit
AllZero (word ∷ rest) = ((numbers_in word).number ≡ 0) × AllZero rest

-- ---- what is promised
-- each call's count is its part's length, and together the calls leave what one render of the last score leaves, which
-- is done
pub record OneFfiRender (a : Asked) (xs : List Step) (b : Buffers) (o : Continued (List ℕ)) : Type 0 where
  pub result : o.result ≡ map packed_of (done_all xs)
  pub done : (render_for (choice_of a) (last_of [] xs) b).result ≡ packed_of (Ok (samples_of xs))
  pub heard : o.heard ≡ (render_for (choice_of a) (last_of [] xs) b).left.heard
  pub words : o.words ≡ end_words (choice_of a) (last_of [] xs) b

-- every number is 0 exactly when no record was added below the position already reached
pub record ZeroExactly (a : Asked) (room : List ℕ) (xs : List Step) : Type 0 where
  pub zero_only_if : AllZero (words_chain a room xs).result → NoneAddedBelow [] 0 xs
  pub zero_if : NoneAddedBelow [] 0 xs → AllZero (words_chain a room xs).result

-- ---- the claim: for any settings whose sustain is a value of an f64, as every f64 of the code is, and any
-- thirteen words lent to gav_fresh
pub record WordsPartsAreOne : Type 0 where
  -- for one call or more
  pub one-render : (a : Asked) → T (fits binary64 a.sustain) → (room : List ℕ) → length room ≡ entry_words → (x : Step) (xs : List Step) → Grows [] (x ∷ xs) → AllZero (words_chain a room (x ∷ xs)).result
      → (b : Buffers) → Lent b → samples_in b ≡ samples_of (x ∷ xs) → OneFfiRender a (x ∷ xs) b (words_chain a room (x ∷ xs))
  -- gav_render gives no end state: the words left last are those that one gav_continue of the last score over the whole
  -- output leaves
  pub one-call : (a : Asked) → T (fits binary64 a.sustain) → (room : List ℕ) → length room ≡ entry_words → (x : Step) (xs : List Step) → Grows [] (x ∷ xs) → AllZero (words_chain a room (x ∷ xs)).result
      → (out : List Float) → length out ≡ samples_of (x ∷ xs) → (words_chain a room (x ∷ xs)).words ≡ (continue_for (choice_of a) (last_of [] (x ∷ xs)) (fresh_for room).left 0 out).words
  -- under settings in their domain, for accepted scores and an output of at most 16,777,216 samples
  pub zero_exactly : (a : Asked) → T (fits binary64 a.sustain) → (room : List ℕ) → length room ≡ entry_words → (g : Settings) → choice_of a ≡ Some g → settings_ok g ≡ true
      → (xs : List Step) → AllAccepted xs → Grows [] xs → samples_of xs ≤ most_samples → ZeroExactly a room xs
