-- A continuing call on the words of a state is the call on that state, with the answer packed; where the word's number
-- is 0 the call has made the whole part. Assumes nothing.
use Rattle.std.specs.Prelude.{Err, Ok, Some}
use mathlib.Core.Path.{◌≡◌, refl, ap, ◌∙◌}
use mathlib.Core.Bool.{true}
use mathlib.Core.List.{List, [], ◌∷◌}
use Prim.Native.Nat.{ℕ}
use lib.ListN.{length}
use lib.Ieee.{Float}
use Rattle.answers.specs.Order.{first_of}
use Rattle.answers.proofs.Order.{done_none}
use Rattle.shelf.proofs.There.{decoded-there}
use Rattle.shelf.specs.Shelf.{entry_of, state_of, is_entry, decoded_of}
use Rattle.shelf.proofs.Back.{entry-is_state}
use Rattle.state.specs.declared.Settings.{Settings}
use Rattle.state.specs.declared.State.{State}
use Rattle.state.specs.Limits.{is_state}
use Rattle.state.specs.Heart.{state_from, samples_from}
use Rattle.render.specs.Calls.{is_given, continue_refusals, continue_of}
use Rattle.render.proofs.Outcomes.{continue_decided}
use Rattle.demands.specs.Chain.{Step}
use Rattle.demands.proofs.Link.{after, onward}
use Rattle.ffi.specs.declared.Asked.{Asked}
use Rattle.ffi.specs.Packed.{packed_of, numbers_in}
use Rattle.ffi.specs.Ffi.{Continued, continues, choice_of, is_given_in, continue_in, continue_for}
use Rattle.ffi.proofs.ReadBack.{continue_says_lem}
use Rattle.ffi_demands.specs.WordsChain.{and_then, words_chain_from}
use Rattle.ffi_demands.proofs.Zero.{zero-done}

-- the words of v are read as v
abbrev pub Read : State → Type 0
Read v = decoded_of (entry_of v) ≡ Some v

module _ (a : Asked) (g : Settings) (is : choice_of a ≡ Some g) (v : State) (read : Read v) (p : ℕ) where
  is_entry_lem : is_entry (entry_of v) ≡ true
  is_entry_lem = (decoded-there _ _ read).0

  read_as : state_of (entry_of v) ≡ v
  read_as = (decoded-there _ _ read).1

  -- so the call on the words has the refusals of the call on the state
  same-refusals : (s : List ℕ) (n : ℕ) → continue_refusals g s (is_given_in s p (entry_of v)) p n ≡ continue_refusals g s (is_given s p v) p n
  same-refusals s n = let is_state_lem : is_state v ≡ true = rw read_as at (entry-is_state (entry_of v) is_entry_lem) in rw (is_entry_lem, read_as, is_state_lem) refl

  pub zero-whole : (s : List ℕ) (part : List Float) → (numbers_in (continue_for (choice_of a) s (entry_of v) p part).result).number ≡ 0 → (continue_of g s v p part).result.answer ≡ Ok (length part)
  zero-whole s part z =
      let n = length part in
      let refusals = continue_refusals g s (is_given_in s p (entry_of v)) p n in
      let d = zero-done (first_of refusals Err (Ok n)) (rw (continue_says_lem (choice_of a) s (entry_of v) p part, is) at z) in
      let none : refusals ≡ [] = done_none refusals n d.0 d.1 in
      (continue_decided g s v p part).is-done (rw (same-refusals s n) at none)

  -- the first call of a chain, done, leaves its samples, and the rest goes on from the words of the state after them
  module _ (x : Step) (xs : List Step) where
    abbrev n : ℕ
    n = length x.part

    in_words : (continue_of g x.score v p x.part).result.answer ≡ Ok n → continue_for (choice_of a) x.score (entry_of v) p x.part ≡ continues (packed_of (Ok n)) (samples_from g x.score p v n) (entry_of (state_from g x.score p v n))
    unfolding continue_in
    in_words e =
        let none : continue_refusals g x.score (is_given_in x.score p (entry_of v)) p n ≡ [] = same-refusals x.score n ∙ (continue_decided g x.score v p x.part).done n e in
        rw (is, none, read_as) refl

    pub words_step : (continue_of g x.score v p x.part).result.answer ≡ Ok n
        → words_chain_from a (entry_of v) p (x ∷ xs)
        ≡ and_then (continues (packed_of (Ok n)) (samples_from g x.score p v n) (entry_of (after g v p x xs))) (words_chain_from a (entry_of (after g v p x xs)) (onward g v p x xs) xs)
    unfolding words_chain_from
    words_step e = ap (λ (o : Continued ℕ). and_then o (words_chain_from a o.words (onward g v p x xs) xs)) (in_words e)
