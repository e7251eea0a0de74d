-- A chain of continuing calls in words leaves what the chain on states leaves. At each call the words are those of a
-- state that a render has, and are read as that state; so number 0 in every word is 0 from every call on the states,
-- and then the parts are those of that chain and the words left last are those of its end state. Assumes nothing.
use Rattle.std.specs.Prelude.{Ok, Some}
use mathlib.Core.Path.{◌≡◌, refl, sym, ap, subst, ◌∙◌}
use mathlib.Core.List.{List, [], ◌∷◌, ◌++◌, map}
use Prim.Native.Nat.{ℕ, ◌+◌}
use lib.Dec.{T}
use lib.ListN.{length}
use lib.Ieee.{Float, binary64, fits}
use Rattle.runs.specs.Runs.{run}
use Rattle.score.specs.Record.{count_of}
use Rattle.score.specs.Score.{verdict_of}
use Rattle.score.proofs.Examples.{refusals}
use Rattle.shelf.specs.Shelf.{entry_of}
use Rattle.shelf.proofs.There.{encode-decode}
use Rattle.state.specs.declared.Settings.{Settings}
use Rattle.state.specs.declared.State.{State}
use Rattle.state.specs.State.{fresh_of}
use Rattle.state.specs.Heart.{state_from, samples_from}
use Rattle.state.proofs.Limits.{fresh-is_state}
use Rattle.render.specs.Calls.{continue_of}
use Rattle.demands.specs.Chain.{Step, ChainOutcome, chain_from, done_all, AllDone, Grows, NoneBelow}
use Rattle.demands.proofs.Honest.{fresh_fitting, honest}
use Rattle.demands.proofs.Link.{PassedCall, call-passed, Reached, acted_is, none_below, goes_on, after, onward, chain-step, first_done, rest_done, all_done}
use Rattle.ffi.specs.declared.Asked.{Asked}
use Rattle.ffi.specs.Ffi.{Continued, choice_of}
use Rattle.ffi.specs.Packed.{packed_of}
use Rattle.ffi_demands.specs.WordsChain.{words_chain_from, AllZero}
use Rattle.ffi_demands.proofs.Call.{Read, zero-whole, words_step}

module _ (a : Asked) (g : Settings) (is : choice_of a ≡ Some g) (sus : T (fits binary64 g.adsr.sustain)) where
  abbrev in_words : State → ℕ → List Step → Continued (List ℕ)
  in_words v p xs = words_chain_from a (entry_of v) p xs

  -- the invariant: v is the state of a render of s at p, of an accepted s, and v's words are read as v
  pub record Invariant (s : List ℕ) (p : ℕ) (v : State) : Type 0 where
    pub records : ℕ
    pub accepted : verdict_of s ≡ Ok records
    pub reached : Reached g s p v
    pub read : Read v

  -- the invariant holds again after the first call, where that call is done
  invariant_on : (s : List ℕ) (p : ℕ) (v : State) (x : Step) (xs : List Step) → Invariant s p v → Grows s (x ∷ xs) → (continue_of g x.score v p x.part).result.answer ≡ Ok (length x.part)
      → Invariant x.score (onward g v p x xs) (after g v p x xs)
  invariant_on s p v x xs h grow e =
      let t = x.score in
      let n = length x.part in
      let q : PassedCall g t v p n = call-passed g t v p x.part n e in
      let m = h.records in
      let b : verdict_of t ≡ Ok (count_of t) = q.accepted in
      let f : NoneBelow s t p = none_below s t m (count_of t) h.accepted b grow.0 p (sym q.acted ∙ acted_is s t m (count_of t) h.accepted b grow.0 p g v h.reached) in
      let r : Reached g t (p + n) (after g v p x xs) = goes_on s t m (count_of t) h.accepted b grow.0 p g v h.reached f n in
      record { records = count_of t; accepted = b; reached = r; read = subst Read (sym r) (honest g q.settings sus t (count_of t) b (p + n)) }

  -- number 0 in every word is 0 from every call on the states
  pub zero_all : (xs : List Step) (s : List ℕ) (p : ℕ) (v : State) → Invariant s p v → Grows s xs → AllZero (in_words v p xs).result → AllDone g v p xs
  unfolding chain_from words_chain_from
  zero_all [] s p v h grow z = refl
  zero_all (x ∷ xs) s p v h grow z =
      let e = zero-whole a g is v h.read p x.score x.part z.0 in
      let y : AllZero (in_words (after g v p x xs) (onward g v p x xs) xs).result = (subst (λ (o : Continued (List ℕ)). AllZero o.result) (words_step a g is v h.read p x xs e) z).1 in
      all_done g v p x xs e (zero_all xs x.score (onward g v p x xs) (after g v p x xs) (invariant_on s p v x xs h grow e) grow.1 y)

  -- and then the chain in words leaves what the chain on states leaves
  pub record Tells (xs : List Step) (c : ChainOutcome) (o : Continued (List ℕ)) : Type 0 where
    pub result : o.result ≡ map packed_of (done_all xs)
    pub heard : o.heard ≡ c.heard
    pub words : o.words ≡ entry_of c.state

  pub tells : (xs : List Step) (s : List ℕ) (p : ℕ) (v : State) → Invariant s p v → Grows s xs → AllDone g v p xs → Tells xs (chain_from g v p xs) (in_words v p xs)
  unfolding chain_from words_chain_from
  tells [] s p v h grow d = record { result = refl; heard = refl; words = refl }
  tells (x ∷ xs) s p v h grow d =
      let n = length x.part in
      let e = first_done g v p x xs d in
      let rest = tells xs x.score (onward g v p x xs) (after g v p x xs) (invariant_on s p v x xs h grow e) grow.1 (rest_done g v p x xs d) in
      let w = words_step a g is v h.read p x xs e in
      let b = chain-step g v p x xs e in
      record {
        result = ap (λ (o : Continued (List ℕ)). o.result) w ∙ ap (λ (l : List ℕ). packed_of (Ok n) ∷ l) rest.result;
        heard = ap (λ (o : Continued (List ℕ)). o.heard) w ∙ ap (λ (l : List Float). samples_from g x.score p v n ++ l) rest.heard ∙ sym (ap (λ (o : ChainOutcome). o.heard) b);
        words = ap (λ (o : Continued (List ℕ)). o.words) w ∙ rest.words ∙ sym (ap (λ (o : ChainOutcome). entry_of o.state) b);
      }

  -- the invariant holds at the start: the empty score and the fresh state
  pub invariant_fresh : Invariant [] 0 (fresh_of 0)
  unfolding state_from run
  invariant_fresh = record { records = 0; accepted = refusals.nothing; reached = refl; read = encode-decode (fresh_of 0) (fresh_fitting 0) fresh-is_state }
