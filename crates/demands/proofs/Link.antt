-- A link of a chain: one continuing call, what is true where it answers 0, when it answers 0 and when 10; then a score
-- that grew at its end, at the position that a render of the score before it has reached; then a call and the rest of
-- the chain. Assumes nothing.
use Rattle.std.specs.Prelude.{Ok}
use mathlib.Core.Path.{◌≡◌, refl, sym, ap, ◌∙◌}
use mathlib.Core.Bool.{Bool, true, false, ◌&&◌}
use mathlib.Core.List.{List, [], ◌∷◌}
use Prim.Native.Nat.{ℕ, ◌+◌, ◌*◌, ◌≤◌, ◌<◌}
use native.Mathlib.Nat.{zero-add}
use native.Mathlib.Omega.{arith}
use lib.Dec.{eqb}
use lib.ListN.{length}
use lib.Ieee.{Float}
use borrow.Author.Tests.{le-leb, leb-true, eq-eqb, eqb-true, ne_eqb}
use Rattle.answers.specs.Answer.{Answer}
use Rattle.answers.specs.Order.{unless}
use Rattle.answers.specs.declared.Refusal.TheVariants.{GivenState}
use Rattle.answers.proofs.Order.{passed, none_both}
use Rattle.score.specs.Record.{count_of, position_at}
use Rattle.score.specs.Score.{verdict_of}
use Rattle.score.specs.Below.{count_below}
use Rattle.score.proofs.Codec.{both}
use Rattle.score.proofs.Cuts.{accepted-length, accepted-few, accepted-sorted}
use Rattle.score.proofs.Grown.{none-added, as_many}
use Rattle.state.specs.declared.Settings.{Settings}
use Rattle.state.specs.declared.State.{State}
use Rattle.state.specs.Settings.{settings_ok}
use Rattle.state.specs.State.{fresh_of}
use Rattle.state.specs.Limits.{is_state}
use Rattle.state.specs.Heart.{state_from, samples_from}
use Rattle.state.proofs.RunsOn.{state_on}
use Rattle.state.proofs.Depends.{Shared, state_shared, samples_shared, grown_shared}
use Rattle.state.proofs.Acted.{acted_fresh}
use Rattle.judging.specs.Judging.{refusals_of, most_samples, part_fits}
use Rattle.judging.proofs.Refusals.{all_passed, none-refused}
use Rattle.render.specs.Calls.{PartOutcome, is_given, made_part, kept_part, continue_of}
use Rattle.render.proofs.Outcomes.{continue_decided}
use Rattle.demands.specs.Chain.{Step, ChainOutcome, and_then, chain_from, AllDone, Grown, NoneBelow}

-- ---- one call
-- what is true of a call that answers 0
pub record PassedCall (g : Settings) (t : List ℕ) (v : State) (p n : ℕ) : Type 0 where
  pub settings : settings_ok g ≡ true
  pub in_time : p + n ≤ most_samples
  pub accepted : verdict_of t ≡ Ok (count_of t)
  pub acted : v.acted ≡ count_below t p

module _ (g : Settings) (t : List ℕ) (v : State) (p : ℕ) (part : List Float) where
  abbrev n : ℕ
  n = length part

  abbrev call : PartOutcome
  call = continue_of g t v p part

  pub call-passed : (m : ℕ) → call.result.answer ≡ Ok m → PassedCall g t v p n
  call-passed m e =
      let b = none_both (refusals_of g (part_fits p n) t) (unless (is_given t p v) GivenState) ((continue_decided g t v p part).done m e) in
      let a = all_passed g (part_fits p n) t b.0 in
      let c = both (is_state v) (eqb v.acted (count_below t p)) (passed (is_given t p v) GivenState b.1) in
      record { settings = a.settings; in_time = leb-true (p + n) most_samples a.sized; accepted = a.accepted; acted = eqb-true v.acted (count_below t p) c.1 }

  -- settings in their domain, a part that is not too long and an accepted score: the given state alone decides
  module _ (ok : settings_ok g ≡ true) (l : p + n ≤ most_samples) (m : ℕ) (a : verdict_of t ≡ Ok m) where
    none_before : refusals_of g (part_fits p n) t ≡ []
    none_before = none-refused g (part_fits p n) t m ok (le-leb (p + n) most_samples l) a

    -- 0 where v is within the shelf's limits and as many records acted as are below p
    pub call-done : is_state v ≡ true → v.acted ≡ count_below t p → call.result.answer ≡ Ok n
    call-done i c = (continue_decided g t v p part).is-done (rw (none_before, i, eq-eqb v.acted (count_below t p) c) refl)

    -- 10 where another number of records acted: all is left as it came
    pub call-late : (v.acted ≡ count_below t p → ⊥) → call ≡ kept_part v part GivenState
    unfolding continue_of
    call-late f = rw (none_before, go (is_state v)) refl
      where
        go : (b : Bool) → (b && eqb v.acted (count_below t p)) ≡ false
        go true = ne_eqb v.acted (count_below t p) f
        go false = refl

-- ---- a score s, grown to t, at position p
-- s and t make the same up to position q
pub record Agrees (g : Settings) (s t : List ℕ) (q : ℕ) : Type 0 where
  pub states : (n : ℕ) (v : State) (k : ℕ) → n + k ≤ q → state_from g s n v k ≡ state_from g t n v k
  pub samples : (n : ℕ) (v : State) (k : ℕ) → n + k ≤ q → samples_from g s n v k ≡ samples_from g t n v k

-- v is the state before sample p of a render of s
abbrev pub Reached : Settings → List ℕ → ℕ → State → Type 0
Reached g s p v = v ≡ state_from g s 0 (fresh_of 0) p

module _ (s t : List ℕ) (m k : ℕ) (a : verdict_of s ≡ Ok m) (b : verdict_of t ≡ Ok k) (x : Grown s t) (p : ℕ) where
  abbrev u : List ℕ
  u = x.added

  whole : length s ≡ count_of s * 10
  whole = accepted-length s m a

  -- nothing is added below p exactly where as many records are below p as before
  pub same_count : NoneBelow s t p → count_below t p ≡ count_below s p
  same_count f = rw x.grown (none-added s u whole p (rw x.grown at f))

  pub none_below : count_below t p ≡ count_below s p → NoneBelow s t p
  none_below e = rw x.grown (as_many s u whole p (rw x.grown at (accepted-sorted t k b)) (rw x.grown at e))

  -- and then s and t make the same up to p
  pub agrees : (g : Settings) → NoneBelow s t p → Agrees g s t p
  agrees g f =
      let h : Shared s t p (count_of s) = rw x.grown (grown_shared s u whole p (rw x.grown at f)) in
      record { states = state_shared s t p (count_of s) h g; samples = samples_shared s t p (count_of s) h g }

  module _ (g : Settings) (v : State) (r : Reached g s p v) where
    pub acted_is : v.acted ≡ count_below s p
    acted_is = ap (λ (w : State). w.acted) r ∙ acted_fresh g s (accepted-few s m a) p

    -- a render of s that has reached p goes on as a render of t
    pub goes_on : NoneBelow s t p → (n : ℕ) → Reached g t (p + n) (state_from g t p v n)
    goes_on f n =
        let e : v ≡ state_from g t 0 (fresh_of 0) p = r ∙ (agrees g f).states 0 (fresh_of 0) p (omega arith) in
        ap (λ (w : State). state_from g t p w n) e ∙ sym (rw (zero-add p) at (state_on g t 0 (fresh_of 0) p n))

    -- a record added below p has not acted, and the call is 10
    pub late : settings_ok g ≡ true → (part : List Float) → p + length part ≤ most_samples → (i : ℕ) → count_of s ≤ i → i < count_of t → position_at t i < p → continue_of g t v p part ≡ kept_part v part GivenState
    late ok part l i y z h = call-late g t v p part ok l k b (λ e. let f : p ≤ position_at t i = none_below (sym e ∙ acted_is) i y z in omega arith)

-- ---- the steps of a chain
-- the first call, done, leaves its samples, and the rest goes on from the state after them
module _ (g : Settings) (v : State) (p : ℕ) (x : Step) (xs : List Step) where
  abbrev pub after : State
  after = state_from g x.score p v (length x.part)

  abbrev pub onward : ℕ
  onward = p + length x.part

  pub chain-step : (continue_of g x.score v p x.part).result.answer ≡ Ok (length x.part)
      → chain_from g v p (x ∷ xs) ≡ and_then (made_part g x.score v p (length x.part)) (chain_from g after onward xs)
  unfolding chain_from
  chain-step e = ap (λ (c : PartOutcome). and_then c (chain_from g c.result.state onward xs)) ((continue_decided g x.score v p x.part).makes (length x.part) e)

  pub first_done : AllDone g v p (x ∷ xs) → (continue_of g x.score v p x.part).result.answer ≡ Ok (length x.part)
  unfolding chain_from
  first_done d = cc

  pub rest_done : AllDone g v p (x ∷ xs) → AllDone g after onward xs
  rest_done d = let e : _ ≡ _ = ap (λ (o : ChainOutcome). o.answers) (sym (chain-step (first_done d))) ∙ d in cc

  -- the first call done and the rest done: all done
  pub all_done : (continue_of g x.score v p x.part).result.answer ≡ Ok (length x.part) → AllDone g after onward xs → AllDone g v p (x ∷ xs)
  all_done e d = ap (λ (o : ChainOutcome). o.answers) (chain-step e) ∙ ap (λ (l : List Answer). Ok (length x.part) ∷ l) d
