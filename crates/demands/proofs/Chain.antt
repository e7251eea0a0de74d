-- The claim of specs/Chain.antt. After each call the state is that of a render of the call's score at the position
-- reached; by induction over the calls, each of which goes on under a score that grew at its end. Assumes nothing.
use Rattle.std.specs.Prelude.{Ok}
use mathlib.Core.Path.{◌≡◌, refl, sym, ◌∙◌}
use mathlib.Core.Bool.{true}
use mathlib.Core.List.{List, [], ◌∷◌}
use Prim.Native.Nat.{ℕ, ◌+◌, ◌≤◌}
use native.Mathlib.Nat.{zero-add}
use native.Mathlib.Omega.{arith}
use lib.Dec.{T}
use lib.ListN.{length}
use lib.Ieee.{binary64, fits}
use borrow.Author.Tests.{le-leb}
use Rattle.runs.specs.Runs.{run, listed}
use Rattle.score.specs.Record.{count_of}
use Rattle.score.specs.Score.{verdict_of}
use Rattle.score.specs.Below.{count_below}
use Rattle.score.proofs.Cuts.{accepted-few}
use Rattle.score.proofs.Examples.{refusals}
use Rattle.state.specs.declared.Settings.{Settings}
use Rattle.state.specs.declared.State.{State}
use Rattle.state.specs.Settings.{settings_ok}
use Rattle.state.specs.State.{fresh_of}
use Rattle.state.specs.Limits.{most_acted, is_state}
use Rattle.state.specs.Heart.{state_from, samples_from}
use Rattle.state.proofs.RunsOn.{state_on, samples_on}
use Rattle.state.proofs.Acted.{acted_fresh, below_all}
use Rattle.state.proofs.Stays.{fresh_kept}
use Rattle.sections.specs.Outcome.{Buffers, samples_in, room_in, Lent}
use Rattle.sections.proofs.Room.{room_in_lem}
use Rattle.judging.specs.Judging.{most_samples}
use Rattle.judging.proofs.Refusals.{none-refused}
use Rattle.render.specs.Calls.{made_of, render_of, made_part}
use Rattle.demands.specs.Chain.{Step, ChainOutcome, and_then, chain_from, samples_of, last_of, AllDone, Grows, AllAccepted, NoneBelow, NoneAddedBelow, OneRender, DoneExactly, PartsAreOne}
use Rattle.demands.proofs.Link.{PassedCall, call-passed, call-done, Agrees, Reached, acted_is, same_count, none_below, agrees, goes_on, after, onward, chain-step, first_done, rest_done, all_done}

-- ---- a chain, from a state that a render of s has at position p
-- the chain ends as a render of l that goes on from v at p does, and l makes the same as s up to p
record Ends (g : Settings) (s l : List ℕ) (p : ℕ) (v : State) (n : ℕ) (o : ChainOutcome) : Type 0 where
  agree : Agrees g s l p
  heard : o.heard ≡ samples_from g l p v n
  state : o.state ≡ state_from g l p v n

-- n samples of t, and then a chain from the state after them
joined : (g : Settings) (s t l : List ℕ) (p : ℕ) (v : State) (n k : ℕ) (o r : ChainOutcome) → r ≡ and_then (made_part g t v p n) o
    → Agrees g s t p → Ends g t l (p + n) (state_from g t p v n) k o → Ends g s l p v (n + k) r
joined g s t l p v n k o r c z y =
    let a : state_from g t p v n ≡ state_from g l p v n = y.agree.states p v n (omega arith) in
    let b : samples_from g t p v n ≡ samples_from g l p v n = y.agree.samples p v n (omega arith) in
    record {
      agree =
          record {
            states = λ i u j h. z.states i u j h ∙ y.agree.states i u j (omega arith);
            samples = λ i u j h. z.samples i u j h ∙ y.agree.samples i u j (omega arith);
          };
      heard = rw (c, y.heard, b, a) (sym (samples_on g l p v n k));
      state = rw (c, y.state, a) (sym (state_on g l p v n k));
    }

ends : (g : Settings) (xs : List Step) (s : List ℕ) (m : ℕ) → verdict_of s ≡ Ok m → (p : ℕ) (v : State) → Reached g s p v → Grows s xs → AllDone g v p xs → Ends g s (last_of s xs) p v (samples_of xs) (chain_from g v p xs)
unfolding chain_from state_from samples_from run listed
ends g [] s m a p v r w d = record { agree = record { states = λ n u k h. refl; samples = λ n u k h. refl }; heard = refl; state = refl }
ends g (x ∷ xs) s m a p v r w d =
    let n = length x.part in
    let t = x.score in
    let e = first_done g v p x xs d in
    let q : PassedCall g t v p n = call-passed g t v p x.part n e in
    let b : verdict_of t ≡ Ok (count_of t) = q.accepted in
    let f : NoneBelow s t p = none_below s t m (count_of t) a b w.0 p (sym q.acted ∙ acted_is s t m (count_of t) a b w.0 p g v r) in
    joined g s t (last_of t xs) p v n (samples_of xs) (chain_from g (state_from g t p v n) (p + n) xs) (chain_from g v p (x ∷ xs)) (chain-step g v p x xs e) (agrees s t m (count_of t) a b w.0 p g f)
    (ends g xs t (count_of t) b (p + n) (state_from g t p v n) (goes_on s t m (count_of t) a b w.0 p g v r f n) w.1 (rest_done g v p x xs d))

-- the empty score before the first one is accepted
nothing_accepted : verdict_of [] ≡ Ok 0
nothing_accepted = refusals.nothing

-- from the fresh state at 0: the samples and the end state are those of the last score
pub chain-samples : (g : Settings) (xs : List Step) → Grows [] xs → AllDone g (fresh_of 0) 0 xs
    → ((chain_from g (fresh_of 0) 0 xs).heard ≡ samples_from g (last_of [] xs) 0 (fresh_of 0) (samples_of xs)) × ((chain_from g (fresh_of 0) 0 xs).state ≡ state_from g (last_of [] xs) 0 (fresh_of 0) (samples_of xs))
unfolding state_from run
chain-samples g xs w d = let e = ends g xs [] 0 nothing_accepted 0 (fresh_of 0) refl w d in (e.heard, e.state)

-- ---- the theorem: done, so one render
-- what is true of a chain whose calls all answer 0
record PassedChain (g : Settings) (l : List ℕ) (n : ℕ) : Type 0 where
  settings : settings_ok g ≡ true
  in_time : n ≤ most_samples
  accepted : verdict_of l ≡ Ok (count_of l)

chain-passed : (g : Settings) (x : Step) (xs : List Step) (v : State) (p : ℕ) → AllDone g v p (x ∷ xs) → PassedChain g (last_of x.score xs) (p + samples_of (x ∷ xs))
chain-passed g x [] v p d =
    let q = call-passed g x.score v p x.part (length x.part) (first_done g v p x [] d) in
    let l : p + length x.part ≤ most_samples = q.in_time in
    record { settings = q.settings; in_time = omega arith; accepted = q.accepted }
chain-passed g x (y ∷ ys) v p d =
    let q = chain-passed g y ys (after g v p x (y ∷ ys)) (onward g v p x (y ∷ ys)) (rest_done g v p x (y ∷ ys) d) in
    let l : p + length x.part + samples_of (y ∷ ys) ≤ most_samples = q.in_time in
    record { settings = q.settings; in_time = omega arith; accepted = q.accepted }

-- so together the parts are not too long
pub chain-short : (g : Settings) (x : Step) (xs : List Step) → AllDone g (fresh_of 0) 0 (x ∷ xs) → samples_of (x ∷ xs) ≤ most_samples
chain-short g x xs d = rw zero-add at (chain-passed g x xs (fresh_of 0) 0 d).in_time

-- a render into an output of that length, with a shelf and a summary that fit, is done
render-is : (g : Settings) (s : List ℕ) (n : ℕ) → PassedChain g s n → (b : Buffers) → Lent b → samples_in b ≡ n → render_of g s b ≡ made_of g s n
unfolding render_of
render-is g s n q b z e = rw (none-refused g (room_in b) s (count_of s) q.settings (room_in_lem b z) q.accepted, e) refl

pub chain : (g : Settings) (x : Step) (xs : List Step) → Grows [] (x ∷ xs) → AllDone g (fresh_of 0) 0 (x ∷ xs) → (b : Buffers) → Lent b → samples_in b ≡ samples_of (x ∷ xs) → OneRender g (x ∷ xs) b
chain g x xs w d b z e =
    let q = chain-passed g x xs (fresh_of 0) 0 d in
    let r = render-is g (last_of [] (x ∷ xs)) (samples_of (x ∷ xs)) (rw zero-add at q) b z e in
    let c = chain-samples g (x ∷ xs) w d in
    record { done = rw r refl; heard = rw r c.0; state = rw r c.1 }

-- ---- every call answers 0 exactly when no record was added below the position reached
done_none : (g : Settings) (xs : List Step) (s : List ℕ) (m : ℕ) → verdict_of s ≡ Ok m → (p : ℕ) (v : State) → Reached g s p v → Grows s xs → AllDone g v p xs → NoneAddedBelow s p xs
done_none g [] s m a p v r w d = tt
done_none g (x ∷ xs) s m a p v r w d =
    let t = x.score in
    let q = call-passed g t v p x.part (length x.part) (first_done g v p x xs d) in
    let f : NoneBelow s t p = none_below s t m (count_of t) a q.accepted w.0 p (sym q.acted ∙ acted_is s t m (count_of t) a q.accepted w.0 p g v r) in
    (f, done_none g xs t (count_of t) q.accepted (p + length x.part) (after g v p x xs) (goes_on s t m (count_of t) a q.accepted w.0 p g v r f (length x.part)) w.1 (rest_done g v p x xs d))

module _ (g : Settings) (ok : settings_ok g ≡ true) (sus : T (fits binary64 g.adsr.sustain)) where
  -- the state that a render has at any position is within the shelf's limits
  reached-state : (s : List ℕ) (m : ℕ) → verdict_of s ≡ Ok m → (p : ℕ) (v : State) → Reached g s p v → is_state v ≡ true
  unfolding is_state
  reached-state s m a p v r =
      let few : (state_from g s 0 (fresh_of 0) p).acted ≤ most_acted = omega (arith, acted_fresh g s (accepted-few s m a) p, below_all s p, accepted-few s m a) in
      rw (r, fresh_kept g ok sus s m a p, le-leb (state_from g s 0 (fresh_of 0) p).acted most_acted few) refl

  none_done : (xs : List Step) (s : List ℕ) (m : ℕ) → verdict_of s ≡ Ok m → (p : ℕ) (v : State) → Reached g s p v → Grows s xs → AllAccepted xs → p + samples_of xs ≤ most_samples → NoneAddedBelow s p xs → AllDone g v p xs
  unfolding chain_from
  none_done [] s m a p v r w b l f = refl
  none_done (x ∷ xs) s m a p v r w b l f =
      let t = x.score in
      let c : v.acted ≡ count_below t p = acted_is s t m b.0.0 a b.0.1 w.0 p g v r ∙ sym (same_count s t m b.0.0 a b.0.1 w.0 p f.0) in
      let e = call-done g t v p x.part ok (omega arith) b.0.0 b.0.1 (reached-state s m a p v r) c in
      all_done g v p x xs e
      (none_done xs t b.0.0 b.0.1 (p + length x.part) (after g v p x xs) (goes_on s t m b.0.0 a b.0.1 w.0 p g v r f.0 (length x.part)) w.1 b.1 (omega arith) f.1)

  pub chain-done : (xs : List Step) → AllAccepted xs → Grows [] xs → samples_of xs ≤ most_samples → DoneExactly g xs
  unfolding state_from run
  chain-done xs b w l =
      record {
        done_only_if = λ d. done_none g xs [] 0 nothing_accepted 0 (fresh_of 0) refl w d;
        done_if = λ f. none_done xs [] 0 nothing_accepted 0 (fresh_of 0) refl w b (omega arith) f;
      }

pub parts_are_one : PartsAreOne
parts_are_one = record { one-render = chain; done_exactly = chain-done }
