-- The loop over the spans: its invariant, which is true at the start, is kept by each span and gives the contract at
-- the end. Assumes nothing.
use mathlib.Core.Path.{◌≡◌, refl, sym, ap, ◌∙◌}
use mathlib.Core.List.{List}
use Prim.Native.Nat.{ℕ, ◌+◌, ◌-◌, ◌≤◌}
use native.Mathlib.Omega.{arith}
use lib.ListN.{length, take}
use lib.Seq.{take_all}
use borrow.Rule.Slice.PartMut.{put_mid, mid_of}
use lib.Ieee.{Float}
use Rattle.runs.specs.Runs.{run, listed}
use Rattle.state.specs.declared.Settings.{Settings}
use Rattle.state.specs.declared.State.{State}
use Rattle.spans.specs.declared.Place.{Place}
use Rattle.spans.specs.declared.Walker.{Walker}
use Rattle.spans.specs.Walk.{place_of, begun_from, place_from, played_from, Played}
use Rattle.spans.specs.Inner.{SpanPlayed, begins_in, At, FirstAfter}
use Rattle.spans.proofs.Offsets.{first_so, begins_so}
use Rattle.spans.proofs.Turns.{turn_length, turn_stands, turn_heard}

module _ (g : Settings) (s : List ℕ) (n : ℕ) (p : Place) (before : List Float) where
  -- the first i samples are written, the others are as they came, and `at` is the place before sample i
  pub record Upto (part : List Float) (at : Place) (i : ℕ) : Type 0 where
    pub size : length part ≡ length before
    pub within : i ≤ length part
    pub place : at ≡ place_from g s n p i
    pub samples : take i part ≡ played_from g s n p i

  pub begins : Upto before p 0
  unfolding place_from played_from run listed
  begins = record { size = refl; within = omega arith; place = refl; samples = refl }

  -- a turn: the span up to e is begun at b, and its samples are ys, with the state u after them
  pub goes_on : (part : List Float) (at : Place) (i : ℕ) (b : Walker) (e : ℕ) (ys : List Float) (u : State) → Upto part at i → At s n (begun_from g s (n + i) at) b → FirstAfter (begins_in b n) i (length part) e
      → SpanPlayed g b.state (mid_of i (e - i) part) ys u → Upto (put_mid i (e - i) part ys) (place_of u b.next) e
  goes_on part at i b e ys u v h z x =
      let here : place_of b.state b.next ≡ begun_from g s (n + i) (place_from g s n p i) = h.place ∙ ap (begun_from g s (n + i)) v.place in
      let follows : b.next ≡ (begun_from g s (n + i) (place_from g s n p i)).next = ap (λ (q : Place). q.next) here in
      let z' = rw follows at (first_so _ _ _ _ _ (begins_so s n b h.sees) z) in
      let x' = rw (ap (λ (q : Place). q.state) here) at x in
      let t = turn_length g s n p i (length part) e z' part ys u refl v.samples x' in
      record {
        size = t ∙ v.size;
        within = rw t z.within;
        place = rw follows (turn_stands g s n p i (length part) e z' part ys u refl v.samples x');
        samples = turn_heard g s n p i (length part) e z' part ys u refl v.samples x';
      }

  pub ends : (part : List Float) (at : Place) (i : ℕ) → Upto part at i → length part ≤ i → Played g s n p before part at
  ends part at i v h =
      let e : i ≡ length part = omega (arith, v.within) in
      record {
        samples = rw (← v.size, ← e) (sym (take_all i part h) ∙ v.samples);
        place = rw (← v.size, ← e) v.place;
      }
