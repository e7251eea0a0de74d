-- In a score whose positions never fall, a walk from the first record that is not below n makes the states and samples
-- that the definitions of `state` make over all records; and at each sample the next record is the first that is not
-- below it. Assumes nothing.
use mathlib.Core.Path.{◌≡◌, refl, sym, ap, ◌∙◌}
use mathlib.Core.Bool.{Bool, true, false, cond, or-true}
use mathlib.Core.List.{List}
use mathlib.Core.Logic.{⊎_elim}
use Prim.Native.Nat.{ℕ, zero, suc, ◌+◌, ◌-◌, ◌<◌, ◌≤◌}
use native.Mathlib.Nat.{add-zero, add-suc, zero-add, eq-or-lt_of_le, le_of_suc-le-suc}
use native.Mathlib.Omega.{arith}
use lib.Dec.{eqb}
use borrow.Author.Tests.{lt-ltb, le-ltb, eq-eqb, eqb-true, eqb-false}
use Rattle.runs.specs.Runs.{run}
use Rattle.runs.proofs.Listed.{listed_same}
use Rattle.score.specs.Record.{count_of, position_at, record_at}
use Rattle.score.specs.Below.{Sorted, Cut}
use Rattle.score.proofs.Parted.{none_below}
use Rattle.score.proofs.Cuts.{lt_or_ge, sorted-le}
use Rattle.state.specs.declared.Settings.{Settings}
use Rattle.state.specs.declared.State.{State}
use Rattle.state.specs.State.{reduced_of, event_of, act_of, sample_of, advance_of}
use Rattle.state.specs.Heart.{has_at, act_to, begun, state_from, samples_from}
use Rattle.state.proofs.Depends.{has_none, act-none}
use Rattle.spans.specs.declared.Place.{Place}
use Rattle.spans.specs.Walk.{place_of, is_due_at, act_from, begins_at, reduced_at, begun_from, place_from, played_from}

-- from v the records at n have acted, and the next record is above n
pub record Acts (g : Settings) (s : List ℕ) (n : ℕ) (v : State) (r : Place) : Type 0 where
  pub state-is : r.state ≡ act_to g s n (count_of s) v
  pub cut : Cut s (suc n) r.next

-- of the records at n those below index i have acted, and w is the state after them
record Acting (g : Settings) (s : List ℕ) (n : ℕ) (v : State) (i : ℕ) (w : State) : Type 0 where
  lows : (j : ℕ) → j < i → position_at s j < suc n
  highs : (j : ℕ) → i ≤ j → j < count_of s → n ≤ position_at s j
  so_far : w ≡ act_to g s n i v

module _ (g : Settings) (s : List ℕ) (o : Sorted s) (n : ℕ) (v : State) where
  acting_on : (i : ℕ) (w : State) → i < count_of s → position_at s i ≡ n → Acting g s n v i w → Acting g s n v (suc i) (act_of g w (event_of (record_at s i)))
  unfolding act_to
  acting_on i w h e x =
      record {
        lows = λ j l. ⊎_elim (λ q. rw q (omega arith)) (λ q. x.lows j q) (eq-or-lt_of_le (le_of_suc-le-suc l));
        highs = λ j a b. x.highs j (omega arith) b;
        so_far = rw (eq-eqb (position_at s i) n e) (ap (λ (u : State). act_of g u (event_of (record_at s i))) x.so_far);
      }

  acting_stop : (i : ℕ) (w : State) → i < count_of s → (position_at s i ≡ n → ⊥) → Acting g s n v i w → Acts g s n v (place_of w i)
  acting_stop i w h e x =
      let above : (j : ℕ) → i ≤ j → j < count_of s → suc n ≤ position_at s j =
      λ j a b. (let p : position_at s i ≤ position_at s j = sorted-le s o i j a b in let q : n ≤ position_at s i = x.highs i (omega arith) h in let d : n < position_at s i = apart e q in omega arith) in
      let d : i + (count_of s - i) ≡ count_of s = omega arith in
      record {
        state-is = x.so_far ∙ sym (rw d at (act-none g s n i (count_of s - i) v (λ j a b z. let q : suc n ≤ position_at s j = above j a (omega arith) in omega arith)));
        cut = record { inside = omega arith; lows = x.lows; highs = above };
      }
    where
      apart : {a b : ℕ} → (a ≡ b → ⊥) → b ≤ a → b < a
      apart n l = omega arith

  acting_end : (w : State) → Acting g s n v (count_of s) w → Acts g s n v (place_of w (count_of s))
  acting_end w x = record { state-is = x.so_far; cut = record { inside = omega arith; lows = x.lows; highs = λ j a b. omega arith } }

  acts : (k i : ℕ) (w : State) → i + k ≡ count_of s → Acting g s n v i w → Acts g s n v (act_from g s n k (place_of w i))
  unfolding act_from
  acts zero i w e x = let d : i ≡ count_of s = omega arith in rw d (acting_end w (rw d at x))
  acts (suc k) i w e x = rw (lt-ltb i (count_of s) (omega arith)) (go (acts k (suc i) (act_of g w (event_of (record_at s i))) (omega arith)) (eqb (position_at s i) n) refl)
    where
      go : (Acting g s n v (suc i) (act_of g w (event_of (record_at s i))) → Acts g s n v (act_from g s n k (place_of (act_of g w (event_of (record_at s i))) (suc i)))) → (t : Bool) → eqb (position_at s i) n ≡ t
          → Acts g s n v (cond t (act_from g s n k (place_of (act_of g w (event_of (record_at s i))) (suc i))) (place_of w i))
      go ih true q = ih (acting_on i w (omega arith) (eqb-true (position_at s i) n q) x)
      go ih false q = acting_stop i w (omega arith) (eqb-false (position_at s i) n q) x

-- ---- where a span begins
has_some : (s : List ℕ) (n i k : ℕ) → i < k → position_at s i ≡ n → has_at s n k ≡ true
unfolding has_at
has_some s n i zero l e = absurd (none_below i l)
has_some s n i (suc k) l e =
    ⊎_elim (λ q. rw (eq-eqb (position_at s k) n (ap (position_at s) (sym q) ∙ e)) (or-true (has_at s n k))) (λ q. rw (has_some s n i k q e) refl) (eq-or-lt_of_le (le_of_suc-le-suc l))

module _ (g : Settings) (s : List ℕ) (o : Sorted s) (n i : ℕ) (c : Cut s n i) where
  none_before : (j : ℕ) → j < i → position_at s j ≡ n → ⊥
  none_before j l e = let q : position_at s j < n = c.lows j l in omega arith

  -- no record is at n, if the next is not
  has_not : (i < count_of s → position_at s i ≡ n → ⊥) → has_at s n (count_of s) ≡ false
  unfolding has_at
  has_not f =
      rw (zero-add (count_of s)) at (has_none s n 0 (count_of s) (λ j a b e.
      ⊎_elim (λ l. none_before j l e)
      (λ g. let p : position_at s i ≤ position_at s j = sorted-le s o i j g (omega arith) in let q : n ≤ position_at s i = c.highs i (omega arith) (omega arith) in f (omega arith) (omega arith)) (lt_or_ge j i)))

  stands-agrees : is_due_at s i n ≡ has_at s n (count_of s)
  stands-agrees =
      ⊎_elim (λ h. rw (lt-ltb i (count_of s) h) (go h (eqb (position_at s i) n) refl))
      (λ g. rw (le-ltb i (count_of s) g) (sym (has_not (λ h. omega arith)))) (lt_or_ge i (count_of s))
    where
      go : i < count_of s → (t : Bool) → eqb (position_at s i) n ≡ t → t ≡ has_at s n (count_of s)
      go h true e = sym (has_some s n i (count_of s) h (eqb-true (position_at s i) n e))
      go h false e = sym (has_not (λ l. eqb-false (position_at s i) n e))

  acts_from : (v : State) → Acts g s n v (act_from g s n (count_of s - i) (place_of v i))
  unfolding act_to
  acts_from v =
      let w : i ≤ count_of s = c.inside in
      acts g s o n v (count_of s - i) i v (omega arith)
      (record {
        lows = λ j l. (let q : position_at s j < n = c.lows j l in omega arith);
        highs = c.highs;
        so_far = sym (rw (zero-add i) at (act-none g s n 0 i v (λ j a b e. none_before j (omega arith) e)));
      })

  -- a walk begins sample n as all records together do, and the next record is then above n
  pub begun-agrees : (v : State) → (begun_from g s n (place_of v i)).state ≡ begun g s n v
  unfolding begun_from begun
  begun-agrees v = rw (← stands-agrees) (go (begins_at s i n))
    where
      go : (t : Bool) → (act_from g s n (count_of s - i) (cond t (reduced_at (place_of v i)) (place_of v i))).state ≡ act_to g s n (count_of s) (cond t (reduced_of v) v)
      go true = (acts_from (reduced_of v)).state-is
      go false = (acts_from v).state-is

  pub begun-cut : (v : State) → Cut s (suc n) (begun_from g s n (place_of v i)).next
  unfolding begun_from
  begun-cut v = go (begins_at s i n)
    where
      go : (t : Bool) → Cut s (suc n) (act_from g s n (count_of s - i) (cond t (reduced_at (place_of v i)) (place_of v i))).next
      go true = (acts_from (reduced_of v)).cut
      go false = (acts_from v).cut

-- ---- from a place on
module _ (g : Settings) (s : List ℕ) (o : Sorted s) (n i : ℕ) (v : State) (c : Cut s n i) where
  abbrev at : ℕ → Place
  at k = place_from g s n (place_of v i) k

  pub record Kept (k : ℕ) : Type 0 where
    pub state-is : (at k).state ≡ state_from g s n v k
    pub cut : Cut s (n + k) (at k).next

  pub kept : (k : ℕ) → Kept k
  unfolding place_from state_from run
  kept zero = record { state-is = refl; cut = rw (add-zero n) c }
  kept (suc k) =
      let ih : Kept k = kept k in
      record {
        state-is = ap (advance_of g) (begun-agrees g s o (n + k) (at k).next ih.cut (at k).state ∙ ap (begun g s (n + k)) ih.state-is);
        cut = rw (add-suc n k) (begun-cut g s o (n + k) (at k).next ih.cut (at k).state);
      }

  pub samples_agree : (k : ℕ) → played_from g s n (place_of v i) k ≡ samples_from g s n v k
  unfolding place_from played_from state_from samples_from
  samples_agree k =
      listed_same _ _ k (λ i l. ap (sample_of g) (begun-agrees g s o (n + i) (at i).next (kept i).cut (at i).state ∙ ap (begun g s (n + i)) (kept i).state-is))
